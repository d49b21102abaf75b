use Rattle.sim_queue.proofs.wheel.Wheel.least_taken.Goals as goal

pub returns : goal.returns
returns g c p tests = rw (← c.self.view_is) (c.least_taken.ensures p tests)
