use Rattle.sim_queue.proofs.Queue.next_that.Goals as goal

pub returns : goal.returns
returns g c p tests = rw (← c.self.view_is) (c.next_that.ensures p tests)
