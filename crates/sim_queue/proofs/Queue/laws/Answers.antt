use Rattle.sim_queue.proofs.Views.{is_queue}
use Rattle.sim_queue.proofs.Queue.laws.Goals as goal

pub returns : goal.returns
returns g c = rw (← c.self.view_is) (is_queue c.self.inside.store.slots.base c.self.inside.store.slots.items)
