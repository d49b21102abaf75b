use Rattle.sim_queue.proofs.FirstAt.{first_taken, first_rest}
use Rattle.sim_queue.proofs.store.Store.remove_first.Goals as goal

pub returns-clause-item : goal.returns-clause-item
returns-clause-item g c =
    let t = c.take_first.ensures in
    first_taken c.args.self.now.slots.base c.args.self.now.slots.items c.take_first.result t.from t.first t.item t.none

pub returns-clause-rest : goal.returns-clause-rest
returns-clause-rest g c =
    let t = c.take_first.ensures in
    first_rest c.args.self.now.slots.base c.take_first.new.self.base c.args.self.now.slots.items c.take_first.new.self.items c.take_first.result t.from t.rest t.base
