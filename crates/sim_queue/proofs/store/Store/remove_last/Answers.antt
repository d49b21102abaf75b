use Rattle.std.proofs.Common.{rules, ◌≡◌, ◌+◌, sym, length}
use Rattle.sim_queue.proofs.Views.{last_there, last_item, last_rest}
use Rattle.sim_queue.proofs.store.Store.remove_last.Goals as goal

pub pop-requires : goal.pop-requires
pop-requires g c = last_there c.args.self.now.slots.base c.args.self.now.slots.items c.requires.newest.1

pub returns-clause-item : goal.returns-clause-item
returns-clause-item g c =
    let serial : c.pop.result.serial ≡ c.args.self.now.slots.base + length c.pop.new.self.items = search rules in
    sym (last_item c.pop.result c.args.self.now.slots.base c.args.self.now.slots.items c.pop.new.self.items c.pop.ensures.items serial)

pub returns-clause-rest : goal.returns-clause-rest
returns-clause-rest g c =
    rw c.pop.ensures.base (last_rest _ c.args.self.now.slots.base c.args.self.now.slots.items c.pop.new.self.items c.pop.ensures.items)
