use Rattle.std.proofs.Common.{rules, ◌<◌, ◌%◌, ◌/◌, length}
use Rattle.sim_queue.proofs.Marking.{set_here, set_elsewhere}
use Rattle.sim_queue.proofs.marks.Marks.set.Goals as goal

pub returns-clause-set : goal.returns-clause-set
returns-clause-set c d same =
    let within : c.args.due % 256 / 64 < length c.args.self.now.words = search rules in
    set_here c.args.self.now.words c.args.due d within same

pub returns-clause-others : goal.returns-clause-others
returns-clause-others c d apart =
    let within : c.args.due % 256 / 64 < length c.args.self.now.words = search rules in
    set_elsewhere c.args.self.now.words c.args.due d within apart
