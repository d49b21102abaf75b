use Rattle.std.proofs.Common.{rules, ◌<◌, ◌%◌, ◌/◌, length}
use Rattle.sim_queue.proofs.Marking.{clear_here, clear_elsewhere}
use Rattle.sim_queue.proofs.marks.Marks.clear_if.Goals as goal

pub returns-then-told-clause-cleared : goal.returns-then-told-clause-cleared
returns-then-told-clause-cleared c =
    let within : c.args.due % 256 / 64 < length c.args.self.now.words = search rules in
    rw c.if-told.true (λ d same. clear_here c.args.self.now.words c.args.due d within same)

pub returns-then-told-clause-others : goal.returns-then-told-clause-others
returns-then-told-clause-others c d apart =
    let within : c.args.due % 256 / 64 < length c.args.self.now.words = search rules in
    clear_elsewhere c.args.self.now.words c.args.due d within apart
