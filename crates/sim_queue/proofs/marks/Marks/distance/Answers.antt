use Rattle.std.proofs.Common.{rules, ◌<◌, ◌%◌, ◌/◌, ◌^◌, slice_index_or}
use Rattle.sim_queue.proofs.Marking.{rest_none, rest_next}
use Rattle.sim_queue.proofs.marks.Marks.distance.Goals as goal

pub returns-then-rest-eq0-clause-none : goal.returns-then-rest-eq0-clause-none
returns-then-rest-eq0-clause-none c d from same = rest_none c.args.self.now.words c.args.due d c.if-rest-eq0.true from same

pub returns-clause-within : goal.returns-clause-within
returns-clause-within c =
    let fits : slice_index_or c.args.self.now.words (c.args.due % 256 / 64) 0 < 2 ^ 64 = search rules in
    (rest_next c.args.self.now.words c.args.due fits c.if-rest-eq0.false).within

pub returns-clause-marked : goal.returns-clause-marked
returns-clause-marked c =
    let fits : slice_index_or c.args.self.now.words (c.args.due % 256 / 64) 0 < 2 ^ 64 = search rules in
    (rest_next c.args.self.now.words c.args.due fits c.if-rest-eq0.false).marked

pub returns-clause-between : goal.returns-clause-between
returns-clause-between c =
    let fits : slice_index_or c.args.self.now.words (c.args.due % 256 / 64) 0 < 2 ^ 64 = search rules in
    (rest_next c.args.self.now.words c.args.due fits c.if-rest-eq0.false).between
