use Rattle.std.proofs.Common.{◌≡◌, arith, length}
use Rattle.sim_queue.proofs.Ends.{ends_lists, no_keys, past_free}
use Rattle.sim_queue.proofs.lists.Lists.with_room.Goals as goal

pub returns-clause-lists : goal.returns-clause-lists
returns-clause-lists c =
    let nodes = c.in_ok-ends.field-0.items in
    let len : length nodes ≡ 256 = c.in_ok-ends.ensures.len in
    ends_lists c.args.width nodes (omega (arith, len)) c.in_ok-ends.ensures.ends (λ i from. past_free nodes i (omega (arith, len, from)))

pub returns-clause-none : goal.returns-clause-none
returns-clause-none c =
    let nodes = c.in_ok-ends.field-0.items in
    let len : length nodes ≡ 256 = c.in_ok-ends.ensures.len in
    no_keys c.args.width nodes (omega (arith, len)) c.in_ok-ends.ensures.ends (λ i from. past_free nodes i (omega (arith, len, from)))
