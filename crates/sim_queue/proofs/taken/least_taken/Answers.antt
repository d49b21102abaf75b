use Rattle.std.proofs.Common.{◌≡◌, ℕ, ◌+◌, ◌*◌, ◌/◌, ◌<◌, ◌≤◌, Option, sym, subst, arith, inl, inr, ⊎_elim}
use Rattle.std.proofs.lemmas.Bool.{cases_lt}
use Rattle.sim_queue.specs.inside.Lists.{node, list_of}
use Rattle.sim_queue.specs.inside.Taken.{IsLeastAmong}
use Rattle.sim_queue.specs.inside.Wheel.{keys_of}
use Rattle.sim_queue.proofs.Marked.{unmarked_none}
use Rattle.sim_queue.proofs.Finding.{least_both, least_fewer, least_all}
use Rattle.sim_queue.proofs.taken.least_taken.Goals as goal

pub loop-list-preserved-in_default : goal.loop-list-preserved-in_default
loop-list-preserved-in_default g c p tests =
    let nodes = c.args.lists.now.nodes.items in
    let w = c.args.lists.now.width in
    let list = c.loop-list.list in
    least_fewer p nodes c.args.bodies.now.items c.args.from (λ k. list_of w (node nodes (k + 256)) < list) (λ k. list_of w (node nodes (k + 256)) < list / 64 * 64 + 64) c.loop-list.least
    (c.loop-list.invariant p tests)
    (λ k key lt. ⊎_elim
    (λ (before : list_of w (node nodes (k + 256)) < list). before)
    (λ (ge : list ≤ list_of w (node nodes (k + 256))).
    absurd (unmarked_none w c.args.marks.now.words nodes (k + 256) (list_of w (node nodes (k + 256))) c.requires.marked
    (c.in_default.ensures.none (list_of w (node nodes (k + 256))) ge (omega arith)) key (omega arith)))
    (cases_lt (list_of w (node nodes (k + 256))) list))

pub loop-list-preserved : goal.loop-list-preserved
loop-list-preserved g c p tests =
    let nodes = c.args.lists.now.nodes.items in
    let w = c.args.lists.now.width in
    let list = c.loop-list.list in
    let to = c.loop-list.list + c.in-Some.distance in
    subst (λ (r : Option ℕ). IsLeastAmong p (λ k. list_of w (node nodes (k + 256)) < to + 1) (keys_of nodes) c.args.bodies.now.items c.args.from r) (sym c.lesser-least.ensures)
    (least_both p nodes c.args.bodies.now.items c.args.from (λ k. list_of w (node nodes (k + 256)) < list) (λ k. list_of w (node nodes (k + 256)) ≡ to)
    (λ k. list_of w (node nodes (k + 256)) < to + 1) c.loop-list.least c.least_in.result (c.loop-list.invariant p tests) (c.least_in.ensures p tests)
    (λ k key lt. ⊎_elim
    (λ (before : list_of w (node nodes (k + 256)) < list). inl before)
    (λ (ge : list ≤ list_of w (node nodes (k + 256))). ⊎_elim
    (λ (between : list_of w (node nodes (k + 256)) < to).
    absurd (unmarked_none w c.args.marks.now.words nodes (k + 256) (list_of w (node nodes (k + 256))) c.requires.marked
    (c.in-Some.ensures.between (list_of w (node nodes (k + 256))) ge between) key (omega arith)))
    (λ (not_between : to ≤ list_of w (node nodes (k + 256))). inr (omega arith))
    (cases_lt (list_of w (node nodes (k + 256))) to))
    (cases_lt (list_of w (node nodes (k + 256))) list)))

pub returns : goal.returns
returns g c p tests =
    let nodes = c.args.lists.now.nodes.items in
    let w = c.args.lists.now.width in
    let end : 256 ≤ c.loop-list.list = omega arith in
    least_all p nodes c.args.bodies.now.items c.args.from (λ k. list_of w (node nodes (k + 256)) < c.loop-list.list) c.loop-list.least (c.loop-list.invariant p tests) (λ k key. omega arith)
