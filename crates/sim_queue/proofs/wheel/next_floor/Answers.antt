use Rattle.std.proofs.Common.{◌≡◌, ℕ, ◌%◌, ◌<◌, ap, sym, ◌∙◌, subst, arith, length}
use Rattle.sim_queue.specs.declared.lists.Node.{Node}
use Rattle.sim_queue.specs.inside.Lists.{node, day}
use Rattle.sim_queue.specs.inside.Wheel.{IsFloor}
use Rattle.sim_queue.proofs.Nodes.{key_within, node_read}
use Rattle.sim_queue.proofs.Heads.{head_there}
use Rattle.sim_queue.proofs.Marked.{first_due, floor_today}
use Rattle.sim_queue.proofs.wheel.next_floor.Goals as goal

pub index-requires-then-place-ge-LISTS : goal.index-requires-then-place-ge-LISTS
index-requires-then-place-ge-LISTS c =
    let l = c.args.lists.now in
    let list = c.args.today % 256 in
    let within : list < length l.nodes.items = omega (arith, c.requires.made) in
    let read = node_read l.nodes.items list c.index.result.now within c.index.ensures in
    let head = head_there l.width l.nodes.items list c.index.result.now.after c.requires.lists (omega arith) within (ap (λ (x : Node). x.after) read) c.if-place-ge-LISTS.true in
    rw l.nodes.ok.0 (key_within l.nodes.items c.index.result.now.after head.key)

pub returns-then-day-today : goal.returns-then-day-today
returns-then-day-today c =
    let l = c.args.lists.now in
    let list = c.args.today % 256 in
    let p = c.index.result.now.after in
    let within : list < length l.nodes.items = omega (arith, c.requires.made) in
    let read = node_read l.nodes.items list c.index.result.now within c.index.ensures in
    let after : (node l.nodes.items list).after ≡ p = ap (λ (x : Node). x.after) read in
    let head = head_there l.width l.nodes.items list p c.requires.lists (omega arith) within after c.if-place-ge-LISTS.true in
    let first = node_read l.nodes.items p c.index-then-place-ge-LISTS.result.now (key_within l.nodes.items p head.key) c.index-then-place-ge-LISTS.ensures in
    let today : day l.width (node l.nodes.items p).due ≡ day l.width c.args.floor =
    ap (λ (x : Node). day l.width x.due) first ∙ sym c.day.ensures ∙ c.if-day-today.true ∙ c.requires.today in
    subst (λ (x : Node). IsFloor x.due l.nodes.items) first
    (floor_today l.width c.args.floor p l.nodes.items c.requires.from head.key
    (λ i key same. first_due l.width l.nodes.items list p c.requires.lists after head.key i key (same ∙ ap (λ (d : ℕ). d % 256) (sym c.requires.today))) today)
