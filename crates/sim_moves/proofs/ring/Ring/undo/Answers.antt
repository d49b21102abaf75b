use Rattle.std.proofs.Common.{◌≡◌, ℕ, ◌+◌, ◌-◌, ◌<◌, length, take, Some, sym, ap, subst, ◌∙◌, ◌⊎◌, arith, length-drop}
use Rattle.circular_buffer.specs.Buffer.{last_item}
use Rattle.sim_moves.specs.Circle.{around}
use Rattle.sim_moves.proofs.Circling.{newest, fewer}
use Rattle.sim_moves.proofs.ring.Ring.undo.Goals as goal

pub slot_before-newest-requires : goal.slot_before-newest-requires
slot_before-newest-requires g c = omega (arith, c.self.invariant.0, c.len.ensures)

pub overflow_sub-self : goal.overflow_sub-self
overflow_sub-self g c =
    let i = c.self.inside in
    let ring = around i.free i.slots.items in
    omega (arith, c.requires.some, ap (λ b. length b.items) c.self.view_is, length-drop (length ring - i.len) ring)

pub index_mut-requires : goal.index_mut-requires
index_mut-requires g c = omega (arith, c.slot_before-newest.ensures.inside, c.len.ensures)

pub returns-in_err-before-clause-capacity : goal.returns-in_err-before-clause-capacity
returns-in_err-before-clause-capacity g c = ap (λ b. b.capacity) c.self.view_is

pub undo_by-requires : goal.undo_by-requires
undo_by-requires g c =
    let i = c.self.inside in
    let u = c.index_mut.result.now in
    let ring = around i.free i.slots.items in
    let some : 0 < i.len = omega (arith, c.requires.some, ap (λ b. length b.items) c.self.view_is, length-drop (length ring - i.len) ring) in
    let b = c.slot_before-newest in
    let count : c.len.result ≡ length i.slots.items = omega (arith, c.len.ensures) in
    let inside : b.result < length i.slots.items = omega (arith, b.ensures.inside, count) in
    let before = subst (λ (n : ℕ). (i.free ≡ b.result + 1) ⊎ ((i.free ≡ 0) × (b.result + 1 ≡ n))) count b.ensures.before in
    let n = newest i.slots.items i.free b.result i.len u u inside some c.self.invariant.1 before in
    c.requires.leads u (ap (λ r. last_item r.items) (sym c.self.view_is) ∙ n.last ∙ ap Some (sym c.index_mut.ensures.value))

pub invariant_of-self : goal.invariant_of-self
invariant_of-self g c =
    let i = c.self.inside in
    let ring = around i.free i.slots.items in
    let some : 0 < i.len = omega (arith, c.requires.some, ap (λ b. length b.items) c.self.view_is, length-drop (length ring - i.len) ring) in
    let b = c.slot_before-newest in
    let count : c.len.result ≡ length i.slots.items = omega (arith, c.len.ensures) in
    let inside : b.result < length i.slots.items = omega (arith, b.ensures.inside, count) in
    let before = subst (λ (n : ℕ). (i.free ≡ b.result + 1) ⊎ ((i.free ≡ 0) × (b.result + 1 ≡ n))) count b.ensures.before in
    let f = fewer i.slots.items i.free b.result i.len i.capacity c.undo_by.new.undo some c.self.invariant.1 c.self.invariant.2 c.self.invariant.4 inside before in
    (f.0, f.1, f.2, c.self.invariant.3, f.3)

pub invariant_of-self-2 : goal.invariant_of-self-2
invariant_of-self-2 g c =
    let i = c.self.inside in
    let ring = around i.free i.slots.items in
    let some : 0 < i.len = omega (arith, c.requires.some, ap (λ b. length b.items) c.self.view_is, length-drop (length ring - i.len) ring) in
    let b = c.slot_before-newest in
    let count : c.len.result ≡ length i.slots.items = omega (arith, c.len.ensures) in
    let inside : b.result < length i.slots.items = omega (arith, b.ensures.inside, count) in
    let before = subst (λ (n : ℕ). (i.free ≡ b.result + 1) ⊎ ((i.free ≡ 0) × (b.result + 1 ≡ n))) count b.ensures.before in
    let f = fewer i.slots.items i.free b.result i.len i.capacity c.undo_by.new.undo some c.self.invariant.1 c.self.invariant.2 c.self.invariant.4 inside before in
    (f.0, f.1, f.2, c.self.invariant.3, f.3)

pub returns-clause-taken : goal.returns-clause-taken
returns-clause-taken g c =
    let i = c.self.inside in
    let u = c.index_mut.result.now in
    let v = c.in_ok-before.ensures in
    let ring = around i.free i.slots.items in
    let some : 0 < i.len = omega (arith, c.requires.some, ap (λ b. length b.items) c.self.view_is, length-drop (length ring - i.len) ring) in
    let b = c.slot_before-newest in
    let count : c.len.result ≡ length i.slots.items = omega (arith, c.len.ensures) in
    let inside : b.result < length i.slots.items = omega (arith, b.ensures.inside, count) in
    let before = subst (λ (n : ℕ). (i.free ≡ b.result + 1) ⊎ ((i.free ≡ 0) × (b.result + 1 ≡ n))) count b.ensures.before in
    let n = newest i.slots.items i.free b.result i.len c.undo_by.new.undo u inside some c.self.invariant.1 before in
    record {
      undo = u;
      newest = ap (λ r. last_item r.items) (sym c.self.view_is) ∙ n.last ∙ ap Some (sym c.index_mut.ensures.value);
      others = n.others ∙ ap (λ r. take (length r.items - 1) r.items) c.self.view_is;
      is = v.world;
      work = v.work;
    }

pub returns-clause-capacity : goal.returns-clause-capacity
returns-clause-capacity g c = ap (λ b. b.capacity) c.self.view_is
