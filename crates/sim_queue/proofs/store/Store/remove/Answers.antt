use Rattle.std.proofs.Common.{rules, ◌≡◌, ℕ, ◌+◌, ◌<◌, ◌≤◌, ◌-◌, length, refl, sym, ap, ◌∙◌, arith}
use Rattle.std.specs.Option.{option_map}
use Rattle.sim_queue.specs.Items.{item_of}
use Rattle.sim_queue.specs.inside.Slots.{at}
use Rattle.sim_queue.proofs.Views.{taken_from, found_from, with-low, none_past, take_none}
use Rattle.sim_queue.proofs.store.Store.remove.Goals as goal

pub returns-then-serial-base-clause-item : goal.returns-then-serial-base-clause-item
returns-then-serial-base-clause-item g c =
    let low : c.args.serial < c.args.self.now.slots.base = rw (← c.base.ensures) c.if-serial-base.true in
    sym (with-low c.args.serial c.args.self.now.slots.base c.args.self.now.slots.items low)

pub returns-then-serial-base-clause-rest : goal.returns-then-serial-base-clause-rest
returns-then-serial-base-clause-rest g c =
    let low : c.args.serial < c.args.self.now.slots.base = rw (← c.base.ensures) c.if-serial-base.true in
    sym (take_none c.args.serial c.args.self.now.slots.base c.args.self.now.slots.items (with-low c.args.serial c.args.self.now.slots.base c.args.self.now.slots.items low))

pub returns-then-place-len-clause-item : goal.returns-then-place-len-clause-item
returns-then-place-len-clause-item g c =
    let from : c.args.self.now.slots.base ≤ c.args.serial = rw (← c.base.ensures) c.if-serial-base.false in
    let past : length c.args.self.now.slots.items ≤ c.args.serial - c.args.self.now.slots.base = search rules in
    sym (none_past c.args.serial c.args.self.now.slots.base c.args.self.now.slots.items from past)

pub returns-then-place-len-clause-rest : goal.returns-then-place-len-clause-rest
returns-then-place-len-clause-rest g c =
    let from : c.args.self.now.slots.base ≤ c.args.serial = rw (← c.base.ensures) c.if-serial-base.false in
    let past : length c.args.self.now.slots.items ≤ c.args.serial - c.args.self.now.slots.base = search rules in
    sym (take_none c.args.serial c.args.self.now.slots.base c.args.self.now.slots.items (none_past c.args.serial c.args.self.now.slots.base c.args.self.now.slots.items from past))

pub returns-clause-item : goal.returns-clause-item
returns-clause-item g c =
    let from : c.args.self.now.slots.base ≤ c.args.serial = rw (← c.base.ensures) c.if-serial-base.false in
    let serial : c.args.self.now.slots.base + (c.args.serial - c.args.self.now.slots.base) ≡ c.args.serial = omega arith in
    let item : c.take.result
    ≡ option_map (item_of (c.args.self.now.slots.base + (c.args.serial - c.args.self.now.slots.base))) (at c.args.self.now.slots.items (c.args.serial - c.args.self.now.slots.base)) =
    search rules in
    item ∙ ap (λ (m : ℕ). option_map (item_of m) (at c.args.self.now.slots.items (c.args.serial - c.args.self.now.slots.base))) serial
    ∙ found_from c.args.serial c.args.self.now.slots.base c.args.self.now.slots.items _ from refl

pub returns-clause-rest : goal.returns-clause-rest
returns-clause-rest g c =
    let from : c.args.self.now.slots.base ≤ c.args.serial = rw (← c.base.ensures) c.if-serial-base.false in
    rw c.take.ensures.base (taken_from c.args.serial c.args.self.now.slots.base c.args.self.now.slots.items _ from (search rules))
