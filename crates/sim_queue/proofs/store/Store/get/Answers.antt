use Rattle.std.proofs.Common.{ℕ, ◌<◌, ◌≤◌, ◌-◌, refl, sym, ap, ◌∙◌}
use Rattle.std.specs.Option.{option_map}
use Rattle.sim_queue.specs.Items.{item_of}
use Rattle.sim_queue.specs.inside.Slots.{at}
use Rattle.sim_queue.proofs.Views.{found_from, with-low}
use Rattle.sim_queue.proofs.Packing.{option_twice}
use Rattle.sim_queue.proofs.store.Store.get.Goals as goal

pub returns-then-serial-base : goal.returns-then-serial-base
returns-then-serial-base g c =
    let low : c.args.serial < c.args.self.now.slots.base = rw (← c.base.ensures) c.if-serial-base.true in
    sym (with-low c.args.serial c.args.self.now.slots.base c.args.self.now.slots.items low)

pub returns : goal.returns
returns g c =
    let base = c.args.self.now.slots.base in
    let slots = c.args.self.now.slots.items in
    let from : base ≤ c.args.serial = rw (← c.base.ensures) c.if-serial-base.false in
    option_twice (λ r. (r.0, r.1.now)) (item_of c.args.serial) c.get.result
    ∙ ap (λ o. option_map (item_of c.args.serial) o) (c.get.ensures ∙ ap (λ (n : ℕ). at slots (c.args.serial - n)) c.base-2.ensures)
    ∙ found_from c.args.serial base slots (at slots (c.args.serial - base)) from refl
