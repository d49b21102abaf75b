use Rattle.std.proofs.Common.{◌+◌, sym, ap, ◌∙◌}
use Rattle.std.proofs.lemmas.Option.{none-some}
use Rattle.std.specs.Option.{option_map}
use Rattle.sim_queue.specs.Items.{item_of}
use Rattle.sim_queue.proofs.FirstAt.{first_none, first_here}
use Rattle.sim_queue.proofs.store.Store.first.Goals as goal

pub returns-in_err-place : goal.returns-in_err-place
returns-in_err-place g c = rw c.from_residual.ensures (sym (first_none c.args.self.now.slots.base c.args.self.now.slots.items c.in_err-place.ensures.none))

pub returns-in_err-due : goal.returns-in_err-due
returns-in_err-due g c =
    let is = c.in_ok-place.ensures.first in
    absurd (none-some is.entry (c.in_err-due.ensures ∙ is.there))

pub returns : goal.returns
returns g c =
    let base = c.args.self.now.slots.base in
    let slots = c.args.self.now.slots.items in
    let place = c.in_ok-place.place in
    rw c.base.ensures (ap (λ o. option_map (item_of (base + place)) o) c.in_ok-due.ensures ∙ first_here base place slots c.in_ok-place.ensures.first)
