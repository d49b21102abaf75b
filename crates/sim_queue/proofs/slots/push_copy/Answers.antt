use Rattle.std.proofs.Common.{◌≡◌, ◌++◌, [], ◌∷◌, Ok, ap, ◌∙◌, refl}
use Rattle.sim_queue.specs.declared.Item.{Item}
use Rattle.sim_queue.proofs.slots.push_copy.Goals as goal

pub returns-in-Ok-clause-items : goal.returns-in-Ok-clause-items
returns-in-Ok-clause-items g c =
    let same : c.in-Ok.body ≡ c.args.body.now =
    c.requires.equal c.args.body.now (Ok c.in-Ok.body) (record { shown = _; shows = refl; says = record { met = c.in-Ok.ensures } }) in
    let item : record { due = c.args.due; serial = c.args.serial; body = c.in-Ok.body } ≡ record { due = c.args.due; serial = c.args.serial; body = c.args.body.now } =
    λ i. record { due = c.args.due; serial = c.args.serial; body = same i } in
    c.push_reserved.ensures.items ∙ ap (λ (x : Item _). c.args.items.now.items ++ x ∷ []) item
