use Rattle.std.proofs.Common.{◌≡◌, ◌++◌, [], ◌∷◌, Ok, Some, ap, ◌∙◌, refl}
use Rattle.sim_queue.proofs.placed.push_copy.Goals as goal

pub returns-in-Ok-clause-items : goal.returns-in-Ok-clause-items
returns-in-Ok-clause-items g c =
    let same : c.in-Ok.body ≡ c.args.body.now =
    c.requires.equal c.args.body.now (Ok c.in-Ok.body) (record { shown = _; shows = refl; says = record { met = c.in-Ok.ensures } }) in
    c.push_reserved.ensures.items ∙ ap (λ y. c.args.bodies.now.items ++ Some y ∷ []) same
