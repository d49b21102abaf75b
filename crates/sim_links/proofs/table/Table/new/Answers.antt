use Rattle.std.proofs.Common.{◌∙◌, refl, ap, [], ◌∷◌, ◌++◌, arith}
use Rattle.sim_links.proofs.Slots.{links_new, sound_new}
use Rattle.sim_links.proofs.table.Table.new.Goals as goal

pub returns-clause-links : goal.returns-clause-links
returns-clause-links g c =
    links_new c.in_ok-slots.slots.items c.push_reserved.new.self.items c.in_ok-slots.ensures.items
    (c.push_reserved.ensures.items ∙ ap (λ xs. xs ++ c.open.result ∷ []) c.in_ok-touched.ensures.items ∙ ap (λ x. x ∷ []) c.open.ensures)

pub returns-clause-sound : goal.returns-clause-sound
returns-clause-sound g c =
    sound_new _ c.in_ok-slots.ensures.items
    (c.push_reserved.ensures.items ∙ ap (λ xs. xs ++ c.open.result ∷ []) c.in_ok-touched.ensures.items ∙ ap (λ x. x ∷ []) c.open.ensures)
    (omega (arith, c.push_reserved.ensures.capacity, c.in_ok-touched.ensures.exact))
    refl
