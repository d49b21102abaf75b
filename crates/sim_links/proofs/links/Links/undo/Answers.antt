use Rattle.std.proofs.Common.{◌∙◌, ap, set, sym, subst}
use Rattle.sim_links.specs.Link.{direction, fits, back}
use Rattle.sim_links.proofs.Slots.{is_touched, read, wrote, sound_with}
use Rattle.sim_links.proofs.links.Links.undo.Goals as goal

pub undo-requires-clause-fits : goal.undo-requires-clause-fits
undo-requires-clause-fits g c =
    let e = c.touch-slot.ensures in
    let touched = is_touched _ _ _ _ _ _ e.sound e.links c.self.view_is c.place.ensures.within c.place.ensures.value e.slot e.own in
    subst (fits c.args.undo) (sym (read c.index_mut-direction.result.now touched c.index_mut-direction.ensures.value)) c.requires.fits

pub invariant_of-self : goal.invariant_of-self
invariant_of-self g c = sound_with c.touch-slot.new.self c.touch-slot.result c.undo.new.self c.touch-slot.ensures.sound c.touch-slot.ensures.own

pub returns : goal.returns
returns g c =
    let e = c.touch-slot.ensures in
    let undo = c.args.undo in
    let touched = is_touched _ _ _ _ _ _ e.sound e.links c.self.view_is c.place.ensures.within c.place.ensures.value e.slot e.own in
    let was = read c.index_mut-direction.result.now touched c.index_mut-direction.ensures.value in
    wrote c.undo.new.self touched ∙ ap (set c.args.self.now (direction undo.a undo.b)) (c.undo.ensures ∙ ap (back undo c.args.messages.items) was)
