use Rattle.std.proofs.Common.{◌∙◌, ap, set}
use Rattle.std.proofs.lemmas.List.{set-get_or, get_or-set_same}
use Rattle.std.proofs.lemmas.Result.{on_ok_weaker, on_err_weaker}
use Rattle.sim_links.specs.Link.{open_link, direction, with_held}
use Rattle.sim_links.proofs.RoundTrips.{some_held, unkept}
use Rattle.sim_links.proofs.Slots.{is_touched, inside, read, wrote, sound_with}
use Rattle.sim_links.proofs.links.Links.keep.Goals as goal

pub invariant_of-self : goal.invariant_of-self
invariant_of-self g c = sound_with c.touch-slot.new.self c.touch-slot.result c.keep.new.self c.touch-slot.ensures.sound c.touch-slot.ensures.own

pub returns : goal.returns
returns g c =
    let e = c.touch-slot.ensures in
    let touched = is_touched _ _ _ _ _ _ e.sound e.links c.self.view_is c.place.ensures.within c.place.ensures.value e.slot e.own in
    let links = c.args.self.now in
    let i = direction c.args.a c.args.b in
    let old = c.index_mut-direction.result.now in
    let new = c.keep.new.self in
    let was = read old touched c.index_mut-direction.ensures.value in
    let now = wrote new touched in
    record {
      ok = on_ok_weaker c.keep.result (λ kept. now ∙ ap (λ l. set links i l) (kept ∙ ap (λ l. with_held c.args.message l) was)) c.keep.ensures.ok;
      some = on_ok_weaker c.keep.result
          (λ kept. rw (now, get_or-set_same links i new open_link (inside touched)) (some_held c.args.message old new kept)) c.keep.ensures.ok;
      back = on_ok_weaker c.keep.result (λ kept. rw now (unkept links i c.args.message old new (inside touched) was kept)) c.keep.ensures.ok;
      err = on_err_weaker c.keep.result (λ same. now ∙ ap (λ l. set links i l) (same ∙ was) ∙ set-get_or links i open_link) c.keep.ensures.err;
    }
