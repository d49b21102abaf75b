use Rattle.std.proofs.Common.{◌∙◌, ◌<◌, ap, set, sym, subst, length}
use Rattle.std.proofs.lemmas.List.{get_or-set_same}
use Rattle.sim_links.specs.Link.{open_link, direction, without_newest}
use Rattle.sim_links.proofs.Slots.{held_touched, inside, read, wrote, sound_with}
use Rattle.sim_links.proofs.links.Links.unkeep.Goals as goal

pub unkeep-requires : goal.unkeep-requires
unkeep-requires g c =
    let t = c.self.inside.table in
    let touched = held_touched t c.self.invariant c.self.view_is c.place.ensures.within c.place.ensures.value c.requires.some c.index.ensures in
    subst (λ link. 0 < length link.held) (sym (read c.index_mut-direction.result.now touched c.index_mut-direction.ensures.value)) c.requires.some

pub invariant_of-self : goal.invariant_of-self
invariant_of-self g c =
    let t = c.self.inside.table in
    let touched = held_touched t c.self.invariant c.self.view_is c.place.ensures.within c.place.ensures.value c.requires.some c.index.ensures in
    sound_with t c.index.result.now c.unkeep.new.self c.self.invariant touched.own

pub returns : goal.returns
returns g c =
    let t = c.self.inside.table in
    let links = c.args.self.now in
    let i = direction c.args.a c.args.b in
    let new = c.unkeep.new.self in
    let touched = held_touched t c.self.invariant c.self.view_is c.place.ensures.within c.place.ensures.value c.requires.some c.index.ensures in
    let was = read c.index_mut-direction.result.now touched c.index_mut-direction.ensures.value in
    let now = wrote new touched in
    record {
      rest = now ∙ ap (set links i) (c.unkeep.ensures.rest ∙ ap without_newest was);
      message = rw (now, get_or-set_same links i new open_link (inside touched), ← was) c.unkeep.ensures.message;
    }
