use Rattle.std.proofs.Common.{ap}
use Rattle.sim_links.specs.Link.{direction}
use Rattle.sim_links.proofs.RoundTrips.{is_changed}
use Rattle.sim_links.proofs.Slots.{is_touched, inside, read, wrote, sound_with, whole_links}
use Rattle.sim_links.proofs.links.Links.change.Goals as goal

pub invariant_of-self : goal.invariant_of-self
invariant_of-self g c = sound_with c.touch-slot.new.self c.touch-slot.result c.change-messages.new.self c.touch-slot.ensures.sound c.touch-slot.ensures.own

pub returns : goal.returns
returns g c =
    let e = c.touch-slot.ensures in
    let a = c.args.a in
    let b = c.args.b in
    let old = c.index_mut-direction.result.now in
    let new = c.change-messages.new.self in
    let touched = is_touched _ _ _ _ _ _ e.sound e.links c.self.view_is c.place.ensures.within c.place.ensures.value e.slot e.own in
    let done = is_changed c.args.self.now _ (direction a b) (record { a = a; b = b; change = c.args.change; was = c.state-was.result })
    c.change-messages.result.items old new (inside touched) (read old touched c.index_mut-direction.ensures.value) c.state-was.ensures
    c.change-messages.ensures.after c.change-messages.ensures.left (wrote new touched) in
    record {
      after = done.after;
      left = done.left;
      whole = whole_links c.self.inside.table c.self.invariant c.self.view_is;
      undo = ap (λ s. record { a = a; b = b; change = c.args.change; was = s }) done.was;
      fits = done.fits;
      none_left = done.none_left;
      back = done.back;
    }
