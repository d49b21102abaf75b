-- The first occurrence can be given to its host, once it is taken out and the clock stands at its due.
use Rattle.std.specs.Prelude.{◌≡◌, ◌^◌, ◌<◌, ℕ, [], length, Some, slice_index_or}
use Rattle.std.proofs.Common.{sym, ap, subst, ◌∙◌, arith}
use Rattle.sim_queue.specs.declared.Item.{Item}
use Rattle.sim_queue.specs.Pending.{first}
use Rattle.sim_streams.specs.Word.{stream_of}
use Rattle.sim_node.specs.declared.Setup.{Setup}
use Rattle.sim_node.specs.declared.Input.{Input}
use Rattle.sim_node.specs.Effects.{Effects}
use Rattle.sim_node.specs.Node.{IsFrom}
use Rattle.sim_world.specs.declared.index.Index.{Index}
use Rattle.sim_events.specs.Scenario.{Scenario}
use Rattle.sim_pending.specs.Occurrence.{Occurrence, input_of, occurrence_of}
use Rattle.sim_world.specs.World.{World, Seeded, host_at, place, on_world, runs}
use Rattle.sim_world.specs.Acts.{acts_by}
use Rattle.sim_world.specs.Events.{Rules, begun, happened, stepped, stepped_by}
use Rattle.sim_world.specs.inside.Giving.{CanGive}
use Rattle.sim_world.specs.inside.Index.{IsIndex, flight_without, timers_without, others_without, IsOtherCounted}
use Rattle.sim_world.specs.Room.{HasRoom, IsReady, IsReadyFor}
use Rattle.sim_world.proofs.FirstTakenOut.{room_begun, index_took, other_counted}
use Rattle.sim_world.proofs.PartChanges.{of_some}
use Rattle.sim_world.proofs.Rises.{first-in}
use Rattle.sim_world.proofs.Stable.{input_same}

module _ {State Msg : Type 0} (told : State → ℕ) (s : Scenario) (p v : Seeded State Msg) (x : Item (Occurrence Msg)) where
  pub given_first : (h covered : ℕ) (i : Input Msg) (old new : Index) (asked : Effects Msg)
      → occurrence_of h covered i ≡ x.body → first p.world.queue.items ≡ Some x → v ≡ on_world (begun x) p
      → p.seed ≡ s.seed → IsReady told s.setup p.world → IsIndex old p.world → asked ≡ record { hosts = s.setup.hosts; list = [] }
      → new.in_flight ≡ flight_without x.body.body old.in_flight → new.held ≡ old.held → new.timers.items ≡ timers_without x.body.host x.body.body old.timers.items
      → new.others.items ≡ others_without x.body.host x.body.body old.others.items
      → CanGive told s h i new asked v
  given_first h covered i old new asked is first_is b seed ready index spent in_flight held timers others =
      let w = p.world in
      let r = of_some (IsReadyFor s.setup.hosts w) (first w.queue.items) x first_is ready.first in
      let count = ap (λ z. length z.world.hosts) b ∙ ready.hosts in
      record {
        seed = ap (λ z. z.seed) b ∙ seed;
        host = (let lt = r.host in let e = ap (λ z. z.host) is in omega arith);
        room = subst (λ z. HasRoom 40 z.world) (sym b) (room_begun w x 40 r.due ready.room);
        words = subst (λ z. place (stream_of h) z.world < 2 ^ 40) (sym b) (ready.words (stream_of h));
        index = subst (λ z. IsIndex new z.world) (sym b)
            (index_took old new x.due w x ready.room.queue (first-in w.queue.items x first_is) in_flight held timers others (let lt = r.host in let n = ready.hosts in omega arith) index);
        empty = spent ∙ ap (λ n. record { hosts = n; list = [] }) (sym count);
        knows = λ node at. ready.knows h node (ap (λ z. (host_at h z.world).node) (sym b) ∙ at) ∙ sym count;
        sender = subst (λ n. IsFrom n i) (sym count) (subst (λ y. IsFrom s.setup.hosts y) (ap (λ z. input_of z.body) (sym is) ∙ input_same covered i) r.sender);
      }

-- what the first occurrence does is what a step does
module _ {State Msg : Type 0} (p v : Seeded State Msg) (x : Item (Occurrence Msg)) (h covered : ℕ) (i : Input Msg)
    (is : occurrence_of h covered i ≡ x.body) (first_is : first p.world.queue.items ≡ Some x) (b : v ≡ on_world (begun x) p) where
  pub stepped_first : (r : Rules State Msg) (n : Seeded State Msg) → n ≡ on_world (happened r (occurrence_of h covered i)) v → n ≡ record p { world = stepped r p.world }
  stepped_first r n e =
      e
      ∙ (ap (λ z. on_world (happened r z) v) is
      ∙ (ap (on_world (happened r x.body)) b
      ∙ ap (λ o. record p { world = stepped_by r o p.world }) (sym first_is)))

  pub acts_first : runs h v.world ≡ acts_by (first p.world.queue.items) p.world
  acts_first =
      ap (λ z. runs h z.world) b
      ∙ (ap (λ z. runs z.host p.world) is
      ∙ ap (λ o. acts_by o p.world) (sym first_is))

-- if it is a start or a sync, it is counted
pub first_counted : {State Msg : Type 0} (told : State → ℕ) (setup : Setup) (w : World State Msg) (x : Item (Occurrence Msg)) (old : Index)
    → first w.queue.items ≡ Some x → IsReady told setup w → IsIndex old w → IsOtherCounted x.body.body (slice_index_or old.others.items x.body.host 0)
first_counted told setup w x old first_is ready index =
    let r = of_some (IsReadyFor setup.hosts w) (first w.queue.items) x first_is ready.first in
    other_counted old old x.due w x ready.room.queue (first-in w.queue.items x first_is) index (let lt = r.host in let n = ready.hosts in omega arith)
