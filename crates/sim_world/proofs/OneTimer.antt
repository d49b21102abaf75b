-- An event changes the timer, the starts and the syncs of one host alone.
use Rattle.std.specs.Prelude.{◌≡◌, ◌≢◌, ℕ, ◌+◌, List, [], ◌∷◌, map, Option, Some, None}
use Rattle.std.proofs.Common.{refl, ap, ◌∙◌, subst}
use Rattle.sim_queue.specs.declared.Item.{Item}
use Rattle.sim_queue.specs.Pending.{IsQueue, first, take}
use Rattle.sim_links.specs.declared.LinkState.{LinkState}
use Rattle.sim_links.specs.declared.LinkState.TheVariants as state
use Rattle.sim_links.specs.declared.Change.{Change}
use Rattle.sim_links.specs.Link.{link, with_link, changed, let_go}
use Rattle.sim_disk.specs.Disk as disk
use Rattle.sim_streams.specs.Word.{network, stream_of}
use Rattle.sim_node.specs.Effects.{Effect}
use Rattle.sim_events.specs.declared.Event.{Event}
use Rattle.sim_events.specs.declared.Event.TheVariants as event
use Rattle.sim_events.specs.declared.Fault.{Fault}
use Rattle.sim_events.specs.declared.Fault.TheVariants as fault
use Rattle.sim_pending.specs.Occurrence.{Body, Occurrence, input_of, is_timer_of}
use Rattle.sim_world.specs.World.{World, host_at, drawn, with_node, with_disk, without, timed, held_back, made_stable, one_way, both_ways, on_release}
use Rattle.sim_world.specs.Events.{Rules, sent_over, effect, effects, reaction, happened_to, stepped_by, crash_of, crashed, booted, faulted, after, asked}
use Rattle.sim_world.specs.inside.Index.{timers_of, is_other_of, others_of, changing_host}
use Rattle.sim_world.specs.Acts.{first_host}
use Rattle.sim_world.proofs.Rises.{first-in}
use Rattle.sim_world.proofs.FirstTakenOut.{without_other, count_without_other}
use Rattle.sim_world.proofs.Sends.{sent_any, open_any, wrote_any}
use Rattle.sim_world.proofs.Facts.{timer_of_one, timers-without_timer_other, timers-without_lost_other, timers-queued_other, timers-queued_elsewhere, timers-arrived, other_of_one, others-without_timer, others-without_lost_other, others-queued_elsewhere, others-queued_none, others-arrived}

module _ {State Msg : Type 0} (r : Rules State Msg) (k : ℕ) where
  -- the timers, the starts and the syncs of the host k are as they were
  pub record SameTimers (w v : World State Msg) : Type 0 where
    pub same : timers_of k v.queue.items ≡ timers_of k w.queue.items
    pub others : others_of k v.queue.items ≡ others_of k w.queue.items

  both : {u v w : World State Msg} → SameTimers u v → SameTimers v w → SameTimers u w
  both a b = record { same = b.same ∙ a.same; others = b.others ∙ a.others }

  others_over : (l : LinkState) (from to : ℕ) (m : Msg) (w : World State Msg) → SameTimers w (sent_over r l from to m w)
  unfolding held_back
  others_over state.Through from to m w =
      open_any r from to m w (λ v. SameTimers w v) (record { same = refl; others = refl })
      (λ due. record { same = timers-queued_other due to k (Body.Message from m) (drawn 2 network w) refl; others = others-queued_none due to k (Body.Message from m) (drawn 2 network w) refl })
  others_over state.Held from to m w = record { same = refl; others = refl }
  others_over state.Cut from to m w = record { same = refl; others = refl }

  others_effect : (h : ℕ) (e : Effect Msg) (w : World State Msg) → k ≢ h → SameTimers w (effect r h e w)
  unfolding timed asked
  others_effect h (Effect.Send to m) w apart =
      sent_any r h to m w (λ v. SameTimers w v) (record { same = refl; others = refl })
      (record { same = timers-queued_other w.clock to k (Body.Message h m) w refl; others = others-queued_none w.clock to k (Body.Message h m) w refl })
      (others_over (link h to w.links).state h to m w)
  others_effect h (Effect.Timer delay) w apart =
      record {
        same = timers-queued_elsewhere (w.clock + delay) h k Body.Timer (without (is_timer_of h) w) apart ∙ timers-without_timer_other h k w.queue.items apart;
        others = others-queued_elsewhere (w.clock + delay) h k Body.Timer (without (is_timer_of h) w) apart ∙ others-without_timer h k w.queue.items;
      }
  others_effect h (Effect.Write offset bytes) w apart = wrote_any h offset bytes w (λ v. SameTimers w v) (record { same = refl; others = refl }) (record { same = refl; others = refl })
  others_effect h Effect.Sync w apart =
      record {
        same = timers-queued_other (w.clock + r.scenario.disk_latency) h k (Body.Sync (disk.not_asked (host_at h w).disk)) (with_disk h (disk.all_asked (host_at h w).disk) w) refl;
        others = others-queued_elsewhere (w.clock + r.scenario.disk_latency) h k (Body.Sync (disk.not_asked (host_at h w).disk)) (with_disk h (disk.all_asked (host_at h w).disk) w) apart;
      }
  others_effect h Effect.Done w apart = record { same = refl; others = refl }

  others_effects : (h : ℕ) (es : List (Effect Msg)) (w : World State Msg) → k ≢ h → SameTimers w (effects r h es w)
  others_effects h [] w apart = record { same = refl; others = refl }
  others_effects h (e ∷ es) w apart = both (others_effect h e w apart) (others_effects h es (effect r h e w) apart)

  others_stable : (h : ℕ) (body : Body Msg) (w : World State Msg) → SameTimers w (made_stable h body w)
  others_stable h Body.Start w = record { same = refl; others = refl }
  others_stable h Body.Timer w = record { same = refl; others = refl }
  others_stable h (Body.Message sender msg) w = record { same = refl; others = refl }
  others_stable h (Body.Sync count) w = record { same = refl; others = refl }

  others_happened : (h : ℕ) (body : Body Msg) (node : Option State) (w : World State Msg) → k ≢ h → SameTimers w (happened_to r h body node w)
  others_happened h body None w apart = record { same = refl; others = refl }
  others_happened h body (Some s) w apart =
      let v = made_stable h body w in
      let reply = reaction r h s (input_of body) v in
      record {
        same = (others_effects h reply.1 (with_node h (Some reply.0) (drawn 1 (stream_of h) v)) apart).same ∙ (others_stable h body w).same;
        others = (others_effects h reply.1 (with_node h (Some reply.0) (drawn 1 (stream_of h) v)) apart).others ∙ (others_stable h body w).others;
      }

  others_stepped : (w : World State Msg) (x : Item (Occurrence Msg)) → IsQueue w.queue → first w.queue.items ≡ Some x → k ≢ x.body.host → SameTimers w (stepped_by r (Some x) w)
  others_stepped w x rise e apart =
      let v : World State Msg = record w { clock = x.due; queue = take x.serial w.queue } in
      record {
        same = (others_happened x.body.host x.body.body (host_at x.body.host v).node v apart).same
            ∙ ap (map (λ (y : Item (Occurrence Msg)). y.serial)) (without_other (is_timer_of k) x 0 w.queue.items w.queue.next_serial rise (first-in w.queue.items x e) (timer_of_one x.body.host k x apart refl));
        others = (others_happened x.body.host x.body.body (host_at x.body.host v).node v apart).others
            ∙ count_without_other (is_other_of k) x 0 w.queue.items w.queue.next_serial rise (first-in w.queue.items x e) (other_of_one x.body.host k x apart refl);
      }

  others_crash_of : (h : ℕ) (node : Option State) (w : World State Msg) → k ≢ h → SameTimers w (crash_of r h node w)
  unfolding crash_of
  others_crash_of h None w apart = record { same = refl; others = refl }
  others_crash_of h (Some s) w apart = record { same = timers-without_lost_other h k w.queue.items apart; others = others-without_lost_other h k w.queue.items apart }

  others_booted : (h : ℕ) (w : World State Msg) → k ≢ h → SameTimers w (booted r h w)
  unfolding booted
  others_booted h w apart = record {
    same = timers-queued_other w.clock h k Body.Start (with_node h (Some (r.node.boot r.scenario.setup h (host_at h w).disk.stable)) w) refl;
    others = others-queued_elsewhere w.clock h k Body.Start (with_node h (Some (r.node.boot r.scenario.setup h (host_at h w).disk.stable)) w) apart;
  }

  others_one_way : (c : Change) (a b : ℕ) (w : World State Msg) → SameTimers w (one_way c a b w)
  unfolding one_way
  others_one_way c a b w =
      record {
        same = timers-arrived a b k (on_release c (let_go c (link a b w.links))) (record w { links = with_link a b (changed c (link a b w.links)) w.links });
        others = others-arrived a b k (on_release c (let_go c (link a b w.links))) (record w { links = with_link a b (changed c (link a b w.links)) w.links });
      }

  others_both_ways : (c : Change) (a b : ℕ) (w : World State Msg) → SameTimers w (both_ways c a b w)
  others_both_ways c a b w = both (others_one_way c a b w) (others_one_way c b a (one_way c a b w))

  others_faulted : (f : Fault) (w : World State Msg) → k ≢ changing_host (event.Fault f) w → SameTimers w (faulted r f w)
  others_faulted (fault.Crash h) w apart = others_crash_of h (host_at h w).node w apart
  others_faulted (fault.Bounce h) w apart = both (others_crash_of h (host_at h w).node w apart) (others_booted h (crashed r h w) apart)
  others_faulted (fault.Hold a b) w apart = others_both_ways _ a b w
  others_faulted (fault.Release a b) w apart = others_both_ways _ a b w
  others_faulted (fault.Cut a b) w apart = others_both_ways _ a b w
  others_faulted (fault.CutOneway a b) w apart = others_one_way _ a b w
  others_faulted (fault.Repair a b) w apart = others_both_ways _ a b w
  others_faulted (fault.RepairOneway a b) w apart = others_one_way _ a b w

  others_first : (o : Option (Item (Occurrence Msg))) (w : World State Msg) → IsQueue w.queue → first w.queue.items ≡ o → k ≢ changing_host event.Step w → SameTimers w (stepped_by r o w)
  others_first None w rise e apart = record { same = refl; others = refl }
  others_first (Some x) w rise e apart = others_stepped w x rise e (subst (λ (o : Option (Item (Occurrence Msg))). k ≢ first_host o) e apart)

  pub others_after : (e : Event) (w : World State Msg) → IsQueue w.queue → k ≢ changing_host e w → SameTimers w (after r e w)
  others_after event.Step w rise apart = others_first (first w.queue.items) w rise refl apart
  others_after (event.Advance to) w rise apart = record { same = refl; others = refl }
  others_after (event.Fault f) w rise apart = others_faulted f w apart
