-- A step changes one host alone.
use Rattle.std.specs.Prelude.{◌≡◌, ◌≢◌, ℕ, true, List, [], ◌∷◌, Option, Some, None}
use Rattle.std.proofs.Common.{refl, ◌∙◌}
use Rattle.std.proofs.lemmas.List.{get_or-set_other}
use Rattle.sim_queue.specs.declared.Item.{Item}
use Rattle.sim_queue.specs.Pending.{first, take}
use Rattle.sim_links.specs.declared.LinkState.{LinkState}
use Rattle.sim_links.specs.declared.LinkState.TheVariants as state
use Rattle.sim_links.specs.Link.{link}
use Rattle.sim_disk.specs.Disk as disk
use Rattle.sim_streams.specs.Word.{stream_of}
use Rattle.sim_node.specs.Effects.{Effect}
use Rattle.sim_world.specs.declared.host.Host.{Host}
use Rattle.sim_pending.specs.Occurrence.{Body, Occurrence, input_of}
use Rattle.sim_world.specs.World.{World, host_at, stopped, drawn, with_host, with_node, timed, held_back, made_stable}
use Rattle.sim_world.specs.Events.{Rules, sent_over, effect, effects, reaction, happened_to, stepped_by, stepped, asked}
use Rattle.sim_world.specs.Acts.{first_host}
use Rattle.sim_world.proofs.Sends.{sent_any, open_any, wrote_any}

module _ {State Msg : Type 0} (r : Rules State Msg) (k : ℕ) where
  -- the host k is as it was
  pub record SameHost (w v : World State Msg) : Type 0 where
    pub same : host_at k v ≡ host_at k w

  host_written : (h : ℕ) (new : Host State) (w : World State Msg) → k ≢ h → SameHost w (with_host h new w)
  host_written h new w apart = record { same = get_or-set_other w.hosts h k new stopped apart }

  host_over : (l : LinkState) (from to : ℕ) (m : Msg) (w : World State Msg) → SameHost w (sent_over r l from to m w)
  unfolding held_back
  host_over state.Through from to m w = open_any r from to m w (λ v. SameHost w v) (record { same = refl }) (λ due. record { same = refl })
  host_over state.Held from to m w = record { same = refl }
  host_over state.Cut from to m w = record { same = refl }

  host_effect : (h : ℕ) (e : Effect Msg) (w : World State Msg) → k ≢ h → SameHost w (effect r h e w)
  unfolding timed asked
  host_effect h (Effect.Send to m) w apart =
      sent_any r h to m w (λ v. SameHost w v) (record { same = refl }) (record { same = refl }) (host_over (link h to w.links).state h to m w)
  host_effect h (Effect.Timer delay) w apart = record { same = refl }
  host_effect h (Effect.Write offset bytes) w apart =
      wrote_any h offset bytes w (λ v. SameHost w v) (host_written h (record (host_at h w) { disk = disk.written offset bytes (host_at h w).disk }) w apart) (record { same = refl })
  host_effect h Effect.Sync w apart = record { same = (host_written h (record (host_at h w) { disk = disk.all_asked (host_at h w).disk }) w apart).same }
  host_effect h Effect.Done w apart = host_written h (record (host_at h w) { done = true }) w apart

  host_effects : (h : ℕ) (es : List (Effect Msg)) (w : World State Msg) → k ≢ h → SameHost w (effects r h es w)
  host_effects h [] w apart = record { same = refl }
  host_effects h (e ∷ es) w apart = record { same = (host_effects h es (effect r h e w) apart).same ∙ (host_effect h e w apart).same }

  host_stable : (h : ℕ) (body : Body Msg) (w : World State Msg) → k ≢ h → SameHost w (made_stable h body w)
  host_stable h Body.Start w apart = record { same = refl }
  host_stable h Body.Timer w apart = record { same = refl }
  host_stable h (Body.Message sender msg) w apart = record { same = refl }
  host_stable h (Body.Sync count) w apart = host_written h (record (host_at h w) { disk = disk.synced count (host_at h w).disk }) w apart

  host_happened : (h : ℕ) (body : Body Msg) (node : Option State) (w : World State Msg) → k ≢ h → SameHost w (happened_to r h body node w)
  host_happened h body None w apart = record { same = refl }
  host_happened h body (Some s) w apart =
      let v = made_stable h body w in
      let reply = reaction r h s (input_of body) v in
      let d = drawn 1 (stream_of h) v in
      record {
        same = (host_effects h reply.1 (with_node h (Some reply.0) d) apart).same
            ∙ ((host_written h (record (host_at h d) { node = Some reply.0 }) d apart).same ∙ (host_stable h body w apart).same);
      }

  host_stepped : (o : Option (Item (Occurrence Msg))) (w : World State Msg) → k ≢ first_host o → SameHost w (stepped_by r o w)
  host_stepped None w apart = record { same = refl }
  host_stepped (Some x) w apart =
      let v : World State Msg = record w { clock = x.due; queue = take x.serial w.queue } in
      record { same = (host_happened x.body.host x.body.body (host_at x.body.host v).node v apart).same }

  pub host_after_step : (w : World State Msg) → k ≢ first_host (first w.queue.items) → host_at k (stepped r w) ≡ host_at k w
  host_after_step w apart = (host_stepped (first w.queue.items) w apart).same
