-- What is told of the next step is what the step does.
use Rattle.std.specs.Prelude.{◌≡◌, ℕ, ◌+◌, ◌==◌, nat_le, Bool, true, false, cond, List, [], ◌∷◌, length, Option, Some, None, IsSome, is_some, Result, Ok, Err, IfOk}
use Rattle.std.proofs.Common.{refl, sym, ap, ◌∙◌}
use Rattle.sim_streams.specs.Word.{network, stream_of}
use Rattle.sim_queue.specs.declared.Item.{Item}
use Rattle.sim_queue.specs.Pending.{first}
use Rattle.sim_links.specs.declared.LinkState.{LinkState}
use Rattle.sim_links.specs.declared.LinkState.TheVariants as state
use Rattle.sim_links.specs.Link.{link}
use Rattle.sim_links.specs.Ways.{way}
use Rattle.sim_disk.specs.Disk as disk
use Rattle.sim_node.specs.Effects.{Effect}
use Rattle.sim_events.specs.declared.Event.TheVariants as event
use Rattle.sim_events.specs.declared.Refusal.TheVariants as refusal
use Rattle.sim_pending.specs.Occurrence.{Body, Occurrence, input_of}
use Rattle.sim_pending.specs.Fate.{is_lost, latency}
use Rattle.sim_world.specs.World.{World, host_at, place, drawn, with_node, with_disk, queued, is_full, wrote, timed, made_stable}
use Rattle.sim_world.specs.Events.{Rules, next_word, sent, sent_open, sent_over, asked, effect, effects, reaction, begun, happened_to, stepped, stepped_by, next, unless_refused}
use Rattle.sim_account.specs.declared.fate.Fate.TheVariants as fate
use Rattle.sim_account.specs.Account.{Reaction, ToldEffect, open_fate, fate_over, sent_fate, fate_of, all_told, reaction_to, reaction_by, next_reaction, paid, carried, all_carried, after_reaction, after_told_by, after_told}
use Rattle.sim_world.proofs.PartChanges.{cond_true, cond_false}
use Rattle.sim_world.proofs.Stable.{stable_place, stable_reaction}

some_is : {A : Type 0} (o : Option A) → IsSome o → is_some o ≡ true
some_is None there = there
some_is (Some x) there = refl

module _ {State Msg : Type 0} (r : Rules State Msg) where
  open_by : (h to : ℕ) (m : Msg) (w : World State Msg) → (h == to) ≡ false → sent_open r h to m w ≡ carried (open_fate r h to w) h (Effect.Send to m) (paid (open_fate r h to w) h (Effect.Send to m) w)
  open_by h to m w apart = go (is_lost (way h to r.scenario.ways) (r.words network (place network w + 1)))
    where
      due : ℕ
      due = w.clock + latency (way h to r.scenario.ways) (r.words network (place network w))

      go : (lost : Bool) → cond lost (drawn 2 network w) (queued due to (Body.Message h m) (drawn 2 network w))
          ≡ carried (cond lost fate.Lost (fate.Pending due w.queue.next_serial)) h (Effect.Send to m) (paid (cond lost fate.Lost (fate.Pending due w.queue.next_serial)) h (Effect.Send to m) w)
      go true = refl
      go false = ap (λ v. queued due to (Body.Message h m) v) (sym (cond_false (h == to) w (drawn 2 network w) apart))

  over_by : (s : LinkState) (h to : ℕ) (m : Msg) (w : World State Msg) → (h == to) ≡ false
      → sent_over r s h to m w ≡ carried (fate_over r s h to w) h (Effect.Send to m) (paid (fate_over r s h to w) h (Effect.Send to m) w)
  over_by state.Through h to m w apart = open_by h to m w apart
  over_by state.Held h to m w apart = refl
  over_by state.Cut h to m w apart = refl

  here_by : (h to : ℕ) (m : Msg) (w : World State Msg) (same : Bool) → (h == to) ≡ same
      → cond same (queued w.clock to (Body.Message h m) w) (sent_over r (link h to w.links).state h to m w)
      ≡ carried (cond same (fate.Pending w.clock w.queue.next_serial) (fate_over r (link h to w.links).state h to w)) h (Effect.Send to m)
      (paid (cond same (fate.Pending w.clock w.queue.next_serial) (fate_over r (link h to w.links).state h to w)) h (Effect.Send to m) w)
  here_by h to m w true e = ap (λ v. queued w.clock to (Body.Message h m) v) (sym (cond_true (h == to) w (drawn 2 network w) e))
  here_by h to m w false e = over_by (link h to w.links).state h to m w e

  full_by : (h to : ℕ) (m : Msg) (w : World State Msg) (full : Bool)
      → cond full w (cond (h == to) (queued w.clock to (Body.Message h m) w) (sent_over r (link h to w.links).state h to m w))
      ≡ carried (cond full fate.Full (cond (h == to) (fate.Pending w.clock w.queue.next_serial) (fate_over r (link h to w.links).state h to w))) h (Effect.Send to m)
      (paid (cond full fate.Full (cond (h == to) (fate.Pending w.clock w.queue.next_serial) (fate_over r (link h to w.links).state h to w))) h (Effect.Send to m) w)
  full_by h to m w true = refl
  full_by h to m w false = here_by h to m w (h == to) refl

  sent_by : (h to : ℕ) (m : Msg) (w : World State Msg) → sent r h to m w ≡ carried (sent_fate r h to w) h (Effect.Send to m) (paid (sent_fate r h to w) h (Effect.Send to m) w)
  unfolding sent
  sent_by h to m w = full_by h to m w (is_full w)

  -- an effect is what its fate says
  effect_by : (h : ℕ) (e : Effect Msg) (w : World State Msg) → effect r h e w ≡ carried (fate_of r h e w) h e (paid (fate_of r h e w) h e w)
  unfolding timed wrote asked
  effect_by h (Effect.Send to m) w = sent_by h to m w
  effect_by h (Effect.Timer delay) w = refl
  effect_by h (Effect.Write offset bytes) w = go (nat_le (offset + length bytes) 4096)
    where
      go : (fits : Bool) → cond fits (with_disk h (disk.written offset bytes (host_at h w).disk) w) w
          ≡ carried (cond fits fate.Added fate.Skipped) h (Effect.Write offset bytes) (paid (cond fits fate.Added fate.Skipped) h (Effect.Write offset bytes) w)
      go true = refl
      go false = refl
  effect_by h Effect.Sync w = refl
  effect_by h Effect.Done w = refl

  effects_by : (h : ℕ) (es : List (Effect Msg)) (w : World State Msg) → effects r h es w ≡ all_carried h (all_told r h es w) w
  effects_by h [] w = refl
  effects_by h (e ∷ es) w = effects_by h es (effect r h e w) ∙ ap (all_carried h (all_told r h es (effect r h e w))) (effect_by h e w)

  happened_by : (x : Item (Occurrence Msg)) (node : Option State) (w : World State Msg)
      → happened_to r x.body.host x.body.body node (begun x w) ≡ after_reaction (reaction_to r x.body.host x.body.body node (begun x w)) x w
  happened_by x None w = refl
  happened_by x (Some s) w =
      let v = made_stable x.body.host x.body.body (begun x w) in
      let t = reaction r x.body.host s (input_of x.body.body) v in
      effects_by x.body.host t.1 (with_node x.body.host (Some t.0) (drawn 1 (stream_of x.body.host) v))

  stepped_told : (o : Option (Item (Occurrence Msg))) (w : World State Msg) → stepped_by r o w ≡ after_told_by o (reaction_by r o w) w
  stepped_told None w = refl
  stepped_told (Some x) w = happened_by x (host_at x.body.host w).node w

  -- the world after a step is the one that was told
  pub step_told : (w : World State Msg) → IsSome (first w.queue.items) → next r w event.Step ≡ Some (after_told (next_reaction r w) w)
  step_told w there =
      ap (λ b. unless_refused r (cond b None (Some refusal.Idle)) (stepped r w)) (some_is (first w.queue.items) there)
      ∙ ap Some (stepped_told (first w.queue.items) w)

  -- what was told leads to the next world
  pub told_leads : (w : World State Msg) {E : Type 0} (o : Result (Option (Reaction State Msg)) E) → IfOk o (λ t. t ≡ next_reaction r w)
      → IfOk o (λ t. IsSome (first w.queue.items) → next r w event.Step ≡ Some (after_told t w))
  told_leads w (Ok t) e = λ there. step_told w there ∙ ap (λ t. Some (after_told t w)) (sym e)
  told_leads w (Err why) e = tt

-- What the first occurrence makes the node of its host do.
module _ {State Msg : Type 0} (r : Rules State Msg) (w : World State Msg) (x : Item (Occurrence Msg)) (s : State)
    (first_is : first w.queue.items ≡ Some x) (node_is : (host_at x.body.host w).node ≡ Some s) where
  pub first_told : (word : ℕ) (after : State) (list : List (Effect Msg)) (told : List (ToldEffect Msg))
      → word ≡ next_word r (stream_of x.body.host) w
      → after ≡ (r.node.react s x.due (input_of x.body.body) word).0
      → list ≡ (r.node.react s x.due (input_of x.body.body) word).1
      → ((s' : State) → told ≡ all_told r x.body.host list
      (with_node x.body.host (Some s') (drawn 1 (stream_of x.body.host) (made_stable x.body.host x.body.body (begun x w)))))
      → Some (record { word = word; state = after; effects = told }) ≡ next_reaction r w
  first_told word after list told word_is after_is list_is told_is =
      let h : ℕ = x.body.host in
      let i = input_of x.body.body in
      let v : World State Msg = made_stable h x.body.body (begun x w) in
      let here : next_word r (stream_of h) v ≡ next_word r (stream_of h) w = ap (r.words (stream_of h)) (stable_place h (begun x w) (stream_of h) x.body.body) in
      let same : reaction r h s i v ≡ r.node.react s x.due i word =
      stable_reaction h (begun x w) r s i x.body.body ∙ ap (r.node.react s x.due i) (sym word_is) in
      let word_told : word ≡ next_word r (stream_of h) v = word_is ∙ sym here in
      let after_told' : after ≡ (reaction r h s i v).0 = after_is ∙ ap (λ p. p.0) (sym same) in
      let list_told : list ≡ (reaction r h s i v).1 = list_is ∙ ap (λ p. p.1) (sym same) in
      let v2 : World State Msg = with_node h (Some (reaction r h s i v).0) (drawn 1 (stream_of h) v) in
      let effects_told : told ≡ all_told r h (reaction r h s i v).1 v2 = told_is (reaction r h s i v).0 ∙ ap (λ es. all_told r h es v2) list_told in
      ap (λ a. Some (record { word = a; state = after; effects = told })) word_told
      ∙ ap (λ a. Some (record { word = next_word r (stream_of h) v; state = a; effects = told })) after_told'
      ∙ ap (λ a. Some (record { word = next_word r (stream_of h) v; state = (reaction r h s i v).0; effects = a })) effects_told
      ∙ sym (ap (λ o. reaction_by r o w) first_is ∙ ap (λ n. reaction_to r h x.body.body n (begun x w)) node_is)
