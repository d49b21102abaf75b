-- A step of a host that no watch is about makes no watch fail.
use Rattle.std.proofs.Common.{◌≡◌, ◌≢◌, ℕ, zero, suc, ◌+◌, ◌-◌, ◌<◌, ◌≤◌, ◌==◌, Bool, true, false, not, List, [], ◌∷◌, ◌++◌, Option, Some, None, length, get_or, refl, sym, ap, ◌∙◌, ◌⊎◌, inl, inr, arith, append_assoc, nat_le, subst}
use Rattle.std.specs.Prelude.{if◌then◌else◌, IfSome, IsSomeAnd}
use Rattle.std.specs.Option.{is_some, unwrap_or}
use Rattle.std.specs.List.{find, list_any}
use Rattle.std.proofs.Math.Nat.{eq-or-lt_of_le}
use Rattle.sim_node.specs.Node.{NodeLaws}
use Rattle.sim_node.specs.Numbers.{numbers_from}
use Rattle.sim_queue.specs.Pending.{first}
use Rattle.sim_events.specs.declared.Event.{Event}
use Rattle.sim_events.specs.declared.Event.TheVariants as event
use Rattle.sim_world.specs.World.{World, host_at}
use Rattle.sim_world.specs.Acts.{first_host}
use Rattle.sim_world.specs.Events.{Rules, rules, run, run_from, then_next, start, stepped, refusal_of, unless_refused}
use Rattle.sim_world.proofs.OneHost.{host_after_step}
use Rattle.sim_moves.specs.Places.{world_at, ChangesOnly}
use Rattle.sim_tape.specs.Tape.{Tape, with_world, with_event, at}
use Rattle.sim_tape.specs.Places.{world_of}
use Rattle.sim_watch.specs.Condition.{Cond, terms, concerns}
use Rattle.sim_watch.proofs.Concerned.{holds_same}
use Rattle.sim_watch.proofs.Firsts.{find_nowhere}
use Rattle.sim_runs.specs.Branch.{Branch, branch_with}
use Rattle.sim_runs.specs.Watches.{NoneFrom, NoneConcerns, IsNextUnmarked, watch_fails, failing_watch}
use Rattle.sim_runs.specs.declared.rewinds.Found.{Found}
use Rattle.sim_runs.specs.Runs.{failing_at, first_stop, steps, all_done, after_steps, is_idle, most_events}
use Rattle.sim_runs.specs.Running.{IsRunning, IsRewinding, IsLooking, IsLast, NoneFails}
use Rattle.sim_runs.proofs.Rewinding.{moved_back, moved_on}
use Rattle.sim_runs.proofs.Stopping.{none_fails}
use Rattle.sim_runs.proofs.Running.{steps_more, world_after, lengthened_more}

-- where there is no reason to stop no watch fails
none_failing : (o : Option ℕ) (done asked full idle : Bool) → first_stop o done asked full idle ≡ None → o ≡ None
none_failing None done asked full idle e = refl
none_failing (Some w) done asked full idle e = absurd cc

-- where none is found none passes
not_first : (b : Bool) (k : ℕ) (o : Option ℕ) → (if b then Some k else o) ≡ None → (b ≡ false) × (o ≡ None)
not_first true k o e = absurd cc
not_first false k o e = (refl, e)

none_passes : (test : ℕ → Bool) (k n j : ℕ) → find test (numbers_from k n) ≡ None → k ≤ j → j < k + n → test j ≡ false
none_passes test k zero j e a b = absurd (omega arith)
none_passes test k (suc n) j e a b =
    let p = not_first (test k) k (find test (numbers_from (k + 1) n)) e in
    elim (eq-or-lt_of_le a) [
      | inl same ↦ ap test (sym same) ∙ p.0
      | inr less ↦ none_passes test (k + 1) n j p.1 (omega arith) (omega arith)
    ]

pub not_found : (o : Option Found) → is_some o ≡ false → o ≡ None
not_found None e = refl
not_found (Some f) e = absurd cc

module _ {State Msg : Type 0} (r : Rules State Msg) where
  fails_same : (h : ℕ) (w v : World State Msg) → ((k : ℕ) → k ≢ h → host_at k v ≡ host_at k w) → (o : Option Cond) → IfSome o (λ c. list_any (concerns h) (terms c) ≡ false)
      → watch_fails r v o ≡ watch_fails r w o
  fails_same h w v others None out = refl
  fails_same h w v others (Some c) out = ap not (holds_same r.node h w v others c out)

  -- where only a host changes that no watch is about
  none_changed : (watches : List (Option Cond)) (h : ℕ) (w v : World State Msg) → ((k : ℕ) → k ≢ h → host_at k v ≡ host_at k w) → NoneConcerns h watches
      → failing_watch r watches w ≡ None → failing_watch r watches v ≡ None
  none_changed watches h w v others out none =
      find_nowhere (λ k. watch_fails r v (get_or watches k None)) 8
      (λ j lt. fails_same h w v others (get_or watches j None) (out j) ∙ none_passes (λ k. watch_fails r w (get_or watches k None)) 0 8 j none (omega arith) (omega arith))

  none_after_step : (watches : List (Option Cond)) (w : World State Msg) → NoneConcerns (first_host (first w.queue.items)) watches → failing_watch r watches w ≡ None
      → failing_watch r watches (stepped r w) ≡ None
  none_after_step watches w out none = none_changed watches (first_host (first w.queue.items)) w (stepped r w) (λ k apart. host_after_step r k w apart) out none

  -- the same for the world that a run leads to, if it does
  none_after_next : (watches : List (Option Cond)) (o : Option (World State Msg)) → refusal_of r event.Step (unwrap_or o (start r)) ≡ None
      → NoneConcerns (first_host (first (unwrap_or o (start r)).queue.items)) watches → failing_watch r watches (unwrap_or o (start r)) ≡ None
      → failing_watch r watches (unwrap_or (then_next r o event.Step) (start r)) ≡ None
  none_after_next watches None can out none = none
  none_after_next watches (Some w) can out none =
      ap (λ why. failing_watch r watches (unwrap_or (unless_refused r why (stepped r w)) (start r))) can ∙ none_after_step watches w out none

  run_one_more : (o : Option (World State Msg)) (es : List Event) (e : Event) → run_from r o (es ++ e ∷ []) ≡ then_next r (run_from r o es) e
  run_one_more o [] e = refl
  run_one_more o (x ∷ es) e = run_one_more (then_next r o x) es e

  none_after_run : (watches : List (Option Cond)) (es : List Event) → refusal_of r event.Step (unwrap_or (run r es) (start r)) ≡ None
      → NoneConcerns (first_host (first (unwrap_or (run r es) (start r)).queue.items)) watches → failing_watch r watches (unwrap_or (run r es) (start r)) ≡ None
      → failing_watch r watches (unwrap_or (run r (es ++ event.Step ∷ [])) (start r)) ≡ None
  none_after_run watches es can out none =
      ap (λ o. failing_watch r watches (unwrap_or o (start r))) (run_one_more (Some (start r)) es event.Step) ∙ none_after_next watches (run r es) can out none

module _ {State Msg : Type 0} (node : NodeLaws State Msg) (probes : ℕ) where
  -- after such a step of a run no watch fails
  pub none_newly : (n : ℕ) (ws : List (Option Cond)) (t u v : Tape) (k : ℕ) → 1 ≤ k → IsRunning node probes n ws t k u → v ≡ with_world true v.reach (with_event event.Step u)
      → NoneConcerns (first_host (first (world_of (rules node probes u.scenario) u).queue.items)) ws
      → failing_watch (rules node probes v.scenario) ws (world_of (rules node probes v.scenario) v) ≡ None
  none_newly n ws t u v k some h more out =
      let r : Rules State Msg = rules node probes t.scenario in
      let x : Branch = branch_with ws t in
      let w : World State Msg = after_steps r k x in
      let here : world_of (rules node probes u.scenario) u ≡ w = world_after node probes t u k h.new ws in
      let there : world_of (rules node probes v.scenario) v ≡ after_steps r (k + 1) x = world_after node probes t v (k + 1) (lengthened_more node probes t u v k h.new more) ws in
      let events : t.events ++ steps (k + 1) ≡ (t.events ++ steps k) ++ event.Step ∷ [] =
      ap (λ es. t.events ++ es) (sym (steps_more k)) ∙ sym (append_assoc t.events (steps k) (event.Step ∷ [])) in
      let can : refusal_of r event.Step w ≡ None = ap (refusal_of r event.Step) (sym here) ∙ h.can in
      let none : failing_watch r ws w ≡ None =
      none_failing (failing_watch r ws w) (all_done r w) (k == n) (nat_le most_events (length t.events + k)) (is_idle w) (h.before k some (omega arith)) in
      ap (failing_watch r ws) there
      ∙ ap (λ es. failing_watch r ws (unwrap_or (run r es) (start r))) events
      ∙ none_after_run r ws (t.events ++ steps k) can (subst (λ (y : World State Msg). NoneConcerns (first_host (first y.queue.items)) ws) here out) none

  -- nor where a run does not test the watches
  pub none_untested : (n : ℕ) (ws : List (Option Cond)) (t u v : Tape) (k end : ℕ) (marks : Option (List Bool)) → NoneFrom end ws
      → IfSome marks (λ ms. (h : ℕ) → h < 32 → get_or ms h false ≡ false → NoneConcerns h ws)
      → IsRunning node probes n ws t k u → v ≡ with_world true v.reach (with_event event.Step u)
      → (end ≡ 0) ⊎ ((1 ≤ k) × IsSomeAnd marks (λ ms. IsNextUnmarked ms (world_of (rules node probes u.scenario) u)))
      → failing_watch (rules node probes v.scenario) ws (world_of (rules node probes v.scenario) v) ≡ None
  none_untested n ws t u v k end marks none about h more (inl bare) = sym (none_fails (rules node probes v.scenario) ws (world_of (rules node probes v.scenario) v) end bare none)
  none_untested n ws t u v k end None none about h more (inr other) = absurd other.1
  none_untested n ws t u v k end (Some ms) none about h more (inr other) =
      none_newly n ws t u v k other.0 h more (about (first_host (first (world_of (rules node probes u.scenario) u).queue.items)) other.1.0 other.1.1)

  -- nor at the place before an event, if none fails after it, or the other way round
  none_between : (ws : List (Option Cond)) (t : Tape) (h p q : ℕ) → p + 1 ≡ q → ChangesOnly (rules node probes t.scenario) h p t.events → NoneConcerns h ws
      → (failing_at (rules node probes t.scenario) (branch_with ws t) p ≡ None → failing_at (rules node probes t.scenario) (branch_with ws t) q ≡ None)
      × (failing_at (rules node probes t.scenario) (branch_with ws t) q ≡ None → failing_at (rules node probes t.scenario) (branch_with ws t) p ≡ None)
  none_between ws t h p q next only out =
      let r : Rules State Msg = rules node probes t.scenario in
      let here : World State Msg = world_at r p t.events in
      let there : World State Msg = world_at r q t.events in
      let others : (k : ℕ) → k ≢ h → host_at k there ≡ host_at k here = subst (λ (n : ℕ). (k : ℕ) → k ≢ h → host_at k (world_at r n t.events) ≡ host_at k here) next only.1 in (
        λ none. none_changed r ws h here there others out none,
        λ none. none_changed r ws h there here (λ k apart. sym (others k apart)) out none,
      )

  pub none_before : (ws : List (Option Cond)) (t u v : Tape) (k : ℕ) (marks : Option (List Bool)) (host : Option ℕ) → IsRewinding node probes ws t k u → 1 ≤ k → k + 1 ≤ t.place
      → v ≡ with_world true v.reach (at (u.place - 1) u)
      → IfSome marks (λ ms. (h : ℕ) → h < 32 → get_or ms h false ≡ false → NoneConcerns h ws) → IfSome host (λ h. ChangesOnly (rules node probes v.scenario) h v.place v.events)
      → IsSomeAnd marks (λ ms. IsSomeAnd host (λ h. (h < 32) × (get_or ms h false ≡ false)))
      → failing_watch (rules node probes v.scenario) ws (world_of (rules node probes v.scenario) v) ≡ None
  none_before ws t u v k None host h some le gone about only out = absurd out
  none_before ws t u v k (Some ms) None h some le gone about only out = absurd out
  none_before ws t u v k (Some ms) (Some x) h some le gone about only out =
      let q : ℕ = t.place - (k + 1) in
      let is = moved_back t u v k h.new gone in
      let here : ChangesOnly (rules node probes t.scenario) x q t.events = subst (λ (y : Tape). ChangesOnly (rules node probes y.scenario) x y.place y.events) is only in
      let after = h.none (t.place - k) (omega arith) (omega (arith, some, le)) in
      subst (λ (y : Tape). failing_watch (rules node probes y.scenario) ws (world_of (rules node probes y.scenario) y) ≡ None) (sym is)
      ((none_between ws t x q (t.place - k) (omega (arith, le)) here (about x out.0 out.1)).1 after)

  pub none_on : (ws : List (Option Cond)) (t u v : Tape) (k : ℕ) (marks : Option (List Bool)) (host : Option ℕ) (last : Option Found) → IsLooking node probes ws t k last u → last ≡ None
      → v ≡ with_world true v.reach (at (u.place + 1) u)
      → IfSome marks (λ ms. (h : ℕ) → h < 32 → get_or ms h false ≡ false → NoneConcerns h ws) → IfSome host (λ h. ChangesOnly (rules node probes u.scenario) h u.place u.events)
      → IsSomeAnd marks (λ ms. IsSomeAnd host (λ h. (h < 32) × (get_or ms h false ≡ false)))
      → failing_watch (rules node probes v.scenario) ws (world_of (rules node probes v.scenario) v) ≡ None
  none_on ws t u v k None host last h none gone about only out = absurd out
  none_on ws t u v k (Some ms) None last h none gone about only out = absurd out
  none_on ws t u v k (Some ms) (Some x) last h none gone about only out =
      let p : ℕ = t.place + k in
      let is = moved_on t u v k h.new gone in
      let here : ChangesOnly (rules node probes t.scenario) x p t.events = subst (λ (y : Tape). ChangesOnly (rules node probes y.scenario) x y.place y.events) h.new only in
      let before : NoneFails node probes ws t t.place (t.place + k + 1) = subst (IsLast node probes ws t t.place (t.place + k + 1)) none h.found in
      subst (λ (y : Tape). failing_watch (rules node probes y.scenario) ws (world_of (rules node probes y.scenario) y) ≡ None) (sym is)
      ((none_between ws t x p (t.place + (k + 1)) (omega arith) here (about x out.0 out.1)).0 (before p (omega arith) (omega arith)))
