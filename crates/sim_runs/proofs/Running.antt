-- A run goes on by one step, and stops.
use Rattle.std.proofs.Common.{◌≡◌, ℕ, zero, suc, ◌+◌, ◌-◌, ◌%◌, ◌<◌, ◌≤◌, ◌==◌, min, Bool, true, false, not, List, [], ◌∷◌, ◌++◌, Option, Some, None, is_some, length, take, refl, sym, ap, ◌∙◌, arith, inl, inr, length-append, append_assoc, append-nil, nat_le, subst, add-zero}
use Rattle.std.specs.Prelude.{if◌then◌else◌, Result, Ok, Err, OnErr}
use Rattle.std.specs.Option.{unwrap_or}
use Rattle.std.proofs.Math.Seq.{take-length}
use Rattle.std.proofs.Math.Nat.{eq-or-lt_of_le}
use Rattle.std.proofs.lemmas.Bool.Decides.{nat_tests}
use Rattle.sim_node.specs.Node.{NodeLaws}
use Rattle.sim_node.specs.Work.{Work}
use Rattle.sim_queue.specs.Pending.{first}
use Rattle.sim_events.specs.declared.Event.{Event}
use Rattle.sim_events.specs.declared.Event.TheVariants as event
use Rattle.sim_events.specs.declared.Refusal.TheVariants as why
use Rattle.sim_world.specs.World.{World}
use Rattle.sim_world.specs.Events.{Rules, rules, run, start, refusal_of}
use Rattle.sim_tape.specs.Tape.{Tape, with_world, with_event, KeepsRun}
use Rattle.sim_tape.specs.Places.{world_of}
use Rattle.sim_world.specs.Acts.{running}
use Rattle.sim_moves.specs.Works.{Plays}
use Rattle.sim_moves.proofs.Extending.{world_at-extended}
use Rattle.sim_tape.specs.Works.{nodes_kept, nodes_made, nodes_at_end}
use Rattle.sim_runs.specs.Works.{Adds}
use Rattle.sim_runs.specs.Tapes.{lengthened}
use Rattle.sim_watch.specs.Condition.{Cond}
use Rattle.sim_runs.specs.declared.Stop.{Stop}
use Rattle.sim_runs.specs.declared.Stop.TheVariants as stops
use Rattle.sim_runs.specs.Branch.{Branch}
use Rattle.sim_runs.specs.Watches.{failing_watch}
use Rattle.sim_runs.specs.Runs.{all_done}
use Rattle.sim_runs.specs.Branch.{branch_with}
use Rattle.sim_runs.specs.Runs.{first_stop, steps, run_stop, run_stop_at, run_addition, run_len, after_steps, is_idle, most_events}
use Rattle.sim_runs.specs.Running.{IsRunning}
use Rattle.sim_runs.specs.OnTape.{HasGrown}
use Rattle.sim_watch.proofs.Firsts.{least_is}

-- what holds anyway holds after an error
pub on_err : {A E : Type 0} (r : Result A E) {fact : Type 0} → fact → OnErr r fact
on_err (Ok _) holds = tt
on_err (Err _) holds = holds

-- a call that failed left a tape with the events that were added before
pub grown : (t u v : Tape) (more : List Event) → u ≡ with_world true u.reach (lengthened more t) → KeepsRun u v → HasGrown t v
grown t u v more is kept = (more, kept ∙ ap (λ (x : Tape). with_world v.warm v.reach x) is)

-- one step more
pub steps_more : (k : ℕ) → steps k ++ event.Step ∷ [] ≡ steps (k + 1)
steps_more zero = refl
steps_more (suc k) =
    let up : suc k + 1 ≡ suc (k + 1) = omega arith in
    ap (λ es. event.Step ∷ es) (steps_more k) ∙ ap steps (sym up)

pub steps_length : (k : ℕ) → length (steps k) ≡ k
steps_length zero = refl
steps_length (suc k) = ap suc (steps_length k)

-- what is true where there is no reason to stop
pub none_asked : (o : Option ℕ) (done asked full idle : Bool) → first_stop o done asked full idle ≡ None → asked ≡ false
none_asked (Some w) done asked full idle e = absurd cc
none_asked None true asked full idle e = absurd cc
none_asked None false true full idle e = absurd cc
none_asked None false false full idle e = refl

none_full : (o : Option ℕ) (done asked full idle : Bool) → first_stop o done asked full idle ≡ None → full ≡ false
none_full (Some w) done asked full idle e = absurd cc
none_full None true asked full idle e = absurd cc
none_full None false true full idle e = absurd cc
none_full None false false true idle e = absurd cc
none_full None false false false idle e = refl

none_idle : (o : Option ℕ) (done asked full idle : Bool) → first_stop o done asked full idle ≡ None → idle ≡ false
none_idle (Some w) done asked full idle e = absurd cc
none_idle None true asked full idle e = absurd cc
none_idle None false true full idle e = absurd cc
none_idle None false false true idle e = absurd cc
none_idle None false false false true e = absurd cc
none_idle None false false false false e = refl

below : (n : ℕ) → nat_le 65536 n ≡ false → n < 65536
below n e = grind (arith, nat_tests)

pub steps_can : (b : Bool) → not b ≡ false → (if b then None else Some why.Idle) ≡ None
steps_can true e = refl
steps_can false e = cc

none_some : {A : Type 0} (o : Option A) → o ≡ None → is_some o ≡ false
none_some o e = rw e refl

module _ {State Msg : Type 0} (r : Rules State Msg) where
  -- a run that does not stop at a world has room, and something is pending
  pub has_room : (asked : Bool) (watches : List (Option Cond)) (kept : ℕ) (w : World State Msg) → None ≡ run_stop r asked watches kept w → kept < 65536
  has_room asked watches kept w e = below kept (none_full (failing_watch r watches w) (all_done r w) asked (nat_le most_events kept) (is_idle w) (sym e))

  pub can_step : (asked : Bool) (watches : List (Option Cond)) (kept : ℕ) (w : World State Msg) → None ≡ run_stop r asked watches kept w → refusal_of r event.Step w ≡ None
  can_step asked watches kept w e =
      steps_can (is_some (first w.queue.items)) (none_idle (failing_watch r watches w) (all_done r w) asked (nat_le most_events kept) (is_idle w) (sym e))

module _ {State Msg : Type 0} (node : NodeLaws State Msg) (probes : ℕ) where
  -- of a tape with k steps more
  pub world_after : (t v : Tape) (k : ℕ) → v ≡ with_world true v.reach (lengthened (steps k) t) → (ws : List (Option Cond))
      → world_of (rules node probes v.scenario) v ≡ after_steps (rules node probes t.scenario) k (branch_with ws t)
  world_after t v k is ws =
      let r : Rules State Msg = rules node probes t.scenario in
      let whole : take (length t.events + length (steps k)) (t.events ++ steps k) ≡ t.events ++ steps k =
      ap (λ n. take n (t.events ++ steps k)) (sym (length-append t.events (steps k))) ∙ take-length (t.events ++ steps k) in
      ap (λ (u : Tape). world_of (rules node probes u.scenario) u) is ∙ ap (λ es. unwrap_or (run r es) (start r)) whole

  pub events_after : (t v : Tape) (k : ℕ) → v ≡ with_world true v.reach (lengthened (steps k) t) → length v.events ≡ length t.events + k
  events_after t v k is = ap (λ (u : Tape). length u.events) is ∙ length-append t.events (steps k) ∙ ap (λ n. length t.events + n) (steps_length k)

  -- why a run stops at such a tape
  stop_after : (n : ℕ) (ws : List (Option Cond)) (t v : Tape) (k : ℕ) → v ≡ with_world true v.reach (lengthened (steps k) t)
      → run_stop (rules node probes v.scenario) (k == n) ws (length v.events) (world_of (rules node probes v.scenario) v) ≡ run_stop_at (rules node probes t.scenario) n (branch_with ws t) k
  stop_after n ws t v k is =
      let r : Rules State Msg = rules node probes t.scenario in
      ap (λ s. run_stop (rules node probes s) (k == n) ws (length v.events) (world_of (rules node probes v.scenario) v)) (ap (λ (u : Tape). u.scenario) is)
      ∙ ap (λ m. run_stop r (k == n) ws m (world_of (rules node probes v.scenario) v)) (events_after t v k is)
      ∙ ap (run_stop r (k == n) ws (length t.events + k)) (world_after t v k is ws)

  -- one event more, which is at the end
  pub lengthened_by : (t u v : Tape) (k : ℕ) (last : Event) → u ≡ with_world true u.reach (lengthened (steps k) t) → v ≡ with_world true v.reach (with_event last u)
      → v ≡ with_world true v.reach (lengthened (steps k ++ last ∷ []) t)
  lengthened_by t u v k last is more =
      let events : (t.events ++ steps k) ++ last ∷ [] ≡ t.events ++ (steps k ++ last ∷ []) = append_assoc t.events (steps k) (last ∷ []) in
      let place : length t.events + length (steps k) + 1 ≡ length t.events + length (steps k ++ last ∷ []) =
      (let b = length-append (steps k) (last ∷ []) in omega (arith, b)) in
      more ∙ ap (λ (x : Tape). with_world true v.reach (with_event last x)) is
      ∙ ap (λ es. record { scenario = t.scenario; events = es; place = length t.events + length (steps k) + 1; warm = true; reach = v.reach }) events
      ∙ ap (λ p. record { scenario = t.scenario; events = t.events ++ (steps k ++ last ∷ []); place = p; warm = true; reach = v.reach }) place

  -- one step more
  pub lengthened_more : (t u v : Tape) (k : ℕ) → u ≡ with_world true u.reach (lengthened (steps k) t) → v ≡ with_world true v.reach (with_event event.Step u)
      → v ≡ with_world true v.reach (lengthened (steps (k + 1)) t)
  lengthened_more t u v k is more =
      lengthened_by t u v k event.Step is more ∙ ap (λ es. with_world true v.reach (lengthened es t)) (steps_more k)

  -- no step more
  pub lengthened_none : (t : Tape) → t.warm ≡ true → t.place ≡ length t.events → t ≡ with_world true t.reach (lengthened (steps 0) t)
  lengthened_none t warm end =
      let place : t.place ≡ length t.events + 0 = omega arith in
      ap (λ es. record t { events = es }) (sym (append-nil t.events)) ∙ ap (λ p. record t { events = t.events ++ []; place = p }) place
      ∙ ap (λ b. record t { events = t.events ++ []; place = length t.events + 0; warm = b }) warm

  pub running_none : (n : ℕ) (ws : List (Option Cond)) (t : Tape) → t.warm ≡ true → t.place ≡ length t.events → length t.events < 65536
      → refusal_of (rules node probes t.scenario) event.Step (world_of (rules node probes t.scenario) t) ≡ None → t.reach ≤ t.scenario.window
      → IsRunning node probes n ws t 0 t
  running_none n ws t warm end room can few =
      record {
        new = lengthened_none t warm end;
        before = λ j a b. absurd (omega arith);
        room = room;
        can = can;
        reach = omega (arith, few);
      }

  pub reach_more : (n : ℕ) (ws : List (Option Cond)) (t u v : Tape) (k : ℕ) → IsRunning node probes n ws t k u → v.reach ≡ min u.scenario.window (u.reach + 1)
      → v.reach ≡ min t.scenario.window (t.reach + (k + 1))
  reach_more n ws t u v k h reach =
      let window = ap (λ (x : Tape). x.scenario.window) h.new in
      let old = h.reach in
      omega (arith, window, old, reach)

  pub running_more : (n : ℕ) (ws : List (Option Cond)) (t u v : Tape) (k : ℕ) → IsRunning node probes n ws t k u
      → v ≡ with_world true v.reach (with_event event.Step u) → v.reach ≡ min u.scenario.window (u.reach + 1)
      → None ≡ run_stop (rules node probes v.scenario) (k + 1 == n) ws (length v.events) (world_of (rules node probes v.scenario) v)
      → IsRunning node probes n ws t (k + 1) v
  running_more n ws t u v k h more reach goes =
      let is = lengthened_more t u v k h.new more in record {
        new = is;
        before = λ j a b. before_more j a b;
        room = has_room (rules node probes v.scenario) (k + 1 == n) ws (length v.events) (world_of (rules node probes v.scenario) v) goes;
        can = can_step (rules node probes v.scenario) (k + 1 == n) ws (length v.events) (world_of (rules node probes v.scenario) v) goes;
        reach = reach_more n ws t u v k h reach;
      }
    where
      here : run_stop_at (rules node probes t.scenario) n (branch_with ws t) (k + 1) ≡ None
      here = sym (stop_after n ws t v (k + 1) (lengthened_more t u v k h.new more)) ∙ sym goes

      before_more : (j : ℕ) → 1 ≤ j → j ≤ k + 1 → run_stop_at (rules node probes t.scenario) n (branch_with ws t) j ≡ None
      before_more j a b = elim (eq-or-lt_of_le b) [
        | inl same ↦ ap (run_stop_at (rules node probes t.scenario) n (branch_with ws t)) same ∙ here
        | inr less ↦ h.before j a (omega arith)
      ]

  -- a run that stops
  pub stopped_is : (n : ℕ) (ws : List (Option Cond)) (t u v : Tape) (k : ℕ) (stop : Stop) → k < n → IsRunning node probes n ws t k u
      → v ≡ with_world true v.reach (with_event event.Step u)
      → Some stop ≡ run_stop (rules node probes v.scenario) (k + 1 == n) ws (length v.events) (world_of (rules node probes v.scenario) v)
      → run_addition (rules node probes t.scenario) n (branch_with ws t) ≡ record { events = steps (k + 1); stop = stop }
  stopped_is n ws t u v k stop lt h more gives =
      let r : Rules State Msg = rules node probes t.scenario in
      let x : Branch = branch_with ws t in
      let here : run_stop_at r n x (k + 1) ≡ Some stop = sym (stop_after n ws t v (k + 1) (lengthened_more t u v k h.new more)) ∙ sym gives in
      let len : run_len r n x ≡ k + 1 = ap (λ o. unwrap_or o 0) (least_is (λ j. is_some (run_stop_at r n x j)) 1 n (k + 1) (omega arith) (omega arith) (ap is_some here)
      (λ j a b. none_some (run_stop_at r n x j) (h.before j a (omega arith)))) in
      let some : (n == 0) ≡ false = grind (arith, nat_tests) in
      ap (λ m. record { events = steps m; stop = if n == 0 then asked else unwrap_or (run_stop_at r n x m) asked }) len
      ∙ ap (λ b. record { events = steps (k + 1); stop = if b then asked else unwrap_or (run_stop_at r n x (k + 1)) asked }) some
      ∙ ap (λ o. record { events = steps (k + 1); stop = unwrap_or o asked }) here
    where
      asked : Stop
      asked = stops.Asked

  -- it stops where all that was asked for was added
  pub not_past : (n : ℕ) (ws : List (Option Cond)) (t u : Tape) (k : ℕ) → 1 ≤ n → k ≡ n → IsRunning node probes n ws t k u → ⊥
  not_past n ws t u k some same h =
      let r : Rules State Msg = rules node probes t.scenario in
      let x : Branch = branch_with ws t in
      let at : (n == n) ≡ true = grind (arith, nat_tests) in
      let none = h.before n some (omega arith) in
      true_not (sym at ∙ none_asked (failing_watch r ws (after_steps r n x)) (all_done r (after_steps r n x)) (n == n) (nat_le most_events (length t.events + n)) (is_idle (after_steps r n x)) none)
    where
      true_not : true ≡ false → ⊥
      true_not e = cc

-- the work of events that are added
module _ {State Msg : Type 0} (r : Rules State Msg) where
  -- checkpoints that stand are not made again
  made_extended : (p k : ℕ) (es more : List Event) → p + k ≤ length es → nodes_made r p k (es ++ more) ≡ nodes_made r p k es
  made_extended p zero es more within = refl
  made_extended p (suc k) es more within =
      let here : nodes_kept r (p + suc k) (es ++ more) ≡ nodes_kept r (p + suc k) es =
      ap (λ w. if (p + suc k) % r.scenario.interval == 0 then running w else 0) (world_at-extended r es more (p + suc k) within) in
      ap (λ (n : ℕ). n + nodes_kept r (p + suc k) (es ++ more)) (made_extended p k es more (omega (arith, within)))
      ∙ ap (λ (n : ℕ). nodes_made r p k es + n) here

  pub adds_none : (n : ℕ) (es : List Event) (a : Work) → n ≡ 0 → Adds r n es a a
  adds_none n es a none = subst (λ (k : ℕ). Adds r k es a a) (sym none) (record { turns = omega arith; copies = sym (add-zero a.copies); undos = refl })

  -- one event more
  pub adds_more : (k : ℕ) (t u v : Tape) (new : List Event) (e : Event) (a b d : Work) → u ≡ with_world true u.reach (lengthened new t) → length new ≡ k
      → v ≡ with_world true v.reach (with_event e u) → Adds r k u.events a b → Plays 1 (nodes_at_end r e u) b d → Adds r (k + 1) v.events a d
  adds_more k t u v new e a b d is count more h q =
      let p : ℕ = length t.events in
      let es' : List Event = u.events ++ e ∷ [] in
      let len : length u.events ≡ p + length new = ap (λ (x : Tape). length x.events) is ∙ length-append t.events new in
      let place : u.place ≡ p + length new = ap (λ (x : Tape). x.place) is in
      let grown : v.events ≡ es' = ap (λ (x : Tape). x.events) more in
      let longer : length v.events ≡ length u.events + 1 = ap length grown ∙ length-append u.events (e ∷ []) in
      let from : length v.events - (k + 1) ≡ p = omega (arith, longer, len, count) in
      let from' : length u.events - k ≡ p = omega (arith, len, count) in
      let one : k + 1 ≡ suc k = omega arith in
      let there : p + suc k ≡ u.place + 1 = omega (arith, place, count) in
      let made : nodes_made r (length v.events - (k + 1)) (k + 1) v.events ≡ nodes_made r (length u.events - k) k u.events + nodes_at_end r e u =
      ap (λ (n : ℕ). nodes_made r n (k + 1) v.events) from ∙ ap (λ (xs : List Event). nodes_made r p (k + 1) xs) grown ∙ ap (λ (n : ℕ). nodes_made r p n es') one
      ∙ ap (λ (n : ℕ). n + nodes_kept r (p + suc k) es') (made_extended p k u.events (e ∷ []) (omega (arith, len, count)) ∙ ap (λ (n : ℕ). nodes_made r n k u.events) (sym from'))
      ∙ ap (λ (n : ℕ). nodes_made r (length u.events - k) k u.events + nodes_kept r n es') there in
      let x = h.turns in
      let y = q.turns in
      let w = h.copies in
      let z = q.copies in
      record { turns = omega (arith, x, y); copies = omega (arith, w, z, made); undos = q.undos ∙ h.undos }

  pub adds_so : (n m : ℕ) (es : List Event) (a b : Work) → n ≡ m → Adds r n es a b → Adds r m es a b
  adds_so n m es a b e h = subst (λ (k : ℕ). Adds r k es a b) e h

module _ {State Msg : Type 0} (node : NodeLaws State Msg) (probes : ℕ) where
  -- the same by the rules of the tape that the event is added to
  pub adds_on : (k : ℕ) (t u v : Tape) (new : List Event) (e : Event) (a b d : Work) → u ≡ with_world true u.reach (lengthened new t) → length new ≡ k
      → v ≡ with_world true v.reach (with_event e u) → Adds (rules node probes t.scenario) k u.events a b → Plays 1 (nodes_at_end (rules node probes u.scenario) e u) b d
      → Adds (rules node probes t.scenario) (k + 1) v.events a d
  adds_on k t u v new e a b d is count more h q =
      let same = ap (λ (x : Tape). x.scenario) is in
      adds_more (rules node probes t.scenario) k t u v new e a b d is count more h
      (subst (λ s. Plays 1 (nodes_at_end (rules node probes s) e u) b d) same q)
