-- A tick goes on by one step, and stops.
use Rattle.std.proofs.Common.{◌≡◌, ℕ, zero, suc, ◌+◌, ◌-◌, ◌<◌, ◌≤◌, ◌==◌, min, Bool, true, false, not, List, [], ◌∷◌, ◌++◌, Option, Some, None, is_some, length, take, refl, sym, ap, ◌∙◌, arith, inl, inr, length-append, nat_le, nat_lt}
use Rattle.std.specs.Prelude.{if◌then◌else◌}
use Rattle.std.specs.List.{list_any}
use Rattle.std.proofs.lemmas.Bool.{le-leb, leb-true, leb-false, le-ltb, or_parts, eq-eqb, ne_eqb}
use Rattle.std.proofs.lemmas.List.{take_all}
use Rattle.std.proofs.Math.Nat.{eq-or-lt_of_le}
use Rattle.sim_node.specs.Node.{NodeLaws}
use Rattle.sim_queue.specs.declared.Item.{Item}
use Rattle.sim_queue.specs.Pending.{first}
use Rattle.sim_events.specs.declared.Event.{Event}
use Rattle.sim_events.specs.declared.Event.TheVariants as event
use Rattle.sim_events.specs.declared.Refusal.TheVariants as why
use Rattle.sim_pending.specs.Occurrence.{Occurrence}
use Rattle.sim_world.specs.World.{World}
use Rattle.sim_world.specs.Events.{Rules, rules, refusal_of}
use Rattle.sim_world.specs.Clock.{due_or, clock_after}
use Rattle.sim_world.proofs.FirstDue.{none_by, first_by}
use Rattle.sim_tape.specs.Tape.{Tape, with_world, with_event}
use Rattle.sim_tape.specs.Places.{world_of}
use Rattle.sim_runs.specs.Tapes.{lengthened}
use Rattle.sim_runs.specs.declared.Stop.{Stop}
use Rattle.sim_runs.specs.declared.Stop.TheVariants as stops
use Rattle.sim_runs.specs.Branch.{Branch, with_events}
use Rattle.sim_runs.specs.Runs.{all_done}
use Rattle.sim_runs.specs.Branch as branches
use Rattle.sim_runs.specs.Branch.{branch_with}
use Rattle.sim_runs.specs.Runs.{steps, is_due_by, after_steps, tick_end, tick_steps, tick_events, tick_events_by, tick_room, tick_stop, tick_stop_by, tick_addition, most_events}
use Rattle.sim_runs.specs.Running.{IsTicking}
use Rattle.sim_watch.proofs.Firsts.{least_is, least_passes, side}
use Rattle.sim_runs.proofs.Running.{steps_length, world_after, events_after, lengthened_by, lengthened_more, lengthened_none}

-- nothing is due before a time where nothing is due at it or before it
none_early : {B : Type 0} (time : ℕ) (items : List (Item B)) → list_any (λ x. nat_le x.due time) items ≡ false → list_any (λ x. nat_lt x.due time) items ≡ false
none_early time [] e = refl
none_early time (x ∷ items) e =
    let parts : (nat_le x.due time ≡ false) × (list_any (λ y. nat_le y.due time) items ≡ false) = or_parts _ _ e in
    let late : time < x.due = leb-false x.due time parts.0 in
    let here : nat_lt x.due time ≡ false = le-ltb x.due time (omega arith) in
    rw here (none_early time items parts.1)

true_not : true ≡ false → ⊥
true_not e = cc

module _ {State Msg : Type 0} (r : Rules State Msg) where
  -- where something is due by a time, a step can happen, and happens by that time
  pub step_can : (time : ℕ) (w : World State Msg) → is_due_by time w ≡ true → refusal_of r event.Step w ≡ None
  step_can time w due = go (first w.queue.items) refl
    where
      go : (o : Option (Item (Occurrence Msg))) → first w.queue.items ≡ o → refusal_of r event.Step w ≡ None
      go None e = absurd (true_not (sym due ∙ sym (none_by time w.queue.items e)))
      go (Some x) e = ap (λ (p : Option (Item (Occurrence Msg))). if is_some p then None else Some why.Idle) e

  pub step_by : (time : ℕ) (w : World State Msg) → is_due_by time w ≡ true → clock_after event.Step w ≤ time
  step_by time w due = go (first w.queue.items) refl
    where
      go : (o : Option (Item (Occurrence Msg))) → first w.queue.items ≡ o → due_or w.clock o ≤ time
      go None e = absurd (true_not (sym due ∙ sym (none_by time w.queue.items e)))
      go (Some x) e = leb-true x.due time (first_by time w.queue.items x e ∙ due)

  -- where nothing is due by a time that is no earlier and at most a minute later, an advance to it can happen
  pub advance_can : (time : ℕ) (w : World State Msg) → w.clock ≤ time → time - w.clock ≤ 60000 → is_due_by time w ≡ false → refusal_of r (event.Advance time) w ≡ None
  advance_can time w later near none =
      let a : nat_le w.clock time ≡ true = le-leb w.clock time later in
      let b : nat_le (time - w.clock) 60000 ≡ true = le-leb (time - w.clock) 60000 near in
      let c : list_any (λ x. nat_lt x.due time) w.queue.items ≡ false = none_early time w.queue.items none in
      rw (a, b, c) refl

-- the first of some steps
take_steps : (m k : ℕ) (rest : List Event) → m ≤ k → take m (steps k ++ rest) ≡ steps m
take_steps zero k rest le = refl
take_steps (suc m) zero rest le = absurd (omega arith)
take_steps (suc m) (suc k) rest le = ap (λ es. event.Step ∷ es) (take_steps m k rest (omega arith))

fewer_steps : (m k : ℕ) → m ≤ k → take m (steps k) ≡ steps m
fewer_steps zero k le = refl
fewer_steps (suc m) zero le = absurd (omega arith)
fewer_steps (suc m) (suc k) le = ap (λ es. event.Step ∷ es) (fewer_steps m k (omega arith))

pub ticked_length : (k end : ℕ) → length (steps k ++ event.Advance end ∷ []) ≡ k + 1
ticked_length k end = let a = length-append (steps k) (event.Advance end ∷ []) in let b = steps_length k in omega (arith, a, b)

-- why a tick stops that came to its time, and one that did not
came : (done full : Bool) → tick_stop_by true done full ≡ (if done then stops.AllDone else stops.Asked)
came true full = refl
came false full = refl

came_short : (done full : Bool) → tick_stop_by false done full ≡ (if full then stops.Full else stops.Long)
came_short done true = refl
came_short done false = refl

module _ {State Msg : Type 0} (node : NodeLaws State Msg) (probes : ℕ) where
  -- whether something is due, of a tape with k steps more
  due_after : (end : ℕ) (t u : Tape) (k : ℕ) (b : Bool) → u ≡ with_world true u.reach (lengthened (steps k) t) → is_due_by end (world_of (rules node probes u.scenario) u) ≡ b
      → is_due_by end (after_steps (rules node probes t.scenario) k (branch_with [] t)) ≡ b
  due_after end t u k b is due = ap (is_due_by end) (sym (world_after node probes t u k is [])) ∙ due

  pub ticking_none : (end : ℕ) (t : Tape) → t.warm ≡ true → t.place ≡ length t.events → t.reach ≤ t.scenario.window
      → (world_of (rules node probes t.scenario) t).clock ≤ end → IsTicking node probes end t 0 t
  ticking_none end t warm place few within = record {
    new = lengthened_none node probes t warm place;
    before = λ j lt. absurd (omega arith);
    on = omega arith;
    within = within;
    reach = omega (arith, few);
  }

  pub reach_next : (end : ℕ) (t u v : Tape) (k : ℕ) → IsTicking node probes end t k u → v.reach ≡ min u.scenario.window (u.reach + 1) → v.reach ≡ min t.scenario.window (t.reach + (k + 1))
  reach_next end t u v k h reach =
      let window = ap (λ (x : Tape). x.scenario.window) h.new in
      let old = h.reach in
      omega (arith, window, old, reach)

  pub ticking_more : (end : ℕ) (t u v : Tape) (k : ℕ) → IsTicking node probes end t k u
      → v ≡ with_world true v.reach (with_event event.Step u) → v.reach ≡ min u.scenario.window (u.reach + 1)
      → is_due_by end (world_of (rules node probes u.scenario) u) ≡ true
      → (world_of (rules node probes u.scenario) v).clock ≡ clock_after event.Step (world_of (rules node probes u.scenario) u)
      → (world_of (rules node probes u.scenario) u).clock ≤ (world_of (rules node probes u.scenario) v).clock
      → IsTicking node probes end t (k + 1) v
  ticking_more end t u v k h more reach due clock on =
      let same : world_of (rules node probes v.scenario) v ≡ world_of (rules node probes u.scenario) v = ap (λ s. world_of (rules node probes s) v) (ap (λ (x : Tape). x.scenario) more) in
      let now : (world_of (rules node probes v.scenario) v).clock ≡ (world_of (rules node probes u.scenario) v).clock = ap (λ w. w.clock) same in
      let by : clock_after event.Step (world_of (rules node probes u.scenario) u) ≤ end = step_by (rules node probes u.scenario) end (world_of (rules node probes u.scenario) u) due in record {
        new = lengthened_more node probes t u v k h.new more;
        before = λ j lt. before_more j (omega arith);
        on = (let before = h.on in omega (arith, before, on, now));
        within = omega (arith, by, clock, now);
        reach = reach_next end t u v k h reach;
      }
    where
      before_more : (j : ℕ) → j ≤ k → is_due_by end (after_steps (rules node probes t.scenario) j (branch_with [] t)) ≡ true
      before_more j le = elim (eq-or-lt_of_le le) [
        | inl same ↦ ap (λ i. is_due_by end (after_steps (rules node probes t.scenario) i (branch_with [] t))) same ∙ due_after end t u k true h.new due
        | inr less ↦ h.before j less
      ]

  -- an advance to the end can happen
  pub ends_can : (end : ℕ) (t u : Tape) (k : ℕ) → IsTicking node probes end t k u → end - (world_of (rules node probes t.scenario) t).clock ≤ 60000
      → is_due_by end (world_of (rules node probes u.scenario) u) ≡ false → refusal_of (rules node probes u.scenario) (event.Advance end) (world_of (rules node probes u.scenario) u) ≡ None
  ends_can end t u k h near none =
      let on = h.on in
      advance_can (rules node probes u.scenario) end (world_of (rules node probes u.scenario) u) h.within (omega (arith, on, near)) none

  -- a tick that comes to its time
  pub ticked_is : (end room : ℕ) (t u v : Tape) (k : ℕ) (stop : Stop) → end ≡ tick_end (rules node probes t.scenario) (branch_with [] t)
      → room ≡ tick_room (rules node probes t.scenario) (branch_with [] t) → k < room → IsTicking node probes end t k u
      → is_due_by end (world_of (rules node probes u.scenario) u) ≡ false
      → v ≡ with_world true v.reach (with_event (event.Advance end) u)
      → stop ≡ (if all_done (rules node probes v.scenario) (world_of (rules node probes v.scenario) v) then stops.AllDone else stops.Asked)
      → tick_addition (rules node probes t.scenario) (branch_with [] t) ≡ record { events = steps k ++ event.Advance end ∷ []; stop = stop }
  ticked_is end room t u v k stop is_end is_room lt h none more gives =
      let r : Rules State Msg = rules node probes t.scenario in
      let x : Branch = branch_with [] t in
      let added : List Event = steps k ++ event.Advance end ∷ [] in
      let grown : v ≡ with_world true v.reach (lengthened added t) = lengthened_by node probes t u v k (event.Advance end) h.new more in
      let here : is_due_by (tick_end r x) (after_steps r k x) ≡ false = ap (λ e. is_due_by e (after_steps r k x)) (sym is_end) ∙ due_after end t u k false h.new none in
      let enough : tick_steps r x ≡ Some k = least_is (λ j. not (is_due_by (tick_end r x) (after_steps r j x))) 0 1024 k (omega arith) (omega arith) (ap not here)
      (λ j a b. ap not (ap (λ e. is_due_by e (after_steps r j x)) (sym is_end) ∙ h.before j b)) in
      let all : tick_events r x ≡ added = ap (tick_events_by (tick_end r x)) enough ∙ ap (λ e. steps k ++ event.Advance e ∷ []) (sym is_end) in
      let long : length added ≡ k + 1 = ticked_length k end in
      let taken : take (tick_room r x) (tick_events r x) ≡ added = ap (take (tick_room r x)) all ∙ take_all (tick_room r x) added (omega (arith, long, is_room, lt)) in
      let whole : (length added == length (tick_events r x)) ≡ true = eq-eqb (length added) (length (tick_events r x)) (ap length (sym all)) in
      let done : all_done r (branches.world_of r (with_events added x)) ≡ all_done (rules node probes v.scenario) (world_of (rules node probes v.scenario) v) =
      sym (ap (λ (y : Tape). all_done (rules node probes y.scenario) (world_of (rules node probes y.scenario) y)) grown) in
      ap (λ es. record { events = es; stop = tick_stop r x es }) taken
      ∙ ap (λ b. record { events = added; stop = tick_stop_by b (all_done r (branches.world_of r (with_events added x))) (length x.events + length added == most_events) }) whole
      ∙ ap (λ s. record { events = added; stop = s })
      (came (all_done r (branches.world_of r (with_events added x))) (length x.events + length added == most_events) ∙ ap (λ b. if b then stops.AllDone else stops.Asked) done ∙ sym gives)

  -- a tick that has no more room
  short_of : (t u : Tape) (end k : ℕ) (o : Option ℕ) → end ≡ tick_end (rules node probes t.scenario) (branch_with [] t) → k ≤ 1024 → IsTicking node probes end t k u
      → tick_steps (rules node probes t.scenario) (branch_with [] t) ≡ o
      → (take k (tick_events_by (tick_end (rules node probes t.scenario) (branch_with [] t)) o) ≡ steps k) × (k < length (tick_events_by (tick_end (rules node probes t.scenario) (branch_with [] t)) o))
  short_of t u end k None is_end few h e = (fewer_steps k 1025 (omega arith), let long = steps_length 1025 in omega (arith, long))
  short_of t u end k (Some j) is_end few h e =
      let r : Rules State Msg = rules node probes t.scenario in
      let x : Branch = branch_with [] t in
      let passes : not (is_due_by (tick_end r x) (after_steps r j x)) ≡ true = least_passes (λ i. not (is_due_by (tick_end r x) (after_steps r i x))) 0 1024 j e in
      let le : k ≤ j = elim (side j k) [
        | inl lt ↦ absurd (true_not (sym passes ∙ ap not (ap (λ i. is_due_by i (after_steps r j x)) (sym is_end) ∙ h.before j lt)))
        | inr le ↦ le
      ] in
      let long : length (steps j ++ event.Advance (tick_end r x) ∷ []) ≡ j + 1 = ticked_length j (tick_end r x) in
      (take_steps k j (event.Advance (tick_end r x) ∷ []) le, omega (arith, long, le))

  pub ticked_all : (end room : ℕ) (t u : Tape) (k : ℕ) (stop : Stop) → end ≡ tick_end (rules node probes t.scenario) (branch_with [] t)
      → room ≡ tick_room (rules node probes t.scenario) (branch_with [] t) → k ≡ room → IsTicking node probes end t k u
      → stop ≡ (if length u.events == 65536 then stops.Full else stops.Long)
      → tick_addition (rules node probes t.scenario) (branch_with [] t) ≡ record { events = steps k; stop = stop }
  ticked_all end room t u k stop is_end is_room same h gives =
      let r : Rules State Msg = rules node probes t.scenario in
      let x : Branch = branch_with [] t in
      let short = short_of t u end k (tick_steps r x) is_end (omega arith) h refl in
      let taken : take (tick_room r x) (tick_events r x) ≡ steps k = ap (λ n. take n (tick_events r x)) (sym (same ∙ is_room)) ∙ short.0 in
      let long : length (steps k) ≡ k = steps_length k in
      let not_whole : (length (steps k) == length (tick_events r x)) ≡ false = ne_eqb (length (steps k)) (length (tick_events r x)) (λ e. let more = short.1 in absurd (omega (arith, more, long, e))) in
      let kept : length x.events + length (steps k) ≡ length u.events = ap (λ n. length t.events + n) long ∙ sym (events_after node probes t u k h.new) in
      ap (λ es. record { events = es; stop = tick_stop r x es }) taken
      ∙ ap (λ b. record { events = steps k; stop = tick_stop_by b (all_done r (branches.world_of r (with_events (steps k) x))) (length x.events + length (steps k) == most_events) }) not_whole
      ∙ ap (λ s. record { events = steps k; stop = s })
      (came_short (all_done r (branches.world_of r (with_events (steps k) x))) (length x.events + length (steps k) == most_events) ∙ ap (λ n. if n == 65536 then stops.Full else stops.Long) kept ∙ sym gives)
