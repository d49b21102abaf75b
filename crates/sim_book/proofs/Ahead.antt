-- Each number of steps that a run or a tick looks at leads to a world.
use Rattle.std.proofs.Common.{◌≡◌, ℕ, zero, suc, ◌+◌, ◌-◌, ◌<◌, ◌≤◌, ◌==◌, Bool, true, false, not, List, [], ◌∷◌, ◌++◌, Option, Some, None, is_some, inl, inr, length, take, refl, sym, ap, ◌∙◌, subst, arith, append_assoc, append-nil, nat_le, nat_lt}
use Rattle.std.specs.Option.{unwrap_or, IsSome}
use Rattle.std.proofs.Math.Nat.{eq-or-lt_of_le}
use Rattle.std.proofs.Math.Seq.{take-length}
use Rattle.sim_node.specs.Numbers.{first_passing, least}
use Rattle.sim_world.specs.World.{World}
use Rattle.sim_events.specs.declared.Event.{Event}
use Rattle.sim_events.specs.declared.Event.TheVariants as event
use Rattle.sim_world.specs.Events.{Rules, run, start, IsRunnable, unless_refused}
use Rattle.sim_world.specs.Events as world
use Rattle.sim_moves.proofs.Placing.{run-snoc}
use Rattle.sim_watch.specs.declared.command.Command.{Command}
use Rattle.sim_watch.specs.declared.command.Command.TheVariants as command
use Rattle.sim_book.specs.declared.Refusal.TheVariants as refusal
use Rattle.sim_runs.specs.Branch.{Branch, world_of}
use Rattle.sim_book.specs.Book.{Book, branch, empty_branch}
use Rattle.sim_watch.specs.Commands.{branch_of}
use Rattle.sim_book.specs.Answer.{first_refusal, not_at_end, events_full, idle}
use Rattle.sim_runs.specs.Runs.{steps, is_idle, is_due_by, after_steps, run_stop_at, run_len, tick_end, tick_steps}
use Rattle.sim_book.specs.Headline.{AreBranches, HasStepWorlds}
use Rattle.sim_book.proofs.Headlines.{some_is, first_free, not_less, inside, later_free}
use Rattle.sim_runs.proofs.Running.{steps_more, steps_can, can_step}
use Rattle.sim_runs.proofs.Ticking.{step_can}

-- no number below the least that passes does
passing_before : (test : ℕ → Bool) (k n d j : ℕ) → d ≤ k + n → k ≤ j → j < unwrap_or (first_passing test k n) d → test j ≡ false
passing_before test k zero d j most a lt = absurd (omega arith)
passing_before test k (suc n) d j most a lt = go (test k) refl lt (λ past less. passing_before test (k + 1) n d j (omega arith) past less)
  where
    go : (b : Bool) → test k ≡ b → j < unwrap_or (elim b [ true ↦ Some k | false ↦ first_passing test (k + 1) n ]) d
        → (k + 1 ≤ j → j < unwrap_or (first_passing test (k + 1) n) d → test j ≡ false) → test j ≡ false
    go true here less later = absurd (omega arith)
    go false here less later = elim (eq-or-lt_of_le a) [
      | inl same ↦ ap test (sym same) ∙ here
      | inr past ↦ later (omega arith) less
    ]

least_before : (test : ℕ → Bool) (lo hi d j : ℕ) → lo ≤ hi + 1 → d ≤ hi + 1 → lo ≤ j → j < unwrap_or (least test lo hi) d → test j ≡ false
least_before test lo hi d j some most a lt = passing_before test lo (hi + 1 - lo) d j (omega arith) a lt

not_true : (b : Bool) → not b ≡ false → b ≡ true
not_true true e = refl
not_true false e = absurd cc

none_is : {A : Type 0} (o : Option A) → is_some o ≡ false → None ≡ o
none_is None e = refl
none_is (Some x) e = absurd cc

module _ {State Msg : Type 0} (r : Rules State Msg) where
  -- a step more, where one can happen
  one_more : (es : List Event) (k : ℕ) (w : World State Msg) → run r (es ++ steps k) ≡ Some w → world.refusal_of r event.Step w ≡ None → IsSome (run r (es ++ steps (k + 1)))
  one_more es k w is can =
      let grown : es ++ steps (k + 1) ≡ (es ++ steps k) ++ event.Step ∷ [] = ap (λ xs. es ++ xs) (sym (steps_more k)) ∙ sym (append_assoc es (steps k) (event.Step ∷ [])) in
      ap is_some (ap (run r) grown ∙ run-snoc r (es ++ steps k) event.Step w is ∙ ap (λ o. unless_refused r o (world.after r event.Step w)) can)

  run_ahead : (x : Branch) → IsRunnable r x.events → (k : ℕ) → ((j : ℕ) → j < k → world.refusal_of r event.Step (after_steps r j x) ≡ None)
      → run r (x.events ++ steps k) ≡ Some (after_steps r k x)
  run_ahead x runs zero can = some_is r (run r (x.events ++ [])) (start r) (subst (λ (es : List Event). IsSome (run r es)) (sym (append-nil x.events)) runs)
  run_ahead x runs (suc k) can =
      let is = run_ahead x runs k (λ j lt. can j (omega arith)) in
      let up : k + 1 ≡ suc k = omega arith in
      some_is r (run r (x.events ++ steps (suc k))) (start r)
      (subst (λ (n : ℕ). IsSome (run r (x.events ++ steps n))) up (one_more x.events k (after_steps r k x) is (can k (omega arith))))

  -- a run that is not refused can take its first step
  first_can : (x : Branch) → x.place ≤ length x.events → first_refusal (not_at_end r x ∷ events_full r x ∷ idle r x ∷ []) ≡ None
      → world.refusal_of r event.Step (after_steps r 0 x) ≡ None
  first_can x within free =
      let at = first_free (nat_lt x.place (length x.events)) refusal.NotAtEnd (events_full r x ∷ idle r x ∷ []) free in
      let past = not_less x.place (length x.events) at.0 in
      let end : x.place ≡ length x.events = omega (arith, past, within) in
      let full = first_free (nat_le 65536 (length x.events)) refusal.EventsFull (idle r x ∷ []) at.1 in
      let busy : is_idle (world_of r x) ≡ false = (first_free (is_idle (world_of r x)) refusal.Idle [] full.1).0 in
      let whole : take x.place x.events ≡ x.events ++ [] = ap (λ n. take n x.events) end ∙ take-length x.events ∙ sym (append-nil x.events) in
      let same : world_of r x ≡ after_steps r 0 x = ap (λ es. unwrap_or (run r es) (start r)) whole in
      steps_can _ (ap is_idle (sym same) ∙ busy)

  run_can : (n : ℕ) (x : Branch) → world.refusal_of r event.Step (after_steps r 0 x) ≡ None → (j : ℕ) → j < run_len r n x → world.refusal_of r event.Step (after_steps r j x) ≡ None
  run_can n x first zero lt = first
  run_can n x first (suc j) lt =
      let goes = least_before (λ k. is_some (run_stop_at r n x k)) 1 n 0 (suc j) (omega arith) (omega arith) (omega arith) lt in
      can_step r (suc j == n) x.watches (length x.events + suc j) (after_steps r (suc j) x) (none_is (run_stop_at r n x (suc j)) goes)

  tick_can : (x : Branch) (j : ℕ) → j < unwrap_or (tick_steps r x) 1024 → world.refusal_of r event.Step (after_steps r j x) ≡ None
  tick_can x j lt =
      step_can r (tick_end r x) (after_steps r j x)
      (not_true (is_due_by (tick_end r x) (after_steps r j x))
      (least_before (λ i. not (is_due_by (tick_end r x) (after_steps r i x))) 0 1024 1024 j (omega arith) (omega arith) (omega arith) lt))

  none_ahead : (book : Book) → AreBranches r book → (c : Command) (k : ℕ) → branch_of c < length book → k ≤ 0 → run r ((branch (branch_of c) book).events ++ steps k) ≡ Some (after_steps r k (branch (branch_of c) book))
  none_ahead book all c k there none = run_ahead (branch (branch_of c) book) (all (branch_of c) empty_branch there).runnable k (λ j lt. absurd (omega arith))

  pub has_step_worlds : (book : Book) → AreBranches r book → HasStepWorlds r book
  has_step_worlds book all (command.Run b n) k free le =
      let x : Branch = branch b book in
      let is = all b empty_branch (inside r (command.Run b n) book free) in
      run_ahead x is.runnable k (λ j lt. run_can n x (first_can x is.within (later_free r (command.Run b n) book free)) j (omega arith))
  has_step_worlds book all (command.Tick b) k free le =
      let x : Branch = branch b book in
      run_ahead x (all b empty_branch (inside r (command.Tick b) book free)).runnable k (λ j lt. tick_can x j (omega arith))
  has_step_worlds book all (command.Step b) k free le = none_ahead book all (command.Step b) k (inside r (command.Step b) book free) le
  has_step_worlds book all (command.Fault b f) k free le = none_ahead book all (command.Fault b f) k (inside r (command.Fault b f) book free) le
  has_step_worlds book all (command.Back b n) k free le = none_ahead book all (command.Back b n) k (inside r (command.Back b n) book free) le
  has_step_worlds book all (command.Forward b n) k free le = none_ahead book all (command.Forward b n) k (inside r (command.Forward b n) book free) le
  has_step_worlds book all (command.Goto b p) k free le = none_ahead book all (command.Goto b p) k (inside r (command.Goto b p) book free) le
  has_step_worlds book all (command.Rewind b n) k free le = none_ahead book all (command.Rewind b n) k (inside r (command.Rewind b n) book free) le
  has_step_worlds book all (command.Cut b) k free le = none_ahead book all (command.Cut b) k (inside r (command.Cut b) book free) le
  has_step_worlds book all (command.Branch b p) k free le = none_ahead book all (command.Branch b p) k (inside r (command.Branch b p) book free) le
  has_step_worlds book all (command.Watch b c) k free le = none_ahead book all (command.Watch b c) k (inside r (command.Watch b c) book free) le
  has_step_worlds book all (command.Unwatch b w) k free le = none_ahead book all (command.Unwatch b w) k (inside r (command.Unwatch b w) book free) le
  has_step_worlds book all (command.Look b q) k free le = none_ahead book all (command.Look b q) k (inside r (command.Look b q) book free) le
  has_step_worlds book all (command.Freeze b) k free le = none_ahead book all (command.Freeze b) k (inside r (command.Freeze b) book free) le
