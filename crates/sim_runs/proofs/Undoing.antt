-- The undos of a rewind: those of the events within the reach, and none past it.
use Rattle.std.proofs.Common.{◌≡◌, ℕ, zero, suc, ◌+◌, ◌-◌, ◌%◌, ◌<◌, ◌≤◌, ◌⊎◌, true, false, nat_le, List, Option, Some, None, inl, inr, min, refl, sym, ap, ◌∙◌, subst, arith}
use Rattle.std.specs.Prelude.{if◌then◌else◌, ◌&&◌}
use Rattle.std.specs.Ordering.{ord_min, nat_cmp}
use Rattle.std.proofs.lemmas.Grind.{common_steps}
use Rattle.std.proofs.Math.Nat.{eq-or-lt_of_le}
use Rattle.std.proofs.lemmas.Bool.{cases_lt}
use Rattle.std.proofs.lemmas.Bool.Decides.{nat_tests}
use Rattle.sim_node.specs.Node.{NodeLaws}
use Rattle.sim_node.specs.Work.{Work}
use Rattle.sim_events.specs.declared.Event.{Event}
use Rattle.sim_world.specs.Events.{Rules, rules}
use Rattle.sim_moves.specs.Places.{acts_at, acting}
use Rattle.sim_tape.specs.Tape.{Tape, with_world, at, raised, is_within_reach, is_near_ahead, reach_at, reach_here}
use Rattle.sim_tape.proofs.Turning.{and_none, not_ahead}
use Rattle.sim_watch.specs.Condition.{Cond}
use Rattle.sim_runs.specs.Works.{TakesBack, UndoesAtMost}
use Rattle.sim_runs.specs.declared.rewinds.Found.{Found}
use Rattle.sim_runs.specs.Running.{IsLast, place_found}

-- No record is kept, or there is no more to look at.
abbrev pub IsSpent : ℕ → ℕ → Tape → Type 0
IsSpent to high u = (u.reach ≡ 0) ⊎ ((high ≡ to) × (u.place ≡ high))

pub spent_now : (to high : ℕ) (u : Tape) → IsSpent to high u → to < high → u.reach ≡ 0
spent_now to high u h more = elim h [
  | inl none ↦ none
  | inr end ↦ absurd (omega (arith, end.0, more))
]

-- a place farther back than the reach is not within it
pub past_reach : (p : ℕ) (t : Tape) → t.reach < t.place - p → is_within_reach p t ≡ false
past_reach p t far =
    let no : nat_le (t.place - p) t.reach ≡ false = grind (arith, nat_tests) in
    ap (λ b. t.warm && (nat_le p t.place && b)) no ∙ ap (λ b. t.warm && b) (and_none (nat_le p t.place)) ∙ and_none t.warm

pub not_within : (p : ℕ) (t : Tape) → t.reach ≡ 0 → p < t.place → is_within_reach p t ≡ false
not_within p t none below = past_reach p t (omega (arith, none, below))

-- the reach of a world that is made anew
pub reach_anew : (p : ℕ) (t : Tape) → is_within_reach p t ≡ false → is_near_ahead p t ≡ false → reach_at p t ≡ min t.scenario.window (p % t.scenario.interval)
reach_anew p t past far =
    ap (λ b. if b then t.reach - (t.place - p) else (if is_near_ahead p t then raised (p - t.place) t else min t.scenario.window (p % t.scenario.interval))) past
    ∙ ap (λ b. if b then raised (p - t.place) t else min t.scenario.window (p % t.scenario.interval)) far

-- after one stretch more
pub spent_more : (to low n : ℕ) (u v w : Tape) → is_within_reach low u ≡ false → is_near_ahead low u ≡ false → v.reach ≡ reach_at low u
    → (to < low → low % u.scenario.interval ≡ 0) → (1 ≤ n → w.reach ≡ 0) → (n ≡ 0 → w.reach ≡ v.reach) → w.place ≡ low + n → to ≤ low → IsSpent to low w
spent_more to low (suc n) u v w past far gone whole spent still place le = inl (spent (omega arith))
spent_more to low zero u v w past far gone whole spent still place le = elim (eq-or-lt_of_le le) [
  | inl end ↦ inr (sym end, omega (arith, place))
  | inr more ↦
      let rest : low % u.scenario.interval ≡ 0 = whole more in
      let is : v.reach ≡ min u.scenario.window (low % u.scenario.interval) = gone ∙ reach_anew low u past far in
      inl (still refl ∙ is ∙ omega (arith, rest))
]

-- a jump back from a tape without records takes nothing back
pub undone_to : (p : ℕ) (u : Tape) (a b : Work) → u.warm ≡ true → p ≤ u.place → ((u.reach ≡ 0) ⊎ (u.place ≡ p))
    → (u.warm ≡ true → p ≡ u.place → b ≡ a) → (is_within_reach p u ≡ false → is_near_ahead p u ≡ false → b.undos ≡ a.undos) → b.undos ≡ a.undos
undone_to p u a b warm le spent here past = elim (eq-or-lt_of_le le) [
  | inl same ↦ ap (λ (w : Work). w.undos) (here warm same)
  | inr below ↦ elim spent [
    | inl none ↦ past (not_within p u none below) (not_ahead p u le)
    | inr end ↦ absurd (omega (arith, end, below))
  ]
]

-- what was found in a stretch of n events lies at its end, or there is no record
pub spent_found : (p low n : ℕ) (w : Tape) → (1 ≤ n → w.reach ≡ 0) → w.place ≡ low + n → low ≤ p → p < low + n + 1 → (w.reach ≡ 0) ⊎ (w.place ≡ p)
spent_found p low (suc n) w spent place from below = inl (spent (omega arith))
spent_found p low zero w spent place from below = inr (omega (arith, place, from, below))

-- so it is of the place where a rewind ends
pub spent_end : (to high : ℕ) (u : Tape) → IsSpent to high u → high ≡ to → (u.reach ≡ 0) ⊎ (u.place ≡ to)
spent_end to high u h end = elim h [
  | inl none ↦ inl none
  | inr at_end ↦ inr (at_end.1 ∙ end)
]

pub min_both : (a b m : ℕ) → m ≡ ord_min nat_cmp a b → (m ≤ a) × (m ≤ b)
min_both a b m is = (grind (arith, common_steps), grind (arith, common_steps))

module _ {State Msg : Type 0} (r : Rules State Msg) where
  -- fewer of the last events act
  acting_within : (n m place : ℕ) (es : List Event) → n ≤ m → m ≤ place → acting r (place - n) n es ≤ acting r (place - m) m es
  acting_within n zero place es le within =
      let none : n ≡ 0 = omega (arith, le) in
      subst (λ (k : ℕ). acting r (place - k) k es ≤ acting r (place - 0) 0 es) (sym none) (omega arith)
  acting_within n (suc m) place es le within = elim (eq-or-lt_of_le le) [
    | inl same ↦ subst (λ (k : ℕ). acting r (place - k) k es ≤ acting r (place - suc m) (suc m) es) (sym same) (omega arith)
    | inr less ↦
        let fewer = acting_within n m place es (omega (arith, less)) (omega (arith, within)) in
        let next : place - suc m + 1 ≡ place - m = omega (arith, within) in
        let rest : acting r (place - suc m + 1) m es ≡ acting r (place - m) m es = ap (λ (q : ℕ). acting r q m es) next in
        let sum : acting r (place - suc m) (suc m) es ≡ acts_at r (place - suc m) es + acting r (place - suc m + 1) m es = refl in
        omega (arith, fewer, rest, sum)
  ]

  pub undone_within : (q m : ℕ) (t : Tape) (a b : Work) → m ≤ t.place → t.place - m ≤ q → q ≤ t.place → TakesBack r (t.place - q) q t a b → UndoesAtMost r m t a b
  undone_within q m t a b deep from to back =
      let undos : b.undos ≡ a.undos + acting r q (t.place - q) t.events = ap (λ (w : Work). w.undos) back in
      let same : t.place - (t.place - q) ≡ q = omega (arith, to) in
      let fewer = acting_within (t.place - q) m t.place t.events (omega (arith, from, deep)) deep in
      let here : acting r (t.place - (t.place - q)) (t.place - q) t.events ≡ acting r q (t.place - q) t.events = ap (λ (p : ℕ). acting r p (t.place - q) t.events) same in
      omega (arith, undos, fewer, here)

  pub undone_none : (m : ℕ) (t : Tape) (a b : Work) → b.undos ≡ a.undos → UndoesAtMost r m t a b
  undone_none m t a b same = omega (arith, same)

  -- a way back by n, within the reach or past it
  pub undone_back : (n : ℕ) (t : Tape) (a b : Work) → n ≤ t.place → t.reach ≤ t.place → t.warm ≡ true
      → (t.warm ≡ true → n ≤ t.reach → TakesBack r n (t.place - n) t a b) → (is_within_reach (t.place - n) t ≡ false → b.undos ≡ a.undos) → UndoesAtMost r t.reach t a b
  undone_back n t a b within deep warm near past =
      let same : t.place - (t.place - n) ≡ n = omega (arith, within) in
      elim (cases_lt t.reach n) [
        | inl far ↦ undone_none t.reach t a b (past (past_reach (t.place - n) t (omega (arith, far, same))))
        | inr le ↦ undone_within (t.place - n) t.reach t a b deep (omega (arith, le)) (omega arith)
            (subst (λ (k : ℕ). TakesBack r k (t.place - n) t a b) (sym same) (near warm le))
      ]

module _ {State Msg : Type 0} (node : NodeLaws State Msg) (probes : ℕ) where
  -- where a look within the reach ends
  pub found_between : (ws : List (Option Cond)) (t : Tape) (near : ℕ) (o : Option Found) → near ≤ t.place → IsLast node probes ws t (t.place - near) t.place o
      → (t.place - near ≤ place_found (t.place - near) o) × (place_found (t.place - near) o ≤ t.place)
  found_between ws t near None within h = (omega arith, omega arith)
  found_between ws t near (Some f) within h =
      let from : t.place - near ≤ f.place = h.from in
      let below : f.place < t.place = h.below in
      (from, omega (arith, below))

  -- what it takes back
  pub near_undone : (ws : List (Option Cond)) (t u : Tape) (near : ℕ) (o : Option Found) (a b : Work) → near ≤ t.reach → t.reach ≤ t.place
      → IsLast node probes ws t (t.place - near) t.place o → u ≡ with_world true u.reach (at (place_found (t.place - near) o) t)
      → TakesBack (rules node probes t.scenario) (t.place - u.place) u.place t a b → UndoesAtMost (rules node probes t.scenario) t.reach t a b
  near_undone ws t u near o a b le deep last moved back =
      let between = found_between ws t near o (omega (arith, le, deep)) last in
      let place : u.place ≡ place_found (t.place - near) o = ap (λ (x : Tape). x.place) moved in
      let from : t.place - t.reach ≤ u.place = omega (arith, between.0, place, le) in
      let to : u.place ≤ t.place = omega (arith, between.1, place) in
      undone_within (rules node probes t.scenario) u.place t.reach t a b deep from to back

  -- after a look through the whole reach no record is left
  pub spent_far : (t u : Tape) (near : ℕ) (o : Option Found) → o ≡ None → near ≡ t.reach → t.reach ≤ t.place
      → u ≡ with_world true u.reach (at (place_found (t.place - near) o) t) → u.reach ≡ t.reach - (t.place - u.place) → u.reach ≡ 0
  spent_far t u near o none same deep moved reach =
      let place : u.place ≡ t.place - near = ap (λ (x : Tape). x.place) moved ∙ ap (place_found (t.place - near)) none in
      omega (arith, place, same, deep, reach)

  -- what is said of a tape once its world is there is said of the tape before
  pub rewind_undoes : (t w : Tape) (a b : Work) → w ≡ with_world true w.reach t → w.reach ≡ reach_here t
      → UndoesAtMost (rules node probes w.scenario) w.reach w a b → UndoesAtMost (rules node probes t.scenario) (reach_here t) t a b
  rewind_undoes t w a b same reach h =
      subst (λ (x : Tape). UndoesAtMost (rules node probes x.scenario) (reach_here t) x a b) same
      (subst (λ (n : ℕ). UndoesAtMost (rules node probes w.scenario) n w a b) reach h)
