-- The failing run of events, and what it makes itself.
use Rattle.std.proofs.Common.{◌≡◌, ℕ, zero, suc, ◌≤◌, Bool, true, List, [], ◌∷◌, Option, Some, None, length, take, min, refl, sym, ap, ◌∙◌, subst, arith, length-take}
use Rattle.std.specs.Prelude.{Result, Ok, Err, IfOk, MatchOption}
use Rattle.std.specs.Option.{IsSome}
use Rattle.std.proofs.lemmas.List.{length-take-le, take-take}
use Rattle.sim_events.specs.declared.Event.{Event}
use Rattle.sim_events.specs.Scenario.{Scenario}
use Rattle.sim_world.specs.World.{World}
use Rattle.sim_world.specs.Events.{Rules, next, start, run}
use Rattle.sim_watch.specs.Condition.{Cond}
use Rattle.sim_scan.specs.Search.{fails_of, fails_at, first_failing}
use Rattle.sim_watch.proofs.Firsts.{least_is}
use Rattle.sim_search.proofs.Leasts.{least_tells}
use Rattle.sim_plan.specs.Happening.{happening}
use Rattle.sim_plan.proofs.Runs.{happening_on}
use Rattle.sim_shrink.specs.Shrunk.{run_by, failing, IsFailingRun, IsMinimal, IsShrunk}
use Rattle.sim_shrink.specs.Choices.{kept_by}
use Rattle.sim_shrink.specs.Passing.{StillFails}
use Rattle.sim_shrink.proofs.Kept.{kept_short}

module _ {State Msg : Type 0} (r : Rules State Msg) where
  -- what happens is no more than what is given
  pub happening_short : (w : World State Msg) (es : List Event) → length (happening r w es) ≤ length es
  happening_short w [] = omega arith
  happening_short w (e ∷ es) = go (next r w e) (λ v. happening_short v es)
    where
      go : (o : Option (World State Msg)) → ((v : World State Msg) → length (happening r v es) ≤ length es)
          → length {A = Event} (elim o [ None ↦ happening r w es | Some v ↦ e ∷ happening r v es ]) ≤ length (e ∷ es)
      go None short = let h = short w in omega (arith, h)
      go (Some v) short = let h = short v in omega (arith, h)

  take_none : (w : World State Msg) (p : ℕ) → happening r w (take p []) ≡ take p []
  take_none w zero = refl
  take_none w (suc p) = refl

  -- the beginning of what happens can all happen
  pub happening_cut : (w : World State Msg) (es : List Event) (p : ℕ) → happening r w (take p (happening r w es)) ≡ take p (happening r w es)
  happening_cut w [] p = take_none w p
  happening_cut w (e ∷ es) p = go (next r w e) refl p (λ v q. happening_cut v es q)
    where
      go : (o : Option (World State Msg)) → next r w e ≡ o → (q : ℕ) → ((v : World State Msg) (n : ℕ) → happening r v (take n (happening r v es)) ≡ take n (happening r v es))
          → happening r w (take q (elim o [ None ↦ happening r w es | Some v ↦ e ∷ happening r v es ])) ≡ take q (elim o [ None ↦ happening r w es | Some v ↦ e ∷ happening r v es ])
      go None is q later = later w q
      go (Some v) is zero later = refl
      go (Some v) is (suc q) later = happening_on r w v e (take q (happening r v es)) is ∙ ap (λ (xs : List Event). e ∷ xs) (later v q)

module _ {State Msg : Type 0} (r : Rules State Msg) (c : Cond) where
  same_places : (es : List Event) (p j : ℕ) → j ≤ p → fails_at r c (take p es) j ≡ fails_at r c es j
  same_places es p j le = ap (λ (xs : List Event). fails_of r c (run r xs)) (take-take j p es le)

  pub long_as : (es : List Event) (p : ℕ) → first_failing r c es 0 (length es) ≡ Some p → length (take p es) ≡ p
  long_as es p e = length-take-le p es (least_tells (fails_at r c es) 0 (length es) p e).to

  -- a run that is cut at its first failing place fails at its end
  pub first_cut : (es : List Event) (p : ℕ) → first_failing r c es 0 (length es) ≡ Some p
      → first_failing r c (take p es) 0 (length (take p es)) ≡ Some (length (take p es))
  first_cut es p e =
      let h = least_tells (fails_at r c es) 0 (length es) p e in
      let n : length (take p es) ≡ p = long_as es p e in
      let here : fails_at r c (take p es) p ≡ true = same_places es p p (omega arith) ∙ h.passes in
      least_is (fails_at r c (take p es)) 0 (length (take p es)) (length (take p es)) (omega arith) (omega arith)
      (ap (fails_at r c (take p es)) n ∙ here)
      (λ j a b. same_places es p j (omega (arith, n, b)) ∙ h.before j a (omega (arith, n, b)))

  -- such a run makes itself
  run_same : (es whole : List Event) → IsFailingRun r c es whole → run_by r whole ≡ whole
  run_same es whole h =
      subst (λ (xs : List Event). run_by r xs ≡ xs) (sym h.cut) (happening_cut r (start r) es h.place)

  pub ends_of : (es whole : List Event) → IsFailingRun r c es whole → first_failing r c whole 0 (length whole) ≡ Some (length whole)
  ends_of es whole h =
      subst (λ (xs : List Event). first_failing r c xs 0 (length xs) ≡ Some (length xs)) (sym h.cut) (first_cut (run_by r es) h.place h.first)

  -- and so the condition fails still where all its faults stay
  pub fails_still : (es whole : List Event) (choice : List Bool) → IsFailingRun r c es whole → kept_by choice whole ≡ whole → StillFails r c whole choice
  fails_still es whole choice h all =
      let is : failing r c (kept_by choice whole) ≡ Some (length whole) =
      ap (failing r c) all ∙ ap (λ (xs : List Event). first_failing r c xs 0 (length xs)) (run_same es whole h) ∙ ends_of es whole h in
      subst IsSome (sym is) refl

  -- it is no longer than the events
  pub run_short : (es whole : List Event) → IsFailingRun r c es whole → length whole ≤ length es
  run_short es whole h =
      let a : length whole ≡ length (take h.place (run_by r es)) = ap length h.cut in
      let b : length (take h.place (run_by r es)) ≡ min h.place (length (run_by r es)) = length-take h.place (run_by r es) in
      let d : length (run_by r es) ≤ length es = happening_short r (start r) es in
      omega (arith, a, b, d)

  -- what is left at last
  pub shrunk_is : (es whole run : List Event) (choice : List Bool) → IsFailingRun r c es whole → IsFailingRun r c (kept_by choice whole) run → IsMinimal r c whole choice
      → IsShrunk r c es run
  shrunk_is es whole run choice given left minimal =
      let a : length run ≤ length (kept_by choice whole) = run_short (kept_by choice whole) run left in
      let b : length (kept_by choice whole) ≤ length whole = kept_short choice whole in record {
        whole = whole;
        given = given;
        choice = choice;
        left = left;
        minimal = minimal;
        shorter = omega (arith, a, b);
        ends = ends_of (kept_by choice whole) run left;
      }

  -- there is such a run, since the condition fails
  pub none_fails : (es : List Event) (choice : List Bool) (A : Type 0) → StillFails r c es choice → failing r c (kept_by choice es) ≡ None → A
  none_fails es choice A h none = absurd (no_some (failing r c (kept_by choice es)) none h)
    where
      no_some : (o : Option ℕ) → o ≡ None → IsSome o → ⊥
      no_some None e s = absurd cc
      no_some (Some n) e s = absurd cc

-- a fact of one case is that of another with the same scenario, condition and events
pub moved : (fact : Scenario → Cond → List Event → Type 0) (s t : Scenario) (c d : Cond) (es fs : List Event) → s ≡ t → c ≡ d → es ≡ fs → fact s c es → fact t d fs
moved fact s t c d es fs a b e h =
    subst (fact t d) e (subst (λ (x : Cond). fact t x es) b (subst (λ (x : Scenario). fact x c es) a h))

-- what follows for an answer, if there is one
pub answer_then : {V E : Type 0} (o : Result (Option V) E) (A B : Type 0) (P Q : V → Type 0) → (A → B) → ((v : V) → P v → Q v)
    → IfOk o (λ (found : Option V). MatchOption found A P) → IfOk o (λ (found : Option V). MatchOption found B Q)
answer_then (Ok None) A B P Q f g h = f h
answer_then (Ok (Some v)) A B P Q f g h = g v h
answer_then (Err e) A B P Q f g h = h
