-- Lemmas on a tape of no events.
use Rattle.std.proofs.Common.{◌≡◌, ℕ, ◌+◌, ◌<◌, true, List, [], ◌∷◌, length, refl, sym, ap, subst, ◌∙◌, Some, arith, ◌*◌}
use Rattle.std.specs.Prelude.{slice_get}
use Rattle.std.proofs.lemmas.Option.{slice_get_within}
use Rattle.std.proofs.Math.Nat.{zero-div, zero-mul}
use Rattle.sim_node.specs.Node.{NodeLaws, NodeRecords}
use Rattle.sim_events.specs.Scenario.{Scenario}
use Rattle.sim_world.specs.Records.{EventRecord as Kept, InHand}
use Rattle.sim_world.specs.Events.{Rules, rules, start}
use Rattle.sim_events.specs.Limits.{IsScenario}
use Rattle.sim_history.specs.Entry.{Entry}
use Rattle.sim_history.specs.Log.{LogView}
use Rattle.sim_moves.specs.Places.{IsAt}
use Rattle.sim_moves.specs.Walk.{IsRun}
use Rattle.sim_moves.proofs.Placing.{some_same, no_records}
use Rattle.sim_tape.specs.Places.{AreCheckpoints}
use Rattle.sim_tape.proofs.Turning.{Inside}

module _ {State Msg : Type 0} (r : Rules State Msg) where
  -- the world in hand at the start
  abbrev pub first_world : InHand State Msg
  first_world = record { world = start r; scenario = r.scenario; age = 0 }

  at-start : IsAt r [] 0 first_world
  at-start = record { here = refl; scenario = refl; age = refl }

  run-none : IsScenario r.scenario → IsRun r []
  run-none limits = record {
    limits = limits;
    few = omega arith;
    runs = refl;
    clocks = record {
      clock = λ i e at.
          let nil : List Entry = [] in
          let h = slice_get_within nil i e at in
          absurd (omega (arith, h));
      small = λ i e at.
          let nil : List Entry = [] in
          let h = slice_get_within nil i e at in
          absurd (omega (arith, h));
    };
  }

  checkpoints-none : AreCheckpoints r [] (first_world ∷ [])
  checkpoints-none =
      let k : ℕ = r.scenario.interval in
      record {
        count = ap (λ (q : ℕ). q + 1) (sym (zero-div k));
        worlds = λ i c at.
            let one : List (InHand State Msg) = first_world ∷ [] in
            let inside : i < length one = slice_get_within one i c at in
            let none : 0 ≡ i = omega (arith, inside) in
            let P : ℕ → Type 0 = λ j. slice_get one j ≡ Some c in
            let same : first_world ≡ c = some_same (slice_get one 0) first_world c refl (subst P (sym none) at) in
            let place : 0 ≡ i * k = sym (zero-mul k) ∙ ap (λ (j : ℕ). j * k) none in
            subst (λ (p : ℕ). IsAt r [] p c) place (subst (IsAt r [] 0) same at-start);
      }

module _ {State Msg Undo : Type 0} (told : State → ℕ) (records : NodeRecords State Undo) (laws : NodeLaws State Msg) (probes : ℕ) where
  -- a warm tape of no events, with one checkpoint
  inside-none : (s : Scenario) → IsScenario s → Inside told records laws probes s [] (first_world (rules laws probes s) ∷ []) 0 (Some (first_world (rules laws probes s))) []
  inside-none s limits =
      let r = rules laws probes s in
      record {
        run = run-none r limits;
        checkpoints = checkpoints-none r;
        walk = record { within = omega arith; here = at-start r; answers = no_records told records r [] 0 };
      }

  pub opened_inside : (s : Scenario) (log : LogView) (cs : List (InHand State Msg)) (w : InHand State Msg) (us : List (Kept State Msg Undo)) → IsScenario s
      → log ≡ record { scenario = s; entries = []; room = true } → w ≡ first_world (rules laws probes s) → cs ≡ w ∷ [] → us ≡ []
      → Inside told records laws probes log.scenario log.entries cs 0 (Some w) us
  opened_inside s log cs w us limits opened is_first one none =
      let first = first_world (rules laws probes s) in
      subst (λ (l : LogView). Inside told records laws probes l.scenario l.entries cs 0 (Some w) us) (sym opened)
      (subst (λ (xs : List (InHand State Msg)). Inside told records laws probes s [] xs 0 (Some w) us) (sym one)
      (subst (λ (v : InHand State Msg). Inside told records laws probes s [] (v ∷ []) 0 (Some v) us) (sym is_first)
      (subst (λ (xs : List (Kept State Msg Undo)). Inside told records laws probes s [] (first ∷ []) 0 (Some first) xs) (sym none) (inside-none s limits))))
