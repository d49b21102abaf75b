-- A walk along a planned run goes on, and stops.
use Rattle.std.proofs.Common.{◌≡◌, ◌⊎◌, ℕ, ◌+◌, ◌-◌, ◌<◌, ◌≤◌, true, false, not, Bool, List, [], ◌∷◌, Option, Some, None, length, drop, get_or, refl, sym, ap, ◌∙◌, subst, arith, inl, inr}
use Rattle.std.specs.Prelude.{if◌then◌else◌}
use Rattle.std.specs.Option.{unwrap_or}
use Rattle.std.proofs.lemmas.List.{length-drop, drop_more}
use Rattle.sim_node.specs.Node.{NodeLaws}
use Rattle.sim_node.specs.Work.{Work}
use Rattle.sim_events.specs.declared.Event.{Event}
use Rattle.sim_events.specs.declared.Event.TheVariants as event
use Rattle.sim_events.specs.Scenario.{Scenario}
use Rattle.sim_world.specs.Records.{InHand}
use Rattle.sim_world.specs.Events.{Rules, rules, start, next}
use Rattle.sim_moves.specs.Works.{OnlyTurns}
use Rattle.sim_moves.proofs.Placing.{at-next}
use Rattle.sim_watch.specs.Condition.{Cond, holds}
use Rattle.sim_scan.specs.Search.{fails_at, first_failing}
use Rattle.sim_scan.proofs.Scans.{at_start, fails_here, found_is, found_none, turns_within}
use Rattle.sim_plan.specs.Happening.{happening}
use Rattle.sim_plan.proofs.Runs.{happening_on, happening_off}
use Rattle.sim_sweep.specs.Planned.{failing_of_run}
use Rattle.sim_sweep.specs.Walking.{IsWalking}

module _ {State Msg : Type 0} (node : NodeLaws State Msg) (probes : ℕ) (c : Cond) (s : Scenario) (at_end : Bool) where
  abbrev the_rules : Rules State Msg
  the_rules = rules node probes s

  walking_none : (all : List Event) (w : InHand State Msg) → w ≡ record { world = start the_rules; scenario = s; age = 0 }
      → IsWalking the_rules c at_end (happening the_rules (start the_rules) all) 0 w all
  walking_none all w is = record {
    here = at_start node probes c s (happening the_rules (start the_rules) all) w is;
    within = omega arith;
    follows = ap (λ (x : InHand State Msg). happening the_rules x.world all) (sym is);
    before = λ off j lt. absurd (omega arith);
  }

  -- the same, by its parts
  pub walking_start : (all es : List Event) (p : ℕ) (w : InHand State Msg) → w ≡ record { world = start the_rules; scenario = s; age = 0 } → p ≡ 0 → es ≡ all
      → IsWalking the_rules c at_end (happening the_rules (start the_rules) all) p w es
  walking_start all es p w is first same =
      subst (λ (n : ℕ). IsWalking the_rules c at_end (happening the_rules (start the_rules) all) n w es) (sym first)
      (subst (λ (x : List Event). IsWalking the_rules c at_end (happening the_rules (start the_rules) all) 0 w x) (sym same) (walking_none all w is))

  -- the next event of what follows
  walking_more : (run : List Event) (p : ℕ) (w v : InHand State Msg) (rest es : List Event) (e : Event) → IsWalking the_rules c at_end run p w rest → rest ≡ e ∷ es
      → next the_rules w.world e ≡ Some v.world → v.scenario ≡ w.scenario → v.age ≡ w.age + 1 → (at_end ≡ false → fails_at the_rules c run p ≡ false)
      → IsWalking the_rules c at_end run (p + 1) v es
  walking_more run p w v rest es e h is on same old fine =
      let here_follows : drop p run ≡ e ∷ happening the_rules v.world es = h.follows ∙ ap (happening the_rules w.world) is ∙ happening_on the_rules w.world v.world e es on in
      let long : length (drop p run) ≡ length (e ∷ happening the_rules v.world es) = ap length here_follows in
      let cut : length (drop p run) ≡ length run - p = length-drop p run in
      let lt : p < length run = omega (arith, long, cut) in
      let both : get_or run p event.Step ∷ drop (p + 1) run ≡ e ∷ happening the_rules v.world es = sym (drop_more run p event.Step lt) ∙ here_follows in
      let first : get_or run p event.Step ≡ e = ap (λ (xs : List Event). get_or xs 0 event.Step) both in
      record {
        here = at-next the_rules run p event.Step w v lt h.here (ap (next the_rules w.world) first ∙ on) same old;
        within = omega (arith, lt);
        follows = ap (λ (xs : List Event). drop 1 xs) both;
        before = λ off j less. before off j less (h.before off) (fine off);
      }
    where
      before : at_end ≡ false → (j : ℕ) → j < p + 1 → ((i : ℕ) → i < p → fails_at the_rules c run i ≡ false) → fails_at the_rules c run p ≡ false → fails_at the_rules c run j ≡ false
      before off j less earlier now =
          let le : j ≤ p = omega (arith, less) in
          elim (Rattle.std.proofs.Math.Nat.eq-or-lt_of_le le) [
            | inl equal ↦ ap (fails_at the_rules c run) equal ∙ now
            | inr lower ↦ earlier j lower
          ]

  -- it can't happen
  walking_same : (run : List Event) (p : ℕ) (w : InHand State Msg) (rest es : List Event) (e : Event) → IsWalking the_rules c at_end run p w rest → rest ≡ e ∷ es
      → next the_rules w.world e ≡ None → IsWalking the_rules c at_end run p w es
  walking_same run p w rest es e h is off = record {
    here = h.here;
    within = h.within;
    follows = h.follows ∙ ap (happening the_rules w.world) is ∙ happening_off the_rules w.world e es off;
    before = h.before;
  }

  -- what the walk's world makes of the event
  pub walking_on : (run : List Event) (p q : ℕ) (w v : InHand State Msg) (rest es : List Event) (e : Event) → IsWalking the_rules c at_end run p w rest → rest ≡ e ∷ es
      → ((next (rules node probes w.scenario) w.world e ≡ Some v.world) × (v.age ≡ w.age + 1)) ⊎ ((next (rules node probes w.scenario) w.world e ≡ None) × (v ≡ w))
      → v.scenario ≡ w.scenario → q ≡ v.age → (at_end ≡ false → fails_at the_rules c run p ≡ false) → IsWalking the_rules c at_end run q v es
  walking_on run p q w v rest es e h is (inl on) same at fine =
      let next_is : next the_rules w.world e ≡ Some v.world = subst (λ (x : Scenario). next (rules node probes x) w.world e ≡ Some v.world) h.here.scenario on.0 in
      let place : p + 1 ≡ q = omega (arith, at, on.1, h.here.age) in
      subst (λ (n : ℕ). IsWalking the_rules c at_end run n v es) place (walking_more run p w v rest es e h is next_is same on.1 fine)
  walking_on run p q w v rest es e h is (inr off) same at fine =
      let none : next the_rules w.world e ≡ None = subst (λ (x : Scenario). next (rules node probes x) w.world e ≡ None) h.here.scenario off.0 in
      let place : p ≡ q = sym (at ∙ ap (λ (x : InHand State Msg). x.age) off.1 ∙ h.here.age) in
      subst (λ (n : ℕ). IsWalking the_rules c at_end run n v es) place
      (subst (λ (x : InHand State Msg). IsWalking the_rules c at_end run p x es) (sym off.1) (walking_same run p w rest es e h is none))

  -- room for the next event
  pub walking_young : (p n : ℕ) (rest es : List Event) (e : Event) → rest ≡ e ∷ es → p + length rest ≤ n → p < n
  walking_young p n rest es e is room =
      let long : length rest ≡ length (e ∷ es) = ap length is in
      omega (arith, long, room)

  -- room for what follows it, where the place rises by at most one
  pub walking_room : (p q n : ℕ) (rest es : List Event) (e : Event) → rest ≡ e ∷ es → p + length rest ≤ n → q ≤ p + 1 → q + length es ≤ n
  walking_room p q n rest es e is room most =
      let long : length rest ≡ length (e ∷ es) = ap length is in
      omega (arith, long, room, most)

  -- the place after an event
  pub walking_most : (p q : ℕ) (w v : InHand State Msg) (A B : Type 0) → (A × (v.age ≡ w.age + 1)) ⊎ (B × (v ≡ w)) → q ≡ v.age → p ≡ w.age → q ≤ p + 1
  walking_most p q w v A B (inl on) at was = omega (arith, at, was, on.1)
  walking_most p q w v A B (inr off) at was = let same = ap (λ (x : InHand State Msg). x.age) off.1 in omega (arith, at, was, same)

  pub walking_least : (p q : ℕ) (w v : InHand State Msg) (A B : Type 0) → (A × (v.age ≡ w.age + 1)) ⊎ (B × (v ≡ w)) → q ≡ v.age → p ≡ w.age → p ≤ q
  walking_least p q w v A B (inl on) at was = omega (arith, at, was, on.1)
  walking_least p q w v A B (inr off) at was = let same = ap (λ (x : InHand State Msg). x.age) off.1 in omega (arith, at, was, same)

  -- the first failing place of all
  pub found_early : (run : List Event) (p : ℕ) (w : InHand State Msg) (rest : List Event) → IsWalking the_rules c at_end run p w rest → at_end ≡ false → not (holds node c w.world) ≡ true
      → Some p ≡ failing_of_run the_rules at_end c run
  found_early run p w rest h off fails =
      found_is node probes c the_rules run 0 (length run) p (omega arith) h.within (λ j a b. h.before off j b) (fails_here node probes c s run p w h.here ∙ fails)
      ∙ ap (λ (b : Bool). first_failing the_rules c run (if b then length run else 0) (length run)) (sym off)

  -- at the end of the run
  at_the_end : (run : List Event) (p : ℕ) (w : InHand State Msg) (rest : List Event) → IsWalking the_rules c at_end run p w rest → rest ≡ [] → p ≡ length run
  at_the_end run p w rest h none =
      let nothing : drop p run ≡ [] = h.follows ∙ ap (happening the_rules w.world) none in
      let long : length (drop p run) ≡ 0 = ap length nothing in
      let cut : length (drop p run) ≡ length run - p = length-drop p run in
      omega (arith, long, cut, h.within)

  pub found_late : (run : List Event) (p : ℕ) (w : InHand State Msg) (rest : List Event) (fails : Bool) → IsWalking the_rules c at_end run p w rest → rest ≡ []
      → fails ≡ not (holds node c w.world) → (if fails then Some p else None) ≡ failing_of_run the_rules at_end c run
  found_late run p w rest fails h none truth = go at_end fails refl refl
    where
      end : p ≡ length run
      end = at_the_end run p w rest h none

      here : fails_at the_rules c run p ≡ fails
      here = fails_here node probes c s run p w h.here ∙ sym truth

      go : (b d : Bool) → at_end ≡ b → fails ≡ d → (if d then Some p else None) ≡ first_failing the_rules c run (if b then length run else 0) (length run)
      go true true last bad = found_is node probes c the_rules run (length run) (length run) p (omega (arith, end)) (omega (arith, end)) (λ j a b. absurd (omega (arith, end, a, b))) (here ∙ bad)
      go false true last bad = found_is node probes c the_rules run 0 (length run) p (omega arith) h.within (λ j a b. h.before last j b) (here ∙ bad)
      go true false last bad =
          found_none node probes c the_rules run (length run) (length run)
          (λ j a b. let same : j ≡ p = omega (arith, end, a, b) in ap (fails_at the_rules c run) same ∙ here ∙ bad)
      go false false last bad =
          found_none node probes c the_rules run 0 (length run)
          (λ j a b. elim (Rattle.std.proofs.Math.Nat.eq-or-lt_of_le (let le : j ≤ p = omega (arith, end, b) in le)) [
            | inl same ↦ ap (fails_at the_rules c run) same ∙ here ∙ bad
            | inr less ↦ h.before last j less
          ])

-- the turns up to a place, and from there on
pub turns_on : (hosts p q : ℕ) (a b d : Work) → p ≤ q → OnlyTurns (hosts + p) a b → OnlyTurns (q - p) b d → OnlyTurns (hosts + q) a d
turns_on hosts p q a b d le h on =
    let x = h.turns in
    let y = on.turns in
    record { turns = omega (arith, x, y, le); copies = on.copies ∙ h.copies; undos = on.undos ∙ h.undos }

-- the turns up to the place that is found, or up to the last
pub turns_found : (hosts p most : ℕ) (fails : Bool) (found : Option ℕ) (a b : Work) → found ≡ (if fails then Some p else None) → p ≤ most
    → OnlyTurns (hosts + p) a b → OnlyTurns (hosts + unwrap_or found most) a b
turns_found hosts p most true found a b is le h = subst (λ (o : Option ℕ). OnlyTurns (hosts + unwrap_or o most) a b) (sym is) h
turns_found hosts p most false found a b is le h =
    subst (λ (o : Option ℕ). OnlyTurns (hosts + unwrap_or o most) a b) (sym is) (turns_within (hosts + p) (hosts + most) a b (omega arith) h)

-- no turn at all, and at most one
pub turns_none : (p : ℕ) (a : Work) → OnlyTurns (p - p) a a
turns_none p a = record { turns = omega arith; copies = refl; undos = refl }

pub turns_once : (p : ℕ) (a b : Work) → OnlyTurns 1 a b → OnlyTurns (p + 1 - p) a b
turns_once p a b h = turns_within 1 (p + 1 - p) a b (omega arith) h
