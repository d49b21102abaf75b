-- What a hunt finds is its answer by the definitions.
use Rattle.std.proofs.Common.{◌≡◌, ◌∙◌, ◌<◌, ℕ, zero, suc, Bool, true, false, not, cond, ◌&&◌, List, [], ◌∷◌, length, arith, Option, Some, None, refl, ap, sym, subst, Result, Ok, Err, IfOk}
use Rattle.std.specs.Prelude.{IfErr, OnOk}
use Rattle.std.specs.Str.Lines.{lines}
use Rattle.sim_node.specs.Node.{NodeLaws}
use Rattle.sim_events.specs.declared.Event.{Event}
use Rattle.sim_events.specs.Scenario.{Scenario}
use Rattle.sim_world.specs.Events.{Rules, rules}
use Rattle.sim_watch.specs.Condition.{Cond}
use Rattle.sim_search.specs.declared.SearchFault.{SearchFault}
use Rattle.sim_search.specs.declared.SearchFault.TheVariants as fault
use Rattle.sim_search.specs.Faults.{reason}
use Rattle.sim_script.specs.Script.{Text, Names, words}
use Rattle.sim_script.specs.Conditions.{condition}
use Rattle.sim_cli.specs.Play.{Nodes}
use Rattle.sim_hunt.specs.declared.answer.Answer.{Answer}
use Rattle.sim_hunt.specs.declared.answer.Answer.TheVariants.{BadRange, BadCondition, BadScript}
use Rattle.sim_hunt.specs.declared.hunting.Area.{Area}
use Rattle.sim_hunt.specs.declared.hunting.Area.TheVariants.{Places, Planned}
use Rattle.sim_hunt.specs.declared.hunting.PlannedRuns.{PlannedRuns}
use Rattle.sim_cli.specs.declared.status.Status.{Status}
use Rattle.sim_cli.specs.Turns.{beginning}
use Rattle.sim_cli.specs.Strict.{are_well}
use Rattle.sim_cli.proofs.Judging.{not_all_well}
use Rattle.sim_cli.specs.declared.stop.ScriptStop.{ScriptStop}
use Rattle.sim_cli.specs.declared.stop.ScriptStop.TheVariants as stops
use Rattle.sim_cli.specs.Statuses.{Stops}
use Rattle.sim_cli.specs.Following.{StopsScript}
use Rattle.sim_scenario.specs.Scenario.{Protocol}
use Rattle.sim_hunt.specs.Answers.{Tells}
use Rattle.sim_cli.specs.Played.{IsFault, IsWellIf, first_events, given_events}
use Rattle.sim_hunt.specs.Hunts.{Has, Serves, StopIs, answer_by, if_well, planned_answer, search_answer, found_on, found_for, hunt_answer}

-- a result that is passed on
pub passed_on : {A E F : Type 0} (P : A → Type 0) (r : Result A E) (t : Result A F) → IfOk r P → IfOk t (λ a. r ≡ Ok a) → IfOk t P
passed_on P r (Ok a) p is = subst (λ x. IfOk x P) is p
passed_on P r (Err e) p is = is

-- the answer of a fault, by the reason that was told
by_range : (f : Option SearchFault) (found : Answer) → fault.BadRange ≡ reason f → BadRange ≡ answer_by f found
by_range None found e = absurd (let x : fault.BadRange ≡ fault.NoMemory = e in cc)
by_range (Some fault.BadRange) found e = refl
by_range (Some fault.BadCondition) found e = absurd (let x : fault.BadRange ≡ fault.BadCondition = e in cc)
by_range (Some fault.NoMemory) found e = absurd (let x : fault.BadRange ≡ fault.NoMemory = e in cc)

by_condition : (f : Option SearchFault) (found : Answer) → fault.BadCondition ≡ reason f → BadCondition ≡ answer_by f found
by_condition None found e = absurd (let x : fault.BadCondition ≡ fault.NoMemory = e in cc)
by_condition (Some fault.BadRange) found e = absurd (let x : fault.BadCondition ≡ fault.BadRange = e in cc)
by_condition (Some fault.BadCondition) found e = refl
by_condition (Some fault.NoMemory) found e = absurd (let x : fault.BadCondition ≡ fault.NoMemory = e in cc)

-- the answer of a search or a sweep, by its fault or by what it found
pub told_by : {A E : Type 0} (tell : A → Answer) (r : Result A SearchFault) (t : Result Answer E) (f : Option SearchFault) (found : A)
    → IfOk r (λ s. s ≡ found) → OnOk r (f ≡ None) → IfErr r (λ why. why ≡ reason f) → IfOk t (Tells tell r) → IfOk t (λ a. a ≡ answer_by f (tell found))
told_by tell r (Err e) f found is none why tells = tt
told_by tell (Ok s) (Ok a) f found is none why tells = tells ∙ (ap tell is ∙ sym (ap (λ (x : Option SearchFault). answer_by x (tell found)) none))
told_by tell (Err fault.BadRange) (Ok a) f found is none why tells = tells ∙ by_range f (tell found) why
told_by tell (Err fault.BadCondition) (Ok a) f found is none why tells = tells ∙ by_condition f (tell found) why
told_by tell (Err fault.NoMemory) (Ok a) f found is none why tells = absurd tells

-- where all lines are well, or that is not asked, what was found is told
not_ill : (strict well : Bool) → (strict ≡ true → well ≡ true) → (strict && not well) ≡ false
not_ill true well h = ap not (h refl)
not_ill false well h = refl

ill : (strict well : Bool) → strict ≡ true → well ≡ false → (strict && not well) ≡ true
ill strict well s w = ap (λ (b : Bool). b && not well) s ∙ ap not w

module _ {State Msg : Type 0} (r : Rules State Msg) (names : Names) (script : Text) (strict : Bool) (found : Answer) where
  well_found : IsWellIf r strict names script → if_well r strict names script found ≡ found
  well_found h = ap (λ (b : Bool). cond b BadScript found) (not_ill strict (are_well r names beginning (lines script)) h)

  -- and where a line is at fault, that is told
  not_found : (stop : ScriptStop) (t : Result Answer Status) → IsFault r strict names script stop → StopIs stop t → IfOk t (λ a. a ≡ if_well r strict names script found)
  not_found (stops.Ended ended) t h is = subst (λ (x : Result Answer Status). IfOk x (λ a. a ≡ if_well r strict names script found)) (sym is) tt
  not_found (stops.Fault fault) t h is =
      subst (λ (x : Result Answer Status). IfOk x (λ a. a ≡ if_well r strict names script found)) (sym is)
      (sym (ap (λ (b : Bool). cond b BadScript found) (ill strict (are_well r names beginning (lines script)) h.0 (not_all_well r names beginning (lines script) fault h.1))))

-- the status of such a script
pub stop_status : (stop : ScriptStop) (t : Result Answer Status) → StopsScript stop → StopIs stop t → IfErr t Stops
stop_status (stops.Ended ended) t h is = subst (λ (x : Result Answer Status). IfErr x Stops) (sym is) h
stop_status (stops.Fault fault) t h is = subst (λ (x : Result Answer Status). IfErr x Stops) (sym is) tt

module _ {State Msg : Type 0} (L : NodeLaws State Msg) (K : ℕ) (script : Text) where
  -- a search in the run that the script leaves
  pub found_places : {E F : Type 0} (names : Names) (r : Result Answer E) (t : Result Answer F) (s q : Scenario) (c : Cond) (events : List Event) (lo hi : ℕ) (strict : Bool) (o : Area)
      → o ≡ Places lo hi strict → s ≡ q → events ≡ first_events (rules L K q) names script → IsWellIf (rules L K q) strict names script
      → IfOk r (λ a. a ≡ search_answer (rules L K s) c events lo hi) → IfOk t (λ a. r ≡ Ok a) → IfOk t (λ a. a ≡ found_on (rules L K q) names o script c)
  found_places names r t s q c events lo hi strict o places same left well is passed =
      subst (λ (g : Area). IfOk t (λ a. a ≡ found_on (rules L K q) names g script c)) (sym places)
      (subst (λ (x : Answer). IfOk t (λ a. a ≡ x)) (sym (well_found (rules L K q) names script strict (search_answer (rules L K q) c (first_events (rules L K q) names script) lo hi) well))
      (subst (λ (es : List Event). IfOk t (λ a. a ≡ search_answer (rules L K q) c es lo hi)) left
      (subst (λ (x : Scenario). IfOk t (λ a. a ≡ search_answer (rules L K x) c events lo hi)) same
      (passed_on (λ a. a ≡ search_answer (rules L K s) c events lo hi) r t is passed))))

  -- a sweep over planned runs
  pub found_planned : {E F : Type 0} (names : Names) (r : Result Answer E) (t : Result Answer F) (q : Scenario) (c : Cond) (events : List Event) (runs : PlannedRuns) (o : Area)
      → o ≡ Planned runs → events ≡ given_events (rules L K q) runs.script names script → IsWellIf (rules L K q) (runs.script && runs.strict) names script
      → IfOk r (λ a. a ≡ planned_answer (rules L K q) c events runs) → IfOk t (λ a. r ≡ Ok a) → IfOk t (λ a. a ≡ found_on (rules L K q) names o script c)
  found_planned names r t q c events runs o planned left well is passed =
      subst (λ (g : Area). IfOk t (λ a. a ≡ found_on (rules L K q) names g script c)) (sym planned)
      (subst (λ (x : Answer). IfOk t (λ a. a ≡ x))
      (sym (well_found (rules L K q) names script (runs.script && runs.strict) (planned_answer (rules L K q) c (given_events (rules L K q) runs.script names script) runs) well))
      (subst (λ (es : List Event). IfOk t (λ a. a ≡ planned_answer (rules L K q) c es runs)) left
      (passed_on (λ a. a ≡ planned_answer (rules L K q) c events runs) r t is passed)))

  -- a script that was not carried out to its end
  pub found_places_not : (names : Names) (stop : ScriptStop) (t : Result Answer Status) (q : Scenario) (c : Cond) (lo hi : ℕ) (strict : Bool) (o : Area)
      → o ≡ Places lo hi strict → IsFault (rules L K q) strict names script stop → StopIs stop t → IfOk t (λ a. a ≡ found_on (rules L K q) names o script c)
  found_places_not names stop t q c lo hi strict o places fault is =
      subst (λ (g : Area). IfOk t (λ a. a ≡ found_on (rules L K q) names g script c)) (sym places)
      (not_found (rules L K q) names script strict (search_answer (rules L K q) c (first_events (rules L K q) names script) lo hi) stop t fault is)

  pub found_planned_not : (names : Names) (stop : ScriptStop) (t : Result Answer Status) (q : Scenario) (c : Cond) (runs : PlannedRuns) (o : Area)
      → o ≡ Planned runs → IsFault (rules L K q) (runs.script && runs.strict) names script stop → StopIs stop t → IfOk t (λ a. a ≡ found_on (rules L K q) names o script c)
  found_planned_not names stop t q c runs o planned fault is =
      subst (λ (g : Area). IfOk t (λ a. a ≡ found_on (rules L K q) names g script c)) (sym planned)
      (not_found (rules L K q) names script (runs.script && runs.strict) (planned_answer (rules L K q) c (given_events (rules L K q) runs.script names script) runs) stop t fault is)

module _ {State Msg : Type 0} (r : Rules State Msg) (names : Names) (script : Text) (o : Area) where
  -- by the words of a condition
  pub found_words : {F : Type 0} (t : Result Answer F) (c : Cond) (given word : Text) → given ≡ word → Some c ≡ condition names (words given)
      → IfOk t (λ a. a ≡ found_on r names o script c) → IfOk t (λ a. a ≡ hunt_answer r names o word script)
  found_words t c given word text read is =
      subst (λ (w : Text). IfOk t (λ a. a ≡ found_for r names o script (condition names (words w)))) text
      (subst (λ (x : Option Cond). IfOk t (λ a. a ≡ found_for r names o script x)) read is)

  -- by words that are none
  pub no_words : (given word : Text) → given ≡ word → None ≡ condition names (words given) → BadCondition ≡ hunt_answer r names o word script
  no_words given word text read =
      subst (λ (w : Text). BadCondition ≡ found_for r names o script (condition names (words w))) text
      (subst (λ (x : Option Cond). BadCondition ≡ found_for r names o script x) read refl)

-- a list that is longer than a number has that place
has_place : (protocols : List Protocol) (k : ℕ) → k < length protocols → Has k protocols
has_place [] k less = absurd (omega (arith, less))
has_place (p ∷ ps) zero less = tt
has_place (p ∷ ps) (suc k) less = has_place ps k (omega (arith, less))

module _ (script : Text) (o : Area) where
  -- over nodes that serve, whether the words are a condition or not
  served : {State Msg : Type 0} (nodes : Scenario → Nodes) (node : NodeLaws State Msg) (probes : ℕ) (s : Scenario) (names : Names) (c : Option Cond) → Serves nodes node probes
      → found_for (rules node probes s) names o script c ≡ found_for (nodes s).rules names o script c
  served nodes node probes s names None serves = refl
  served nodes node probes s names (Some c) serves = sym (serves s names o script c)

  -- over the nodes at a place of a list
  pub found_at : {State Msg F : Type 0} (nodes : ℕ → Scenario → Nodes) (node : NodeLaws State Msg) (probes k place : ℕ)
      (protocols : List Protocol) (t : Result Answer F) (s : Scenario) (names : Names) (word : Text) → place ≡ k → place < length protocols
      → (Has k protocols → Serves (nodes k) node probes)
      → IfOk t (λ a. a ≡ hunt_answer (rules node probes s) names o word script)
      → IfOk t (λ a. a ≡ hunt_answer (nodes place s).rules names o word script)
  found_at nodes node probes k place protocols t s names word same known serves is =
      let has = has_place protocols k (subst (λ (x : ℕ). x < length protocols) same known) in
      subst (λ (x : ℕ). IfOk t (λ a. a ≡ hunt_answer (nodes x s).rules names o word script)) (sym same)
      (subst (λ (x : Answer). IfOk t (λ a. a ≡ x)) (served (nodes k) node probes s names (condition names (words word)) (serves has)) is)
