-- What was written is what a hunt's status says.
use Rattle.std.proofs.Common.{◌≡◌, ℕ, List, [], ◌++◌, codes, Option, sym, ap, subst, ◌∙◌, refl, inl, inr, Result, Ok}
use Rattle.std.specs.Prelude.{⊤}
use Rattle.sim_lines.specs.Cut.{head_of}
use Rattle.sim_lines.specs.Waiting.{Waiting}
use Rattle.sim_lines.proofs.Known.{Appends-none}
use Rattle.sim_scenario.specs.Scenario.{Protocol, ScenarioText, Fault}
use Rattle.sim_script.specs.Script.{Text, Names}
use Rattle.sim_events.specs.Scenario.{Scenario}
use Rattle.sim_cli.specs.declared.status.Status.{Status}
use Rattle.sim_cli.specs.declared.status.Status.TheVariants.{Well, BadScenario, BadRequest, ReaderFailed, WriterFailed, MemoryWanted}
use Rattle.sim_cli.specs.Answers.{Faults}
use Rattle.sim_cli.specs.Lines.{fault_line}
use Rattle.sim_cli.specs.Play.{Nodes, Ended, names_of, read_scenario, scenario}
use Rattle.sim_cli.specs.declared.opened.Opened.{Opened}
use Rattle.sim_cli.specs.Opens.{HeadIs, IsNotOpened, IsOpened}
use Rattle.sim_cli.specs.Subjects.{nodes_by}
use Rattle.sim_cli.proofs.Whole.{whole_cut}
use Rattle.sim_hunt.specs.declared.answer.Answer.{Answer}
use Rattle.sim_hunt.specs.declared.answer.Answer.TheVariants as answer
use Rattle.sim_hunt.specs.declared.answer.Form.{Form}
use Rattle.sim_hunt.specs.declared.hunting.Area.{Area}
use Rattle.sim_hunt.specs.Answers.{answer_line, answer_text, status_of}
use Rattle.sim_cli.specs.Statuses.{Stops}
use Rattle.sim_hunt.specs.Hunts.{hunt_answer}
use Rattle.sim_hunt.specs.Outcomes.{Outcome, EndsBy, WritesOutcome, WritesAnswer, Hunted, answered, faulty, outcome, outcome_of}

-- a status after a line that was written
HasLine : Status → Type 0
HasLine Well = ⊤
HasLine BadScenario = ⊤
HasLine BadRequest = ⊤
HasLine ReaderFailed = ⊥
HasLine WriterFailed = ⊥
HasLine MemoryWanted = ⊥

answered_has_line : (a : Answer) → HasLine (status_of a)
unfolding HasLine
answered_has_line (answer.Place p) = tt
answered_has_line (answer.Seed i p) = tt
answered_has_line answer.Nowhere = tt
answered_has_line answer.BadRange = tt
answered_has_line answer.BadCondition = tt
answered_has_line answer.BadScript = tt

ends_line : (o : Outcome) (ended : Status) → ended ≡ o.status → HasLine ended → EndsBy o ended o.line
unfolding HasLine
ends_line o Well e h = (sym e, refl)
ends_line o BadScenario e h = (sym e, refl)
ends_line o BadRequest e h = (sym e, refl)
ends_line o ReaderFailed e h = absurd h
ends_line o WriterFailed e h = absurd h
ends_line o MemoryWanted e h = absurd h

ends_empty : (o : Outcome) (ended : Status) → Stops ended → EndsBy o ended []
ends_empty o Well s = absurd s
ends_empty o BadScenario s = absurd s
ends_empty o BadRequest s = absurd s
ends_empty o ReaderFailed s = refl
ends_empty o WriterFailed s = absurd s
ends_empty o MemoryWanted s = refl

-- the line of an answer is its text
pub line_is : (form : Form) (a : Answer) → (a ≡ answer.BadScript → ⊥) → answer_text form a ++ codes "\n" ≡ answer_line form a
line_is form (answer.Place p) other = refl
line_is form (answer.Seed i p) other = refl
line_is form answer.Nowhere other = refl
line_is form answer.BadRange other = refl
line_is form answer.BadCondition other = refl
line_is form answer.BadScript other = absurd (other refl)

-- nothing was written
pub nothing : (o : Outcome) (ended : Status) (held : Option Text) → Stops ended → Ended held held (EndsBy o ended)
nothing o ended held s = record { written = []; appended = Appends-none held; is = ends_empty o ended s }

-- a line was written, or a part of it
line_told : (o : Outcome) (ended : Status) (held holds : Option Text) → HasLine o.status → WritesOutcome held holds o ended → Ended held holds (EndsBy o ended)
line_told o ended held holds h w = elim w [
  | inl a ↦ record { written = o.line; appended = a.1; is = ends_line o ended a.0 (subst HasLine (sym a.0) h) }
  | inr a ↦ record {
    written = a.1.0;
    appended = a.1.3;
    is = subst (λ (s : Status). EndsBy o s a.1.0) (sym a.0) (a.1.1, a.1.2);
  }
]

-- the same text and status
pub same_outcome : (o : Outcome) (status ended : Status) (line : Text) (held holds : Option Text) → status ≡ o.status → line ≡ o.line
    → WritesOutcome held holds (record { status = status; line = line }) ended → WritesOutcome held holds o ended
same_outcome o status ended line held holds a b w =
    subst (λ (s : Status). WritesOutcome held holds (record { status = s; line = o.line }) ended) a
    (subst (λ (l : Text). WritesOutcome held holds (record { status = status; line = l }) ended) b w)

pub told_answer : (o : Outcome) (form : Form) (a : Answer) (ended : Status) (held holds : Option Text) → o ≡ answered form a → WritesAnswer held holds form a ended
    → Ended held holds (EndsBy o ended)
told_answer o form a ended held holds same w =
    subst (λ (x : Outcome). Ended held holds (EndsBy x ended)) (sym same)
    (elim w [
      | inl x ↦ line_told (answered form a) ended held holds (answered_has_line a) x
      | inr x ↦ record { written = []; appended = x.1; is = subst (λ (s : Status). EndsBy (answered form a) s []) (sym x.0) refl }
    ])

pub told_fault : (o : Outcome) (fault : Fault) (line : Text) (ended : Status) (held holds : Option Text) → o ≡ faulty fault → line ≡ fault_line fault
    → WritesOutcome held holds (record { status = BadScenario; line = line }) ended → Ended held holds (EndsBy o ended)
unfolding HasLine
told_fault o fault line ended held holds same told w =
    subst (λ (x : Outcome). Ended held holds (EndsBy x ended)) (sym same)
    (line_told (faulty fault) ended held holds tt (same_outcome (faulty fault) BadScenario ended line held holds refl told w))

module _ (protocols : List Protocol) (nodes_of : ScenarioText → Nodes) where
  module _ (form : Form) (area : Area) (cond : Text) where
    -- the outcome of a scenario that was read, and of a bad one
    pub outcome_read : (given text : Text) (new : Option Text) (s : ScenarioText) (h : HeadIs given new text) → read_scenario protocols text ≡ Ok s
        → outcome protocols nodes_of form area cond given ≡ answered form (hunt_answer (nodes_of s).rules (names_of nodes_of s) area cond h.script)
    outcome_read given text new s h e =
        ap (λ (p : Text × Text). outcome_of protocols nodes_of form area cond (read_scenario protocols p.0) p.1) (whole_cut given text new h)
        ∙ ap (λ (r : Result ScenarioText Fault). outcome_of protocols nodes_of form area cond r h.script) e

    outcome_fault : (given line : Text) (f : Faults protocols (head_of given).0 line) → outcome protocols nodes_of form area cond given ≡ faulty f.fault
    outcome_fault given line f = ap (λ (r : Result ScenarioText Fault). outcome_of protocols nodes_of form area cond r (head_of given).1) f.read

    bad_told : (given : Text) (held holds : Option Text) (line : Text) (f : Faults protocols (head_of given).0 line) (ended : Status)
        → WritesOutcome held holds (record { status = BadScenario; line = line }) ended → Ended held holds (Hunted protocols nodes_of form area cond given ended)
    bad_told given held holds line f ended w =
        told_fault (outcome protocols nodes_of form area cond given) f.fault line ended held holds (outcome_fault given line f) f.told w

    -- there is no scenario
    pub not_opened : (given : Text) (ahead : Waiting) (left held holds : Option Text) (ended : Status) → IsNotOpened protocols given ahead left held holds ended
        → Ended held holds (Hunted protocols nodes_of form area cond given ended)
    not_opened given ahead left held holds Well n = absurd n
    not_opened given ahead left held holds BadScenario n = bad_told given held holds n.0.line n.0.fault BadScenario (inl (refl, n.0.written))
    not_opened given ahead left held holds BadRequest n = absurd n
    not_opened given ahead left held holds ReaderFailed n =
        subst (λ (h : Option Text). Ended held h (Hunted protocols nodes_of form area cond given ReaderFailed)) (sym n.2) (nothing (outcome protocols nodes_of form area cond given) ReaderFailed held tt)
    not_opened given ahead left held holds WriterFailed n = bad_told given held holds n.line n.fault WriterFailed (inr (refl, n.written))
    not_opened given ahead left held holds MemoryWanted n =
        subst (λ (h : Option Text). Ended held h (Hunted protocols nodes_of form area cond given MemoryWanted)) (sym n) (nothing (outcome protocols nodes_of form area cond given) MemoryWanted held tt)

module _ (protocols : List Protocol) (nodes : ℕ → Scenario → Nodes) (form : Form) (area : Area) (cond : Text) where
  -- the answer of a hunt over the nodes of a scenario that was read
  pub opened_answer : (given : Text) (left : Option Text) (opened : Opened) (o : IsOpened protocols (nodes_by nodes) given left opened)
      → outcome protocols (nodes_by nodes) form area cond given ≡ answered form (hunt_answer (nodes opened.protocol opened.scenario).rules opened.names area cond o.head.script)
  opened_answer given left opened o =
      let s = o.said in
      let script = o.head.script in
      let same : hunt_answer (nodes opened.protocol opened.scenario).rules opened.names area cond script
      ≡ hunt_answer (nodes s.protocol (scenario s)).rules (names_of (nodes_by nodes) s) area cond script =
      ap (λ (k : ℕ). hunt_answer (nodes k opened.scenario).rules opened.names area cond script) o.protocol
      ∙ ap (λ (x : Scenario). hunt_answer (nodes s.protocol x).rules opened.names area cond script) o.scenario
      ∙ ap (λ (n : Names). hunt_answer (nodes s.protocol (scenario s)).rules n area cond script) o.names in
      outcome_read protocols (nodes_by nodes) form area cond given o.text _ s o.head o.read ∙ ap (answered form) (sym same)
