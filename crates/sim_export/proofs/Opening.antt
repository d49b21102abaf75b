-- What is written once a scenario was read, or was not.
use Rattle.std.proofs.Common.{ℕ, List, Option, refl, sym, subst, Result}
use Rattle.sim_lines.specs.Cut.{head_of}
use Rattle.sim_lines.specs.Waiting.{Waiting}
use Rattle.sim_events.specs.Scenario.{Scenario}
use Rattle.sim_scenario.specs.Scenario.{Protocol, ScenarioText, Fault}
use Rattle.sim_script.specs.Script.{Text, Names}
use Rattle.sim_cli.specs.declared.status.Status.{Status}
use Rattle.sim_cli.specs.declared.status.Status.TheVariants.{Well, BadScenario, BadRequest, ReaderFailed, WriterFailed, MemoryWanted}
use Rattle.sim_cli.specs.declared.opened.Opened.{Opened}
use Rattle.sim_cli.specs.Answers.{Faults}
use Rattle.sim_cli.specs.Opens.{IsNotOpened, IsOpened}
use Rattle.sim_cli.specs.Play.{Ended, Nodes, names_of, read_scenario, scenario}
use Rattle.sim_cli.specs.Subjects.{nodes_by}
use Rattle.sim_cli.proofs.Whole.{whole_cut}
use Rattle.sim_export.specs.Exports.{IsExported, IsRightFor, Right, Tells, Written}
use Rattle.sim_export.proofs.Telling.{ended_weaker, told_nothing}

module _ (right : Right) (protocols : List Protocol) (nodes_of : ScenarioText → Nodes) where
  -- the line of a fault is right where the scenario has it
  right_fault : (given line : Text) (f : Faults protocols (head_of given).0 line)
      → IsRightFor right protocols nodes_of (head_of given) (read_scenario protocols (head_of given).0) line BadScenario
  right_fault given line f =
      subst (λ (r : Result ScenarioText Fault). IsRightFor right protocols nodes_of (head_of given) r line BadScenario)
      (sym f.read) (f.told, refl)

  -- there is no scenario
  pub not_opened : (given : Text) (ahead : Waiting) (left held holds : Option Text) (ended : Status)
      → IsNotOpened protocols given ahead left held holds ended → Ended held holds (Written right protocols nodes_of given ended)
  not_opened given ahead left held holds Well n = absurd n
  not_opened given ahead left held holds BadScenario n =
      record { written = n.0.line; appended = n.0.written; is = right_fault given n.0.line n.0.fault }
  not_opened given ahead left held holds BadRequest n = absurd n
  not_opened given ahead left held holds ReaderFailed n =
      subst (λ (h : Option Text). Ended held h (Written right protocols nodes_of given ReaderFailed)) (sym n.2)
      (told_nothing (IsRightFor right protocols nodes_of (head_of given) (read_scenario protocols (head_of given).0)) ReaderFailed held tt)
  not_opened given ahead left held holds WriterFailed n = record {
    written = n.written.0;
    appended = n.written.3;
    is = record {
      more = n.written.1;
      status = BadScenario;
      right = subst (λ (t : Text). IsRightFor right protocols nodes_of (head_of given) (read_scenario protocols (head_of given).0) t BadScenario)
          n.written.2 (right_fault given n.line n.fault);
    };
  }
  not_opened given ahead left held holds MemoryWanted n =
      subst (λ (h : Option Text). Ended held h (Written right protocols nodes_of given MemoryWanted)) (sym n)
      (told_nothing (IsRightFor right protocols nodes_of (head_of given) (read_scenario protocols (head_of given).0)) MemoryWanted held tt)

module _ (right : Right) (protocols : List Protocol) (nodes : ℕ → Scenario → Nodes) where
  -- what is right over the nodes of a scenario that was read
  pub opened_right : (given : Text) (left : Option Text) (opened : Opened) (o : IsOpened protocols (nodes_by nodes) given left opened)
      (text : Text) (status : Status)
      → IsExported (right _ _ (nodes opened.protocol opened.scenario).rules opened.names opened.text.items o.head.script) text status
      → IsRightFor right protocols (nodes_by nodes) (head_of given) (read_scenario protocols (head_of given).0) text status
  opened_right given left opened o text status e =
      let s = o.said in
      let script = o.head.script in
      let place = subst (λ (k : ℕ). IsExported (right _ _ (nodes k opened.scenario).rules opened.names opened.text.items script) text status) o.protocol e in
      let world = subst (λ (x : Scenario). IsExported (right _ _ (nodes s.protocol x).rules opened.names opened.text.items script) text status) o.scenario place in
      let named = subst (λ (n : Names). IsExported (right _ _ (nodes s.protocol (scenario s)).rules n opened.text.items script) text status) o.names world in
      let kept = subst (λ (t : Text). IsExported (right _ _ (nodes s.protocol (scenario s)).rules (names_of (nodes_by nodes) s) t script) text status) o.kept named in
      let read = subst (λ (r : Result ScenarioText Fault). IsRightFor right protocols (nodes_by nodes) (o.text, script) r text status) (sym o.read) kept in
      subst (λ (p : Text × Text). IsRightFor right protocols (nodes_by nodes) p (read_scenario protocols p.0) text status)
      (sym (whole_cut given o.text _ o.head)) read

  pub opened_told : (given : Text) (left : Option Text) (opened : Opened) (o : IsOpened protocols (nodes_by nodes) given left opened)
      (held holds : Option Text) (ended : Status)
      → Ended held holds (Tells (IsExported (right _ _ (nodes opened.protocol opened.scenario).rules opened.names opened.text.items o.head.script)) ended)
      → Ended held holds (Written right protocols (nodes_by nodes) given ended)
  opened_told given left opened o held holds ended told =
      ended_weaker _ (IsRightFor right protocols (nodes_by nodes) (head_of given) (read_scenario protocols (head_of given).0))
      (opened_right given left opened o) ended held holds told
