-- A scenario was read, or why there is none.
use Rattle.std.proofs.Common.{◌≡◌, ℕ, List, Option, Some, Result, Ok, Err, refl, sym, subst}
use Rattle.std.specs.Prelude.{IfOk, IfErr}
use Rattle.sim_lines.specs.Cut.{head_of}
use Rattle.sim_lines.specs.Waiting.{Waiting}
use Rattle.sim_events.specs.Scenario.{Scenario}
use Rattle.sim_scenario.specs.Scenario.{Protocol, ScenarioText}
use Rattle.sim_script.specs.Script.{Text}
use Rattle.sim_cli.specs.declared.opened.Opened.{Opened}
use Rattle.sim_cli.specs.declared.status.Status.{Status}
use Rattle.sim_cli.specs.declared.status.Status.TheVariants.{Well, BadScenario, BadRequest, ReaderFailed, WriterFailed, MemoryWanted}
use Rattle.sim_cli.specs.Answers.{Faults}
use Rattle.sim_cli.specs.Play.{Nodes, ReadsHead, names_of, read_scenario, scenario}
use Rattle.sim_cli.specs.Opens.{HeadIs, IsNotOpened, IsOpened, WritesFault}
use Rattle.sim_cli.specs.Subjects.{nodes_by}

pub always_ok : {A E P : Type 0} (r : Result A E) → P → IfOk r (λ _. P)
always_ok (Ok x) p = p
always_ok (Err e) p = tt

pub opened_as : (protocols : List Protocol) (nodes : ℕ → Scenario → Nodes) (given text : Text) (left : Option Text) (s : ScenarioText)
    → HeadIs given left text → read_scenario protocols text ≡ Ok s → (r : Result Opened Status)
    → IfOk r (λ o. o.protocol ≡ s.protocol) → IfOk r (λ o. o.scenario ≡ scenario s) → IfOk r (λ o. o.names ≡ names_of (nodes_by nodes) s)
    → IfOk r (λ o. o.text.items ≡ text) → IfOk r (IsOpened protocols (nodes_by nodes) given left)
opened_as protocols nodes given text left s head read (Ok o) a b c d = record { text = text; said = s; head = head; read = read; protocol = a; scenario = b; names = c; kept = d }
opened_as protocols nodes given text left s head read (Err e) a b c d = tt

module _ (protocols : List Protocol) (given : Text) (ahead : Waiting) (left held : Option Text) where
  pub wants_opened : (r : Result Opened Status) → IfErr r (λ status. status ≡ MemoryWanted) → IfErr r (IsNotOpened protocols given ahead left held held)
  wants_opened (Ok o) a = tt
  wants_opened (Err e) a = subst (IsNotOpened protocols given ahead left held held) (sym a) refl

  pub bad_opened : (holds : Option Text) (line : Text) (ended : Status) → Faults protocols (head_of given).0 line → ReadsHead given left → WritesFault held holds line ended
      → IsNotOpened protocols given ahead left held holds ended
  bad_opened holds line Well f h w = absurd w
  bad_opened holds line BadScenario f h w = (record { line = line; fault = f; written = w }, h)
  bad_opened holds line BadRequest f h w = absurd w
  bad_opened holds line ReaderFailed f h w = absurd w
  bad_opened holds line WriterFailed f h w = record { line = line; fault = f; written = w }
  bad_opened holds line MemoryWanted f h w = absurd w
