-- A whole strict play: the scenario's text, and then the script.
use Rattle.std.proofs.Common.{◌≡◌, ℕ, List, refl, true, sym, subst, ap, Option, Some, Result, Ok, Err, MatchResult}
use Rattle.std.specs.Io.KnownBytes.{prepend_known}
use Rattle.std.specs.Str.Lines.{lines}
use Rattle.sim_lines.specs.Cut.{head_of}
use Rattle.sim_lines.specs.Waiting.{Waiting}
use Rattle.sim_events.specs.Scenario.{Scenario}
use Rattle.sim_world.specs.Events.{Rules}
use Rattle.sim_scenario.specs.Scenario.{Protocol, ScenarioText}
use Rattle.sim_script.specs.Script.{Text, Names}
use Rattle.sim_cli.specs.declared.fault.ScriptFault.{ScriptFault}
use Rattle.sim_cli.specs.declared.opened.Opened.{Opened}
use Rattle.sim_cli.specs.declared.status.Status.{Status}
use Rattle.sim_cli.specs.declared.status.Status.TheVariants.{Well, BadScenario, BadRequest, ReaderFailed, WriterFailed, MemoryWanted}
use Rattle.sim_cli.specs.Turns.{Course, beginning}
use Rattle.sim_cli.specs.Play.{Ended, Nodes, names_of, read_scenario, scenario}
use Rattle.sim_cli.specs.Opens.{HeadIs, IsNotOpened, IsOpened}
use Rattle.sim_cli.specs.Subjects.{Ports, nodes_by}
use Rattle.sim_cli.specs.Strict.{OfScript, PlayedStrictly, PlaysScriptStrictly, PlaysStrictly, StrictlyEnds, TellsFault, are_well}
use Rattle.sim_cli.proofs.Whole.{matches_ok, not_opened, play_of, the_scenario, whole_cut}

module _ {State Msg : Type 0} (r : Rules State Msg) (names : Names) (old last : Course) (script : Text) (ahead : Waiting) (left held holds : Option Text) where
  -- how a strict play ended, by its status
  pub by_status : (ended : Status) → StrictlyEnds r names old script last ahead left held holds (Ok ended) → Ended held holds (PlaysStrictly r names old script ahead left ended)
  by_status Well p = record { written = p.0.written; appended = p.0.appended; is = ((last, p.0.is), p.1 refl) }
  by_status BadScenario p = absurd p.0.is
  by_status BadRequest p = absurd p.0.is
  by_status ReaderFailed p = record { written = p.0.written; appended = p.0.appended; is = (last, p.0.is) }
  by_status WriterFailed p = record { written = p.0.written; appended = p.0.appended; is = (last, p.0.is) }
  by_status MemoryWanted p = record { written = p.0.written; appended = p.0.appended; is = (last, p.0.is) }

  -- or with a line at fault
  pub by_fault : (f : ScriptFault) → StrictlyEnds r names old script last ahead left held holds (Err f) → Ended held holds (PlaysStrictly r names old script ahead left BadRequest)
  by_fault f p = record { written = p.1.written; appended = p.1.appended; is = record { fault = f; first = p.0; told = p.1.is } }

-- a book that opens as the scenario says
pub strict_begun : {State Msg : Type 0} (r rules : Rules State Msg) (names : Names) (course : Course) (script : Text) (ahead : Waiting) (left held holds : Option Text) (status : Status)
    → rules ≡ r → course ≡ beginning → Ended held holds (PlaysStrictly rules names course script ahead left status)
    → Ended held holds (PlaysStrictly r names beginning script ahead left status)
strict_begun {State} {Msg} r rules names course script ahead left held holds status same begun p =
    subst (λ (c : Course). Ended held holds (PlaysStrictly r names c script ahead left status)) begun
    (subst (λ (q : Rules State Msg). Ended held holds (PlaysStrictly q names course script ahead left status)) same p)

module _ (protocols : List Protocol) (nodes_of : ScenarioText → Nodes) where
  module _ (given text : Text) (new : Option Text) (said : ScenarioText) (h : HeadIs given new text) (e : read_scenario protocols text ≡ Ok said) where
    -- what holds of the script holds for what was given
    of_script : (P : ScenarioText → List Text → Type 0) → P said (lines h.script) → OfScript protocols nodes_of P given
    of_script P p =
        let script : (head_of given).1 ≡ h.script = ap (λ (p : Text × Text). p.1) (whole_cut given text new h) in
        matches_ok (read_scenario protocols (head_of given).0) said (λ s. P s (lines (head_of given).1)) (λ _. ⊥)
        (the_scenario protocols nodes_of given text new said h e) (subst (λ (t : Text). P said (lines t)) (sym script) p)

    strict_of : (ahead : Waiting) (left : Option Text) (status : Status) (written : Text)
        → PlaysStrictly (nodes_of said).rules (names_of nodes_of said) beginning h.script ahead left status written
        → PlayedStrictly protocols nodes_of given left status written
    strict_of ahead left Well written p = (
      play_of protocols nodes_of given text new said h e ahead left p.0.0 Well written p.0.1,
      of_script (λ s ls. are_well (nodes_of s).rules (names_of nodes_of s) beginning ls ≡ true) p.1,
    )
    strict_of ahead left BadScenario written p = absurd p
    strict_of ahead left BadRequest written p =
        of_script (λ s ls. TellsFault (nodes_of s).rules (names_of nodes_of s) beginning ls written) p
    strict_of ahead left ReaderFailed written p = play_of protocols nodes_of given text new said h e ahead left p.0 ReaderFailed written p.1
    strict_of ahead left WriterFailed written p = play_of protocols nodes_of given text new said h e ahead left p.0 WriterFailed written p.1
    strict_of ahead left MemoryWanted written p = play_of protocols nodes_of given text new said h e ahead left p.0 MemoryWanted written p.1

    pub strict_all : (ahead : Waiting) (left held holds : Option Text) (status : Status)
        → Ended held holds (PlaysStrictly (nodes_of said).rules (names_of nodes_of said) beginning h.script ahead left status)
        → Ended held holds (PlayedStrictly protocols nodes_of given left status)
    strict_all ahead left held holds status p =
        record { written = p.written; appended = p.appended; is = strict_of ahead left status p.written p.is }

  -- there is no scenario
  pub strict_not_opened : (given : Text) (ahead : Waiting) (left held holds : Option Text) (ended : Status) → IsNotOpened protocols given ahead left held holds ended
      → Ended held holds (PlayedStrictly protocols nodes_of given left ended)
  strict_not_opened given ahead left held holds Well n = absurd n
  strict_not_opened given ahead left held holds BadScenario n = not_opened protocols nodes_of given ahead left held holds BadScenario n
  strict_not_opened given ahead left held holds BadRequest n = absurd n
  strict_not_opened given ahead left held holds ReaderFailed n = not_opened protocols nodes_of given ahead left held holds ReaderFailed n
  strict_not_opened given ahead left held holds WriterFailed n = not_opened protocols nodes_of given ahead left held holds WriterFailed n
  strict_not_opened given ahead left held holds MemoryWanted n = not_opened protocols nodes_of given ahead left held holds MemoryWanted n

module _ (protocols : List Protocol) (nodes : ℕ → Scenario → Nodes) where
  -- a script that was played strictly over the nodes of a scenario that was read
  pub opened_strictly : (given : Text) (opened : Opened) (old new : Ports) (ended : Status)
      → IsOpened protocols (nodes_by nodes) given (prepend_known old.ahead.bytes old.left) opened
      → PlaysScriptStrictly (nodes opened.protocol opened.scenario).rules opened.names old new ended
      → Ended old.held new.held (PlayedStrictly protocols (nodes_by nodes) given new.left ended)
  opened_strictly given opened old new ended o p =
      let s = o.said in
      let played = p.played o.head.script o.head.left in
      strict_all protocols (nodes_by nodes) given o.text _ s o.head o.read new.ahead new.left old.held new.held ended
      (subst (λ (k : ℕ). Ended old.held new.held (PlaysStrictly (nodes k (scenario s)).rules (names_of (nodes_by nodes) s) beginning o.head.script new.ahead new.left ended)) o.protocol
      (subst (λ (x : Scenario). Ended old.held new.held (PlaysStrictly (nodes opened.protocol x).rules (names_of (nodes_by nodes) s) beginning o.head.script new.ahead new.left ended)) o.scenario
      (subst (λ (n : Names). Ended old.held new.held (PlaysStrictly (nodes opened.protocol opened.scenario).rules n beginning o.head.script new.ahead new.left ended)) o.names played)))
