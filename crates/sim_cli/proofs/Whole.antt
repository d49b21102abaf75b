-- A whole play: the scenario's text, and then the script.
use Rattle.std.proofs.Common.{◌≡◌, ℕ, ◌<◌, arith, List, [], ◌∷◌, ◌++◌, length, refl, sym, subst, ◌∙◌, ap, append_assoc, append-nil, inl, inr, ◌⊎◌, Option, Some, None, Result, Ok, Err, MatchResult, IsOk, IsErr}
use Rattle.std.specs.Io.KnownBytes.{IsAtEnd, Appends, Keeps, prepend_known}
use Rattle.std.specs.Str.Lines.{lines}
use Rattle.sim_lines.specs.Cut.{head_of, whole_lines}
use Rattle.sim_lines.specs.Left.{AppendsPart}
use Rattle.sim_lines.specs.Taken.{HasHead, HasNoMarker}
use Rattle.sim_lines.specs.Waiting.{Waiting, CountsReads, unread}
use Rattle.sim_lines.proofs.Known.{Appends-none, Appends-append, prepend-none}
use Rattle.sim_lines.proofs.Passing.{Keeps-Appends}
use Rattle.sim_events.specs.Scenario.{Scenario}
use Rattle.sim_world.specs.Events.{Rules}
use Rattle.sim_scenario.specs.Scenario.{Protocol, ScenarioText, Fault, read}
use Rattle.sim_cli.specs.declared.status.Answered.TheVariants as ends
use Rattle.sim_cli.specs.declared.status.Status.{Status}
use Rattle.sim_cli.specs.declared.status.Status.TheVariants.{Well, BadScenario, BadRequest, ReaderFailed, WriterFailed, MemoryWanted}
use Rattle.sim_script.specs.Script.{Text, Names}
use Rattle.sim_cli.specs.Lines.{fault_line}
use Rattle.sim_cli.specs.Turns.{Course, beginning}
use Rattle.sim_cli.specs.Play.{Nodes, Tells, TellsLines, Ended, Plays, PlaysOn, Played, ReadsHead, IsWithinReads, TellsAll, TellsWhole, out_of, read_scenario, names_of, scenario}
use Rattle.sim_cli.specs.Answers.{Writes, Faults}
use Rattle.sim_cli.specs.Opens.{HeadIs, IsNotOpened, IsOpened}
use Rattle.sim_cli.specs.Subjects.{Ports, PlaysScript, nodes_by}
use Rattle.sim_cli.specs.declared.opened.Opened.{Opened}
use Rattle.sim_cli.proofs.Readings.{too_long}
use Rattle.sim_cli.proofs.Runs.{known, at_end_of, rest_of, tells_lines}

-- a text that was written, where the writer then kept it
pub written_all : (old mid new : Option Text) (text : Text) → Appends old mid text → Keeps mid new → Appends old new text
written_all old mid new text h k = rw (append-nil text) at (Appends-append old mid new text [] h (Keeps-Appends mid new k))

pub written_part : (old mid new : Option Text) (text : Text) → Appends old mid text → Keeps mid new → AppendsPart old new text
written_part old mid new text h k = (text, [], sym (append-nil text), written_all old mid new text h k)

pub given_is : (ahead : Text) (old : Option Text) (given : Text) → ahead ≡ [] → old ≡ Some given → prepend_known ahead old ≡ Some given
given_is ahead old given a e = ap (λ (o : Option Text). prepend_known ahead o) e ∙ ap (λ (xs : Text). Some (xs ++ given)) a

-- no more was read than the counted reads can give
pub within : (ahead new : Waiting) (left left' : Option Text) → ahead ≡ unread → CountsReads ahead new left left' → IsWithinReads left left'
within ahead new left left' e c = record { read = c.read; consumed = c.consumed; few = omega (arith, c.counted, ap (λ w. w.reads) e) }

pub record IsLong (given text : Text) : Type 0 where
  pub read : 65536 < length text
  pub whole : 65536 < length (head_of given).0

none_read : (script read rest : Text) → script ≡ [] → script ≡ read ++ rest → read ≡ []
none_read script [] rest e f = refl
none_read script (x ∷ read) rest e f = cc

pub head_is : (given text : Text) (new : Option Text) → HasHead (Some given) new text → HeadIs given new text ⊎ IsLong given text
head_is given text new h =
    let k = known given h.taken new h.consumed in
    elim h.ends [
      | inl whole ↦ inl (record { taken = h.taken; script = k.0; left = k.1; front = k.2; cut = λ read rest e. whole read })
      | inr other ↦ elim other [
        | inl last ↦
            let none = at_end_of new k.0 k.1 last.0 in
            inl (record {
              taken = h.taken;
              script = k.0;
              left = k.1;
              front = k.2;
              cut = λ read rest e.
                  let nothing = none_read k.0 read rest none e in
                  ap (λ xs. head_of (h.taken ++ xs)) nothing ∙ ap head_of (append-nil h.taken) ∙ last.1 ∙ ap (λ (xs : Text). (text, xs)) (sym nothing);
            })
        | inr long ↦ inr (record { read = long.read; whole = rw k.2 (long.whole k.0) })
      ]
    ]

pub whole_cut : (given text : Text) (new : Option Text) → (h : HeadIs given new text) → head_of given ≡ (text, h.script)
whole_cut given text new h = ap head_of h.front ∙ h.cut h.script [] (sym (append-nil h.script))

-- the text that was read has the scenario of the text that was given
pub same_scenario : (protocols : List Protocol) (given text : Text) (new : Option Text) → HeadIs given new text ⊎ IsLong given text → read_scenario protocols (head_of given).0 ≡ read_scenario protocols text
same_scenario protocols given text new s = elim s [
  | inl h ↦ ap (λ (p : Text × Text). read_scenario protocols p.0) (whole_cut given text new h)
  | inr l ↦ too_long protocols (head_of given).0 l.whole ∙ sym (too_long protocols text l.read)
]

not_long : (protocols : List Protocol) (given text : Text) (scenario : ScenarioText) → IsLong given text → read_scenario protocols text ≡ Ok scenario → ⊥
not_long protocols given text scenario l e =
    let fault = too_long protocols text l.read in
    cc

pub not_too_long : (protocols : List Protocol) (given text : Text) (new : Option Text) (scenario : ScenarioText) → HeadIs given new text ⊎ IsLong given text → read_scenario protocols text ≡ Ok scenario → HeadIs given new text
not_too_long protocols given text new scenario s e = elim s [ inl h ↦ h | inr l ↦ absurd (not_long protocols given text scenario l e) ]

is_err_of : (r : Result ScenarioText Fault) (fault : Fault) → r ≡ Err fault → IsErr r
is_err_of r fault e = rw e refl

is_ok_of : (r : Result ScenarioText Fault) (scenario : ScenarioText) → r ≡ Ok scenario → IsOk r
is_ok_of r scenario e = rw e refl

matches_err : (r : Result ScenarioText Fault) (fault : Fault) (P : ScenarioText → Type 0) (text : Text) → r ≡ Err fault → text ≡ fault_line fault → MatchResult r P (λ f. text ≡ fault_line f)
matches_err r fault P text e h = rw e h

pub matches_ok : (r : Result ScenarioText Fault) (scenario : ScenarioText) (P : ScenarioText → Type 0) (Q : Fault → Type 0) → r ≡ Ok scenario → P scenario → MatchResult r P Q
matches_ok r scenario P Q e h = rw e h

nothing_left : (ahead : Text) (left : Option Text) → IsAtEnd (prepend_known ahead left) → IsAtEnd left
nothing_left ahead None h = tt
nothing_left [] (Some xs) h = h
nothing_left (x ∷ ahead) (Some xs) h = cc

-- what was read has the fault of what was given
pub fault_of_given : (protocols : List Protocol) (given text shown line : Text) → shown ≡ text → read_scenario protocols (head_of given).0 ≡ read_scenario protocols text → Faults protocols shown line → Faults protocols (head_of given).0 line
fault_of_given protocols given text shown line a e f = record { fault = f.fault; read = e ∙ ap (read_scenario protocols) (sym a) ∙ f.read; told = f.told }

module _ (protocols : List Protocol) (nodes_of : ScenarioText → Nodes) where
  -- the answers to the lines of a script are what is written for all
  all_tells : (given written : Text) (scenario : ScenarioText) → read_scenario protocols (head_of given).0 ≡ Ok scenario →
      TellsLines (nodes_of scenario).rules (names_of nodes_of scenario) beginning (lines (head_of given).1) written → TellsAll protocols nodes_of given written
  all_tells given written scenario e t = record {
    texts = t.texts;
    tells = matches_ok (read_scenario protocols (head_of given).0) scenario
        (λ s. Tells (nodes_of s).rules (names_of nodes_of s) beginning (lines (head_of given).1) t.texts written) (λ f. written ≡ fault_line f) e t.tells;
    plain = λ n. (t.tells.plain n).0 ∙ ap (λ s. out_of nodes_of s (lines (head_of given).1)) (sym e);
  }

  -- so is the line of a fault
  fault_tells : (given written : Text) (fault : Fault) → read_scenario protocols (head_of given).0 ≡ Err fault → written ≡ fault_line fault → TellsAll protocols nodes_of given written
  fault_tells given written fault e w = record {
    texts = [];
    tells = matches_err (read_scenario protocols (head_of given).0) fault _ written e w;
    plain = λ n. w ∙ ap (λ s. out_of nodes_of s (lines (head_of given).1)) (sym e);
  }

  no_lines : (s : Result ScenarioText Fault) (ls : List Text) → ls ≡ [] →
      MatchResult s (λ scenario. TellsLines (nodes_of scenario).rules (names_of nodes_of scenario) beginning ls []) (λ _. ◌≡◌ {A = Text} [] [])
  no_lines (Ok scenario) ls e = rw e (tells_lines (nodes_of scenario).rules (names_of nodes_of scenario) beginning beginning [] [] [] refl refl)
  no_lines (Err fault) ls e = refl

  -- the reader failed before there was a scenario
  pub fails_in_head : (given ahead : Text) (left held : Option Text) → HasNoMarker (Some given) (prepend_known ahead left) → ahead ≡ [] →
      Ended held held (Played protocols nodes_of given left ReaderFailed)
  fails_in_head given ahead left held h none =
      let k = known given h.taken (prepend_known ahead left) h.consumed in
      record {
        written = [];
        appended = Appends-none held;
        is = record {
          read = h.taken;
          rest = k.0;
          front = k.2;
          is_left = sym (prepend-none left) ∙ ap (λ xs. prepend_known xs left) (sym none) ∙ k.1;
          tells = no_lines (read_scenario protocols (head_of h.taken).0) (whole_lines (head_of h.taken).1) (ap whole_lines h.none);
        };
      }

  some_text : (given : Text) (s : Result ScenarioText Fault) → read_scenario protocols (head_of given).0 ≡ s → (text : Text) × TellsAll protocols nodes_of given text
  some_text given (Ok scenario) e =
      let rest = rest_of (nodes_of scenario).rules (names_of nodes_of scenario) beginning (lines (head_of given).1) in
      (_, all_tells given _ scenario e (tells_lines (nodes_of scenario).rules (names_of nodes_of scenario) beginning rest.last (lines (head_of given).1) rest.texts _ rest.run refl))
  some_text given (Err fault) e = (fault_line fault, fault_tells given (fault_line fault) fault e refl)

  -- memory was wanted before anything was written
  pub wants_first : (given : Text) (left held holds : Option Text) → Appends held holds [] → Ended held holds (Played protocols nodes_of given left MemoryWanted)
  wants_first given left held holds a =
      let t = some_text given (read_scenario protocols (head_of given).0) refl in
      record { written = []; appended = a; is = record { more = t.0; tells = t.1 } }

  -- a bad scenario
  pub told_fault : (given : Text) (left held holds : Option Text) (line : Text) (f : Faults protocols (head_of given).0 line) → ReadsHead given left → Writes held holds line ends.Well →
      Ended held holds (Played protocols nodes_of given left BadScenario)
  told_fault given left held holds line f h a = record {
    written = line;
    appended = a;
    is = (is_err_of (read_scenario protocols (head_of given).0) f.fault f.read, h, fault_tells given line f.fault f.read f.told);
  }

  pub told_part : (given : Text) (left held holds : Option Text) (line : Text) (f : Faults protocols (head_of given).0 line) → Writes held holds line ends.WriterFailed →
      Ended held holds (Played protocols nodes_of given left WriterFailed)
  told_part given left held holds line f a = record {
    written = a.0;
    appended = a.3;
    is = record { more = a.1; tells = fault_tells given (a.0 ++ a.1) f.fault f.read (sym a.2 ∙ f.told) };
  }

  module _ (given text : Text) (new : Option Text) (scenario : ScenarioText) (h : HeadIs given new text) (e : read_scenario protocols text ≡ Ok scenario) where
    pub the_scenario : read_scenario protocols (head_of given).0 ≡ Ok scenario
    the_scenario = ap (λ (p : Text × Text). read_scenario protocols p.0) (whole_cut given text new h) ∙ e

    all_told : (written : Text) → TellsLines (nodes_of scenario).rules (names_of nodes_of scenario) beginning (lines h.script) written → TellsAll protocols nodes_of given written
    all_told written t =
        let script : (head_of given).1 ≡ h.script = ap (λ (p : Text × Text). p.1) (whole_cut given text new h) in
        all_tells given written scenario the_scenario (rw script t)

    some_told : (read rest written : Text) → h.script ≡ read ++ rest → TellsLines (nodes_of scenario).rules (names_of nodes_of scenario) beginning (whole_lines read) written →
        TellsWhole protocols nodes_of (h.taken ++ read) written
    some_told read rest written f t =
        let cut = h.cut read rest f in
        let script : (head_of (h.taken ++ read)).1 ≡ read = ap (λ (p : Text × Text). p.1) cut in
        matches_ok (read_scenario protocols (head_of (h.taken ++ read)).0) scenario
        (λ s. TellsLines (nodes_of s).rules (names_of nodes_of s) beginning (whole_lines (head_of (h.taken ++ read)).1) written) (λ _. written ≡ [])
        (ap (λ (p : Text × Text). read_scenario protocols p.0) cut ∙ e) (rw script t)

    -- what was played of the script was played of what was given
    pub play_of : (ahead : Waiting) (left : Option Text) (last : Course) (status : Status) (written : Text) →
        Plays (nodes_of scenario).rules (names_of nodes_of scenario) beginning h.script last ahead left status written → Played protocols nodes_of given left status written
    play_of ahead left last Well written p = (is_ok_of (read_scenario protocols (head_of given).0) scenario the_scenario, nothing_left ahead.bytes left p.0, all_told written p.1.0)
    play_of ahead left last BadScenario written p = absurd p
    play_of ahead left last BadRequest written p = absurd p
    play_of ahead left last ReaderFailed written p = record {
      read = h.taken ++ p.1.read;
      rest = p.1.rest;
      front = h.front ∙ ap (λ xs. h.taken ++ xs) p.1.front ∙ sym (append_assoc h.taken p.1.read p.1.rest);
      is_left = p.1.is_left;
      tells = some_told p.1.read p.1.rest written p.1.front p.1.tells.0;
    }
    play_of ahead left last WriterFailed written p = record { more = p.more; tells = all_told (written ++ p.more) p.tells }
    play_of ahead left last MemoryWanted written p = record { more = p.more; tells = all_told (written ++ p.more) p.tells }

    pub play_all : (ahead : Waiting) (left held holds : Option Text) (status : Status) →
        Ended held holds (PlaysOn (nodes_of scenario).rules (names_of nodes_of scenario) beginning h.script ahead left status) → Ended held holds (Played protocols nodes_of given left status)
    play_all ahead left held holds status p = record { written = p.written; appended = p.appended; is = play_of ahead left p.is.0 status p.written p.is.1 }

  -- there is no scenario
  pub not_opened : (given : Text) (ahead : Waiting) (left held holds : Option Text) (ended : Status) → IsNotOpened protocols given ahead left held holds ended
      → Ended held holds (Played protocols nodes_of given left ended)
  not_opened given ahead left held holds Well n = absurd n
  not_opened given ahead left held holds BadScenario n = told_fault given left held holds n.0.line n.0.fault n.1 n.0.written
  not_opened given ahead left held holds BadRequest n = absurd n
  not_opened given ahead left held holds ReaderFailed n =
      subst (λ (h : Option Text). Ended held h (Played protocols nodes_of given left ReaderFailed)) (sym n.2) (fails_in_head given ahead.bytes left held n.0 n.1)
  not_opened given ahead left held holds WriterFailed n = told_part given left held holds n.line n.fault n.written
  not_opened given ahead left held holds MemoryWanted n =
      subst (λ (h : Option Text). Ended held h (Played protocols nodes_of given left MemoryWanted)) (sym n) (wants_first given left held held (Appends-none held))

-- memory was wanted before a line was answered
pub wants_script : {State Msg : Type 0} (r : Rules State Msg) (names : Names) (old : Course) (script : Text) (ahead : Waiting) (left held holds : Option Text) → Appends held holds [] → Ended held holds (PlaysOn r names old script ahead left MemoryWanted)
wants_script r names old script ahead left held holds a =
    let rest = rest_of r names old (lines script) in
    record { written = []; appended = a; is = (old, record { more = _; tells = tells_lines r names old rest.last (lines script) rest.texts _ rest.run refl }) }

-- a book that opens as the scenario says
pub play_begun : {State Msg : Type 0} (r rules : Rules State Msg) (n names : Names) (course last : Course) (script : Text) (ahead : Waiting) (left held holds : Option Text) (status : Status) →
    rules ≡ r → names ≡ n → course ≡ beginning → Ended held holds (Plays rules names course script last ahead left status) → Ended held holds (PlaysOn r n beginning script ahead left status)
play_begun r rules n names course last script ahead left held holds status a b c p =
    record { written = p.written; appended = p.appended; is = (last, rw (a, b, c) at p.is) }

module _ (protocols : List Protocol) (nodes : ℕ → Scenario → Nodes) where
  -- a script that was played over the nodes of a scenario that was read
  pub opened_played : (given : Text) (opened : Opened) (old new : Ports) (ended : Status)
      → IsOpened protocols (nodes_by nodes) given (prepend_known old.ahead.bytes old.left) opened
      → PlaysScript (nodes opened.protocol opened.scenario).rules opened.names old new ended
      → Ended old.held new.held (Played protocols (nodes_by nodes) given new.left ended)
  opened_played given opened old new ended o p =
      let s = o.said in
      let played = p.played o.head.script o.head.left in
      play_all protocols (nodes_by nodes) given o.text _ s o.head o.read new.ahead new.left old.held new.held ended
      (subst (λ (k : ℕ). Ended old.held new.held (PlaysOn (nodes k (scenario s)).rules (names_of (nodes_by nodes) s) beginning o.head.script new.ahead new.left ended)) o.protocol
      (subst (λ (x : Scenario). Ended old.held new.held (PlaysOn (nodes opened.protocol x).rules (names_of (nodes_by nodes) s) beginning o.head.script new.ahead new.left ended)) o.scenario
      (subst (λ (n : Names). Ended old.held new.held (PlaysOn (nodes opened.protocol opened.scenario).rules n beginning o.head.script new.ahead new.left ended)) o.names played)))
