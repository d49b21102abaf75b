-- The lines of a script that were answered so far in a strict play.
use Rattle.std.proofs.Common.{◌≡◌, ℕ, ◌+◌, ◌-◌, ◌^◌, List, [], ◌∷◌, ◌++◌, length, min, refl, sym, ◌∙◌, ap, subst, append_assoc, append-nil, arith, Bool, true, false, inl, inr, Option, Some, None, Result, Ok, Err, length-append}
use Rattle.std.specs.List.{concat}
use Rattle.std.specs.Io.KnownBytes.{Consumes, IsAtEnd, prepend_known}
use Rattle.std.specs.Str.Lines.{lines}
use Rattle.sim_lines.specs.Cut.{Shows, whole_lines}
use Rattle.sim_lines.specs.Left.{Passes, PassesSome}
use Rattle.sim_lines.specs.Taken.{TakesLine, TakesLast, TakesPart}
use Rattle.sim_lines.specs.Waiting.{Waiting}
use Rattle.sim_lines.proofs.Known.{Consumes-append, Consumes-none}
use Rattle.sim_lines.proofs.Passing.{Passes-none, Passes-append}
use Rattle.sim_world.specs.Events.{Rules}
use Rattle.sim_watch.specs.declared.command.Command.{Command}
use Rattle.sim_book.specs.declared.Entry.{Entry}
use Rattle.sim_book.specs.declared.NotTaken.{NotTaken}
use Rattle.sim_answers.specs.Lines.{turn_line}
use Rattle.sim_script.specs.declared.script.ScriptLine.{ScriptLine}
use Rattle.sim_script.specs.declared.script.ScriptLine.TheVariants.{Asked, Bad}
use Rattle.sim_script.specs.Script.{Text, Names, script_line}
use Rattle.sim_cli.specs.declared.fault.LineFault.{LineFault}
use Rattle.sim_cli.specs.declared.fault.ScriptFault.{ScriptFault}
use Rattle.sim_cli.specs.declared.status.Status.{Status}
use Rattle.sim_cli.specs.declared.status.Status.TheVariants.{Well, ReaderFailed, WriterFailed, MemoryWanted}
use Rattle.sim_play.specs.declared.strictly.Halt.{Halt}
use Rattle.sim_play.specs.declared.strictly.Halt.TheVariants as halt
use Rattle.sim_cli.specs.Lines.{bad_line}
use Rattle.sim_cli.specs.Turns.{Course, Takes}
use Rattle.sim_cli.specs.Play.{Begins, Ended, Gives, Plays, Run, end_from, out_from, plain_next, plain_text}
use Rattle.sim_cli.specs.Answers.{Finishes, GivesAll, GivesPart}
use Rattle.sim_cli.specs.Strict.{Explains, GivesPlain, IsFirstFault, StrictlyEnds, are_well, fault_of_turn, is_well, number_after, tells_want}
use Rattle.sim_play.specs.Halting.{AnswersStrictly, Halts}
use Rattle.sim_cli.proofs.Shown.{shown_asks}
use Rattle.sim_cli.proofs.Runs.{So, at_end, at_end_of, at_failure, at_last, at_stop, at_want, begins, begins_part, finished, known, part_begins, plain_gives, Run-append}
use Rattle.sim_cli.proofs.Judging.{explained_turn, plain_turn, well_turn, end_append, out_append, wells_append, texts_of, texts_run, texts_all}

-- ---- one command

module _ {State Msg : Type 0} (r : Rules State Msg) (names : Names) (old new : Course) (c : Command) (turn : Result Entry NotTaken) (f : Option LineFault) (held holds : Option Text) (waiting text : Text)
    (t : Takes r old c turn new) (x : text ≡ turn_line names turn) where
  -- the writer failed in the answer
  pub asked_part : PassesSome held holds waiting text → GivesPart r names old (Asked c) held holds waiting
  asked_part p = record { text = text; new = new; gives = (turn, t, x); passes = p }

  module _ (left : Text) (wants : Bool) (e : f ≡ fault_of_turn turn) (w : wants ≡ tells_want f) (n : wants ≡ false) (p : Passes held holds waiting text left) where
    asked_gives : GivesPlain r names old new (Asked c) held holds waiting left
    asked_gives =
        let plain = plain_turn r names old new c turn t (ap tells_want (sym e) ∙ (sym w ∙ n)) in
        record { passes = subst (λ (s : Text). Passes held holds waiting s left) (x ∙ plain.0) p; next = plain.1 }

    -- the answer was handed over, and the command was carried out
    pub asked_well : f ≡ None → (is_well r names old (Asked c) ≡ true) × GivesPlain r names old new (Asked c) held holds waiting left
    asked_well s = (well_turn r names old new c turn t (sym e ∙ s), asked_gives)

    -- or it was refused, or not taken
    pub asked_ill : (why : LineFault) → f ≡ Some why → Explains r names old (Asked c) why × GivesPlain r names old new (Asked c) held holds waiting left
    asked_ill why s = (explained_turn r names old new c turn why t (sym e ∙ s) (ap tells_want (sym s) ∙ (sym w ∙ n)), asked_gives)

-- ---- the lines of a script

-- the number of the next line
next_number : (n m before : ℕ) → n ≡ min before (2 ^ 64 - 1) → m ≡ min (n + 1) (2 ^ 64 - 1) → m ≡ min (before + 1) (2 ^ 64 - 1)
next_number n m before h k = omega (arith, h, k)

module _ {State Msg : Type 0} (r : Rules State Msg) (names : Names) where
  -- the lines so far are not at fault, and were answered by the plain texts, of which the last wait
  pub record StrictSo (old now held holds : Option Text) (waiting : Text) (course here : Course) (number : ℕ) : Type 0 where
    pub taken : Text
    pub done : List Text
    pub consumed : Consumes old now taken
    pub all : (tail : Text) → lines (taken ++ tail) ≡ done ++ lines tail
    pub whole : (tail : Text) → whole_lines (taken ++ tail) ≡ done ++ whole_lines tail
    pub passed : Passes held holds [] (out_from r names course done) waiting
    pub at : here ≡ end_from r names course done
    pub well : are_well r names course done ≡ true
    pub count : number ≡ min (length done) (2 ^ 64 - 1)

  pub at_start : (old held : Option Text) (waiting : Text) (course : Course) → waiting ≡ [] → StrictSo old old held held waiting course course 0
  at_start old held waiting course e = record {
    taken = [];
    done = [];
    consumed = Consumes-none old;
    all = λ tail. refl;
    whole = λ tail. refl;
    passed = rw e (Passes-none held []);
    at = refl;
    well = refl;
    count = refl;
  }

  -- it is what a play has come to
  pub plainly : (old now held holds : Option Text) (waiting : Text) (course here : Course) (number : ℕ) → StrictSo old now held holds waiting course here number
      → So r names old now held holds waiting course here
  plainly old now held holds waiting course here number f = record {
    taken = f.taken;
    done = f.done;
    texts = texts_of r names course f.done;
    consumed = f.consumed;
    all = f.all;
    whole = f.whole;
    run = subst (λ (c : Course). Run r names course f.done (texts_of r names course f.done) c) (sym f.at) (texts_run r names course f.done);
    passed = subst (λ (t : Text). Passes held holds [] t waiting) (sym (texts_all r names course f.done)) f.passed;
  }

  -- what waited was written, or some of it
  pub at_flush : (old now held holds held' : Option Text) (waiting left : Text) (course here : Course) (number : ℕ)
      → StrictSo old now held holds waiting course here number → Passes holds held' waiting [] left → StrictSo old now held held' left course here number
  at_flush old now held holds held' waiting left course here number f p = record {
    taken = f.taken;
    done = f.done;
    consumed = f.consumed;
    all = f.all;
    whole = f.whole;
    passed = rw (append-nil (out_from r names course f.done)) at (Passes-append held holds held' [] (out_from r names course f.done) waiting [] left f.passed p);
    at = f.at;
    well = f.well;
    count = f.count;
  }

  -- the plain answer to one more line was handed over
  told : (old now held holds held' : Option Text) (waiting left : Text) (course here next : Course) (number : ℕ) (kept line : Text)
      → (f : StrictSo old now held holds waiting course here number) → Shows kept line → GivesPlain r names here next (script_line names kept) holds held' waiting left
      → Passes held held' [] (out_from r names course (f.done ++ line ∷ [])) left
  told old now held holds held' waiting left course here next number kept line f s g =
      let text : plain_text r names here (script_line names kept) ≡ plain_text r names (end_from r names course f.done) (script_line names line) =
      ap (plain_text r names here) (shown_asks names kept line s) ∙ ap (λ (c : Course). plain_text r names c (script_line names line)) f.at in
      subst (λ (t : Text). Passes held held' [] t left)
      (ap (λ (t : Text). out_from r names course f.done ++ t) text ∙ sym (out_append r names course f.done line))
      (Passes-append held holds held' [] (out_from r names course f.done) waiting (plain_text r names here (script_line names kept)) left f.passed g.passes)

  -- one more line was answered
  pub at_line : (old now new held holds held' : Option Text) (waiting left : Text) (course here next : Course) (number number' : ℕ) (kept : Text)
      → StrictSo old now held holds waiting course here number → TakesLine now new kept → number' ≡ min (number + 1) (2 ^ 64 - 1)
      → (is_well r names here (script_line names kept) ≡ true) × GivesPlain r names here next (script_line names kept) holds held' waiting left
      → StrictSo old new held held' left course next number'
  at_line old now new held holds held' waiting left course here next number number' kept f t n g =
      let same = shown_asks names kept t.line t.shown in
      let one : length (f.done ++ t.line ∷ []) ≡ length f.done + 1 = length-append f.done (t.line ∷ []) in
      record {
        taken = f.taken ++ t.taken;
        done = f.done ++ t.line ∷ [];
        consumed = Consumes-append old now new f.taken t.taken f.consumed t.consumed;
        all = λ tail. ap lines (append_assoc f.taken t.taken tail) ∙ f.all (t.taken ++ tail) ∙ ap (λ ls. f.done ++ ls) (t.ends.all tail) ∙ sym (append_assoc f.done (t.line ∷ []) (lines tail));
        whole = λ tail. ap whole_lines (append_assoc f.taken t.taken tail) ∙ f.whole (t.taken ++ tail) ∙ ap (λ ls. f.done ++ ls) (t.ends.whole tail) ∙ sym (append_assoc f.done (t.line ∷ []) (whole_lines tail));
        passed = told old now held holds held' waiting left course here next number kept t.line f t.shown g.1;
        at = g.1.next ∙ (ap (plain_next r names here) same ∙ (ap (λ (c : Course). plain_next r names c (script_line names t.line)) f.at ∙ sym (end_append r names course f.done t.line)));
        well = wells_append r names course f.done t.line f.well
            (ap (λ (c : Course). is_well r names c (script_line names t.line)) (sym f.at) ∙ (ap (is_well r names here) (sym same) ∙ g.0));
        count = next_number number number' (length f.done) f.count n ∙ ap (λ (k : ℕ). min k (2 ^ 64 - 1)) (sym one);
      }

  pub as_given : (old now held holds : Option Text) (waiting : Text) (course here : Course) (number : ℕ) (script : Text) → old ≡ Some script
      → StrictSo old now held holds waiting course here number → StrictSo (Some script) now held holds waiting course here number
  as_given old now held holds waiting course here number script e f =
      subst (λ (o : Option Text). StrictSo o now held holds waiting course here number) e f

  -- ---- the ends

  -- the writer failed before more was handed over
  pub ends_stop : (script : Text) (ahead : Waiting) (now left held holds held' : Option Text) (waiting : Text) (course here new : Course) (number : ℕ)
      → StrictSo (Some script) now held holds waiting course here number → PassesSome holds held' waiting []
      → StrictlyEnds r names course script new ahead left held held' (Ok WriterFailed)
  ends_stop script ahead now left held holds held' waiting course here new number f p = (
    at_stop r names script ahead now left held holds held' waiting course here new (plainly (Some script) now held holds waiting course here number f) p,
    λ e. absurd (let bad : WriterFailed ≡ Well = e in cc),
  )

  -- memory was wanted
  pub ends_want : (script : Text) (ahead : Waiting) (now left held holds held' : Option Text) (waiting : Text) (course here new : Course) (number : ℕ) (ended : Status)
      → StrictSo (Some script) now held holds waiting course here number → Finishes holds held' waiting MemoryWanted ended
      → StrictlyEnds r names course script new ahead left held held' (Ok ended)
  ends_want script ahead now left held holds held' waiting course here new number ended f w = (
    at_want r names script ahead now left held holds held' waiting course here new ended (plainly (Some script) now held holds waiting course here number f) w,
    λ e. absurd (elim w [
      | inl a ↦ let bad : MemoryWanted ≡ Well = sym a.0 ∙ e in cc
      | inr a ↦ let bad : WriterFailed ≡ Well = sym a.0 ∙ e in cc
    ]),
  )

  -- the input ends after a line end
  pub ends_end : (script : Text) (ahead : Waiting) (now left held holds held' : Option Text) (waiting : Text) (course here : Course) (number : ℕ) (ended : Status)
      → StrictSo (Some script) now held holds waiting course here number → Consumes now (prepend_known ahead.bytes left) [] → IsAtEnd (prepend_known ahead.bytes left)
      → Finishes holds held' waiting Well ended → StrictlyEnds r names course script here ahead left held held' (Ok ended)
  ends_end script ahead now left held holds held' waiting course here number ended f c end w =
      let new = prepend_known ahead.bytes left in
      let k = known script (f.taken ++ []) new (Consumes-append (Some script) now new f.taken [] f.consumed c) in
      let whole : script ≡ f.taken ++ [] = k.2 ∙ ap (λ xs. (f.taken ++ []) ++ xs) (at_end_of new k.0 k.1 end) ∙ append-nil (f.taken ++ []) in
      let all : lines script ≡ f.done = ap lines whole ∙ f.all [] ∙ append-nil f.done in (
        at_end r names script ahead now left held holds held' waiting course here ended (plainly (Some script) now held holds waiting course here number f) c end w,
        λ e. ap (are_well r names course) all ∙ f.well,
      )

  -- the reader fails
  pub ends_failure : (script : Text) (ahead : Waiting) (now left held holds held' : Option Text) (waiting : Text) (course here : Course) (number : ℕ) (ended : Status)
      → StrictSo (Some script) now held holds waiting course here number → TakesPart now (prepend_known ahead.bytes left) → ahead.bytes ≡ []
      → Finishes holds held' waiting ReaderFailed ended → StrictlyEnds r names course script here ahead left held held' (Ok ended)
  ends_failure script ahead now left held holds held' waiting course here number ended f t none w = (
    at_failure r names script ahead now left held holds held' waiting course here ended (plainly (Some script) now held holds waiting course here number f) t none w,
    λ e. absurd (elim w [
      | inl a ↦ let bad : ReaderFailed ≡ Well = sym a.0 ∙ e in cc
      | inr a ↦ let bad : WriterFailed ≡ Well = sym a.0 ∙ e in cc
    ]),
  )

  -- the last line has no line end
  pub all_with_last : (script : Text) (now new held holds : Option Text) (waiting : Text) (course here : Course) (number : ℕ) (kept : Text)
      → (f : StrictSo (Some script) now held holds waiting course here number) → (t : TakesLast now new kept) → lines script ≡ f.done ++ t.line ∷ []
  all_with_last script now new held holds waiting course here number kept f t =
      let k = known script (f.taken ++ t.taken) new (Consumes-append (Some script) now new f.taken t.taken f.consumed t.consumed) in
      let whole : script ≡ f.taken ++ t.taken = k.2 ∙ ap (λ xs. (f.taken ++ t.taken) ++ xs) (at_end_of new k.0 k.1 t.end) ∙ append-nil (f.taken ++ t.taken) in
      ap lines whole ∙ f.all t.taken ∙ ap (λ ls. f.done ++ ls) t.ends.all

  -- another line has one
  pub all_with_line : (script : Text) (now new held holds : Option Text) (waiting : Text) (course here : Course) (number : ℕ) (kept : Text)
      → (f : StrictSo (Some script) now held holds waiting course here number) → (t : TakesLine now new kept) → (more : List Text) × (lines script ≡ f.done ++ t.line ∷ more)
  all_with_line script now new held holds waiting course here number kept f t =
      let k = known script (f.taken ++ t.taken) new (Consumes-append (Some script) now new f.taken t.taken f.consumed t.consumed) in
      (lines k.0, ap lines (k.2 ∙ append_assoc f.taken t.taken k.0) ∙ f.all (t.taken ++ k.0) ∙ ap (λ ls. f.done ++ ls) (t.ends.all k.0))

  plain_given : (old new : Course) (asked : ScriptLine) → new ≡ plain_next r names old asked → Gives r names old asked (plain_text r names old asked) new
  plain_given old new asked e = subst (λ (c : Course). Gives r names old asked (plain_text r names old asked) c) (sym e) (plain_gives r names old asked)

  -- the last line was answered, and is not at fault
  pub ends_last : (script : Text) (ahead : Waiting) (now left held holds mid held' : Option Text) (waiting rest : Text) (course here next : Course) (number : ℕ) (kept : Text) (ended : Status)
      → StrictSo (Some script) now held holds waiting course here number → TakesLast now (prepend_known ahead.bytes left) kept
      → (is_well r names here (script_line names kept) ≡ true) × GivesPlain r names here next (script_line names kept) holds mid waiting rest
      → Finishes mid held' rest Well ended → StrictlyEnds r names course script next ahead left held held' (Ok ended)
  ends_last script ahead now left held holds mid held' waiting rest course here next number kept ended f t g w =
      let so = plainly (Some script) now held holds waiting course here number f in
      let all : lines script ≡ f.done ++ t.line ∷ [] = all_with_last script now (prepend_known ahead.bytes left) held holds waiting course here number kept f t in
      let gives : GivesAll r names here next (script_line names kept) holds mid waiting rest =
      record { text = plain_text r names here (script_line names kept); gives = plain_given here next (script_line names kept) g.1.next; passes = g.1.passes } in (
        at_last r names script ahead now left held holds mid held' waiting rest course here next kept ended so t gives w,
        λ e. ap (are_well r names course) all ∙ wells_append r names course f.done t.line f.well
            (ap (λ (c : Course). is_well r names c (script_line names t.line)) (sym f.at) ∙ (ap (is_well r names here) (sym (shown_asks names kept t.line t.shown)) ∙ g.0)),
      )

  -- the script goes on after a line
  split_after : (script : Text) (done : List Text) (line : Text) (more : List Text) → lines script ≡ done ++ line ∷ more → lines script ≡ (done ++ line ∷ []) ++ more
  split_after script done line more e = e ∙ sym (append_assoc done (line ∷ []) more)

  -- the writer failed in the answer to a line
  halt_part : (script : Text) (ahead : Waiting) (now left held holds mid : Option Text) (waiting : Text) (course here next : Course) (number : ℕ) (kept line : Text) (more : List Text)
      → (f : StrictSo (Some script) now held holds waiting course here number) → lines script ≡ f.done ++ line ∷ more → Shows kept line
      → GivesPart r names here (script_line names kept) holds mid waiting → StrictlyEnds r names course script next ahead left held mid (Ok WriterFailed)
  halt_part script ahead now left held holds mid waiting course here next number kept line more f all s a =
      let texts = texts_of r names course f.done in
      let run = subst (λ (c : Course). Run r names course f.done texts c) (sym f.at) (texts_run r names course f.done) in
      let gives = subst (λ (asked : ScriptLine). Gives r names here asked a.text a.new) (shown_asks names kept line s) a.gives in
      let passed = subst (λ (t : Text). Passes held holds [] t waiting) (sym (texts_all r names course f.done)) f.passed in (
        part_begins r names course a.new (lines script) f.done more texts line a.text held holds mid waiting (split_after script f.done line more all)
            (Run-append r names course here a.new f.done texts line a.text run gives) passed a.passes,
        λ e. absurd (let bad : WriterFailed ≡ Well = e in cc),
      )

  -- the writer failed after the answer to a line was handed over
  halt_lost : (script : Text) (ahead : Waiting) (now left held holds mid held' : Option Text) (waiting rest : Text) (course here next : Course) (number : ℕ) (kept line : Text) (more : List Text) (ended : Status)
      → (f : StrictSo (Some script) now held holds waiting course here number) → lines script ≡ f.done ++ line ∷ more → Shows kept line
      → GivesPlain r names here next (script_line names kept) holds mid waiting rest → ended ≡ WriterFailed → PassesSome mid held' rest []
      → StrictlyEnds r names course script next ahead left held held' (Ok ended)
  halt_lost script ahead now left held holds mid held' waiting rest course here next number kept line more ended f all s g e p =
      let done = f.done ++ line ∷ [] in
      let b = subst (λ (t : Text). Begins r names course (lines script) t) (texts_all r names course done)
      (begins r names course (end_from r names course done) (lines script) done more (texts_of r names course done) (split_after script f.done line more all) (texts_run r names course done)) in
      let passed = told (Some script) now held holds mid waiting rest course here next number kept line f s g in
      let ends = finished (λ (x : Status) (t : Text). Begins r names course (lines script) t) MemoryWanted WriterFailed held mid held' rest (out_from r names course done) passed (inr (refl, p)) b
      (λ part after e. begins_part r names course (lines script) (out_from r names course done) part after b e) in
      subst (λ (x : Status). StrictlyEnds r names course script next ahead left held held' (Ok x)) (sym e)
      (ends, λ e. absurd (let bad : WriterFailed ≡ Well = e in cc))

  -- the answer to a line at fault was written
  halt_fault : (script : Text) (ahead : Waiting) (now left held holds mid held' : Option Text) (waiting rest : Text) (course here next : Course) (number number' : ℕ) (kept line : Text) (more : List Text)
      (why : LineFault) (x : ScriptFault)
      → (f : StrictSo (Some script) now held holds waiting course here number) → lines script ≡ f.done ++ line ∷ more → Shows kept line → number' ≡ min (number + 1) (2 ^ 64 - 1)
      → Explains r names here (script_line names kept) why → GivesPlain r names here next (script_line names kept) holds mid waiting rest
      → x.number ≡ number' → x.text.items ≡ kept → x.why ≡ why → Passes mid held' rest [] []
      → StrictlyEnds r names course script next ahead left held held' (Err x)
  halt_fault script ahead now left held holds mid held' waiting rest course here next number number' kept line more why x f all s n a g xn xt xw p =
      let text = out_from r names course (f.done ++ line ∷ []) in
      let passed = told (Some script) now held holds mid waiting rest course here next number kept line f s g in
      let both = Passes-append held mid held' [] text rest [] [] passed p in
      let part : both.part ≡ text = sym (append-nil both.part) ∙ sym both.all ∙ append-nil text in
      let why_line = subst (λ (c : Course). Explains r names c (script_line names line) x.why) f.at
      (subst (λ (asked : ScriptLine). Explains r names here asked x.why) (shown_asks names kept line s)
      (subst (λ (w : LineFault). Explains r names here (script_line names kept) w) (sym xw) a)) in (
        record {
          before = f.done;
          line = line;
          after = more;
          cut = all;
          well = f.well;
          number = xn ∙ next_number number number' (length f.done) f.count n;
          text = subst (λ (t : Text). Shows t line) (sym xt) s;
          why = why_line;
        },
        record { written = text; appended = rw part at both.appended; is = refl },
      )

  -- a strict play halts after a line
  pub ends_halt : (T : Type 0) (script : Text) (ahead : Waiting) (now left held holds mid held' : Option Text) (waiting rest : Text) (course here next : Course) (number number' : ℕ) (kept line : Text)
      (more : List Text) (why : Halt) (result : Result Status ScriptFault)
      → (f : StrictSo (Some script) now held holds waiting course here number) → lines script ≡ f.done ++ line ∷ more → Shows kept line → number' ≡ min (number + 1) (2 ^ 64 - 1)
      → AnswersStrictly r names {T = T} here next (script_line names kept) holds mid waiting rest (Err why) → Halts mid held' rest number' kept why result
      → StrictlyEnds r names course script next ahead left held held' result
  ends_halt T script ahead now left held holds mid held' waiting rest course here next number number' kept line more halt.WriterFailed result f all s n a h =
      subst (λ (x : Result Status ScriptFault). StrictlyEnds r names course script next ahead left held held' x) (sym h.0)
      (subst (λ (o : Option Text). StrictlyEnds r names course script next ahead left held o (Ok WriterFailed)) (sym h.1)
      (halt_part script ahead now left held holds mid waiting course here next number kept line more f all s a))
  ends_halt T script ahead now left held holds mid held' waiting rest course here next number number' kept line more halt.MemoryWanted result f all s n a h =
      subst (λ (x : Result Status ScriptFault). StrictlyEnds r names course script next ahead left held held' x) (sym h.1)
      (ends_want script ahead now left held mid held' rest course here next number h.0
      (at_flush (Some script) now held holds mid waiting rest course here number f a) h.2)
  ends_halt T script ahead now left held holds mid held' waiting rest course here next number number' kept line more (halt.Fault why) (Ok ended) f all s n a h =
      halt_lost script ahead now left held holds mid held' waiting rest course here next number kept line more ended f all s a.1 h.0 h.1
  ends_halt T script ahead now left held holds mid held' waiting rest course here next number number' kept line more (halt.Fault why) (Err x) f all s n a h =
      halt_fault script ahead now left held holds mid held' waiting rest course here next number number' kept line more why x f all s n a.0 a.1 h.0 h.1 h.2 h.3

  -- the writer failed in the answer to a bad line
  pub bad_part : (old : Course) (asked : ScriptLine) (held holds : Option Text) (waiting : Text) → Bad ≡ asked → PassesSome held holds waiting bad_line → GivesPart r names old asked held holds waiting
  bad_part old asked held holds waiting e p =
      subst (λ (x : ScriptLine). GivesPart r names old x held holds waiting) e (record { text = bad_line; new = old; gives = (refl, refl); passes = p })

-- the same over equal rules, for an equal line
pub answers_as : {State Msg : Type 0} (r q : Rules State Msg) (names : Names) (T : Type 0) (here next : Course) (shown kept : Text) (held holds : Option Text) (waiting left : Text) (result : Result T Halt)
    → q ≡ r → shown ≡ kept → AnswersStrictly q names {T = T} here next (script_line names shown) held holds waiting left result
    → AnswersStrictly r names {T = T} here next (script_line names kept) held holds waiting left result
answers_as {State} {Msg} r q names T here next shown kept held holds waiting left result e k h =
    subst (λ (p : Rules State Msg). AnswersStrictly p names {T = T} here next (script_line names kept) held holds waiting left result) e
    (subst (λ (t : Text). AnswersStrictly q names {T = T} here next (script_line names t) held holds waiting left result) k h)
