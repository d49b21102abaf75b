-- The lines of a script that were answered so far.
use Rattle.std.proofs.Common.{◌≡◌, ℕ, ◌+◌, ◌<◌, ◌≤◌, List, [], ◌∷◌, ◌++◌, refl, sym, ◌∙◌, ap, subst, append_assoc, append-nil, arith, cond, Bool, true, false, inl, inr, Option, Some, None, Result, Ok, Err}
use Rattle.std.specs.Prelude.{nat_lt}
use Rattle.std.proofs.lemmas.Bool.Decides.{nat_tests}
use Rattle.std.specs.List.{concat, AllByRecursion}
use Rattle.std.specs.Io.KnownBytes.{Consumes, IsAtEnd, prepend_known}
use Rattle.std.specs.Str.Lines.{lines}
use Rattle.sim_lines.specs.Cut.{whole_lines}
use Rattle.sim_lines.specs.Left.{Passes, PassesSome}
use Rattle.sim_lines.specs.Taken.{TakesLine, TakesLast, TakesPart}
use Rattle.sim_lines.specs.Waiting.{Waiting}
use Rattle.sim_lines.proofs.Known.{Consumes-append, Consumes-none, prepend-none}
use Rattle.sim_lines.proofs.Passing.{Passes-none, Passes-append, PassesSome-append}
use Rattle.sim_world.specs.Events.{Rules}
use Rattle.sim_watch.specs.declared.command.Command.{Command}
use Rattle.sim_book.specs.declared.Entry.{Entry}
use Rattle.sim_book.specs.declared.NotTaken.{NotTaken}
use Rattle.sim_book.specs.declared.NotTaken.TheVariants.{HistoryFull, NoMemory}
use Rattle.sim_book.specs.Answer.{answer, after}
use Rattle.sim_watch.specs.Commands.{branch_of}
use Rattle.sim_answers.specs.Lines.{line, reply_words, turn_line}
use Rattle.sim_script.specs.declared.script.ScriptLine.{ScriptLine}
use Rattle.sim_script.specs.declared.script.ScriptLine.TheVariants.{Nothing, Bad, Asked}
use Rattle.sim_script.specs.Script.{Text, Names, script_line}
use Rattle.sim_cli.specs.declared.status.Status.{Status}
use Rattle.sim_cli.specs.declared.status.Status.TheVariants.{Well, ReaderFailed, WriterFailed, MemoryWanted}
use Rattle.sim_cli.specs.Turns.{Course, Takes, course_after}
use Rattle.sim_cli.specs.Play.{Gives, Run, Tells, TellsLines, TellsTo, Begins, Plays, Ended, TellsNoWant, out_from, end_from, plain_text, plain_next, answer_line, full_line}
use Rattle.sim_cli.specs.Answers.{GivesAll, GivesPart, Finishes}
use Rattle.sim_cli.proofs.Shown.{shown_asks}

is_below : (n : ℕ) → nat_lt n 65536 ≡ true → n < 65536
is_below n e = grind (arith, nat_tests)

at_least : (n : ℕ) → nat_lt n 65536 ≡ false → 65536 ≤ n
at_least n e = grind (arith, nat_tests)

pub below : (n : ℕ) → n < 65536 → nat_lt n 65536 ≡ true
below n h = grind (arith, nat_tests)

pub not_below : (n : ℕ) → 65536 ≤ n → nat_lt n 65536 ≡ false
not_below n h = grind (arith, nat_tests)

concat-append : (xs ys : List Text) → concat (xs ++ ys) ≡ concat xs ++ concat ys
concat-append [] ys = refl
concat-append (x ∷ xs) ys = ap (λ zs. x ++ zs) (concat-append xs ys) ∙ sym (append_assoc x (concat xs) (concat ys))

concat-one : (xs : List Text) (y : Text) → concat (xs ++ y ∷ []) ≡ concat xs ++ y
concat-one xs y = concat-append xs (y ∷ []) ∙ ap (λ zs. concat xs ++ zs) (append-nil y)

-- what is given is what was taken, and the rest
pub known : (script taken : Text) (now : Option Text) → Consumes (Some script) now taken → (rest : Text) × (now ≡ Some rest) × (script ≡ taken ++ rest)
known script taken None h = absurd h
known script taken (Some rest) h = (rest, refl, h)

pub at_end_of : (new : Option Text) (rest : Text) → new ≡ Some rest → IsAtEnd new → rest ≡ []
at_end_of new rest e h = rw e at h

pub same_course : (old : Course) (new : Course) → old.branches ≡ new.branches → old.taken ≡ new.taken → old ≡ new
same_course old new b t =
    let one : old ≡ record { branches = new.branches; taken = old.taken } = ap (λ x. record old { branches = x }) b in
    one ∙ ap (λ (n : ℕ). record new { taken = n }) t

-- all was handed over, and then what waited was written
pub finished : (P : Status → Text → Type 0) (asked ended : Status) (held mid holds : Option Text) (waiting text : Text) →
    Passes held mid [] text waiting → Finishes mid holds waiting asked ended → P asked text → ((part more : Text) → text ≡ part ++ more → P WriterFailed part) →
    Ended held holds (P ended)
finished P asked ended held mid holds waiting text p f is begins = elim f [
  | inl w ↦
      let both = Passes-append held mid holds [] text waiting [] [] p w.1 in
      let part : both.part ≡ text = sym (append-nil both.part) ∙ sym both.all ∙ append-nil text in
      rw w.0 (record { written = text; appended = rw part at both.appended; is = is })
  | inr w ↦
      let both = PassesSome-append held mid holds [] text waiting [] p w.1 in
      rw w.0 (record { written = both.passes.part; appended = both.passes.appended; is = begins both.passes.part both.left (sym (append-nil text) ∙ both.passes.all) })
]

module _ {State Msg : Type 0} (r : Rules State Msg) (names : Names) where
  -- one more line
  pub Run-append : (old mid new : Course) (ls ts : List Text) (line text : Text) → Run r names old ls ts mid → Gives r names mid (script_line names line) text new →
      Run r names old (ls ++ line ∷ []) (ts ++ text ∷ []) new
  Run-append old mid new [] [] line text h g = (new, rw h at g, refl)
  Run-append old mid new [] (t ∷ ts) line text h g = absurd h
  Run-append old mid new (l ∷ ls) [] line text h g = absurd h
  Run-append old mid new (l ∷ ls) (t ∷ ts) line text h g = (h.0, h.1, Run-append h.0 mid new ls ts line text h.2 g)

  -- more lines
  Run-join : (old mid new : Course) (ls ts ks us : List Text) → Run r names old ls ts mid → Run r names mid ks us new → Run r names old (ls ++ ks) (ts ++ us) new
  Run-join old mid new [] [] ks us h k = rw h at k
  Run-join old mid new [] (t ∷ ts) ks us h k = absurd h
  Run-join old mid new (l ∷ ls) [] ks us h k = absurd h
  Run-join old mid new (l ∷ ls) (t ∷ ts) ks us h k = (h.0, h.1, Run-join h.0 mid new ls ts ks us h.2 k)

  -- there is always a text: the plain one
  plain_entry : Course → Command → Entry
  plain_entry old command = record { session = 0; number = 0; command = command; reply = answer r old.branches command }

  asked_by : (b : Bool) (old : Course) (command : Command) → (b ≡ true → old.taken < 65536) → (b ≡ false → 65536 ≤ old.taken) →
      Gives r names old (Asked command) (cond b (answer_line r names old.branches command) full_line)
      (cond {A = Course} b (record { branches = after r old.branches command; taken = old.taken + 1 }) old)
  unfolding plain_entry
  asked_by true old command h k = (Ok (plain_entry old command), (h refl, refl, refl, refl, inl (refl, refl)), refl)
  asked_by false old command h k = (Err HistoryFull, (k refl, refl), refl)

  pub plain_gives : (old : Course) (line : ScriptLine) → Gives r names old line (plain_text r names old line) (plain_next r names old line)
  plain_gives old Nothing = (refl, refl)
  plain_gives old Bad = (refl, refl)
  plain_gives old (Asked command) = asked_by (nat_lt old.taken 65536) old command (is_below old.taken) (at_least old.taken)

  pub record Rest (old : Course) (ls : List Text) : Type 0 where
    pub texts : List Text
    pub last : Course
    pub run : Run r names old ls texts last

  pub rest_of : (old : Course) (ls : List Text) → Rest old ls
  rest_of old [] = record { texts = []; last = old; run = refl }
  rest_of old (l ∷ ls) =
      let rest = rest_of (plain_next r names old (script_line names l)) ls in
      record {
        texts = plain_text r names old (script_line names l) ∷ rest.texts;
        last = rest.last;
        run = (plain_next r names old (script_line names l), plain_gives old (script_line names l), rest.run);
      }

  asked_only : (old new : Course) (command : Command) (turn : Result Entry NotTaken) (text : Text) → Takes r old command turn new → text ≡ turn_line names turn → TellsNoWant text →
      (text ≡ plain_text r names old (Asked command)) × (new ≡ course_after r old command)
  asked_only old new command (Ok e) text t w n =
      let few = below old.taken t.0 in
      let told : text ≡ line (reply_words names (branch_of command) e.reply) = w ∙ ap (λ c. line (reply_words names (branch_of c) e.reply)) t.3 in
      elim t.4 [
        | inl a ↦ (
          told ∙ ap (λ x. line (reply_words names (branch_of command) x)) a.0 ∙ ap (λ b. cond b (answer_line r names old.branches command) full_line) (sym few),
          same_course new (record { branches = after r old.branches command; taken = old.taken + 1 }) a.1 t.1
              ∙ ap (λ b. cond {A = Course} b (record { branches = after r old.branches command; taken = old.taken + 1 }) old) (sym few),
        )
        | inr a ↦ absurd (n.0 (told ∙ ap (λ x. line (reply_words names (branch_of command) x)) a.2))
      ]
  asked_only old new command (Err HistoryFull) text t w n =
      let many = not_below old.taken t.0 in (
        w ∙ ap (λ b. cond b (answer_line r names old.branches command) full_line) (sym many),
        t.1 ∙ ap (λ b. cond {A = Course} b (record { branches = after r old.branches command; taken = old.taken + 1 }) old) (sym many),
      )
  asked_only old new command (Err NoMemory) text t w n = absurd (n.1 w)

  -- a text that doesn't tell of memory is the plain one
  plain_only : (old new : Course) (line : ScriptLine) (text : Text) → Gives r names old line text new → TellsNoWant text →
      (text ≡ plain_text r names old line) × (new ≡ plain_next r names old line)
  plain_only old new Nothing text g n = g
  plain_only old new Bad text g n = g
  plain_only old new (Asked command) text g n = asked_only old new command g.0 text g.1 g.2 n

  plain_run : (old new : Course) (ls ts : List Text) → Run r names old ls ts new → AllByRecursion TellsNoWant ts →
      (concat ts ≡ out_from r names old ls) × (new ≡ end_from r names old ls)
  plain_run old new [] [] h n = (refl, h)
  plain_run old new [] (t ∷ ts) h n = absurd h
  plain_run old new (l ∷ ls) [] h n = absurd h
  plain_run old new (l ∷ ls) (t ∷ ts) h n =
      let first = plain_only old h.0 (script_line names l) t h.1 n.0 in
      let rest = plain_run h.0 new ls ts h.2 n.1 in (
        ap (λ xs. xs ++ concat ts) first.0
            ∙ ap (λ xs. plain_text r names old (script_line names l) ++ xs) (rest.0 ∙ ap (λ x. out_from r names x ls) first.1),
        rest.1 ∙ ap (λ x. end_from r names x ls) first.1,
      )

  pub tells : (old new : Course) (ls ts : List Text) (written : Text) → Run r names old ls ts new → written ≡ concat ts → Tells r names old ls ts written
  tells old new ls ts written h e = record {
    last = new;
    run = h;
    all = e;
    plain = λ n. let p = plain_run old new ls ts h n in (e ∙ p.0, p.1);
  }

  pub tells_lines : (old new : Course) (ls ts : List Text) (written : Text) → Run r names old ls ts new → written ≡ concat ts → TellsLines r names old ls written
  tells_lines old new ls ts written h e = record { texts = ts; tells = tells old new ls ts written h e }

  pub tells_to : (old new : Course) (ls ts : List Text) (written : Text) → Run r names old ls ts new → written ≡ concat ts → TellsTo r names old ls new written
  unfolding tells
  tells_to old new ls ts written h e = (record { texts = ts; tells = tells old new ls ts written h e }, refl)

  -- the lines so far were answered, and the last of the texts wait
  pub record So (old now held holds : Option Text) (waiting : Text) (course here : Course) : Type 0 where
    pub taken : Text
    pub done : List Text
    pub texts : List Text
    pub consumed : Consumes old now taken
    pub all : (tail : Text) → lines (taken ++ tail) ≡ done ++ lines tail
    pub whole : (tail : Text) → whole_lines (taken ++ tail) ≡ done ++ whole_lines tail
    pub run : Run r names course done texts here
    pub passed : Passes held holds [] (concat texts) waiting

  pub at_start : (old held : Option Text) (waiting : Text) (course : Course) → waiting ≡ [] → So old old held held waiting course course
  at_start old held waiting course e = record {
    taken = [];
    done = [];
    texts = [];
    consumed = Consumes-none old;
    all = λ tail. refl;
    whole = λ tail. refl;
    run = refl;
    passed = rw e (Passes-none held []);
  }

  -- what waited was written, or some of it
  pub at_flush : (old now held holds held' : Option Text) (waiting left : Text) (course here : Course) →
      So old now held holds waiting course here → Passes holds held' waiting [] left → So old now held held' left course here
  at_flush old now held holds held' waiting left course here f p = record {
    taken = f.taken;
    done = f.done;
    texts = f.texts;
    consumed = f.consumed;
    all = f.all;
    whole = f.whole;
    run = f.run;
    passed = rw (append-nil (concat f.texts)) at (Passes-append held holds held' [] (concat f.texts) waiting [] left f.passed p);
  }

  -- one more line was answered
  pub at_line : (old now new held holds held' : Option Text) (waiting left : Text) (course here next : Course) (kept : Text) →
      So old now held holds waiting course here → TakesLine now new kept → GivesAll r names here next (script_line names kept) holds held' waiting left →
      So old new held held' left course next
  at_line old now new held holds held' waiting left course here next kept f t g = record {
    taken = f.taken ++ t.taken;
    done = f.done ++ t.line ∷ [];
    texts = f.texts ++ g.text ∷ [];
    consumed = Consumes-append old now new f.taken t.taken f.consumed t.consumed;
    all = λ tail. ap lines (append_assoc f.taken t.taken tail) ∙ f.all (t.taken ++ tail) ∙ ap (λ ls. f.done ++ ls) (t.ends.all tail) ∙ sym (append_assoc f.done (t.line ∷ []) (lines tail));
    whole = λ tail. ap whole_lines (append_assoc f.taken t.taken tail) ∙ f.whole (t.taken ++ tail) ∙ ap (λ ls. f.done ++ ls) (t.ends.whole tail) ∙ sym (append_assoc f.done (t.line ∷ []) (whole_lines tail));
    run = Run-append course here next f.done f.texts t.line g.text f.run (rw (shown_asks names kept t.line t.shown) at g.gives);
    passed = rw (concat-one f.texts g.text) (Passes-append held holds held' [] (concat f.texts) waiting g.text left f.passed g.passes);
  }

  -- what the reader had is known
  pub as_given : (old now held holds : Option Text) (waiting : Text) (course here : Course) (script : Text) → old ≡ Some script → So old now held holds waiting course here →
      So (Some script) now held holds waiting course here
  as_given old now held holds waiting course here script e f = subst (λ (o : Option Text). So o now held holds waiting course here) e f

  -- a part of what begins a text begins it too
  pub begins_part : (course : Course) (ls : List Text) (text part more : Text) → Begins r names course ls text → text ≡ part ++ more → Begins r names course ls part
  begins_part course ls text part more b e =
      let whole : part ++ (more ++ b.more) ≡ text ++ b.more = sym (append_assoc part more b.more) ∙ ap (λ xs. xs ++ b.more) (sym e) in
      record { more = more ++ b.more; tells = rw whole b.tells }

  -- a beginning, with the plain texts for the lines that are left
  pub begins : (course here : Course) (all done more texts : List Text) → all ≡ done ++ more → Run r names course done texts here → Begins r names course all (concat texts)
  begins course here all done more texts e h =
      let rest = rest_of here more in
      record {
        more = concat rest.texts;
        tells = rw e (tells_lines course rest.last (done ++ more) (texts ++ rest.texts) (concat texts ++ concat rest.texts)
            (Run-join course here rest.last done texts more rest.texts h rest.run) (sym (concat-append texts rest.texts)));
      }

  begins_so : (script : Text) (now held holds : Option Text) (waiting : Text) (course here : Course) →
      (f : So (Some script) now held holds waiting course here) → Begins r names course (lines script) (concat f.texts)
  begins_so script now held holds waiting course here f =
      let k = known script f.taken now f.consumed in
      begins course here (lines script) f.done (lines k.0) f.texts (ap lines k.2 ∙ f.all k.0) f.run

  -- there is no memory, and what waited was written
  pub at_want : (script : Text) (ahead : Waiting) (now left held holds held' : Option Text) (waiting : Text) (course here new : Course) (ended : Status) →
      So (Some script) now held holds waiting course here → Finishes holds held' waiting MemoryWanted ended → Ended held held' (Plays r names course script new ahead left ended)
  at_want script ahead now left held holds held' waiting course here new ended f w =
      let b = begins_so script now held holds waiting course here f in
      finished (λ e text. Plays r names course script new ahead left e text) MemoryWanted ended held holds held' waiting (concat f.texts) f.passed w b
      (λ part more e. begins_part course (lines script) (concat f.texts) part more b e)

  -- the writer failed before more was handed over
  pub at_stop : (script : Text) (ahead : Waiting) (now left held holds held' : Option Text) (waiting : Text) (course here new : Course) →
      So (Some script) now held holds waiting course here → PassesSome holds held' waiting [] → Ended held held' (Plays r names course script new ahead left WriterFailed)
  at_stop script ahead now left held holds held' waiting course here new f p =
      at_want script ahead now left held holds held' waiting course here new WriterFailed f (inr (refl, p))

  -- the input ends after a line end
  pub at_end : (script : Text) (ahead : Waiting) (now left held holds held' : Option Text) (waiting : Text) (course here : Course) (ended : Status) →
      So (Some script) now held holds waiting course here → Consumes now (prepend_known ahead.bytes left) [] → IsAtEnd (prepend_known ahead.bytes left) →
      Finishes holds held' waiting Well ended → Ended held held' (Plays r names course script here ahead left ended)
  at_end script ahead now left held holds held' waiting course here ended f c end w =
      let new = prepend_known ahead.bytes left in
      let k = known script (f.taken ++ []) new (Consumes-append (Some script) now new f.taken [] f.consumed c) in
      let whole : script ≡ f.taken ++ [] = k.2 ∙ ap (λ xs. (f.taken ++ []) ++ xs) (at_end_of new k.0 k.1 end) ∙ append-nil (f.taken ++ []) in
      let all : lines script ≡ f.done = ap lines whole ∙ f.all [] ∙ append-nil f.done in
      let b = begins_so script now held holds waiting course here f in
      finished (λ e text. Plays r names course script here ahead left e text) Well ended held holds held' waiting (concat f.texts) f.passed w
      (end, rw all (tells_to course here f.done f.texts (concat f.texts) f.run refl))
      (λ part more e. begins_part course (lines script) (concat f.texts) part more b e)

  -- the reader fails, where all that it gave was taken
  pub at_failure : (script : Text) (ahead : Waiting) (now left held holds held' : Option Text) (waiting : Text) (course here : Course) (ended : Status) →
      So (Some script) now held holds waiting course here → TakesPart now (prepend_known ahead.bytes left) → ahead.bytes ≡ [] → Finishes holds held' waiting ReaderFailed ended →
      Ended held held' (Plays r names course script here ahead left ended)
  at_failure script ahead now left held holds held' waiting course here ended f t none w =
      let new = prepend_known ahead.bytes left in
      let k = known script (f.taken ++ t.taken) new (Consumes-append (Some script) now new f.taken t.taken f.consumed t.consumed) in
      let whole : whole_lines (f.taken ++ t.taken) ≡ f.done = f.whole t.taken ∙ ap (λ ls. f.done ++ ls) t.whole ∙ append-nil f.done in
      let stays : left ≡ Some k.0 = sym (prepend-none left) ∙ ap (λ xs. prepend_known xs left) (sym none) ∙ k.1 in
      let b = begins_so script now held holds waiting course here f in
      finished (λ e text. Plays r names course script here ahead left e text) ReaderFailed ended held holds held' waiting (concat f.texts) f.passed w (
        none,
        record {
          read = f.taken ++ t.taken;
          rest = k.0;
          front = k.2;
          is_left = stays;
          tells = rw whole (tells_to course here f.done f.texts (concat f.texts) f.run refl);
        },
      )
      (λ part more e. begins_part course (lines script) (concat f.texts) part more b e)

  -- the last line has no line end
  last_all : (script : Text) (now new held holds : Option Text) (waiting : Text) (course here : Course) (kept : Text) →
      (f : So (Some script) now held holds waiting course here) → (t : TakesLast now new kept) → lines script ≡ f.done ++ t.line ∷ []
  last_all script now new held holds waiting course here kept f t =
      let k = known script (f.taken ++ t.taken) new (Consumes-append (Some script) now new f.taken t.taken f.consumed t.consumed) in
      let whole : script ≡ f.taken ++ t.taken = k.2 ∙ ap (λ xs. (f.taken ++ t.taken) ++ xs) (at_end_of new k.0 k.1 t.end) ∙ append-nil (f.taken ++ t.taken) in
      ap lines whole ∙ f.all t.taken ∙ ap (λ ls. f.done ++ ls) t.ends.all

  -- it was answered, and what waited was written
  pub at_last : (script : Text) (ahead : Waiting) (now left held holds mid held' : Option Text) (waiting rest : Text) (course here next : Course) (kept : Text) (ended : Status) →
      So (Some script) now held holds waiting course here → TakesLast now (prepend_known ahead.bytes left) kept →
      GivesAll r names here next (script_line names kept) holds mid waiting rest →
      Finishes mid held' rest Well ended → Ended held held' (Plays r names course script next ahead left ended)
  at_last script ahead now left held holds mid held' waiting rest course here next kept ended f t g w =
      let all = last_all script now (prepend_known ahead.bytes left) held holds waiting course here kept f t in
      let run = Run-append course here next f.done f.texts t.line g.text f.run (rw (shown_asks names kept t.line t.shown) at g.gives) in
      let texts = f.texts ++ g.text ∷ [] in
      let passed : Passes held mid [] (concat texts) rest = rw (concat-one f.texts g.text) (Passes-append held holds mid [] (concat f.texts) waiting g.text rest f.passed g.passes) in
      let b = begins course next (lines script) (f.done ++ t.line ∷ []) [] texts (all ∙ sym (append-nil (f.done ++ t.line ∷ []))) run in
      finished (λ e text. Plays r names course script next ahead left e text) Well ended held mid held' rest (concat texts) passed w
      (t.end, rw all (tells_to course next (f.done ++ t.line ∷ []) texts (concat texts) run refl))
      (λ part more e. begins_part course (lines script) (concat texts) part more b e)

  -- the writer failed in the answer to a line
  pub part_begins : (course next : Course) (all done more texts : List Text) (line text : Text) (held holds held' : Option Text) (waiting : Text) → all ≡ (done ++ line ∷ []) ++ more →
      Run r names course (done ++ line ∷ []) (texts ++ text ∷ []) next → Passes held holds [] (concat texts) waiting → PassesSome holds held' waiting text →
      Ended held held' (Begins r names course all)
  part_begins course next all done more texts line text held holds held' waiting e run p q =
      let b = begins course next all (done ++ line ∷ []) more (texts ++ text ∷ []) e run in
      let both = PassesSome-append held holds held' [] (concat texts) waiting text p q in
      record {
        written = both.passes.part;
        appended = both.passes.appended;
        is = begins_part course all (concat (texts ++ text ∷ [])) both.passes.part both.left b (concat-one texts text ∙ both.passes.all);
      }

  pub at_part : (script : Text) (now new held holds held' : Option Text) (waiting : Text) (course here : Course) (kept : Text) →
      So (Some script) now held holds waiting course here → TakesLine now new kept → GivesPart r names here (script_line names kept) holds held' waiting →
      Ended held held' (Begins r names course (lines script))
  at_part script now new held holds held' waiting course here kept f t g =
      let k = known script (f.taken ++ t.taken) new (Consumes-append (Some script) now new f.taken t.taken f.consumed t.consumed) in
      let all : lines script ≡ (f.done ++ t.line ∷ []) ++ lines k.0 =
      ap lines (k.2 ∙ append_assoc f.taken t.taken k.0) ∙ f.all (t.taken ++ k.0) ∙ ap (λ ls. f.done ++ ls) (t.ends.all k.0) ∙ sym (append_assoc f.done (t.line ∷ []) (lines k.0)) in
      let run = Run-append course here g.new f.done f.texts t.line g.text f.run (rw (shown_asks names kept t.line t.shown) at g.gives) in
      part_begins course g.new (lines script) f.done (lines k.0) f.texts t.line g.text held holds held' waiting all run f.passed g.passes

  pub at_last_part : (script : Text) (now new held holds held' : Option Text) (waiting : Text) (course here : Course) (kept : Text) →
      So (Some script) now held holds waiting course here → TakesLast now new kept → GivesPart r names here (script_line names kept) holds held' waiting →
      Ended held held' (Begins r names course (lines script))
  at_last_part script now new held holds held' waiting course here kept f t g =
      let all = last_all script now new held holds waiting course here kept f t in
      let run = Run-append course here g.new f.done f.texts t.line g.text f.run (rw (shown_asks names kept t.line t.shown) at g.gives) in
      part_begins course g.new (lines script) f.done [] f.texts t.line g.text held holds held' waiting (all ∙ sym (append-nil (f.done ++ t.line ∷ []))) run f.passed g.passes
