-- A script is followed line by line.
use Rattle.std.proofs.Common.{◌≡◌, ℕ, ◌+◌, ◌-◌, ◌^◌, ◌<◌, List, [], ◌∷◌, ◌++◌, Option, Some, None, refl, sym, ap, subst, ◌∙◌, append-nil, append_assoc, Bool, true, false, arith, inl, inr, Result, Ok, Err, length, min, set, length-append}
use Rattle.std.proofs.lemmas.List.{length-map, length-set}
use Rattle.std.specs.Io.KnownBytes.{Consumes, IsAtEnd}
use Rattle.std.specs.Str.Lines.{lines}
use Rattle.sim_world.specs.Events.{Rules}
use Rattle.sim_watch.specs.declared.command.Command.{Command}
use Rattle.sim_book.specs.declared.Entry.{Entry}
use Rattle.sim_book.specs.declared.NotTaken.{NotTaken}
use Rattle.sim_book.specs.declared.NotTaken.TheVariants.{HistoryFull, NoMemory}
use Rattle.sim_book.specs.declared.Refusal.{Refusal}
use Rattle.sim_book.specs.Book.{Book, branch}
use Rattle.sim_watch.specs.Commands.{branch_of}
use Rattle.sim_book.specs.Answer.{after_by, branch_after, branches_made, refusal_of}
use Rattle.sim_book.specs.Kept.{BookView, shown}
use Rattle.sim_lines.specs.Cut.{Shows}
use Rattle.sim_lines.specs.Taken.{TakesLine, TakesLast}
use Rattle.sim_script.specs.declared.script.ScriptLine.{ScriptLine}
use Rattle.sim_script.specs.declared.script.ScriptLine.TheVariants.{Asked}
use Rattle.sim_script.specs.Script.{Text, Names, script_line}
use Rattle.sim_cli.specs.declared.fault.LineFault.{LineFault}
use Rattle.sim_cli.specs.declared.fault.ScriptFault.{ScriptFault}
use Rattle.sim_cli.specs.Turns.{Course, Takes, course_of}
use Rattle.sim_cli.specs.Strict.{Explains, IsFirstFault, are_well, fault_of_turn, is_well, tells_want}
use Rattle.sim_cli.specs.Play.{end_from, plain_next}
use Rattle.sim_cli.proofs.Runs.{known, at_end_of}
use Rattle.sim_cli.proofs.Judging.{end_append, explained_turn, plain_turn, well_turn, wells_append}
use Rattle.sim_cli.proofs.Shown.{shown_asks}
use Rattle.sim_cli.specs.declared.stop.LineStop.{LineStop}
use Rattle.sim_cli.specs.declared.stop.LineStop.TheVariants as one
use Rattle.sim_cli.specs.declared.stop.ScriptStop.{ScriptStop}
use Rattle.sim_cli.specs.declared.stop.ScriptStop.TheVariants as whole
use Rattle.sim_cli.specs.Following.{Followed, Follows, FollowsLine, StopsAt}

grown : {A : Type 0} (l made : List A) (i : ℕ) (x : A) → 0 < length l → 0 < length (set l i x ++ made)
grown l made i x h =
    let more = length-append (set l i x) made in
    let same = length-set l i x in
    omega (arith, more, same, h)

module _ {State Msg : Type 0} (r : Rules State Msg) where
  -- no command removes a branch
  some_by : (why : Option Refusal) (c : Command) (book : Book) → 0 < length book → 0 < length (after_by r why c book)
  some_by (Some why) c book h = h
  some_by None c book h =
      let x = branch (branch_of c) book in
      grown book (branches_made r c x) (branch_of c) (branch_after r c x) h

  some_after : (old new : Course) (c : Command) (turn : Result Entry NotTaken) → Takes r old c turn new → 0 < length old.branches → 0 < length new.branches
  some_after old new c (Ok e) t h = elim t.4 [
    | inl a ↦ subst (λ (b : Book). 0 < length b) (sym a.1) (some_by (refusal_of r c old.branches) c old.branches h)
    | inr a ↦ subst (λ (b : Book). 0 < length b) (sym a.3) h
  ]
  some_after old new c (Err HistoryFull) t h = subst (λ (x : Course). 0 < length x.branches) (sym t.1) h
  some_after old new c (Err NoMemory) t h = subst (λ (x : Course). 0 < length x.branches) (sym t.1) h

  -- after a turn a book that had branches has some
  pub some_kept : (old new : BookView) (c : Command) (turn : Result Entry NotTaken) → Takes r (course_of old) c turn (course_of new) → 0 < length old.kept → 0 < length new.kept
  some_kept old new c turn t h =
      subst (λ (n : ℕ). 0 < n) (length-map new.kept shown)
      (some_after (course_of old) (course_of new) c turn t (subst (λ (n : ℕ). 0 < n) (sym (length-map old.kept shown)) h))

-- ---- one command

module _ {State Msg : Type 0} (r : Rules State Msg) (names : Names) (old new : Course) (c : Command) (turn : Result Entry NotTaken) (f : Option LineFault) (t : Takes r old c turn new)
    (wants : Bool) (e : f ≡ fault_of_turn turn) (w : wants ≡ tells_want f) (n : wants ≡ false) where
  asked_next : new ≡ plain_next r names old (Asked c)
  asked_next = (plain_turn r names old new c turn t (ap tells_want (sym e) ∙ (sym w ∙ n))).1

  -- it was carried out
  pub asked_well : (strict : Bool) → f ≡ None → (new ≡ plain_next r names old (Asked c)) × (strict ≡ true → is_well r names old (Asked c) ≡ true)
  asked_well strict s = (asked_next, λ is. well_turn r names old new c turn t (sym e ∙ s))

  -- it may have been refused
  pub asked_on : (strict : Bool) → strict ≡ false → (new ≡ plain_next r names old (Asked c)) × (strict ≡ true → is_well r names old (Asked c) ≡ true)
  asked_on strict lax = (asked_next, λ is. absurd (let bad : true ≡ false = sym is ∙ lax in cc))

  -- it was refused, or not taken
  pub asked_ill : (why : LineFault) → f ≡ Some why → Explains r names old (Asked c) why
  asked_ill why s = explained_turn r names old new c turn why t (sym e ∙ s) (ap tells_want (sym s) ∙ (sym w ∙ n))

-- ---- the lines of a script

-- the number of the next line
next_number : (n m before : ℕ) → n ≡ min before (2 ^ 64 - 1) → m ≡ min (n + 1) (2 ^ 64 - 1) → m ≡ min (before + 1) (2 ^ 64 - 1)
next_number n m before h k = omega (arith, h, k)

module _ {State Msg : Type 0} (r : Rules State Msg) (names : Names) (strict : Bool) where
  pub at_start : (start : Course) (script : Text) (left : Option Text) → left ≡ Some script → Followed r names strict start script start left 0
  at_start start script left e =
      record { done = []; rest = script; is_left = e; cut = refl; at = refl; well = λ s. refl; count = refl }

  -- where a line that is kept goes, the line goes
  followed_on : (start here next : Course) (done : List Text) (kept line : Text) → Shows kept line → here ≡ end_from r names start done → next ≡ plain_next r names here (script_line names kept)
      → next ≡ end_from r names start (done ++ line ∷ [])
  followed_on start here next done kept line s at e =
      e ∙ (ap (plain_next r names here) (shown_asks names kept line s)
      ∙ (ap (λ (c : Course). plain_next r names c (script_line names line)) at ∙ sym (end_append r names start done line)))

  well_on : (start here : Course) (done : List Text) (kept line : Text) → Shows kept line → here ≡ end_from r names start done → are_well r names start done ≡ true
      → is_well r names here (script_line names kept) ≡ true → are_well r names start (done ++ line ∷ []) ≡ true
  well_on start here done kept line s at well h =
      wells_append r names start done line well
      (ap (λ (c : Course). is_well r names c (script_line names line)) (sym at) ∙ (ap (is_well r names here) (sym (shown_asks names kept line s)) ∙ h))

  -- one more line was followed
  pub at_line : (start : Course) (script : Text) (here next : Course) (now new : Option Text) (number number' : ℕ) (kept : Text) → Followed r names strict start script here now number → TakesLine now new kept
      → number' ≡ min (number + 1) (2 ^ 64 - 1)
      → (next ≡ plain_next r names here (script_line names kept)) × (strict ≡ true → is_well r names here (script_line names kept) ≡ true) → Followed r names strict start script next new number'
  at_line start script here next now new number number' kept f t n e =
      let k = known f.rest t.taken new (subst (λ o. Consumes o new t.taken) f.is_left t.consumed) in
      let one : length (f.done ++ t.line ∷ []) ≡ length f.done + 1 = length-append f.done (t.line ∷ []) in
      record {
        done = f.done ++ t.line ∷ [];
        rest = k.0;
        is_left = k.1;
        cut = f.cut ∙ ap (λ xs. f.done ++ lines xs) k.2 ∙ ap (λ ls. f.done ++ ls) (t.ends.all k.0) ∙ sym (append_assoc f.done (t.line ∷ []) (lines k.0));
        at = followed_on start here next f.done kept t.line t.shown f.at e.0;
        well = λ s. well_on start here f.done kept t.line t.shown f.at (f.well s) (e.1 s);
        count = next_number number number' (length f.done) f.count n ∙ ap (λ (k : ℕ). min k (2 ^ 64 - 1)) (sym one);
      }

  -- the lines of a script up to the last one, which has no line end
  whole_last : (start : Course) (script : Text) (here : Course) (now new : Option Text) (number : ℕ) (kept : Text) → (f : Followed r names strict start script here now number) → (t : TakesLast now new kept)
      → lines script ≡ f.done ++ t.line ∷ []
  whole_last start script here now new number kept f t =
      let k = known f.rest t.taken new (subst (λ o. Consumes o new t.taken) f.is_left t.consumed) in
      let none = at_end_of new k.0 k.1 t.end in
      let whole : f.rest ≡ t.taken = k.2 ∙ ap (λ xs. t.taken ++ xs) none ∙ append-nil t.taken in
      f.cut ∙ ap (λ xs. f.done ++ lines xs) whole ∙ ap (λ ls. f.done ++ ls) t.ends.all

  -- the last line was followed
  pub at_last : (start : Course) (script : Text) (here next : Course) (now new : Option Text) (number : ℕ) (kept : Text) → Followed r names strict start script here now number → TakesLast now new kept
      → (next ≡ plain_next r names here (script_line names kept)) × (strict ≡ true → is_well r names here (script_line names kept) ≡ true)
      → (next ≡ end_from r names start (lines script)) × (strict ≡ true → are_well r names start (lines script) ≡ true)
  at_last start script here next now new number kept f t e =
      let all = whole_last start script here now new number kept f t in (
        followed_on start here next f.done kept t.line t.shown f.at e.0 ∙ ap (end_from r names start) (sym all),
        λ s. ap (are_well r names start) all ∙ well_on start here f.done kept t.line t.shown f.at (f.well s) (e.1 s),
      )

  -- nothing was left
  pub at_end : (start : Course) (script : Text) (here : Course) (now new : Option Text) (number : ℕ) → Followed r names strict start script here now number → Consumes now new [] → IsAtEnd new
      → (here ≡ end_from r names start (lines script)) × (strict ≡ true → are_well r names start (lines script) ≡ true)
  at_end start script here now new number f c end =
      let k = known f.rest [] new (subst (λ o. Consumes o new []) f.is_left c) in
      let none : f.rest ≡ [] = k.2 ∙ at_end_of new k.0 k.1 end in
      let all : lines script ≡ f.done = f.cut ∙ ap (λ xs. f.done ++ lines xs) none ∙ append-nil f.done in
      (f.at ∙ ap (end_from r names start) (sym all), λ s. ap (are_well r names start) all ∙ f.well s)

  -- ---- a line at fault

  first_fault : (start : Course) (script : Text) (here : Course) (now : Option Text) (number number' : ℕ) (kept line : Text) (more : List Text) (why : LineFault) (x : ScriptFault)
      → (f : Followed r names strict start script here now number) → lines script ≡ f.done ++ line ∷ more → Shows kept line → number' ≡ min (number + 1) (2 ^ 64 - 1)
      → strict ≡ true → Explains r names here (script_line names kept) why → x.number ≡ number' → x.text.items ≡ kept → x.why ≡ why → IsFirstFault r names start (lines script) x
  first_fault start script here now number number' kept line more why x f all s n is a xn xt xw = record {
    before = f.done;
    line = line;
    after = more;
    cut = all;
    well = f.well is;
    number = xn ∙ next_number number number' (length f.done) f.count n;
    text = subst (λ (t : Text). Shows t line) (sym xt) s;
    why = subst (λ (c : Course). Explains r names c (script_line names line) x.why) f.at
        (subst (λ (asked : ScriptLine). Explains r names here asked x.why) (shown_asks names kept line s)
        (subst (λ (w : LineFault). Explains r names here (script_line names kept) w) (sym xw) a));
  }

  stops_at : (T U : Type 0) (start new : Course) (script : Text) (here next : Course) (now : Option Text) (number number' : ℕ) (kept line : Text) (more : List Text) (why : LineStop) (x : ScriptStop)
      → (f : Followed r names strict start script here now number) → lines script ≡ f.done ++ line ∷ more → Shows kept line → number' ≡ min (number + 1) (2 ^ 64 - 1)
      → FollowsLine r names strict {T = T} here next (script_line names kept) (Err why) → StopsAt why number' kept x → Follows r names strict {T = U} start new (lines script) (Err x)
  stops_at T U start new script here next now number number' kept line more (one.Fault why) (whole.Fault x) f all s n a h =
      (a.0, first_fault start script here now number number' kept line more why x f all s n a.0 a.1 h.0 h.1 h.2)
  stops_at T U start new script here next now number number' kept line more (one.Fault why) (whole.Ended ended) f all s n a h = absurd h
  stops_at T U start new script here next now number number' kept line more one.MemoryWanted (whole.Fault x) f all s n a h = absurd h
  stops_at T U start new script here next now number number' kept line more one.MemoryWanted (whole.Ended ended) f all s n a h = tt

  pub at_stop : (T U : Type 0) (start new : Course) (script : Text) (here next : Course) (now then : Option Text) (number number' : ℕ) (kept : Text) (why : LineStop) (x : ScriptStop)
      → Followed r names strict start script here now number → TakesLine now then kept → number' ≡ min (number + 1) (2 ^ 64 - 1)
      → FollowsLine r names strict {T = T} here next (script_line names kept) (Err why) → StopsAt why number' kept x → Follows r names strict {T = U} start new (lines script) (Err x)
  at_stop T U start new script here next now then number number' kept why x f t n a h =
      let k = known f.rest t.taken then (subst (λ o. Consumes o then t.taken) f.is_left t.consumed) in
      let all : lines script ≡ f.done ++ t.line ∷ lines k.0 = f.cut ∙ ap (λ xs. f.done ++ lines xs) k.2 ∙ ap (λ ls. f.done ++ ls) (t.ends.all k.0) in
      stops_at T U start new script here next now number number' kept t.line (lines k.0) why x f all t.shown n a h

  pub at_last_stop : (T U : Type 0) (start new : Course) (script : Text) (here next : Course) (now then : Option Text) (number number' : ℕ) (kept : Text) (why : LineStop) (x : ScriptStop)
      → Followed r names strict start script here now number → TakesLast now then kept → number' ≡ min (number + 1) (2 ^ 64 - 1)
      → FollowsLine r names strict {T = T} here next (script_line names kept) (Err why) → StopsAt why number' kept x → Follows r names strict {T = U} start new (lines script) (Err x)
  at_last_stop T U start new script here next now then number number' kept why x f t n a h =
      stops_at T U start new script here next now number number' kept t.line [] why x f (whole_last start script here now then number kept f t) t.shown n a h

-- the same over equal rules, for an equal line
pub follows_as : {State Msg : Type 0} (r q : Rules State Msg) (names : Names) (strict : Bool) (T : Type 0) (here next : Course) (shown kept : Text) (result : Result T LineStop)
    → q ≡ r → shown ≡ kept → FollowsLine q names strict {T = T} here next (script_line names shown) result → FollowsLine r names strict {T = T} here next (script_line names kept) result
follows_as {State} {Msg} r q names strict T here next shown kept result e k h =
    subst (λ (p : Rules State Msg). FollowsLine p names strict {T = T} here next (script_line names kept) result) e
    (subst (λ (t : Text). FollowsLine q names strict {T = T} here next (script_line names t) result) k h)
