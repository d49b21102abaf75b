-- What a turn says of its line: nothing is at fault, or why the line is.
use Rattle.std.proofs.Common.{◌≡◌, ◌≢◌, ℕ, ◌+◌, ◌<◌, List, [], ◌∷◌, ◌++◌, ◌&&◌, refl, sym, ◌∙◌, ap, subst, append_assoc, append-nil, cond, Bool, true, false, inl, inr, Option, Some, None, Result, Ok, Err}
use Rattle.std.specs.Prelude.{nat_lt, is_none}
use Rattle.std.specs.List.{concat}
use Rattle.sim_world.specs.Events.{Rules}
use Rattle.sim_watch.specs.declared.command.Command.{Command}
use Rattle.sim_watch.specs.declared.command.Command.TheVariants as command
use Rattle.sim_book.specs.declared.Entry.{Entry}
use Rattle.sim_book.specs.declared.NotTaken.{NotTaken}
use Rattle.sim_book.specs.declared.NotTaken.TheVariants.{HistoryFull, NoMemory}
use Rattle.sim_book.specs.declared.Refusal.{Refusal}
use Rattle.sim_book.specs.declared.Reply.{Reply}
use Rattle.sim_book.specs.Book.{Book}
use Rattle.sim_watch.specs.Commands.{branch_of}
use Rattle.sim_book.specs.Answer.{after, answer_by, done_reply, refusal_of}
use Rattle.sim_answers.specs.Lines.{line, reply_words, turn_line}
use Rattle.sim_script.specs.declared.script.ScriptLine.{ScriptLine}
use Rattle.sim_script.specs.declared.script.ScriptLine.TheVariants.{Asked}
use Rattle.sim_script.specs.Script.{Text, Names, script_line}
use Rattle.sim_cli.specs.declared.fault.LineFault.{LineFault}
use Rattle.sim_cli.specs.declared.fault.LineFault.TheVariants as fault
use Rattle.sim_cli.specs.declared.fault.ScriptFault.{ScriptFault}
use Rattle.sim_cli.specs.Turns.{Course, Takes}
use Rattle.sim_cli.specs.Play.{Run, answer_line, end_from, full_line, out_from, plain_next, plain_text}
use Rattle.sim_cli.specs.Strict.{Explains, IsFirstFault, are_well, fault_of_reply, fault_of_turn, is_well, tells_want, wants_memory}
use Rattle.sim_cli.proofs.Runs.{below, not_below, plain_gives, same_course}

both : (a b : Bool) → a ≡ true → b ≡ true → (a && b) ≡ true
both a b h k = ap (λ x. x && b) h ∙ k

left_of : (a b : Bool) → (a && b) ≡ true → a ≡ true
left_of true b h = refl
left_of false b h = h

right_of : (a b : Bool) → (a && b) ≡ true → b ≡ true
right_of true b h = h
right_of false b h = absurd (let e : false ≡ true = h in cc)

no_right : (a b : Bool) → b ≡ false → (a && b) ≡ false
no_right true b h = h
no_right false b h = refl

module _ {State Msg : Type 0} (r : Rules State Msg) where
  -- a command that was carried out is answered by no refusal
  done_well : (c : Command) (book : Book) → fault_of_reply (done_reply r c book) ≡ None
  done_well (command.Step b) book = refl
  done_well (command.Tick b) book = refl
  done_well (command.Run b n) book = refl
  done_well (command.Fault b f) book = refl
  done_well (command.Back b n) book = refl
  done_well (command.Forward b n) book = refl
  done_well (command.Goto b p) book = refl
  done_well (command.Rewind b n) book = refl
  done_well (command.Cut b) book = refl
  done_well (command.Branch b p) book = refl
  done_well (command.Watch b c) book = refl
  done_well (command.Unwatch b w) book = refl
  done_well (command.Look b q) book = refl
  done_well (command.Freeze b) book = refl

  not_refused : (why : Option Refusal) (c : Command) (book : Book) → fault_of_reply (answer_by r why c book) ≡ None → why ≡ None
  not_refused None c book n = refl
  not_refused (Some w) c book n = absurd (let e : Some (fault.Refused w) ≡ None = n in cc)

  is_refused : (why : Option Refusal) (c : Command) (book : Book) (f : LineFault) → fault_of_reply (answer_by r why c book) ≡ Some f
      → (w : Refusal) × (f ≡ fault.Refused w) × (why ≡ Some w)
  is_refused None c book f s = absurd (let e : None ≡ Some f = sym (done_well c book) ∙ s in cc)
  is_refused (Some w) c book f s =
      let same : fault.Refused w ≡ f = (let e : Some (fault.Refused w) ≡ Some f = s in cc) in
      (w, sym same, refl)

module _ {State Msg : Type 0} (r : Rules State Msg) (names : Names) where
  -- a turn that wants no memory is the plain turn
  pub plain_turn : (old new : Course) (c : Command) (turn : Result Entry NotTaken) → Takes r old c turn new → tells_want (fault_of_turn turn) ≡ false
      → (turn_line names turn ≡ plain_text r names old (Asked c)) × (new ≡ plain_next r names old (Asked c))
  plain_turn old new c (Ok e) t n =
      let few = below old.taken t.0 in
      let told : turn_line names (Ok e) ≡ line (reply_words names (branch_of c) e.reply) = ap (λ (x : Command). line (reply_words names (branch_of x) e.reply)) t.3 in
      elim t.4 [
        | inl a ↦ (
          told ∙ ap (λ x. line (reply_words names (branch_of c) x)) a.0 ∙ ap (λ b. cond b (answer_line r names old.branches c) full_line) (sym few),
          same_course new (record { branches = after r old.branches c; taken = old.taken + 1 }) a.1 t.1
              ∙ ap (λ b. cond {A = Course} b (record { branches = after r old.branches c; taken = old.taken + 1 }) old) (sym few),
        )
        | inr a ↦ absurd (let w : tells_want (fault_of_reply e.reply) ≡ true = ap (λ x. tells_want (fault_of_reply x)) a.2 in let bad : true ≡ false = sym w ∙ n in cc)
      ]
  plain_turn old new c (Err HistoryFull) t n =
      let many = not_below old.taken t.0 in (
        ap (λ b. cond b (answer_line r names old.branches c) full_line) (sym many),
        t.1 ∙ ap (λ b. cond {A = Course} b (record { branches = after r old.branches c; taken = old.taken + 1 }) old) (sym many),
      )
  plain_turn old new c (Err NoMemory) t n = absurd (let e : true ≡ false = n in cc)

  -- and where it tells of no fault, its line is not at fault
  pub well_turn : (old new : Course) (c : Command) (turn : Result Entry NotTaken) → Takes r old c turn new → fault_of_turn turn ≡ None → is_well r names old (Asked c) ≡ true
  well_turn old new c (Ok e) t n =
      elim t.4 [
        | inl a ↦
            let none = not_refused r (refusal_of r c old.branches) c old.branches (sym (ap fault_of_reply a.0) ∙ n) in
            both (nat_lt old.taken 65536) (is_none (refusal_of r c old.branches)) (below old.taken t.0) (ap is_none none)
        | inr a ↦ absurd (let w = ap fault_of_reply a.2 in let bad = sym w ∙ n in cc)
      ]
  well_turn old new c (Err why) t n = absurd (let e : Some (fault.NotTaken why) ≡ None = n in cc)

  -- else that is why the line is at fault
  pub explained_turn : (old new : Course) (c : Command) (turn : Result Entry NotTaken) (f : LineFault) → Takes r old c turn new → fault_of_turn turn ≡ Some f → wants_memory f ≡ false
      → Explains r names old (Asked c) f
  explained_turn old new c (Ok e) f t s n =
      elim t.4 [
        | inl a ↦
            let is = is_refused r (refusal_of r c old.branches) c old.branches f (sym (ap fault_of_reply a.0) ∙ s) in
            subst (λ (x : LineFault). Explains r names old (Asked c) x) (sym is.1) (c, refl, t.0, is.2)
        | inr a ↦ absurd (
            let w : tells_want (fault_of_reply e.reply) ≡ true = ap (λ x. tells_want (fault_of_reply x)) a.2 in
            let o : tells_want (fault_of_reply e.reply) ≡ wants_memory f = ap tells_want s in
            let bad : true ≡ false = sym w ∙ (o ∙ n) in cc)
      ]
  explained_turn old new c (Err HistoryFull) f t s n =
      let same : fault.NotTaken HistoryFull ≡ f = (let e : Some (fault.NotTaken HistoryFull) ≡ Some f = s in cc) in
      subst (λ (x : LineFault). Explains r names old (Asked c) x) same (c, refl, t.0)
  explained_turn old new c (Err NoMemory) f t s n =
      absurd (let o : true ≡ wants_memory f = ap tells_want s in let bad : true ≡ false = o ∙ n in cc)

  -- ---- the lines of a script

  pub end_append : (old : Course) (ls : List Text) (l : Text) → end_from r names old (ls ++ l ∷ []) ≡ plain_next r names (end_from r names old ls) (script_line names l)
  end_append old [] l = refl
  end_append old (x ∷ ls) l = end_append (plain_next r names old (script_line names x)) ls l

  pub out_append : (old : Course) (ls : List Text) (l : Text)
      → out_from r names old (ls ++ l ∷ []) ≡ out_from r names old ls ++ plain_text r names (end_from r names old ls) (script_line names l)
  out_append old [] l = append-nil (plain_text r names old (script_line names l))
  out_append old (x ∷ ls) l =
      let next = plain_next r names old (script_line names x) in
      let first = plain_text r names old (script_line names x) in
      ap (λ (t : Text). first ++ t) (out_append next ls l) ∙ sym (append_assoc first (out_from r names next ls) (plain_text r names (end_from r names next ls) (script_line names l)))

  pub wells_append : (old : Course) (ls : List Text) (l : Text) → are_well r names old ls ≡ true → is_well r names (end_from r names old ls) (script_line names l) ≡ true
      → are_well r names old (ls ++ l ∷ []) ≡ true
  wells_append old [] l h k = both (is_well r names old (script_line names l)) true k refl
  wells_append old (x ∷ ls) l h k =
      let next = plain_next r names old (script_line names x) in
      let one = is_well r names old (script_line names x) in
      both one (are_well r names next (ls ++ l ∷ [])) (left_of one (are_well r names next ls) h)
      (wells_append next ls l (right_of one (are_well r names next ls) h) k)

  -- the plain texts for lines, one for each
  abbrev pub texts_of : Course → List Text → List Text
  texts_of old [] = []
  texts_of old (l ∷ ls) = plain_text r names old (script_line names l) ∷ texts_of (plain_next r names old (script_line names l)) ls

  pub texts_run : (old : Course) (ls : List Text) → Run r names old ls (texts_of old ls) (end_from r names old ls)
  texts_run old [] = refl
  texts_run old (l ∷ ls) =
      (plain_next r names old (script_line names l), plain_gives r names old (script_line names l), texts_run (plain_next r names old (script_line names l)) ls)

  pub texts_all : (old : Course) (ls : List Text) → concat (texts_of old ls) ≡ out_from r names old ls
  texts_all old [] = refl
  texts_all old (l ∷ ls) = ap (λ (t : Text). plain_text r names old (script_line names l) ++ t) (texts_all (plain_next r names old (script_line names l)) ls)

  -- ---- a line at fault

  not_well : (old : Course) (asked : ScriptLine) (f : LineFault) → Explains r names old asked f → is_well r names old asked ≡ false
  not_well old asked (fault.Bad mistake) h = ap (is_well r names old) h
  not_well old asked (fault.Refused why) h =
      ap (is_well r names old) h.1
      ∙ no_right (nat_lt old.taken 65536) (is_none (refusal_of r h.0 old.branches)) (ap is_none h.3)
  not_well old asked (fault.NotTaken HistoryFull) h =
      ap (is_well r names old) h.1
      ∙ ap (λ b. b && is_none (refusal_of r h.0 old.branches)) (not_below old.taken h.2)
  not_well old asked (fault.NotTaken NoMemory) h = absurd h

  ill_after : (old : Course) (before : List Text) (l : Text) (after : List Text) → is_well r names (end_from r names old before) (script_line names l) ≡ false
      → are_well r names old (before ++ l ∷ after) ≡ false
  ill_after old [] l after h = ap (λ b. b && are_well r names (plain_next r names old (script_line names l)) after) h
  ill_after old (x ∷ before) l after h =
      let next = plain_next r names old (script_line names x) in
      no_right (is_well r names old (script_line names x)) (are_well r names next (before ++ l ∷ after)) (ill_after next before l after h)

  -- where a line is at fault, not all are well
  pub not_all_well : (old : Course) (ls : List Text) (f : ScriptFault) → IsFirstFault r names old ls f → are_well r names old ls ≡ false
  not_all_well old ls f h =
      ap (are_well r names old) h.cut
      ∙ ill_after old h.before h.line h.after (not_well (end_from r names old h.before) (script_line names h.line) f.why h.why)
