-- The lines of a script, one after the other, and how they are read.
use Rattle.std.proofs.Common.{◌≡◌, ◌∙◌, refl, sym, ap, arith, ℕ, zero, suc, ◌+◌, ◌-◌, ◌<◌, List, [], ◌∷◌, ◌++◌, length, map, true, false, Option, Some, None, append_assoc, option_map, option_and_then, cond, get_or, take}
use Rattle.std.specs.Prelude.{◌==◌, slice_index, All}
use Rattle.std.specs.List.{list_all, slice_split}
use Rattle.std.specs.Str.Lines.{lines, lines_of_parts, strip_carriage_return}
use Rattle.std.proofs.lemmas.Bool.Decides.{nat_tests}
use Rattle.std.proofs.lemmas.List.Splits.{slice_split_at, length-slice_split}
use Rattle.std.proofs.Math.Seq.{take-suc}
use Rattle.sim_scenario.specs.Scenario.{all_some}
use Rattle.sim_script.specs.Words.{Text}
use Rattle.sim_script.proofs.Picking.{of_then, of_map}
use Rattle.sim_script.specs.Words.{Names}
use Rattle.sim_script.specs.Script.{script_line}
use Rattle.sim_script.specs.declared.script.ScriptLine.TheVariants.{Asked}
use Rattle.std.proofs.lemmas.Bool.{and_parts}
use Rattle.std.proofs.lemmas.List.Elements.{All-nil, All-cons}
use Rattle.sim_events.specs.declared.Event.{Event}
use Rattle.sim_input.specs.Events.{AreRead, text_of, event_line, event_lines, command_of}
use Rattle.sim_input.proofs.Reading.{is_spelling, line_spelled, line_read}

-- ---- lists in which each has a value

module _ {A B : Type 0} (f : A → Option B) where
  pub one_more : (xs : List A) (x : A) (ys : List B) (y : B) → all_some f xs ≡ Some ys → f x ≡ Some y → all_some f (xs ++ x ∷ []) ≡ Some (ys ++ y ∷ [])
  one_more [] x ys y e h =
      let none : [] ≡ ys = cc in
      ap (λ o. option_and_then (λ b. option_map (λ bs. b ∷ bs) (all_some f [])) o) h ∙ ap (λ l. Some (l ++ y ∷ [])) none
  one_more (a ∷ xs) x ys y e h =
      let head = of_then (λ b. option_map (λ bs. b ∷ bs) (all_some f xs)) (f a) ys e in
      let tail = of_map (λ bs. head.0 ∷ bs) (all_some f xs) ys head.2 in
      ap (λ o. option_and_then (λ b. option_map (λ bs. b ∷ bs) (all_some f (xs ++ x ∷ []))) o) head.1
      ∙ ap (λ o. option_map (λ bs. head.0 ∷ bs) o) (one_more xs x tail.0 y tail.1 h)
      ∙ ap (λ l. Some (l ++ y ∷ [])) tail.2

  before_none : (o : Option B) → option_and_then (λ b. option_map (λ bs. b ∷ bs) None) o ≡ None
  before_none None = refl
  before_none (Some b) = refl

  pub none_at : (xs : List A) (i : ℕ) (d : A) → i < length xs → f (get_or xs i d) ≡ None → all_some f xs ≡ None
  none_at [] i d l n = absurd (omega arith)
  none_at (x ∷ xs) zero d l n = ap (λ o. option_and_then (λ b. option_map (λ bs. b ∷ bs) (all_some f xs)) o) n
  none_at (x ∷ xs) (suc i) d l n =
      ap (λ o. option_and_then (λ b. option_map (λ bs. b ∷ bs) o) (f x)) (none_at xs i d (omega arith) n) ∙ before_none (f x)

pub text_more : (ls : List Text) (line : Text) → text_of (ls ++ line ∷ []) ≡ text_of ls ++ (line ++ 10 ∷ [])
text_more [] line = refl
text_more (l ∷ ls) line =
    ap (λ t. l ++ (10 ∷ t)) (text_more ls line) ∙ sym (append_assoc l (10 ∷ text_of ls) (line ++ 10 ∷ []))

-- ---- the lines of a text

no_newline : (c : ℕ) → is_spelling c ≡ true → (c == 10) ≡ false
no_newline c h = grind (arith, nat_tests)

no_return : (c : ℕ) → is_spelling c ≡ true → (c == 13) ≡ false
no_return c h = grind (arith, nat_tests)

all_without : (line : Text) → list_all is_spelling line ≡ true → All (λ c. (c == 10) ≡ false) line
all_without [] h = All-nil (λ c. (c == 10) ≡ false)
all_without (c ∷ line) h =
    let parts = and_parts (is_spelling c) (list_all is_spelling line) h in
    All-cons (λ x. (x == 10) ≡ false) c line (no_newline c parts.0) (all_without line parts.1)

byte_of : (line : Text) (i : ℕ) → list_all is_spelling line ≡ true → (slice_index line i == 13) ≡ false
byte_of [] i h = refl
byte_of (c ∷ line) zero h = no_return c (and_parts (is_spelling c) (list_all is_spelling line) h).0
byte_of (c ∷ line) (suc i) h = byte_of line i (and_parts (is_spelling c) (list_all is_spelling line) h).1

stays : (line : Text) → list_all is_spelling line ≡ true → strip_carriage_return line ≡ line
stays line h = ap (λ b. cond b (take (length line - 1) line) line) (byte_of line (length line - 1) h)

before_parts : (line : Text) (parts : List Text) → 0 < length parts → lines_of_parts (line ∷ parts) ≡ strip_carriage_return line ∷ lines_of_parts parts
before_parts line [] some = absurd (omega arith)
before_parts line (y ∷ more) some = refl

first_line : (line rest : Text) → list_all is_spelling line ≡ true → lines (line ++ (10 ∷ rest)) ≡ line ∷ lines rest
first_line line rest h =
    let many = length-slice_split (λ b. b == 10) rest in
    let some : 0 < length (slice_split (λ b. b == 10) rest) = omega (arith, many) in
    ap lines_of_parts (slice_split_at (λ b. b == 10) line 10 rest (all_without line h) refl)
    ∙ before_parts line (slice_split (λ b. b == 10) rest) some
    ∙ ap (λ l. l ∷ lines rest) (stays line h)

-- the lines of the text of events are read as the commands that make them
pub script_read : (names : Names) (events : List Event) (ls : List Text) → AreRead names → event_lines names events ≡ Some ls →
    map (script_line names) (lines (text_of ls)) ≡ map (λ e. Asked (command_of e)) events
script_read names [] ls are e = let none : [] ≡ ls = cc in ap (λ l. map (script_line names) (lines (text_of l))) (sym none)
script_read names (x ∷ events) ls are e =
    let head = of_then (λ b. option_map (λ bs. b ∷ bs) (event_lines names events)) (event_line names x) ls e in
    let tail = of_map (λ bs. head.0 ∷ bs) (event_lines names events) ls head.2 in
    ap (λ l. map (script_line names) (lines (text_of l))) (sym tail.2)
    ∙ ap (map (script_line names)) (first_line head.0 (text_of tail.0) (line_spelled names x head.0 are head.1))
    ∙ ap (λ l. l ∷ map (script_line names) (lines (text_of tail.0))) (line_read names x head.0 are head.1)
    ∙ ap (λ l. Asked (command_of x) ∷ l) (script_read names events tail.0 are tail.1)

pub take_next : {A : Type 0} (xs : List A) (i : ℕ) (d : A) → i < length xs → take (i + 1) xs ≡ take i xs ++ (get_or xs i d ∷ [])
take_next xs i d h = let e : i + 1 ≡ suc i = omega arith in ap (λ n. take n xs) e ∙ take-suc xs i d h
