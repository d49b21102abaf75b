-- The line of an event is read as the command that makes the event.
use Rattle.std.proofs.Common.{◌≡◌, ◌∙◌, refl, sym, ap, arith, ℕ, ◌<◌, ◌≤◌, List, [], ◌∷◌, ◌++◌, length, Bool, true, false, ◌&&◌, ◌||◌, Some, None, length-append, option_map, option_and_then, inl, inr}
use Rattle.std.specs.Prelude.{◌==◌, nat_le, nat_lt, codes}
use Rattle.std.specs.List.{list_all, position}
use Rattle.std.specs.Option.{unwrap_or}
use Rattle.std.specs.Str.{bytes_eq}
use Rattle.std.proofs.lemmas.Bool.{and_parts, and_from}
use Rattle.std.proofs.lemmas.List.Folds.{list_all-append}
use Rattle.std.proofs.lemmas.Bool.Decides.{nat_tests}
use Rattle.std.proofs.lemmas.List.{get_or_past}
use Rattle.std.proofs.lemmas.List.Elements.{All-nil, All-cons}
use Rattle.sim_scenario.specs.Scenario.{is_name, is_letter, is_digit, begins_with_letter}
use Rattle.sim_events.specs.declared.Fault.{Fault}
use Rattle.sim_events.specs.declared.Fault.TheVariants as fault
use Rattle.sim_events.specs.declared.Event.{Event}
use Rattle.sim_events.specs.declared.Event.TheVariants as event
use Rattle.sim_watch.specs.declared.command.Command.{Command}
use Rattle.sim_watch.specs.declared.command.Command.TheVariants as command
use Rattle.sim_script.specs.Words.{Text, Names, named, name_at, host, host_name, words, is_word, HasNoSpace}
use Rattle.sim_script.specs.Script.{script_line, command_of, command_by, numbered_of, fault_of, a_host, two_hosts}
use Rattle.sim_script.specs.declared.script.ScriptLine.TheVariants.{Asked}
use Rattle.sim_script.proofs.FirstWords.{words-word, words-last}
use Rattle.sim_script.proofs.Picking.{of_if}
use Rattle.sim_input.specs.Events.{AreRead, on_host, on_hosts, fault_line, event_line}
use Rattle.sim_input.specs.Events as events

-- ---- names

no_space_in : (c : ℕ) → (is_letter c || is_digit c) ≡ true → (c == 32) ≡ false
no_space_in c h = grind (arith, nat_tests)

plain_has_none : (name : Text) → list_all (λ c. is_letter c || is_digit c) name ≡ true → HasNoSpace name
plain_has_none [] h = All-nil (λ byte. (byte == 32) ≡ false)
plain_has_none (c ∷ name) h =
    let parts = and_parts (is_letter c || is_digit c) (list_all (λ x. is_letter x || is_digit x) name) h in
    All-cons (λ byte. (byte == 32) ≡ false) c name (no_space_in c parts.0) (plain_has_none name parts.1)

-- what is read as one of the names is a name
pub is_named : (names : List Text) (absent : ℕ) (word : Text) (n : ℕ) → named names absent word ≡ Some n → is_name word ≡ true
unfolding named
is_named names absent word n e = elim (of_if (is_name word) (Some (unwrap_or (position (bytes_eq word) names) absent)) None n e) [
  | inl w ↦ w.0
  | inr w ↦ absurd (let x = w.1 in cc)
]

-- a name has no space, and at most 16 bytes
pub record IsPlain (name : Text) : Type 0 where
  pub bytes : list_all (λ c. is_letter c || is_digit c) name ≡ true
  pub spaceless : HasNoSpace name
  pub short : length name ≤ 16

pub plain : (name : Text) → is_name name ≡ true → IsPlain name
plain name h =
    let parts = and_parts (nat_le (length name) 16 && begins_with_letter name) (list_all (λ c. is_letter c || is_digit c) name) h in
    let first = and_parts (nat_le (length name) 16) (begins_with_letter name) parts.0 in
    record { bytes = parts.1; spaceless = plain_has_none name parts.1; short = grind (arith, nat_tests, first.0) }

there_by : (names : List Text) (n : ℕ) (b : Bool) → nat_lt n (length names) ≡ b → is_word (name_at names n) ≡ true → n < length names
there_by names n true e w = grind (arith, nat_tests)
there_by names n false e w =
    let past : length names ≤ n = grind (arith, nat_tests) in
    let none : name_at names n ≡ [] = get_or_past names n [] past in
    absurd (let f = ap is_word none in cc)

-- what has a name is there
pub there : (names : List Text) (n : ℕ) → is_word (name_at names n) ≡ true → n < length names
there names n w = there_by names n (nat_lt n (length names)) refl w

-- a host's name is read as the host
read : (names : Names) (h : ℕ) → AreRead names → is_word (host_name names h) ≡ true → host names (host_name names h) ≡ Some h
unfolding AreRead
read names h are w = are h (there names.hosts h w)

plain_host : (names : Names) (h : ℕ) → AreRead names → is_word (host_name names h) ≡ true → IsPlain (host_name names h)
plain_host names h are w = plain (host_name names h) (is_named names.hosts 65535 (host_name names h) h (read names h are w))

-- ---- lines

-- the name of a host alone, and two names
one_name : (name : Text) → is_word name ≡ true → HasNoSpace name → words name ≡ name ∷ []
one_name [] w h = absurd cc
one_name (c ∷ name) w h = words-last c name h

two_names : (first second : Text) → is_word first ≡ true → is_word second ≡ true → HasNoSpace first → HasNoSpace second →
    words (first ++ 32 ∷ second) ≡ first ∷ second ∷ []
two_names [] second w v h k = absurd cc
two_names (c ∷ first) second w v h k = words-word c first second h ∙ ap (λ more. (c ∷ first) ∷ more) (one_name second v k)

-- the first word of a command: it has no space, is short, and begins neither a comment nor a branch
record IsVerb (b : ℕ) (verb : Text) : Type 0 where
  pub spaceless : HasNoSpace (b ∷ verb)
  pub short : length verb ≤ 14
  pub no_comment : (b == 35) ≡ false
  pub no_branch : (b == 64) ≡ false

no_mark : (b : ℕ) → (is_letter b || is_digit b) ≡ true → ((b == 35) ≡ false) × ((b == 64) ≡ false)
no_mark b h = (grind (arith, nat_tests), grind (arith, nat_tests))

is_verb : (b : ℕ) (more : Text) → list_all (λ c. is_letter c || is_digit c) (b ∷ more) ≡ true → nat_le (length more) 14 ≡ true → IsVerb b more
is_verb b more h short =
    let parts = and_parts (is_letter b || is_digit b) (list_all (λ c. is_letter c || is_digit c) more) h in
    let marks = no_mark b parts.0 in
    record { spaceless = plain_has_none (b ∷ more) h; short = grind (arith, nat_tests, short); no_comment = marks.0; no_branch = marks.1 }

-- a line of a verb and more words, where the words make a command
read_line : (names : Names) (b : ℕ) (verb rest : Text) (given : List Text) (c : Command) → IsVerb b verb → length rest ≤ 40 →
    words rest ≡ given → command_by names 0 (b ∷ verb) given ≡ Some c → script_line names ((b ∷ verb) ++ 32 ∷ rest) ≡ Asked c
unfolding script_line command_of
read_line names b verb rest given c is short w made =
    let all : words ((b ∷ verb) ++ 32 ∷ rest) ≡ (b ∷ verb) ∷ given = words-word b verb rest is.spaceless ∙ ap (λ more. (b ∷ verb) ∷ more) w in
    let long = length-append verb (32 ∷ rest) in
    let fits : nat_lt 256 (length ((b ∷ verb) ++ 32 ∷ rest)) ≡ false = grind (arith, nat_tests, long, is.short, short) in
    let some : (length ((b ∷ verb) ++ 32 ∷ rest) == 0) ≡ false = grind (arith, nat_tests) in
    simp (is.no_comment, some, fits, all, is.no_branch, made) refl

module _ (names : Names) (are : AreRead names) where
  -- a verb that makes a fault of the hosts that follow it
  abbrev MakesOne : Text → (ℕ → Fault) → Type 0
  MakesOne verb make = (given : List Text) → command_by names 0 verb given ≡ option_map (command.Fault 0) (option_map make (a_host names given))

  abbrev MakesTwo : Text → (ℕ → ℕ → Fault) → Type 0
  MakesTwo verb make = (given : List Text) →
      command_by names 0 verb given ≡ option_map (command.Fault 0) (option_map (λ p. make p.0 p.1) (two_hosts names given))

  one_host : (b : ℕ) (verb : Text) (make : ℕ → Fault) → IsVerb b verb → MakesOne (b ∷ verb) make → (h : ℕ) (line : Text) →
      on_host names (b ∷ verb) h ≡ Some line → script_line names line ≡ Asked (command.Fault 0 (make h))
  one_host b verb make is makes h line e = elim (of_if (is_word (host_name names h)) (Some ((b ∷ verb) ++ 32 ∷ host_name names h)) None line e) [
    | inl w ↦
        let name = plain_host names h are w.0 in
        let known = read names h are w.0 in
        let made : command_by names 0 (b ∷ verb) (host_name names h ∷ []) ≡ Some (command.Fault 0 (make h)) =
        makes (host_name names h ∷ []) ∙ ap (λ o. option_map (command.Fault 0) (option_map make o)) known in
        let long = name.short in
        let fits : length (host_name names h) ≤ 40 = omega (arith, long) in
        let whole : (b ∷ verb) ++ 32 ∷ host_name names h ≡ line = let s = w.1 in cc in
        ap (script_line names) (sym whole) ∙ read_line names b verb (host_name names h) (host_name names h ∷ []) (command.Fault 0 (make h)) is fits
        (one_name (host_name names h) w.0 name.spaceless) made
    | inr w ↦ absurd (let x = w.1 in cc)
  ]

  two_hosts_of : (b : ℕ) (verb : Text) (make : ℕ → ℕ → Fault) → IsVerb b verb → MakesTwo (b ∷ verb) make → (h k : ℕ) (line : Text) →
      on_hosts names (b ∷ verb) h k ≡ Some line → script_line names line ≡ Asked (command.Fault 0 (make h k))
  two_hosts_of b verb make is makes h k line e =
      elim (of_if (is_word (host_name names h) && is_word (host_name names k)) (Some ((b ∷ verb) ++ 32 ∷ (host_name names h ++ 32 ∷ host_name names k))) None line e) [
        | inl w ↦
            let both = and_parts (is_word (host_name names h)) (is_word (host_name names k)) w.0 in
            let first = plain_host names h are both.0 in
            let second = plain_host names k are both.1 in
            let made : command_by names 0 (b ∷ verb) (host_name names h ∷ host_name names k ∷ []) ≡ Some (command.Fault 0 (make h k)) =
            makes (host_name names h ∷ host_name names k ∷ [])
            ∙ ap (λ o. option_map (command.Fault 0) (option_map (λ (p : ℕ × ℕ). make p.0 p.1) (option_and_then (λ x. option_map (λ y. (x, y)) (host names (host_name names k))) o))) (read names h are both.0)
            ∙ ap (λ o. option_map (command.Fault 0) (option_map (λ (p : ℕ × ℕ). make p.0 p.1) (option_map (λ y. (h, y)) o))) (read names k are both.1) in
            let long = length-append (host_name names h) (32 ∷ host_name names k) in
            let one = first.short in
            let other = second.short in
            let fits : length (host_name names h ++ 32 ∷ host_name names k) ≤ 40 = omega (arith, long, one, other) in
            let whole : (b ∷ verb) ++ 32 ∷ (host_name names h ++ 32 ∷ host_name names k) ≡ line = let s = w.1 in cc in
            ap (script_line names) (sym whole)
            ∙ read_line names b verb (host_name names h ++ 32 ∷ host_name names k) (host_name names h ∷ host_name names k ∷ []) (command.Fault 0 (make h k)) is fits
            (two_names (host_name names h) (host_name names k) both.0 both.1 first.spaceless second.spaceless) made
        | inr w ↦ absurd (let x = w.1 in cc)
      ]

  -- the line of a fault asks for the fault
  fault_read : (f : Fault) (line : Text) → fault_line names f ≡ Some line → script_line names line ≡ Asked (command.Fault 0 f)
  unfolding command_by numbered_of fault_of
  fault_read (fault.Crash h) line e = one_host 99 (codes "rash") fault.Crash (is_verb 99 (codes "rash") refl refl) (λ given. refl) h line e
  fault_read (fault.Bounce h) line e = one_host 98 (codes "ounce") fault.Bounce (is_verb 98 (codes "ounce") refl refl) (λ given. refl) h line e
  fault_read (fault.Hold a b) line e = two_hosts_of 104 (codes "old") fault.Hold (is_verb 104 (codes "old") refl refl) (λ given. refl) a b line e
  fault_read (fault.Release a b) line e = two_hosts_of 114 (codes "elease") fault.Release (is_verb 114 (codes "elease") refl refl) (λ given. refl) a b line e
  fault_read (fault.Cut a b) line e = two_hosts_of 112 (codes "artition") fault.Cut (is_verb 112 (codes "artition") refl refl) (λ given. refl) a b line e
  fault_read (fault.Repair a b) line e = two_hosts_of 114 (codes "epair") fault.Repair (is_verb 114 (codes "epair") refl refl) (λ given. refl) a b line e
  fault_read (fault.CutOneway a b) line e = two_hosts_of 99 (codes "utoneway") fault.CutOneway (is_verb 99 (codes "utoneway") refl refl) (λ given. refl) a b line e
  fault_read (fault.RepairOneway a b) line e =
      two_hosts_of 114 (codes "epaironeway") fault.RepairOneway (is_verb 114 (codes "epaironeway") refl refl) (λ given. refl) a b line e

-- the line of an event asks for the event
step_read : (names : Names) → script_line names (codes "step") ≡ Asked (command.Step 0)
unfolding script_line command_of command_by
step_read names = refl

pub line_read : (names : Names) (e : Event) (line : Text) → AreRead names → event_line names e ≡ Some line → script_line names line ≡ Asked (events.command_of e)
line_read names event.Step line are s = let same : codes "step" ≡ line = cc in ap (script_line names) (sym same) ∙ step_read names
line_read names (event.Advance time) line are s = absurd cc
line_read names (event.Fault f) line are s = fault_read names are f line s

-- ---- the bytes of a line

-- a small letter, a digit or a space
abbrev pub is_spelling : ℕ → Bool
is_spelling c = (is_letter c || is_digit c) || c == 32

spells : (c : ℕ) → (is_letter c || is_digit c) ≡ true → is_spelling c ≡ true
spells c h = ap (λ b. b || c == 32) h

plain_spelled : (text : Text) → list_all (λ c. is_letter c || is_digit c) text ≡ true → list_all is_spelling text ≡ true
plain_spelled [] h = refl
plain_spelled (c ∷ text) h =
    let parts = and_parts (is_letter c || is_digit c) (list_all (λ x. is_letter x || is_digit x) text) h in
    and_from (is_spelling c) (list_all is_spelling text) (spells c parts.0) (plain_spelled text parts.1)

spaced_spelled : (x y : Text) → list_all is_spelling x ≡ true → list_all is_spelling y ≡ true → list_all is_spelling (x ++ (32 ∷ y)) ≡ true
spaced_spelled x y h k = list_all-append is_spelling x (32 ∷ y) ∙ and_from (list_all is_spelling x) (list_all is_spelling y) h k

module _ (names : Names) (are : AreRead names) where
  one_spelled : (verb : Text) (h : ℕ) (line : Text) → list_all is_spelling verb ≡ true → on_host names verb h ≡ Some line → list_all is_spelling line ≡ true
  one_spelled verb h line v e = elim (of_if (is_word (host_name names h)) (Some (verb ++ (32 ∷ host_name names h))) None line e) [
    | inl w ↦
        let name = plain_host names h are w.0 in
        let whole : verb ++ (32 ∷ host_name names h) ≡ line = let s = w.1 in cc in
        ap (list_all is_spelling) (sym whole) ∙ spaced_spelled verb (host_name names h) v (plain_spelled (host_name names h) name.bytes)
    | inr w ↦ absurd (let x = w.1 in cc)
  ]

  two_spelled : (verb : Text) (h k : ℕ) (line : Text) → list_all is_spelling verb ≡ true → on_hosts names verb h k ≡ Some line → list_all is_spelling line ≡ true
  two_spelled verb h k line v e =
      elim (of_if (is_word (host_name names h) && is_word (host_name names k)) (Some (verb ++ (32 ∷ (host_name names h ++ (32 ∷ host_name names k))))) None line e) [
        | inl w ↦
            let both = and_parts (is_word (host_name names h)) (is_word (host_name names k)) w.0 in
            let first = plain_host names h are both.0 in
            let second = plain_host names k are both.1 in
            let whole : verb ++ (32 ∷ (host_name names h ++ (32 ∷ host_name names k))) ≡ line = let s = w.1 in cc in
            ap (list_all is_spelling) (sym whole) ∙ spaced_spelled verb (host_name names h ++ (32 ∷ host_name names k)) v
            (spaced_spelled (host_name names h) (host_name names k) (plain_spelled (host_name names h) first.bytes) (plain_spelled (host_name names k) second.bytes))
        | inr w ↦ absurd (let x = w.1 in cc)
      ]

  fault_spelled : (f : Fault) (line : Text) → fault_line names f ≡ Some line → list_all is_spelling line ≡ true
  fault_spelled (fault.Crash h) line e = one_spelled (codes "crash") h line refl e
  fault_spelled (fault.Bounce h) line e = one_spelled (codes "bounce") h line refl e
  fault_spelled (fault.Hold a b) line e = two_spelled (codes "hold") a b line refl e
  fault_spelled (fault.Release a b) line e = two_spelled (codes "release") a b line refl e
  fault_spelled (fault.Cut a b) line e = two_spelled (codes "partition") a b line refl e
  fault_spelled (fault.Repair a b) line e = two_spelled (codes "repair") a b line refl e
  fault_spelled (fault.CutOneway a b) line e = two_spelled (codes "cutoneway") a b line refl e
  fault_spelled (fault.RepairOneway a b) line e = two_spelled (codes "repaironeway") a b line refl e

pub line_spelled : (names : Names) (e : Event) (line : Text) → AreRead names → event_line names e ≡ Some line → list_all is_spelling line ≡ true
line_spelled names event.Step line are s = let same : codes "step" ≡ line = cc in ap (list_all is_spelling) (sym same)
line_spelled names (event.Advance time) line are s = absurd cc
line_spelled names (event.Fault f) line are s = fault_spelled names are f line s
