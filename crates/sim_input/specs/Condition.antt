-- The text of a condition: its words, with one space between each two.
use Rattle.std.specs.Prelude.{◌≡◌, ◌<◌, ◌^◌, ℕ, nat_lt, Bool, true, false, codes, List, [], ◌∷◌}
use Rattle.std.specs.Prelude.{◌++◌, length, Option, Some, None, if◌then◌else◌}
use Rattle.std.specs.Fmt.{decimal}
use Rattle.sim_watch.specs.declared.Value.{Value}
use Rattle.sim_watch.specs.declared.Value.TheVariants.{Number, Shown}
use Rattle.sim_watch.specs.declared.Comparison.{Comparison}
use Rattle.sim_watch.specs.declared.Term.{Term}
use Rattle.sim_watch.specs.declared.Term.TheVariants.{Cmp, Count, Any, All, Agree, AgreeBy, Differ}
use Rattle.sim_watch.specs.declared.Term.TheVariants.{Up, NotUp, Done, NotDone}
use Rattle.sim_watch.specs.Condition.{Cond}
use Rattle.sim_script.specs.Words.{Text, Names, is_word, probe, host_name, probe_name}
use Rattle.sim_script.specs.Conditions.{op_word}

-- each probe's name is read as that probe: it is a name, and no earlier probe has the same
unfoldable pub ProbesAreRead : Names → Type 0
ProbesAreRead names = (k : ℕ) → k < length names.probes → probe names (probe_name names k) ≡ Some k

-- there is a text to add, and the new text is the old one followed by it
abbrev pub Adds : Option Text → Text → Text → Type 0
Adds added old new = (text : Text) × (added ≡ Some text) × (new ≡ old ++ text)

-- two texts with a third between them, if both exist
abbrev pub between : Text → Option Text → Option Text → Option Text
between mid (Some x) (Some y) = Some (x ++ (mid ++ y))
between mid _ _ = None

abbrev pub spaced : Option Text → Option Text → Option Text
spaced a b = between (codes " ") a b

-- a word, and a text after it
abbrev pub after : Text → Option Text → Option Text
after word text = spaced (Some word) text

-- the texts of a list's elements, with another between each two; none if the list is empty or an
-- element has no text
abbrev pub between_each : {A : Type 0} → Text → (A → Option Text) → List A → Option Text
between_each mid text_of [] = None
between_each mid text_of (x ∷ []) = text_of x
between_each mid text_of (x ∷ y ∷ more) =
    between mid (text_of x) (between_each mid text_of (y ∷ more))

-- the word before a term that begins an alternative, or continues one
abbrev pub joint_text : Bool → Text
joint_text true = codes " or "
joint_text false = codes " and "

-- a name, unless it is empty
abbrev pub name_text : Text → Option Text
name_text name = if is_word name then Some name else None

-- a number of at most 19 digits; one of 20 digits cannot be read
abbrev pub number_text : ℕ → Option Text
number_text n = if nat_lt n (10 ^ 19) then Some (decimal n) else None

module _ (names : Names) where
  abbrev pub host_text : ℕ → Option Text
  host_text h = name_text (host_name names h)

  abbrev pub probe_text : ℕ → Option Text
  probe_text k = name_text (probe_name names k)

  -- HOST.PROBE
  abbrev pub place_text : ℕ → ℕ → Option Text
  place_text h k = between (codes ".") (host_text h) (probe_text k)

  -- VALUE: a number, or HOST.PROBE
  abbrev pub value_text : Value → Option Text
  value_text (Number n) = number_text n
  value_text (Shown h k) = place_text h k

  -- OP VALUE
  abbrev pub comparison_text : Comparison → Option Text
  comparison_text c = after (op_word c.op) (value_text c.value)

  -- WORD PROBE OP VALUE
  abbrev pub values_text : Text → ℕ → Comparison → Option Text
  values_text word k c = after word (spaced (probe_text k) (comparison_text c))

  -- WORD PROBE `unless` N
  abbrev pub unless_text : Text → ℕ → ℕ → Option Text
  unless_text word k n =
      after word (spaced (probe_text k) (after (codes "unless") (number_text n)))

  abbrev pub term_text : Term → Option Text
  term_text (Cmp h k c) = spaced (place_text h k) (comparison_text c)
  term_text (Count k c op m) =
      spaced (values_text (codes "count") k c) (after (op_word op) (number_text m))
  term_text (Any k c) = values_text (codes "any") k c
  term_text (All k c) = values_text (codes "all") k c
  term_text (Agree k n) = unless_text (codes "agree") k n
  term_text (AgreeBy k by n) =
      spaced (after (codes "agree") (probe_text k)) (unless_text (codes "by") by n)
  term_text (Differ k n) = unless_text (codes "differ") k n
  term_text (Up h) = after (codes "up") (host_text h)
  term_text (NotUp h) = after (codes "not up") (host_text h)
  term_text (Done h) = after (codes "done") (host_text h)
  term_text (NotDone h) = after (codes "not done") (host_text h)

  -- the terms of an alternative, and the alternatives
  abbrev pub alternative_text : List Term → Option Text
  alternative_text terms = between_each (codes " and ") term_text terms

  abbrev pub condition_text : Cond → Option Text
  condition_text cond = between_each (codes " or ") alternative_text cond
