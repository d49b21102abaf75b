-- The words of a condition: 1 to 8 terms, joined by the words `and` and `or`, of which `and` binds
-- closer.
use Rattle.std.specs.Prelude.{◌≡◌, ◌≤◌, ◌+◌, ◌↔◌, Bool, true, false, ℕ, zero, suc, ◌==◌, take, drop}
use Rattle.std.specs.Prelude.{codes, List, [], ◌∷◌, ◌++◌, length, Option, Some, None, if◌then◌else◌}
use Rattle.std.specs.Prelude.{option_and_then}
use Rattle.std.specs.List.{position}
use Rattle.std.specs.Option.{option_map, option_or}
use Rattle.std.specs.Str.{bytes_eq}
use Rattle.sim_watch.specs.declared.Op.{Op}
use Rattle.sim_watch.specs.declared.Op.TheVariants.{Less, LessOrEqual, Equal, NotEqual}
use Rattle.sim_watch.specs.declared.Op.TheVariants.{GreaterOrEqual, Greater}
use Rattle.sim_watch.specs.declared.Value.{Value}
use Rattle.sim_watch.specs.declared.Value.TheVariants.{Number, Shown}
use Rattle.sim_watch.specs.declared.Comparison.{Comparison}
use Rattle.sim_watch.specs.declared.Term.{Term}
use Rattle.sim_watch.specs.declared.Term.TheVariants.{Cmp, Count, Any, All, Agree, AgreeBy, Differ}
use Rattle.sim_watch.specs.declared.Term.TheVariants.{Up, NotUp, Done, NotDone}
use Rattle.sim_watch.specs.Condition.{Cond, terms as all_terms}
use Rattle.sim_script.specs.Words.{Text, Names, host, probe, number}

-- ---- the grammar

abbrev pub op_word : Op → Text
op_word Less = codes "<"
op_word LessOrEqual = codes "<="
op_word Equal = codes "="
op_word NotEqual = codes "!="
op_word GreaterOrEqual = codes ">="
op_word Greater = codes ">"

-- a number of 1 to 19 decimal digits
abbrev pub bound : Text → Option ℕ
bound word = number 19 word

module _ (names : Names) where
  -- HOST.PROBE
  abbrev pub WritesProbe : Text → ℕ → ℕ → Type 0
  WritesProbe word h k =
      (x : Text) × (y : Text) × (word ≡ x ++ (codes "." ++ y)) × (host names x ≡ Some h)
      × (probe names y ≡ Some k)

  -- VALUE: a number, or HOST.PROBE
  abbrev pub WritesValue : Text → Value → Type 0
  WritesValue word (Number n) = bound word ≡ Some n
  WritesValue word (Shown h k) = WritesProbe word h k

  -- The words of a term, where OP is a comparison's sign and K and N are numbers.
  abbrev pub WritesTerm : List Text → Term → Type 0
  -- HOST.PROBE OP VALUE
  WritesTerm given (Cmp h k c) = (x : Text) × (z : Text) × (given ≡ x ∷ op_word c.op ∷ z ∷ [])
      × WritesProbe x h k × WritesValue z c.value
  -- `count` PROBE OP VALUE OP K
  WritesTerm given (Count k c op m) =
      (y : Text) × (z : Text) × (n : Text) × (given ≡ codes "count" ∷ y ∷ op_word c.op ∷ z
      ∷ op_word op ∷ n ∷ [])
      × (probe names y ≡ Some k) × WritesValue z c.value × (bound n ≡ Some m)
  -- `any` PROBE OP VALUE
  WritesTerm given (Any k c) =
      (y : Text) × (z : Text) × (given ≡ codes "any" ∷ y ∷ op_word c.op ∷ z ∷ [])
      × (probe names y ≡ Some k) × WritesValue z c.value
  -- `all` PROBE OP VALUE
  WritesTerm given (All k c) =
      (y : Text) × (z : Text) × (given ≡ codes "all" ∷ y ∷ op_word c.op ∷ z ∷ [])
      × (probe names y ≡ Some k) × WritesValue z c.value
  -- `agree` PROBE `unless` N
  WritesTerm given (Agree k n) =
      (y : Text) × (z : Text) × (given ≡ codes "agree" ∷ y ∷ codes "unless" ∷ z ∷ [])
      × (probe names y ≡ Some k) × (bound z ≡ Some n)
  -- `agree` PROBE `by` PROBE `unless` N
  WritesTerm given (AgreeBy k by n) =
      (y : Text) × (x : Text) × (z : Text) × (given ≡ codes "agree" ∷ y ∷ codes "by" ∷ x
      ∷ codes "unless" ∷ z ∷ [])
      × (probe names y ≡ Some k) × (probe names x ≡ Some by) × (bound z ≡ Some n)
  -- `differ` PROBE `unless` N
  WritesTerm given (Differ k n) =
      (y : Text) × (z : Text) × (given ≡ codes "differ" ∷ y ∷ codes "unless" ∷ z ∷ [])
      × (probe names y ≡ Some k) × (bound z ≡ Some n)
  -- `up` HOST, `not` `up` HOST, `done` HOST, `not` `done` HOST
  WritesTerm given (Up h) = (x : Text) × (given ≡ codes "up" ∷ x ∷ []) × (host names x ≡ Some h)
  WritesTerm given (NotUp h) =
      (x : Text) × (given ≡ codes "not" ∷ codes "up" ∷ x ∷ []) × (host names x ≡ Some h)
  WritesTerm given (Done h) = (x : Text) × (given ≡ codes "done" ∷ x ∷ []) × (host names x ≡ Some h)
  WritesTerm given (NotDone h) =
      (x : Text) × (given ≡ codes "not" ∷ codes "done" ∷ x ∷ []) × (host names x ≡ Some h)

  -- the words of an alternative: those of its terms, with `and` between each two
  abbrev pub Joins : List Text → List Term → Type 0
  Joins given [] = ⊥
  Joins given (t ∷ []) = WritesTerm given t
  Joins given (t ∷ u ∷ more) =
      (front : List Text) × (back : List Text) × (given ≡ front ++ codes "and" ∷ back)
      × WritesTerm front t × Joins back (u ∷ more)

  -- the words of the alternatives, with `or` between each two
  abbrev pub JoinsAll : List Text → Cond → Type 0
  JoinsAll given [] = ⊥
  JoinsAll given (ts ∷ []) = Joins given ts
  JoinsAll given (ts ∷ us ∷ more) =
      (front : List Text) × (back : List Text) × (given ≡ front ++ codes "or" ∷ back)
      × Joins front ts × JoinsAll back (us ∷ more)

  -- the words write the condition
  abbrev pub Writes : List Text → Cond → Type 0
  Writes given c = JoinsAll given c × (length (all_terms c) ≤ 8)

-- ---- the condition that words write, read from the front

unfoldable pub op_of : Text → Option Op
op_of word =
    if bytes_eq word (codes "<") then Some Less
    else (if bytes_eq word (codes "<=") then Some LessOrEqual
    else (if bytes_eq word (codes "=") then Some Equal
    else (if bytes_eq word (codes "!=") then Some NotEqual
    else (if bytes_eq word (codes ">=") then Some GreaterOrEqual
    else (if bytes_eq word (codes ">") then Some Greater
    else None)))))

abbrev pub is_dot : ℕ → Bool
is_dot byte = byte == 46

-- `or` starts a new alternative, `and` continues the current one; no other word joins terms
unfoldable pub begins_after : Text → Option Bool
begins_after word =
    if bytes_eq word (codes "and") then Some false
    else (if bytes_eq word (codes "or") then Some true
    else None)

-- puts a term before a condition: in its first alternative, or in a new one
abbrev pub put_before : Bool → Term → Cond → Cond
put_before true t c = (t ∷ []) ∷ c
put_before false t [] = (t ∷ []) ∷ []
put_before false t (ts ∷ c) = (t ∷ ts) ∷ c

-- a value that was read, and the words after it
abbrev pub Read : Type 0 → Type 0
Read A = Option (A × List Text)

abbrev pub before : {A : Type 0} → List Text → Option A → Read A
before rest = option_map (λ t. (t, rest))

abbrev pub comparing : Op → Value → Comparison
comparing o v = record { op = o; value = v }

-- `unless` N
abbrev pub unless_number : (ℕ → Term) → List Text → Read Term
unless_number make (unless ∷ n ∷ rest) =
    before rest (if bytes_eq unless (codes "unless") then option_map make (bound n) else None)
unless_number make _ = None

-- OP K
abbrev pub counted : ℕ → Comparison → List Text → Read Term
counted k c (op ∷ n ∷ rest) =
    before rest (option_and_then (λ o. option_map (Count k c o) (bound n)) (op_of op))
counted k c _ = None

module _ (names : Names) where
  -- HOST.PROBE: a host before the first dot, and a probe after it
  abbrev pub host_and_probe : Text → Option (ℕ × ℕ)
  host_and_probe word = option_and_then (λ dot.
      option_and_then (λ h. option_map (λ k. (h, k)) (probe names (drop (dot + 1) word)))
      (host names (take dot word)))
      (position is_dot word)

  abbrev pub value : Text → Option Value
  value word =
      option_or (option_map Number (bound word)) (option_map (λ p. Shown p.0 p.1)
      (host_and_probe word))

  abbrev pub on_host : (ℕ → Term) → List Text → Read Term
  on_host make (h ∷ rest) = before rest (option_map make (host names h))
  on_host make _ = None

  -- the term after `not`
  abbrev pub negation : List Text → Read Term
  negation (word ∷ given) =
      if bytes_eq word (codes "up") then on_host NotUp given
      else (if bytes_eq word (codes "done") then on_host NotDone given
      else None)
  negation _ = None

  -- OP VALUE
  abbrev pub comparison : List Text → Read Comparison
  comparison (op ∷ v ∷ rest) =
      before rest (option_and_then (λ o. option_map (comparing o) (value v)) (op_of op))
  comparison _ = None

  abbrev pub with_comparison : (Comparison → Term) → List Text → Read Term
  with_comparison make given = option_map (λ r. (make r.0, r.1)) (comparison given)

  -- PROBE OP VALUE
  abbrev pub on_values : (ℕ → Comparison → Term) → List Text → Read Term
  on_values make (k ∷ given) = option_and_then (λ p. with_comparison (make p) given) (probe names k)
  on_values make _ = None

  -- PROBE OP VALUE OP K
  abbrev pub counting : List Text → Read Term
  counting (k ∷ given) =
      option_and_then (λ p. option_and_then (λ r. counted p r.0 r.1) (comparison given))
      (probe names k)
  counting _ = None

  -- PROBE `unless` N
  abbrev pub on_probe_unless : (ℕ → ℕ → Term) → List Text → Read Term
  on_probe_unless make (k ∷ given) =
      option_and_then (λ p. unless_number (make p) given) (probe names k)
  on_probe_unless make _ = None

  -- the term after `agree`: PROBE, then `unless` N or `by` PROBE `unless` N
  abbrev pub agreement : List Text → Read Term
  agreement (k ∷ word ∷ given) = option_and_then (λ p.
      if bytes_eq word (codes "by") then on_probe_unless (AgreeBy p) given
      else unless_number (Agree p) (word ∷ given))
      (probe names k)
  agreement _ = None

  -- HOST.PROBE OP VALUE
  abbrev pub compared : Text → List Text → Read Term
  compared word given =
      option_and_then (λ p. with_comparison (Cmp p.0 p.1) given) (host_and_probe word)

  unfoldable pub term : List Text → Read Term
  term [] = None
  term (word ∷ given) =
      if bytes_eq word (codes "up") then on_host Up given
      else (if bytes_eq word (codes "done") then on_host Done given
      else (if bytes_eq word (codes "not") then negation given
      else (if bytes_eq word (codes "agree") then agreement given
      else (if bytes_eq word (codes "differ") then on_probe_unless Differ given
      else (if bytes_eq word (codes "any") then on_values Any given
      else (if bytes_eq word (codes "all") then on_values All given
      else (if bytes_eq word (codes "count") then counting given
      else compared word given)))))))

  -- a term is the last one, or a joining word and more terms follow it
  abbrev pub joined : (List Text → Option Cond) → Term × List Text → Option Cond
  joined more (t, []) = Some ((t ∷ []) ∷ [])
  joined more (t, word ∷ rest) =
      option_and_then (λ begins. option_map (put_before begins t) (more rest)) (begins_after word)

  -- 1 to n terms
  abbrev pub terms : ℕ → List Text → Option Cond
  terms zero given = None
  terms (suc n) given = option_and_then (joined (terms n)) (term given)

  unfoldable pub condition : List Text → Option Cond
  condition given = terms 8 given

  -- reading agrees with writing: the words read as a condition exactly if they write it
  unfoldable pub IsWritten : List Text → Option Cond → Type 0
  IsWritten given read = (c : Cond) → (read ≡ Some c) ↔ Writes names given c
