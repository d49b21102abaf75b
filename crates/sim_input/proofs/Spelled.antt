-- The words of the text of a condition.
use Rattle.std.proofs.Common.{◌≡◌, ◌∙◌, refl, sym, ap, subst, arith, ℕ, ◌+◌, ◌*◌, ◌-◌, ◌<◌, ◌≤◌, ◌^◌, true, false, not, ◌&&◌, List, [], ◌∷◌, ◌++◌, length, cond, codes, Option, Some, None, inl, inr, append_assoc, rules, lit<}
use Rattle.std.specs.Prelude.{◌==◌, nat_le, nat_lt}
use Rattle.std.specs.List.{list_all, fold}
use Rattle.std.specs.Char.{is_ascii_digit}
use Rattle.std.specs.Fmt.{decimal}
use Rattle.std.proofs.lemmas.Bool.{and_parts, and_from}
use Rattle.std.proofs.lemmas.Bool.Decides.{nat_tests}
use Rattle.std.proofs.lemmas.List.Elements.{All-nil, All-cons, All-append}
use Rattle.std.proofs.lemmas.Fmt.{digits_decimal, digits_value-decimal, length-decimal-le, decimal_nonempty}
use Rattle.std.proofs.lemmas.Str.Parse.{IsNumeralModel, numerals_by_fold}
use Rattle.sim_watch.specs.declared.Op.{Op}
use Rattle.sim_watch.specs.declared.Op.TheVariants.{Less, LessOrEqual, Equal, NotEqual, GreaterOrEqual, Greater}
use Rattle.sim_watch.specs.declared.Value.{Value}
use Rattle.sim_watch.specs.declared.Value.TheVariants.{Number, Shown}
use Rattle.sim_watch.specs.declared.Comparison.{Comparison}
use Rattle.sim_watch.specs.declared.Term.{Term}
use Rattle.sim_watch.specs.declared.Term.TheVariants.{Cmp, Count, Any, All as AllTerm, Agree, AgreeBy, Differ, Up, NotUp, Done, NotDone}
use Rattle.sim_watch.specs.Condition.{Cond, terms as all_terms}
use Rattle.sim_script.specs.Words.{Text, Names, words, is_word, HasNoSpace, named, number, number_from, host, probe, name_at}
use Rattle.sim_script.specs.Conditions.{op_word, bound, condition, WritesProbe, WritesValue, WritesTerm, Joins, JoinsAll, IsWritten}
use Rattle.sim_script.proofs.FirstWords.{words-word, words-last}
use Rattle.sim_script.proofs.Picking.{of_if}
use Rattle.sim_script.proofs.Grammar.{written_is}
use Rattle.sim_input.specs.Events.{AreRead}
use Rattle.sim_input.specs.Condition.{ProbesAreRead, spaced, after, name_text, number_text, host_text, probe_text, place_text, value_text, comparison_text, values_text, unless_text, term_text, alternative_text, condition_text}
use Rattle.sim_input.proofs.Reading.{is_named, plain, there}
use Rattle.sim_input.proofs.Joined.{between_is}

-- the words of the text, whatever follows it after a space
pub record Spells (text : Text) (given : List Text) : Type 0 where
  pub alone : words text ≡ given
  pub before : (rest : Text) → words (text ++ 32 ∷ rest) ≡ given ++ words rest

one_word : (word : Text) → is_word word ≡ true → HasNoSpace word → Spells word (word ∷ [])
one_word [] w h = absurd cc
one_word (c ∷ word) w h = record { alone = words-last c word h; before = λ rest. words-word c word rest h }

two_texts : (x y : Text) (a b : List Text) → Spells x a → Spells y b → Spells (x ++ 32 ∷ y) (a ++ b)
two_texts x y a b s t = record {
  alone = s.before y ∙ ap (λ (m : List Text). a ++ m) t.alone;
  before = λ rest. ap words (append_assoc x (32 ∷ y) (32 ∷ rest)) ∙ s.before (y ++ 32 ∷ rest) ∙ ap (λ (m : List Text). a ++ m) (t.before rest) ∙ sym (append_assoc a b (words rest));
}

no_space_in : (c : ℕ) → not (c == 32) ≡ true → (c == 32) ≡ false
no_space_in c h = grind (arith, nat_tests)

spaceless : (word : Text) → list_all (λ c. not (c == 32)) word ≡ true → HasNoSpace word
spaceless [] h = All-nil (λ byte. (byte == 32) ≡ false)
spaceless (c ∷ word) h =
    let parts = and_parts (not (c == 32)) (list_all (λ x. not (x == 32)) word) h in
    All-cons (λ byte. (byte == 32) ≡ false) c word (no_space_in c parts.0) (spaceless word parts.1)

-- a word of the grammar
key : (word : Text) → (is_word word && list_all (λ c. not (c == 32)) word) ≡ true → Spells word (word ∷ [])
key word h = let parts = and_parts (is_word word) (list_all (λ c. not (c == 32)) word) h in one_word word parts.0 (spaceless word parts.1)

sign : (o : Op) → Spells (op_word o) (op_word o ∷ [])
sign Less = key (codes "<") refl
sign LessOrEqual = key (codes "<=") refl
sign Equal = key (codes "=") refl
sign NotEqual = key (codes "!=") refl
sign GreaterOrEqual = key (codes ">=") refl
sign Greater = key (codes ">") refl

-- ---- numbers

digit_apart : (c : ℕ) → is_ascii_digit c ≡ true → not (c == 32) ≡ true
digit_apart c h = grind (arith, nat_tests)

all_apart : (word : Text) → list_all is_ascii_digit word ≡ true → list_all (λ c. not (c == 32)) word ≡ true
all_apart [] h = refl
all_apart (c ∷ word) h =
    let parts = and_parts (is_ascii_digit c) (list_all is_ascii_digit word) h in
    and_from (not (c == 32)) (list_all (λ x. not (x == 32)) word) (digit_apart c parts.0) (all_apart word parts.1)

own : IsNumeralModel (λ ds. list_all is_ascii_digit ds ≡ true) number_from
own = numerals_by_fold _ (search rules) (λ n ds. fold (λ value digit. value * 10 + (digit - 48)) n ds) (search rules)

some_word : (word : Text) → 0 < length word → is_word word ≡ true
some_word [] h = absurd (omega arith)
some_word (c ∷ word) h = refl

module _ (n : ℕ) (few : n < 10 ^ 19) where
  small : n < 2 ^ 64
  small = omega (arith, few)

  digits : list_all is_ascii_digit (decimal n) ≡ true
  digits = digits_decimal own n small

  number_word : is_word (decimal n) ≡ true
  number_word = some_word (decimal n) (decimal_nonempty n small)

  number_spells : Spells (decimal n) (decimal n ∷ [])
  number_spells = one_word (decimal n) number_word (spaceless (decimal n) (all_apart (decimal n) digits))

  number_reads : bound (decimal n) ≡ Some n
  unfolding number
  number_reads =
      let long = length-decimal-le 19 n (lit< tt) few small in
      let short : nat_le (length (decimal n)) 19 ≡ true = grind (arith, nat_tests, long) in
      ap (λ b. cond (b && (nat_le (length (decimal n)) 19 && list_all is_ascii_digit (decimal n))) (Some (number_from (decimal n))) None) number_word
      ∙ ap (λ b. cond (b && list_all is_ascii_digit (decimal n)) (Some (number_from (decimal n))) None) short
      ∙ ap (λ b. cond b (Some (number_from (decimal n))) None) digits
      ∙ ap (λ v. Some v) (digits_value-decimal own n small)

number_is : (n : ℕ) (text : Text) → number_text n ≡ Some text → Spells text (text ∷ []) × (bound text ≡ Some n)
number_is n text e = elim (of_if (nat_lt n (10 ^ 19)) (Some (decimal n)) None text e) [
  | inl w ↦
      let few : n < 10 ^ 19 = grind (arith, nat_tests, w.0) in
      let same : decimal n ≡ text = let s = w.1 in cc in
      let P : Text → Type 0 = λ t. Spells t (t ∷ []) × (bound t ≡ Some n) in
      subst P same (number_spells n few, number_reads n few)
  | inr w ↦ absurd (let x = w.1 in cc)
]

-- ---- names

name_is : (names : List Text) (absent n : ℕ) (text : Text) → ((k : ℕ) → k < length names → named names absent (name_at names k) ≡ Some k) →
    name_text (name_at names n) ≡ Some text → (is_word text ≡ true) × HasNoSpace text × (named names absent text ≡ Some n)
name_is names absent n text are e = elim (of_if (is_word (name_at names n)) (Some (name_at names n)) None text e) [
  | inl w ↦
      let read = are n (there names n w.0) in
      let name = plain (name_at names n) (is_named names absent (name_at names n) n read) in
      let same : name_at names n ≡ text = let s = w.1 in cc in
      let P : Text → Type 0 = λ t. (is_word t ≡ true) × HasNoSpace t × (named names absent t ≡ Some n) in
      subst P same (w.0, name.spaceless, read)
  | inr w ↦ absurd (let x = w.1 in cc)
]

before_dot : (x y : Text) → is_word x ≡ true → is_word (x ++ 46 ∷ y) ≡ true
before_dot [] y w = absurd cc
before_dot (c ∷ x) y w = refl

module _ (names : Names) (are : AreRead names) (shown : ProbesAreRead names) where
  host_is : (h : ℕ) (text : Text) → host_text names h ≡ Some text → (is_word text ≡ true) × HasNoSpace text × (host names text ≡ Some h)
  unfolding AreRead
  host_is h text e = name_is names.hosts 65535 h text are e

  probe_is : (k : ℕ) (text : Text) → probe_text names k ≡ Some text → (is_word text ≡ true) × HasNoSpace text × (probe names text ≡ Some k)
  unfolding ProbesAreRead
  probe_is k text e = name_is names.probes 255 k text shown e

  host_spells : (h : ℕ) (text : Text) → host_text names h ≡ Some text → Spells text (text ∷ []) × (host names text ≡ Some h)
  host_spells h text e = let name = host_is h text e in (one_word text name.0 name.1, name.2)

  probe_spells : (k : ℕ) (text : Text) → probe_text names k ≡ Some text → Spells text (text ∷ []) × (probe names text ≡ Some k)
  probe_spells k text e = let name = probe_is k text e in (one_word text name.0 name.1, name.2)

  place_spells : (h k : ℕ) (text : Text) → place_text names h k ≡ Some text → Spells text (text ∷ []) × WritesProbe names text h k
  place_spells h k text e =
      let parts = between_is (codes ".") (host_text names h) (probe_text names k) text e in
      let x = parts.0 in
      let y = parts.1 in
      let first = host_is h x parts.2 in
      let second = probe_is k y parts.3 in
      let no_space : HasNoSpace (x ++ 46 ∷ y) = All-append (λ byte. (byte == 32) ≡ false) x (46 ∷ y) first.1 (All-cons (λ byte. (byte == 32) ≡ false) 46 y refl second.1) in
      let P : Text → Type 0 = λ t. Spells t (t ∷ []) × WritesProbe names t h k in
      subst P parts.4 (one_word (x ++ 46 ∷ y) (before_dot x y first.0) no_space, (x, y, refl, first.2, second.2))

  value_spells : (v : Value) (text : Text) → value_text names v ≡ Some text → Spells text (text ∷ []) × WritesValue names text v
  value_spells (Number n) text e = number_is n text e
  value_spells (Shown h k) text e = place_spells h k text e

  -- ---- terms

  -- words, and a text after them
  after_spells : (word : Text) (front : List Text) (rest : Option Text) (text : Text) → Spells word front → after word rest ≡ Some text →
      (y : Text) × (rest ≡ Some y) × ((given : List Text) → Spells y given → Spells text (front ++ given))
  after_spells word front rest text is e =
      let parts = between_is (codes " ") (Some word) rest text e in
      let same : word ≡ parts.0 = let s = parts.2 in cc in
      let whole : word ++ 32 ∷ parts.1 ≡ text = ap (λ w. w ++ 32 ∷ parts.1) same ∙ parts.4 in
      (parts.1, parts.3, λ given y. subst (λ t. Spells t (front ++ given)) whole (two_texts word parts.1 front given is y))

  -- two texts
  both_spell : (a b : Option Text) (text : Text) → spaced a b ≡ Some text →
      (x : Text) × (y : Text) × (a ≡ Some x) × (b ≡ Some y) × ((g h : List Text) → Spells x g → Spells y h → Spells text (g ++ h))
  both_spell a b text e =
      let parts = between_is (codes " ") a b text e in
      (parts.0, parts.1, parts.2, parts.3, λ g h x y. subst (λ t. Spells t (g ++ h)) parts.4 (two_texts parts.0 parts.1 g h x y))

  comparison_spells : (c : Comparison) (text : Text) → comparison_text names c ≡ Some text →
      (z : Text) × Spells text (op_word c.op ∷ z ∷ []) × WritesValue names z c.value
  comparison_spells c text e =
      let a = after_spells (op_word c.op) (op_word c.op ∷ []) (value_text names c.value) text (sign c.op) e in
      let z = value_spells c.value a.0 a.1 in
      (a.0, a.2 (a.0 ∷ []) z.0, z.1)

  values_spell : (word : Text) (k : ℕ) (c : Comparison) (text : Text) → Spells word (word ∷ []) → values_text names word k c ≡ Some text →
      (y : Text) × (z : Text) × Spells text (word ∷ y ∷ op_word c.op ∷ z ∷ []) × (probe names y ≡ Some k) × WritesValue names z c.value
  values_spell word k c text is e =
      let w = after_spells word (word ∷ []) (spaced (probe_text names k) (comparison_text names c)) text is e in
      let a = both_spell (probe_text names k) (comparison_text names c) w.0 w.1 in
      let y = probe_spells k a.0 a.2 in
      let z = comparison_spells c a.1 a.3 in
      let tail : List Text = op_word c.op ∷ z.0 ∷ [] in
      (a.0, z.0, w.2 (a.0 ∷ tail) (a.4 (a.0 ∷ []) tail y.0 z.1), y.1, z.2)

  unless_spells : (word : Text) (k n : ℕ) (text : Text) → Spells word (word ∷ []) → unless_text names word k n ≡ Some text →
      (y : Text) × (z : Text) × Spells text (word ∷ y ∷ codes "unless" ∷ z ∷ []) × (probe names y ≡ Some k) × (bound z ≡ Some n)
  unless_spells word k n text is e =
      let w = after_spells word (word ∷ []) (spaced (probe_text names k) (after (codes "unless") (number_text n))) text is e in
      let a = both_spell (probe_text names k) (after (codes "unless") (number_text n)) w.0 w.1 in
      let y = probe_spells k a.0 a.2 in
      let b = after_spells (codes "unless") (codes "unless" ∷ []) (number_text n) a.1 (key (codes "unless") refl) a.3 in
      let z = number_is n b.0 b.1 in
      let tail : List Text = codes "unless" ∷ b.0 ∷ [] in
      (a.0, b.0, w.2 (a.0 ∷ tail) (a.4 (a.0 ∷ []) tail y.0 (b.2 (b.0 ∷ []) z.0)), y.1, z.1)

  -- words, and a host's name after them
  on_host : (word : Text) (front : List Text) (h : ℕ) (text : Text) → Spells word front → after word (host_text names h) ≡ Some text →
      (x : Text) × Spells text (front ++ x ∷ []) × (host names x ≡ Some h)
  on_host word front h text is e =
      let a = after_spells word front (host_text names h) text is e in
      let x = host_spells h a.0 a.1 in
      (a.0, a.2 (a.0 ∷ []) x.0, x.1)

  -- `not` and another word
  negated : (word : Text) → Spells word (word ∷ []) → Spells (codes "not" ++ 32 ∷ word) (codes "not" ∷ word ∷ [])
  negated word is = two_texts (codes "not") word (codes "not" ∷ []) (word ∷ []) (key (codes "not") refl) is

  term_spells : (t : Term) (text : Text) → term_text names t ≡ Some text → (given : List Text) × Spells text given × WritesTerm names given t
  term_spells (Cmp h k c) text e =
      let a = both_spell (place_text names h k) (comparison_text names c) text e in
      let x = place_spells h k a.0 a.2 in
      let z = comparison_spells c a.1 a.3 in
      (a.0 ∷ op_word c.op ∷ z.0 ∷ [], a.4 (a.0 ∷ []) (op_word c.op ∷ z.0 ∷ []) x.0 z.1, (a.0, z.0, refl, x.1, z.2))
  term_spells (Count k c o m) text e =
      let a = both_spell (values_text names (codes "count") k c) (after (op_word o) (number_text m)) text e in
      let v = values_spell (codes "count") k c a.0 (key (codes "count") refl) a.2 in
      let b = after_spells (op_word o) (op_word o ∷ []) (number_text m) a.1 (sign o) a.3 in
      let n = number_is m b.0 b.1 in
      let front : List Text = codes "count" ∷ v.0 ∷ op_word c.op ∷ v.1 ∷ [] in
      let back : List Text = op_word o ∷ b.0 ∷ [] in
      (front ++ back, a.4 front back v.2 (b.2 (b.0 ∷ []) n.0), (v.0, v.1, b.0, refl, v.3, v.4, n.1))
  term_spells (Any k c) text e =
      let v = values_spell (codes "any") k c text (key (codes "any") refl) e in
      (codes "any" ∷ v.0 ∷ op_word c.op ∷ v.1 ∷ [], v.2, (v.0, v.1, refl, v.3, v.4))
  term_spells (AllTerm k c) text e =
      let v = values_spell (codes "all") k c text (key (codes "all") refl) e in
      (codes "all" ∷ v.0 ∷ op_word c.op ∷ v.1 ∷ [], v.2, (v.0, v.1, refl, v.3, v.4))
  term_spells (Agree k n) text e =
      let v = unless_spells (codes "agree") k n text (key (codes "agree") refl) e in
      (codes "agree" ∷ v.0 ∷ codes "unless" ∷ v.1 ∷ [], v.2, (v.0, v.1, refl, v.3, v.4))
  term_spells (AgreeBy k by n) text e =
      let a = both_spell (after (codes "agree") (probe_text names k)) (unless_text names (codes "by") by n) text e in
      let b = after_spells (codes "agree") (codes "agree" ∷ []) (probe_text names k) a.0 (key (codes "agree") refl) a.2 in
      let y = probe_spells k b.0 b.1 in
      let v = unless_spells (codes "by") by n a.1 (key (codes "by") refl) a.3 in
      let front : List Text = codes "agree" ∷ b.0 ∷ [] in
      let back : List Text = codes "by" ∷ v.0 ∷ codes "unless" ∷ v.1 ∷ [] in
      (front ++ back, a.4 front back (b.2 (b.0 ∷ []) y.0) v.2, (b.0, v.0, v.1, refl, y.1, v.3, v.4))
  term_spells (Differ k n) text e =
      let v = unless_spells (codes "differ") k n text (key (codes "differ") refl) e in
      (codes "differ" ∷ v.0 ∷ codes "unless" ∷ v.1 ∷ [], v.2, (v.0, v.1, refl, v.3, v.4))
  term_spells (Up h) text e =
      let x = on_host (codes "up") (codes "up" ∷ []) h text (key (codes "up") refl) e in
      (codes "up" ∷ x.0 ∷ [], x.1, (x.0, refl, x.2))
  term_spells (NotUp h) text e =
      let x = on_host (codes "not up") (codes "not" ∷ codes "up" ∷ []) h text (negated (codes "up") (key (codes "up") refl)) e in
      (codes "not" ∷ codes "up" ∷ x.0 ∷ [], x.1, (x.0, refl, x.2))
  term_spells (Done h) text e =
      let x = on_host (codes "done") (codes "done" ∷ []) h text (key (codes "done") refl) e in
      (codes "done" ∷ x.0 ∷ [], x.1, (x.0, refl, x.2))
  term_spells (NotDone h) text e =
      let x = on_host (codes "not done") (codes "not" ∷ codes "done" ∷ []) h text (negated (codes "done") (key (codes "done") refl)) e in
      (codes "not" ∷ codes "done" ∷ x.0 ∷ [], x.1, (x.0, refl, x.2))

  -- ---- terms together

  joint_spells : (word x y text : Text) (front back : List Text) → Spells word (word ∷ []) → Spells x front → Spells y back → x ++ 32 ∷ (word ++ 32 ∷ y) ≡ text →
      Spells text (front ++ word ∷ back)
  joint_spells word x y text front back is first second whole =
      subst (λ t. Spells t (front ++ word ∷ back)) whole (two_texts x (word ++ 32 ∷ y) front (word ∷ back) first (two_texts word y (word ∷ []) back is second))

  alternative_spells : (ts : List Term) (text : Text) → alternative_text names ts ≡ Some text → (given : List Text) × Spells text given × Joins names given ts
  alternative_spells [] text e = absurd cc
  alternative_spells (t ∷ []) text e = term_spells t text e
  alternative_spells (t ∷ u ∷ more) text e =
      let parts = between_is (codes " and ") (term_text names t) (alternative_text names (u ∷ more)) text e in
      let first = term_spells t parts.0 parts.2 in
      let rest = alternative_spells (u ∷ more) parts.1 parts.3 in (
        first.0 ++ codes "and" ∷ rest.0,
        joint_spells (codes "and") parts.0 parts.1 text first.0 rest.0 (key (codes "and") refl) first.1 rest.1 parts.4,
        (first.0, rest.0, refl, first.2, rest.2),
      )

  condition_spells : (c : Cond) (text : Text) → condition_text names c ≡ Some text → (given : List Text) × Spells text given × JoinsAll names given c
  condition_spells [] text e = absurd cc
  condition_spells (ts ∷ []) text e = alternative_spells ts text e
  condition_spells (ts ∷ us ∷ more) text e =
      let parts = between_is (codes " or ") (alternative_text names ts) (condition_text names (us ∷ more)) text e in
      let first = alternative_spells ts parts.0 parts.2 in
      let rest = condition_spells (us ∷ more) parts.1 parts.3 in (
        first.0 ++ codes "or" ∷ rest.0,
        joint_spells (codes "or") parts.0 parts.1 text first.0 rest.0 (key (codes "or") refl) first.1 rest.1 parts.4,
        (first.0, rest.0, refl, first.2, rest.2),
      )

  -- the text of a condition is read as the condition
  pub condition_read : (c : Cond) (text : Text) → length (all_terms c) ≤ 8 → condition_text names c ≡ Some text → condition names (words text) ≡ Some c
  unfolding IsWritten
  condition_read c text few e =
      let s = condition_spells c text e in
      let written = subst (λ (g : List Text). JoinsAll names g c) (sym s.1.alone) s.2 in
      (written_is names (words text) (condition names (words text)) refl c).1 (written, few)
