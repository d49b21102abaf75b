-- The text of a condition, a term after another.
use Rattle.std.proofs.Common.{◌≡◌, ◌∙◌, refl, sym, ap, arith, ℕ, ◌+◌, ◌-◌, ◌<◌, ◌≤◌, Bool, true, false, ◌||◌, List, [], ◌∷◌, ◌++◌, length, take, drop, get_or, cond, codes, Option, Some, None, inl, inr, append_assoc}
use Rattle.std.specs.List.{list_any}
use Rattle.std.specs.Option.{is_none}
use Rattle.std.proofs.lemmas.Bool.{or_cases}
use Rattle.std.proofs.lemmas.List.{take_rest, get_or-drop, length-drop}
use Rattle.std.proofs.lemmas.List.Sums.{fold_more}
use Rattle.std.proofs.lemmas.List.Folds.{list_any-append, list_any_at}
use Rattle.sim_watch.specs.declared.Term.{Term}
use Rattle.sim_watch.specs.declared.cond.JoinedTerm.{JoinedTerm}
use Rattle.sim_watch.specs.Condition.{Cond, terms, and_term, or_term, join_term, alternatives}
use Rattle.sim_watch.proofs.Joining.{any_joined}
use Rattle.sim_script.specs.Words.{Text, Names}
use Rattle.sim_input.specs.Condition.{Adds, between, between_each, joint_text, term_text, alternative_text, condition_text}

-- ---- two texts, and more

pub between_is : (mid : Text) (a b : Option Text) (text : Text) → between mid a b ≡ Some text →
    (x : Text) × (y : Text) × (a ≡ Some x) × (b ≡ Some y) × (x ++ (mid ++ y) ≡ text)
between_is mid None b text e = absurd cc
between_is mid (Some x) None text e = absurd cc
between_is mid (Some x) (Some y) text e = (x, y, refl, refl, cc)

between_none : (mid : Text) (a : Option Text) → between mid a None ≡ None
between_none mid None = refl
between_none mid (Some x) = refl

regrouped : (x y z m n : Text) → x ++ (m ++ (y ++ (n ++ z))) ≡ (x ++ (m ++ y)) ++ (n ++ z)
regrouped x y z m n = ap (λ t. x ++ t) (sym (append_assoc m y (n ++ z))) ∙ sym (append_assoc x (m ++ y) (n ++ z))

between_assoc : (m n : Text) (a b d : Option Text) → between m a (between n b d) ≡ between n (between m a b) d
between_assoc m n None b d = refl
between_assoc m n (Some x) None d = refl
between_assoc m n (Some x) (Some y) None = refl
between_assoc m n (Some x) (Some y) (Some z) = ap (λ t. Some t) (regrouped x y z m n)

module _ {A : Type 0} (mid : Text) (text_of : A → Option Text) where
  -- one more at the end
  each_more : (x : A) (xs : List A) (y : A) →
      between_each mid text_of ((x ∷ xs) ++ y ∷ []) ≡ between mid (between_each mid text_of (x ∷ xs)) (text_of y)
  each_more x [] y = refl
  each_more x (z ∷ xs) y =
      ap (between mid (text_of x)) (each_more z xs y) ∙ between_assoc mid mid (text_of x) (between_each mid text_of (z ∷ xs)) (text_of y)

  -- one of them has no text
  each_none : (x : A) (xs : List A) → text_of x ≡ None → between_each mid text_of (x ∷ xs) ≡ None
  each_none x [] e = e
  each_none x (y ∷ xs) e = ap (λ a. between mid a (between_each mid text_of (y ∷ xs))) e

  after_none : (p : A → Bool) (x : A) (xs : List A) → between_each mid text_of xs ≡ None → list_any p xs ≡ true → between_each mid text_of (x ∷ xs) ≡ None
  after_none p x [] e h = absurd cc
  after_none p x (y ∷ xs) e h = ap (between mid (text_of x)) e ∙ between_none mid (text_of x)

  any_none : (p : A → Bool) → ((x : A) → p x ≡ true → text_of x ≡ None) → (xs : List A) → list_any p xs ≡ true → between_each mid text_of xs ≡ None
  any_none p none [] e = refl
  any_none p none (x ∷ xs) e = elim (or_cases (p x) (list_any p xs) e) [
    | inl h ↦ each_none x xs (none x h)
    | inr h ↦ after_none p x xs (any_none p none xs h) h
  ]

-- ---- the terms after the first

module _ (js : List JoinedTerm) (i : ℕ) where
  long_rest : length (take (length js - 1) (drop 1 js)) ≡ length js - 1
  long_rest = ap length (take_rest js 1) ∙ length-drop 1 js

  rest_within : i < length (take (length js - 1) (drop 1 js)) → i + 1 < length js
  rest_within h = let long = long_rest in omega (arith, long, h)

  rest_at : (d : JoinedTerm) → get_or (take (length js - 1) (drop 1 js)) i d ≡ get_or js (i + 1) d
  rest_at d =
      let same : 1 + i ≡ i + 1 = omega arith in
      ap (λ (xs : List JoinedTerm). get_or xs i d) (take_rest js 1) ∙ get_or-drop 1 js i d ∙ ap (λ n. get_or js n d) same

  pub rest_past : length (take (length js - 1) (drop 1 js)) ≤ i → length js ≤ i + 1
  rest_past h = let long = long_rest in omega (arith, long, h)

module _ (names : Names) where
  -- a term more in the last alternative
  and_more : (c : Cond) (t : Term) (text : Text) → condition_text names c ≡ Some text →
      condition_text names (and_term c t) ≡ between (codes " and ") (condition_text names c) (term_text names t)
  and_more [] t text e = absurd cc
  and_more ([] ∷ []) t text e = absurd cc
  and_more ((u ∷ us) ∷ []) t text e = each_more (codes " and ") (term_text names) u us t
  and_more (ts ∷ us ∷ []) t text e =
      let parts = between_is (codes " or ") (alternative_text names ts) (condition_text names (us ∷ [])) text e in
      ap (between (codes " or ") (alternative_text names ts)) (and_more (us ∷ []) t parts.1 parts.3)
      ∙ between_assoc (codes " or ") (codes " and ") (alternative_text names ts) (alternative_text names us) (term_text names t)
  and_more (ts ∷ us ∷ vs ∷ more) t text e =
      let parts = between_is (codes " or ") (alternative_text names ts) (condition_text names (us ∷ vs ∷ more)) text e in
      ap (between (codes " or ") (alternative_text names ts)) (and_more (us ∷ vs ∷ more) t parts.1 parts.3)
      ∙ between_assoc (codes " or ") (codes " and ") (alternative_text names ts) (condition_text names (us ∷ vs ∷ more)) (term_text names t)

  -- a term more, which begins an alternative
  or_more : (c : Cond) (t : Term) (text : Text) → condition_text names c ≡ Some text →
      condition_text names (or_term c t) ≡ between (codes " or ") (condition_text names c) (term_text names t)
  or_more [] t text e = absurd cc
  or_more (ts ∷ c) t text e = each_more (codes " or ") (alternative_text names) ts c (t ∷ [])

  either_more : (begins : Bool) (c : Cond) (t : Term) (text : Text) → condition_text names c ≡ Some text →
      condition_text names (cond begins (or_term c t) (and_term c t)) ≡ between (joint_text begins) (condition_text names c) (term_text names t)
  either_more true c t text e = or_more c t text e
  either_more false c t text e = and_more c t text e

  begun : (begins : Bool) (t : Term) → condition_text names (cond begins (or_term [] t) (and_term [] t)) ≡ term_text names t
  begun true t = refl
  begun false t = refl

  is_none_of : (o : Option Text) → is_none o ≡ true → o ≡ None
  is_none_of None e = refl
  is_none_of (Some text) e = absurd cc

  has_none : Term → Bool
  has_none t = is_none (term_text names t)

  none_of : (t : Term) → has_none t ≡ true → term_text names t ≡ None
  unfolding has_none
  none_of t e = is_none_of (term_text names t) e

  some_terms : (c : Cond) → list_any has_none (terms c) ≡ list_any (list_any has_none) c
  some_terms [] = refl
  some_terms (ts ∷ c) = list_any-append has_none ts (terms c) ∙ ap (λ b. list_any has_none ts || b) (some_terms c)

  -- a term of the condition has no text
  no_text : (c : Cond) → list_any has_none (terms c) ≡ true → condition_text names c ≡ None
  no_text c e =
      any_none (codes " or ") (alternative_text names) (list_any has_none)
      (λ ts h. any_none (codes " and ") (term_text names) has_none none_of ts h) c (sym (some_terms c) ∙ e)

  module _ (js : List JoinedTerm) (d : JoinedTerm) where
    pub none_at : (k : ℕ) → k < length js → term_text names (get_or js k d).term ≡ None → condition_text names (alternatives js) ≡ None
    unfolding has_none
    none_at k h e =
        let here : has_none (get_or js k d).term ≡ true = ap is_none e in
        no_text (alternatives js) (sym (any_joined has_none js) ∙ list_any_at (λ (j : JoinedTerm). has_none j.term) js k d h here)

    next_text : (i : ℕ) (text : Text) → i + 1 < length js → condition_text names (alternatives (take (i + 1) js)) ≡ Some text →
        condition_text names (alternatives (take (i + 1 + 1) js))
        ≡ between (joint_text (get_or js (i + 1) d).begins) (Some text) (term_text names (get_or js (i + 1) d).term)
    next_text i text h e =
        let j = get_or js (i + 1) d in
        ap (condition_text names) (fold_more join_term [] js (i + 1) d h)
        ∙ either_more j.begins (alternatives (take (i + 1) js)) j.term text e
        ∙ ap (λ o. between (joint_text j.begins) o (term_text names j.term)) e

    -- a term more, and what stands before it
    pub one_more : (i : ℕ) (old so_far joint new : Text) → i < length (take (length js - 1) (drop 1 js)) →
        Adds (condition_text names (alternatives (take (i + 1) js))) old so_far → joint ≡ joint_text (get_or (take (length js - 1) (drop 1 js)) i d).begins →
        Adds (term_text names (get_or (take (length js - 1) (drop 1 js)) i d).term) (so_far ++ joint) new →
        Adds (condition_text names (alternatives (take (i + 1 + 1) js))) old new
    one_more i old so_far joint new within before is term =
        let at = rest_at js i d in
        let j = get_or js (i + 1) d in
        let this : term_text names j.term ≡ Some term.0 = ap (λ k. term_text names k.term) (sym at) ∙ term.1 in
        let mid : joint ≡ joint_text j.begins = is ∙ ap (λ k. joint_text k.begins) at in (
          before.0 ++ (joint ++ term.0),
          next_text i before.0 (rest_within js i within) before.1 ∙ ap (λ o. between (joint_text j.begins) (Some before.0) o) this
              ∙ ap (λ m. Some (before.0 ++ (m ++ term.0))) (sym mid),
          term.2 ∙ ap (λ t. (t ++ joint) ++ term.0) before.2 ∙ append_assoc (old ++ before.0) joint term.0 ∙ append_assoc old before.0 (joint ++ term.0),
        )

    pub rest_none : (i : ℕ) → i < length (take (length js - 1) (drop 1 js)) →
        term_text names (get_or (take (length js - 1) (drop 1 js)) i d).term ≡ None → condition_text names (alternatives js) ≡ None
    rest_none i within e = none_at (i + 1) (rest_within js i within) (ap (λ j. term_text names j.term) (sym (rest_at js i d)) ∙ e)

  pub first_text : (js : List JoinedTerm) (d : JoinedTerm) → 0 < length js → condition_text names (alternatives (take (0 + 1) js)) ≡ term_text names (get_or js 0 d).term
  first_text [] d h = absurd (omega arith)
  first_text (j ∷ js) d h = begun j.begins j.term
