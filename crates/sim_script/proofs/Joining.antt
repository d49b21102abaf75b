-- The terms of a condition, one after another.
use Rattle.std.proofs.Common.{◌≡◌, ◌∙◌, ap, sym, refl, arith, ℕ, suc, ◌+◌, ◌-◌, ◌<◌, ◌≤◌, Bool, List, [], ◌∷◌, ◌++◌, length, Option, Some, None, true, false, cond}
use Rattle.std.specs.Prelude.{option_and_then}
use Rattle.std.specs.Option.{option_map}
use Rattle.std.proofs.lemmas.List.{append_assoc, length-append}
use Rattle.sim_watch.specs.declared.Term.{Term}
use Rattle.sim_watch.specs.declared.cond.JoinedTerm.{JoinedTerm}
use Rattle.sim_watch.specs.Condition.{Cond, terms as all_terms, and_term, or_term}
use Rattle.sim_watch.proofs.Joining.{join_terms}
use Rattle.sim_script.specs.Words.{Text, Names}
use Rattle.sim_script.specs.Conditions.{condition, joined, term, terms, begins_after, put_before}

-- the last alternative of one condition goes on with the first of another
abbrev pub merged : Cond → Cond → Cond
merged [] b = b
merged (ts ∷ []) [] = ts ∷ []
merged (ts ∷ []) (us ∷ b) = (ts ++ us) ∷ b
merged (ts ∷ us ∷ more) b = ts ∷ merged (us ∷ more) b

-- a condition, and then another, whose first term begins an alternative or does not
abbrev pub followed : Bool → Cond → Cond → Cond
followed true a b = a ++ b
followed false a b = merged a b

abbrev pub with_term : Bool → Cond → Term → Cond
with_term b c t = cond b (or_term c t) (and_term c t)

merged_none : (t : Term) (b : Cond) → put_before false t b ≡ merged ((t ∷ []) ∷ []) b
merged_none t [] = refl
merged_none t (us ∷ b) = refl

or_and : (a : Cond) (t : Term) (b : Cond) → a ++ put_before false t b ≡ merged (a ++ (t ∷ []) ∷ []) b
or_and [] t b = merged_none t b
or_and (ts ∷ []) t b = ap (λ (x : Cond). ts ∷ x) (merged_none t b)
or_and (ts ∷ us ∷ more) t b = ap (λ (x : Cond). ts ∷ x) (or_and (us ∷ more) t b)

and_and : (a : Cond) (t : Term) (b : Cond) → merged a (put_before false t b) ≡ merged (and_term a t) b
and_and [] t b = merged_none t b
and_and (ts ∷ []) t [] = refl
and_and (ts ∷ []) t (us ∷ b) = ap (λ (x : List Term). x ∷ b) (sym (append_assoc ts (t ∷ []) us))
and_and (ts ∷ us ∷ []) t b = ap (λ (x : Cond). ts ∷ x) (and_and (us ∷ []) t b)
and_and (ts ∷ us ∷ vs ∷ more) t b = ap (λ (x : Cond). ts ∷ x) (and_and (us ∷ vs ∷ more) t b)

and_or : (a : Cond) (t : Term) (b : Cond) → merged a ((t ∷ []) ∷ b) ≡ and_term a t ++ b
and_or [] t b = refl
and_or (ts ∷ []) t b = refl
and_or (ts ∷ us ∷ more) t b = ap (λ (x : Cond). ts ∷ x) (and_or (us ∷ more) t b)

and_end : (a : Cond) (t : Term) → merged a ((t ∷ []) ∷ []) ≡ and_term a t
and_end [] t = refl
and_end (ts ∷ []) t = refl
and_end (ts ∷ us ∷ more) t = ap (λ (x : Cond). ts ∷ x) (and_end (us ∷ more) t)

-- one term more
followed_more : (begins next : Bool) (a : Cond) (t : Term) (b : Cond) →
    followed begins a (put_before next t b) ≡ followed next (with_term begins a t) b
followed_more true true a t b = sym (append_assoc a ((t ∷ []) ∷ []) b)
followed_more true false a t b = or_and a t b
followed_more false true a t b = and_or a t b
followed_more false false a t b = and_and a t b

followed_end : (begins : Bool) (a : Cond) (t : Term) → followed begins a ((t ∷ []) ∷ []) ≡ with_term begins a t
followed_end true a t = refl
followed_end false a t = and_end a t

after_none : (o : Option Cond) → o ≡ option_map (followed true []) o
after_none None = refl
after_none (Some c) = refl

regrouped : (begins next : Bool) (a : Cond) (t : Term) (o : Option Cond) →
    option_map (followed begins a) (option_map (put_before next t) o) ≡ option_map (followed next (with_term begins a t)) o
regrouped begins next a t None = refl
regrouped begins next a t (Some b) = ap (λ (x : Cond). Some x) (followed_more begins next a t b)

module _ (names : Names) (whole : List Text) where
  -- these terms were read, and the rest is to be read, whose first term begins an alternative or does not
  pub record Taken (so_far : Cond) (begins : Bool) (turn : ℕ) (rest : List Text) : Type 0 where
    pub is : condition names whole ≡ option_map (followed begins so_far) (terms names (8 - turn) rest)
    pub many : length (all_terms so_far) ≡ turn

  pub at_start : Taken [] true 0 whole
  unfolding condition
  at_start = record { is = after_none (terms names 8 whole); many = refl }

  module _ (so_far : Cond) (begins : Bool) (turn : ℕ) (rest : List Text) (taken : Taken so_far begins turn rest) where
    one_more : turn < 8 → terms names (8 - turn) rest ≡ option_and_then (joined names (terms names (7 - turn))) (term names rest)
    one_more h = let e : 8 - turn ≡ suc (7 - turn) = omega arith in rw e refl

    next_is : turn < 8 → (o : Option (Term × List Text)) → term names rest ≡ o →
        condition names whole ≡ option_map (followed begins so_far) (option_and_then (joined names (terms names (7 - turn))) o)
    next_is h o e = taken.is ∙ ap (option_map (followed begins so_far)) (one_more h ∙ ap (option_and_then (joined names (terms names (7 - turn)))) e)

    pub no_term : turn < 8 → term names rest ≡ None → None ≡ condition names whole
    no_term h e = sym (next_is h None e)

    pub last_term : turn < 8 → (t : Term) (after : List Text) → term names rest ≡ Some (t, after) → after ≡ [] →
        Some (with_term begins so_far t) ≡ condition names whole
    last_term h t after e none = sym (next_is h (Some (t, after)) e ∙ rw none (ap (λ (x : Cond). Some x) (followed_end begins so_far t)))

    joins : turn < 8 → (t : Term) (after : List Text) (word : Text) (more : List Text) (o : Option Bool) → term names rest ≡ Some (t, after) →
        after ≡ word ∷ more → begins_after word ≡ o →
        condition names whole ≡ option_map (followed begins so_far) (option_and_then (λ next. option_map (put_before next t) (terms names (7 - turn) more)) o)
    joins h t after word more o e is b =
        next_is h (Some (t, after)) e
        ∙ rw is (ap (λ (x : Option Bool). option_map (followed begins so_far) (option_and_then (λ next. option_map (put_before next t) (terms names (7 - turn) more)) x)) b)

    pub no_word : turn < 8 → (t : Term) (after : List Text) (word : Text) (more : List Text) → term names rest ≡ Some (t, after) →
        after ≡ word ∷ more → begins_after word ≡ None → None ≡ condition names whole
    no_word h t after word more e is b = sym (joins h t after word more None e is b)

    pub one_term : turn < 8 → (t : Term) (after : List Text) (word : Text) (more : List Text) (next : Bool) → term names rest ≡ Some (t, after) →
        after ≡ word ∷ more → begins_after word ≡ Some next → Taken (with_term begins so_far t) next (turn + 1) more
    one_term h t after word more next e is b =
        let fewer : 7 - turn ≡ 8 - (turn + 1) = omega arith in
        let joined_term : JoinedTerm = record { begins = begins; term = t } in
        record {
          is = joins h t after word more (Some next) e is b ∙ regrouped begins next so_far t (terms names (7 - turn) more)
              ∙ ap (λ n. option_map (followed next (with_term begins so_far t)) (terms names n more)) fewer;
          many = ap length (join_terms so_far joined_term) ∙ length-append (all_terms so_far) (t ∷ []) ∙ ap (λ n. n + 1) taken.many;
        }

    pub too_many : 8 ≤ turn → None ≡ condition names whole
    too_many h = let none : 8 - turn ≡ 0 = omega arith in sym (taken.is ∙ rw none refl)
