-- Terms each of which begins an alternative or is joined to the last one.
use Rattle.std.proofs.Common.{◌≡◌, ℕ, zero, suc, ◌-◌, ◌<◌, ◌==◌, Bool, true, false, ◌&&◌, ◌||◌, List, [], ◌∷◌, ◌++◌, Some, None, All, length, map, take, drop, get_or, cond, refl, sym, ap, ◌∙◌, subst, arith, append-nil, append_assoc, eqb-true}
use Rattle.std.specs.List.{list_any, list_all, fold}
use Rattle.std.proofs.lemmas.Bool.{or_parts}
use Rattle.std.proofs.lemmas.List.{take_rest}
use Rattle.std.proofs.lemmas.List.Elements.{All-drop}
use Rattle.sim_node.specs.Node.{NodeLaws}
use Rattle.sim_world.specs.World.{World}
use Rattle.sim_watch.specs.declared.Term.{Term}
use Rattle.sim_watch.specs.declared.cond.JoinedTerm.{JoinedTerm}
use Rattle.sim_watch.specs.declared.BadTerm.TheVariants.{UnknownHost, BadProbe, Empty}
use Rattle.sim_watch.specs.Condition.{Cond, terms, and_term, or_term, join_term, alternatives, is_empty, term_holds, all_hold, holds}
use Rattle.sim_watch.specs.Condition.{names_no_host, names_no_probe, has_no_host, has_no_probe, fault_of}
use Rattle.sim_watch.specs.Holding.{holds_on, IsThere}

-- ---- which terms there are

terms-append : (c d : Cond) → terms (c ++ d) ≡ terms c ++ terms d
terms-append [] d = refl
terms-append (ts ∷ c) d = ap (λ (x : List Term). ts ++ x) (terms-append c d) ∙ sym (append_assoc ts (terms c) (terms d))

and_terms : (c : Cond) (t : Term) → terms (and_term c t) ≡ terms c ++ t ∷ []
and_terms [] t = refl
and_terms (ts ∷ []) t = append-nil (ts ++ t ∷ []) ∙ ap (λ (x : List Term). x ++ t ∷ []) (sym (append-nil ts))
and_terms (ts ∷ us ∷ more) t =
    ap (λ (x : List Term). ts ++ x) (and_terms (us ∷ more) t) ∙ sym (append_assoc ts (terms (us ∷ more)) (t ∷ []))

either_terms : (b : Bool) (c : Cond) (t : Term) → terms (cond b (or_term c t) (and_term c t)) ≡ terms c ++ t ∷ []
either_terms true c t = terms-append c ((t ∷ []) ∷ [])
either_terms false c t = and_terms c t

pub join_terms : (c : Cond) (j : JoinedTerm) → terms (join_term c j) ≡ terms c ++ j.term ∷ []
join_terms c j = either_terms j.begins c j.term

abbrev bare : List JoinedTerm → List Term
bare js = map (λ (j : JoinedTerm). j.term) js

terms_from : (c : Cond) (js : List JoinedTerm) → terms (fold join_term c js) ≡ terms c ++ bare js
terms_from c [] = sym (append-nil (terms c))
terms_from c (j ∷ js) =
    terms_from (join_term c j) js ∙ ap (λ (x : List Term). x ++ bare js) (join_terms c j) ∙ append_assoc (terms c) (j.term ∷ []) (bare js)

any_bare : (p : Term → Bool) (js : List JoinedTerm) → list_any (λ (j : JoinedTerm). p j.term) js ≡ list_any p (bare js)
any_bare p [] = refl
any_bare p (j ∷ js) = ap (λ b. p j.term || b) (any_bare p js)

-- some joined term passes where some term of the condition does
pub any_joined : (p : Term → Bool) (js : List JoinedTerm) → list_any (λ (j : JoinedTerm). p j.term) js ≡ list_any p (terms (alternatives js))
any_joined p js = any_bare p js ∙ ap (list_any p) (sym (terms_from [] js))

long_bare : (js : List JoinedTerm) → length (bare js) ≡ length js
long_bare [] = refl
long_bare (j ∷ js) = let more = long_bare js in omega (arith, more)

pub many_joined : (js : List JoinedTerm) → length (terms (alternatives js)) ≡ length js
many_joined js = ap length (terms_from [] js) ∙ long_bare js

has_some : (c : Cond) → 0 < length (terms c) → is_empty c ≡ false
has_some [] h = absurd (omega (arith, h))
has_some (ts ∷ c) h = refl

-- a condition is empty where no term is joined
pub some_joined : (js : List JoinedTerm) → 0 < length js → is_empty (alternatives js) ≡ false
some_joined js h = let many = many_joined js in has_some (alternatives js) (omega (arith, many, h))

is_zero : (n : ℕ) (b : Bool) → (n == 0) ≡ b → 0 < n → b ≡ false
is_zero n true e h = let z = eqb-true n 0 e in absurd (omega (arith, z, h))
is_zero n false e h = refl

pub empty_joined : (js : List JoinedTerm) → (length js == 0) ≡ is_empty (alternatives js)
empty_joined [] = refl
empty_joined (j ∷ js) = is_zero (length (j ∷ js)) (length (j ∷ js) == 0) refl (omega arith) ∙ sym (some_joined (j ∷ js) (omega arith))

pub none_joined : (js : List JoinedTerm) → is_empty (alternatives js) ≡ false → 0 < length js
none_joined [] e = absurd cc
none_joined (j ∷ js) e = omega arith

-- ---- what a check says of each term

passes_none : {X : Type 0} (p : X → Bool) (xs : List X) → list_any p xs ≡ false → (k : ℕ) (d : X) → k < length xs → p (get_or xs k d) ≡ false
passes_none p [] e k d lt = absurd (omega (arith, lt))
passes_none p (x ∷ xs) e zero d lt = (or_parts (p x) (list_any p xs) e).0
passes_none p (x ∷ xs) e (suc k) d lt = passes_none p xs (or_parts (p x) (list_any p xs) e).1 k d (omega (arith, lt))

no_fault : (a b d : Bool) → cond a (Some UnknownHost) (cond b (Some BadProbe) (cond d (Some Empty) None)) ≡ None → (a ≡ false) × (b ≡ false) × (d ≡ false)
no_fault true b d e = absurd cc
no_fault false true d e = absurd cc
no_fault false false true e = absurd cc
no_fault false false false e = (refl, refl, refl)

module _ (hosts probes : ℕ) (js : List JoinedTerm) (c : Cond) (same : alternatives js ≡ c) (checked : fault_of hosts probes c ≡ None) where
  right : (has_no_host hosts (alternatives js) ≡ false) × (has_no_probe probes (alternatives js) ≡ false) × (is_empty (alternatives js) ≡ false)
  right =
      no_fault (has_no_host hosts (alternatives js)) (has_no_probe probes (alternatives js)) (is_empty (alternatives js))
      (ap (fault_of hosts probes) same ∙ checked)

  -- a condition that was checked has a term, and names what is there
  pub one_there : 0 < length js
  one_there = none_joined js right.2

  pub all_there : All (IsThere hosts probes) js
  all_there k d lt = (
    passes_none (λ (j : JoinedTerm). names_no_host hosts j.term) js (any_joined (names_no_host hosts) js ∙ right.0) k d lt,
    passes_none (λ (j : JoinedTerm). names_no_probe probes j.term) js (any_joined (names_no_probe probes) js ∙ right.1) k d lt,
  )

  pub rest_there : All (IsThere hosts probes) (take (length js - 1) (drop 1 js))
  rest_there = subst (All (IsThere hosts probes)) (sym (take_rest js 1)) (All-drop (IsThere hosts probes) 1 js all_there)

-- ---- whether one of the alternatives holds

or_false : (a : Bool) → (a || false) ≡ a
or_false true = refl
or_false false = refl

and_true : (a : Bool) → (a && true) ≡ a
and_true true = refl
and_true false = refl

or_assoc : (a b d : Bool) → (a || (b || d)) ≡ ((a || b) || d)
or_assoc true b d = refl
or_assoc false b d = refl

and_assoc : (a b d : Bool) → (a && (b && d)) ≡ ((a && b) && d)
and_assoc true b d = refl
and_assoc false b d = refl

any_push : {X : Type 0} (p : X → Bool) (xs : List X) (x : X) → list_any p (xs ++ x ∷ []) ≡ (list_any p xs || p x)
any_push p [] x = or_false (p x)
any_push p (y ∷ xs) x = ap (λ b. p y || b) (any_push p xs x) ∙ or_assoc (p y) (list_any p xs) (p x)

all_push : {X : Type 0} (p : X → Bool) (xs : List X) (x : X) → list_all p (xs ++ x ∷ []) ≡ (list_all p xs && p x)
all_push p [] x = and_true (p x)
all_push p (y ∷ xs) x = ap (λ b. p y && b) (all_push p xs x) ∙ and_assoc (p y) (list_all p xs) (p x)

and_last : (c : Cond) (ts : List Term) (t : Term) → and_term (c ++ ts ∷ []) t ≡ c ++ (ts ++ t ∷ []) ∷ []
and_last [] ts t = refl
and_last (us ∷ []) ts t = refl
and_last (us ∷ vs ∷ more) ts t = ap (λ (x : Cond). us ∷ x) (and_last (vs ∷ more) ts t)

join_none : (b : Bool) (t : Term) → cond b (or_term [] t) (and_term [] t) ≡ (t ∷ []) ∷ []
join_none true t = refl
join_none false t = refl

module _ {State Msg : Type 0} (node : NodeLaws State Msg) (w : World State Msg) where
  one_holds : (t : Term) → all_hold node (t ∷ []) w ≡ term_holds node t w
  one_holds t = and_true (term_holds node t w)

  last_holds : (c : Cond) (ts : List Term) → holds node (c ++ ts ∷ []) w ≡ (holds node c w || all_hold node ts w)
  last_holds c ts = any_push (λ (us : List Term). all_hold node us w) c ts

  more_holds : (ts : List Term) (t : Term) → all_hold node (ts ++ t ∷ []) w ≡ (all_hold node ts w && term_holds node t w)
  more_holds ts t = all_push (λ (u : Term). term_holds node u w) ts t

  begun : (c : Cond) (ts : List Term) (t : Term) (js : List JoinedTerm) →
      holds node (fold join_term ((c ++ ts ∷ []) ++ (t ∷ []) ∷ []) js) w ≡ (holds node (c ++ ts ∷ []) w || holds_on node (all_hold node (t ∷ []) w) js w) →
      holds node (fold join_term (or_term (c ++ ts ∷ []) t) js) w ≡ (holds node c w || (all_hold node ts w || holds_on node (term_holds node t w) js w))
  begun c ts t js more =
      more
      ∙ ap (λ b. holds node (c ++ ts ∷ []) w || holds_on node b js w) (one_holds t)
      ∙ ap (λ b. b || holds_on node (term_holds node t w) js w) (last_holds c ts)
      ∙ sym (or_assoc (holds node c w) (all_hold node ts w) (holds_on node (term_holds node t w) js w))

  and_on : (c : Cond) (ts : List Term) (t : Term) (js : List JoinedTerm) →
      holds node (fold join_term (c ++ (ts ++ t ∷ []) ∷ []) js) w ≡ (holds node c w || holds_on node (all_hold node (ts ++ t ∷ []) w) js w) →
      holds node (fold join_term (and_term (c ++ ts ∷ []) t) js) w ≡ (holds node c w || holds_on node (all_hold node ts w && term_holds node t w) js w)
  and_on c ts t js more =
      ap (λ (x : Cond). holds node (fold join_term x js) w) (and_last c ts t)
      ∙ more
      ∙ ap (λ b. holds node c w || holds_on node b js w) (more_holds ts t)

  either_on : (b : Bool) (c : Cond) (ts : List Term) (t : Term) (js : List JoinedTerm) →
      holds node (fold join_term ((c ++ ts ∷ []) ++ (t ∷ []) ∷ []) js) w ≡ (holds node (c ++ ts ∷ []) w || holds_on node (all_hold node (t ∷ []) w) js w) →
      holds node (fold join_term (c ++ (ts ++ t ∷ []) ∷ []) js) w ≡ (holds node c w || holds_on node (all_hold node (ts ++ t ∷ []) w) js w) →
      holds node (fold join_term (cond b (or_term (c ++ ts ∷ []) t) (and_term (c ++ ts ∷ []) t)) js) w
      ≡ (holds node c w || cond b (all_hold node ts w || holds_on node (term_holds node t w) js w) (holds_on node (all_hold node ts w && term_holds node t w) js w))
  either_on true c ts t js or_more and_more = begun c ts t js or_more
  either_on false c ts t js or_more and_more = and_on c ts t js and_more

  joined_holds : (c : Cond) (ts : List Term) (js : List JoinedTerm) →
      holds node (fold join_term (c ++ ts ∷ []) js) w ≡ (holds node c w || holds_on node (all_hold node ts w) js w)
  joined_holds c ts [] = last_holds c ts
  joined_holds c ts (j ∷ js) =
      either_on j.begins c ts j.term js (joined_holds (c ++ ts ∷ []) (j.term ∷ []) js) (joined_holds c (ts ++ j.term ∷ []) js)

  -- a condition holds where its first term, and then the others, say so
  holds_first : (js : List JoinedTerm) (d : JoinedTerm) → 0 < length js →
      holds node (alternatives js) w ≡ holds_on node (term_holds node (get_or js 0 d).term w) (drop 1 js) w
  holds_first [] d h = absurd (omega (arith, h))
  holds_first (j ∷ js) d h =
      ap (λ (x : Cond). holds node (fold join_term x js) w) (join_none j.begins j.term)
      ∙ joined_holds [] (j.term ∷ []) js
      ∙ ap (λ b. holds_on node b js w) (one_holds j.term)

  pub holds_is : (js : List JoinedTerm) (d : JoinedTerm) (first all : Bool) (c : Cond) → 0 < length js → first ≡ term_holds node (get_or js 0 d).term w →
      all ≡ holds_on node first (take (length js - 1) (drop 1 js)) w → alternatives js ≡ c → all ≡ holds node c w
  holds_is js d first all c some is on same =
      on
      ∙ ap (λ b. holds_on node b (take (length js - 1) (drop 1 js)) w) is
      ∙ ap (λ (xs : List JoinedTerm). holds_on node (term_holds node (get_or js 0 d).term w) xs w) (take_rest js 1)
      ∙ sym (holds_first js d some)
      ∙ ap (λ (x : Cond). holds node x w) same
