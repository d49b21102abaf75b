-- What is read from the front is what the words write.
use Rattle.std.proofs.Common.{◌≡◌, ◌∙◌, sym, ap, arith, ℕ, zero, suc, ◌≤◌, Bool, true, false, List, [], ◌∷◌, ◌++◌, length, Option, Some, None, refl, inl, inr, codes, append-nil, append_assoc, cond, option_and_then, option_map}
use Rattle.std.specs.Str.{bytes_eq}
use Rattle.std.proofs.lemmas.Slice.Eq.{bytes_eq-Decides}
use Rattle.sim_watch.specs.declared.Term.{Term}
use Rattle.sim_watch.specs.Condition.{Cond, terms as all_terms}
use Rattle.sim_script.specs.Words.{Text, Names}
use Rattle.sim_script.specs.Conditions.{term, begins_after, put_before, joined, terms, condition, WritesTerm, JoinsAll, IsWritten}
use Rattle.sim_script.proofs.Picking.{of_if, of_map, of_then}
use Rattle.sim_script.proofs.OneTerm.{term_is, term_reads}

-- the word that joins a term to those before it
abbrev joint : Bool → Text
joint true = codes "or"
joint false = codes "and"

joint_reads : (b : Bool) → begins_after (joint b) ≡ Some b
unfolding begins_after
joint_reads true = refl
joint_reads false = refl

same_joint : (word key : Text) (b d : Bool) → bytes_eq word key ≡ true → Some d ≡ Some b → key ≡ joint d → word ≡ joint b
same_joint word key b d is e k = let same : d ≡ b = cc in (bytes_eq-Decides word key).0 is ∙ k ∙ ap joint same

joint_is : (word : Text) (b : Bool) → begins_after word ≡ Some b → word ≡ joint b
unfolding begins_after
joint_is word b e =
    let r1 : Option Bool = cond (bytes_eq word (codes "or")) (Some true) None in
    elim (of_if (bytes_eq word (codes "and")) (Some false) r1 b e) [
      | inl w ↦ same_joint word (codes "and") b false w.0 w.1 refl
      | inr a ↦ elim (of_if (bytes_eq word (codes "or")) (Some true) None b a.1) [
        | inl w ↦ same_joint word (codes "or") b true w.0 w.1 refl
        | inr d ↦ absurd (let n = d.1 in cc)
      ]
    ]

module _ (names : Names) where
  -- one term, and a condition after it
  more_reads : (n : ℕ) (given front back : List Text) (t : Term) (b : Bool) (c : Cond) → given ≡ front ++ joint b ∷ back → WritesTerm names front t →
      terms names n back ≡ Some c → terms names (suc n) given ≡ Some (put_before b t c)
  more_reads n given front back t b c e w h =
      ap (option_and_then (joined names (terms names n))) (ap (term names) e ∙ term_reads names front t (joint b ∷ back) w)
      ∙ ap (λ (o : Option Bool). option_and_then (λ next. option_map (put_before next t) (terms names n back)) o) (joint_reads b)
      ∙ ap (option_map (put_before b t)) h

  joins_read : (n : ℕ) (given : List Text) (c : Cond) → JoinsAll names given c → length (all_terms c) ≤ n → terms names n given ≡ Some c
  joins_read n given [] j h = absurd j
  joins_read n given ([] ∷ []) j h = absurd j
  joins_read n given ([] ∷ us ∷ more) j h = absurd (j.3)
  joins_read zero given ((t ∷ ts) ∷ more) j h = absurd (omega (arith, h))
  joins_read (suc n) given ((t ∷ []) ∷ []) j h =
      ap (option_and_then (joined names (terms names n))) (ap (term names) (sym (append-nil given)) ∙ term_reads names given t [] j)
  joins_read (suc n) given ((t ∷ []) ∷ us ∷ more) j h =
      more_reads n given j.0 j.1 t true (us ∷ more) j.2 j.3 (joins_read n j.1 (us ∷ more) j.4 (omega (arith, h)))
  joins_read (suc n) given ((t ∷ u ∷ ts) ∷ []) j h =
      more_reads n given j.0 j.1 t false ((u ∷ ts) ∷ []) j.2 j.3 (joins_read n j.1 ((u ∷ ts) ∷ []) j.4 (omega (arith, h)))
  joins_read (suc n) given ((t ∷ u ∷ ts) ∷ us ∷ more) j h =
      let k = j.3 in
      let after : List Text = k.1 ++ codes "or" ∷ j.1 in
      let split = j.2 ∙ ap (λ (x : List Text). x ++ codes "or" ∷ j.1) k.2 ∙ append_assoc k.0 (codes "and" ∷ k.1) (codes "or" ∷ j.1) in
      more_reads n given k.0 after t false ((u ∷ ts) ∷ us ∷ more) split k.3
      (joins_read n after ((u ∷ ts) ∷ us ∷ more) (k.1, j.1, refl, k.4, j.4) (omega (arith, h)))

  -- one term, and the condition that follows it
  one_more : (n : ℕ) (given front rest : List Text) (t : Term) (b : Bool) (c : Cond) → given ≡ front ++ joint b ∷ rest → WritesTerm names front t →
      JoinsAll names rest c → length (all_terms c) ≤ n → JoinsAll names given (put_before b t c) × (length (all_terms (put_before b t c)) ≤ suc n)
  one_more n given front rest t b [] e w j h = absurd j
  one_more n given front rest t true (us ∷ more) e w j h = ((front, rest, e, w, j), omega (arith, h))
  one_more n given front rest t false ([] ∷ []) e w j h = absurd j
  one_more n given front rest t false ([] ∷ us ∷ more) e w j h = absurd (j.3)
  one_more n given front rest t false ((u ∷ ts) ∷ []) e w j h = ((front, rest, e, w, j), omega (arith, h))
  one_more n given front rest t false ((u ∷ ts) ∷ us ∷ more) e w j h =
      let first : List Text = front ++ codes "and" ∷ j.0 in
      let split = e ∙ ap (λ (x : List Text). front ++ codes "and" ∷ x) j.2 ∙ sym (append_assoc front (codes "and" ∷ j.0) (codes "or" ∷ j.1)) in
      ((first, j.1, split, (front, j.0, refl, w, j.3), j.4), omega (arith, h))

  same_words : (given front : List Text) (t : Term) → given ≡ front ++ [] → WritesTerm names front t → WritesTerm names given t
  same_words given front t e w = rw (e, append-nil front) w

  after_term : (n : ℕ) (given : List Text) (c : Cond) (t : Term) (rest : List Text) → term names given ≡ Some (t, rest) →
      joined names (terms names n) (t, rest) ≡ Some c → ((g : List Text) (d : Cond) → terms names n g ≡ Some d → JoinsAll names g d × (length (all_terms d) ≤ n)) →
      JoinsAll names given c × (length (all_terms c) ≤ suc n)
  after_term n given c t [] e j more =
      let w = term_is names given t [] e in
      let is : c ≡ (t ∷ []) ∷ [] = cc in
      rw is (same_words given w.0 t w.1 w.2, omega arith)
  after_term n given c t (word ∷ rest) e j more =
      let w = term_is names given t (word ∷ rest) e in
      let b = of_then (λ (next : Bool). option_map (put_before next t) (terms names n rest)) (begins_after word) c j in
      let m = of_map (put_before b.0 t) (terms names n rest) c b.2 in
      let d = more rest m.0 m.1 in
      rw (sym m.2) (one_more n given w.0 rest t b.0 m.0 (w.1 ∙ ap (λ k. w.0 ++ k ∷ rest) (joint_is word b.0 b.1)) w.2 d.0 d.1)

  read_joins : (n : ℕ) (given : List Text) (c : Cond) → terms names n given ≡ Some c → JoinsAll names given c × (length (all_terms c) ≤ n)
  read_joins zero given c e = absurd (cc)
  read_joins (suc n) given c e =
      let s = of_then (joined names (terms names n)) (term names given) c e in
      after_term n given c s.0.0 s.0.1 s.1 s.2 (read_joins n)

-- what is read is what is written
pub written_is : (names : Names) (given : List Text) (read : Option Cond) → read ≡ condition names given → IsWritten names given read
unfolding IsWritten condition
written_is names given read e = λ c. (λ s. read_joins names 8 given c (sym e ∙ s), λ w. e ∙ joins_read names 8 given c w.0 w.1)
