-- The least finding, over lists of numbers.
use Rattle.std.proofs.Common.{◌≡◌, ◌⊎◌, ℕ, ◌+◌, ◌<◌, ◌≤◌, Bool, cond, List, [], ◌∷◌, ◌++◌, Option, Some, None, refl, sym, ap, ◌∙◌, subst, ⊎_elim, inl, inr, arith, leb, ne_eqb, eq-eqb, le-leb, lt-ltb, le-ltb}
use Rattle.std.proofs.lemmas.Bool.{lt-leb}
use Rattle.std.specs.Prelude.{◌==◌, Result, Ok, Err, IfOk}
use Rattle.atomic_table.specs.Seated.{TableId}
use Rattle.atomic_table.specs.Table.{Me}
use Rattle.atomic_table.specs.declared.shared.Seat.{Seat}
use Rattle.sim_claims.specs.declared.hand.Hand.{Hand}
use mathlib.Core.Logic.{dite}
use native.Mathlib.Decide.{ℕ_discrete, dec_le}
use Rattle.sim_claims.specs.Claims.{hand, times, past, once_below}
use Rattle.sim_claims.specs.Best.{nearer_of, both_of, at_piece, IsBest, IsFirst, IsDone}
use Rattle.sim_claims.proofs.Lists.{total_append}
use Rattle.sim_claims.proofs.Draws.{past_push}

module _ (f : ℕ → Option ℕ) (n : ℕ) where
  pub best_nil : IsBest f n [] None
  best_nil x lt has = absurd (omega arith)

  -- which list of two has the number
  drawn_of : (x : ℕ) (xs ys : List ℕ) → 0 < times x (xs ++ ys) → (0 < times x xs) ⊎ (0 < times x ys)
  drawn_of x xs ys has = let a = total_append (λ y. cond (y == x) 1 0) xs ys in dite (dec_le 1 (times x xs)) (λ one. inl (omega arith)) (λ no. inr (omega arith))

  pub best_join : (xs ys : List ℕ) (a b : Option (ℕ × ℕ)) → IsBest f n xs a → IsBest f n ys b → IsBest f n (xs ++ ys) (nearer_of a b)
  best_join xs ys None None h k = λ x lt has. ⊎_elim (h x lt) (k x lt) (drawn_of x xs ys has)
  best_join xs ys None (Some q) h k = (k.0, k.1, λ x lt has. ⊎_elim (h x (let l = k.0 in omega arith)) (k.2 x lt) (drawn_of x xs ys has))
  best_join xs ys (Some p) None h k = (h.0, h.1, λ x lt has. ⊎_elim (h.2 x lt) (k x (let l = h.0 in omega arith)) (drawn_of x xs ys has))
  best_join xs ys (Some p) (Some q) h k = dite (dec_le p.0 q.0)
      (λ le. subst (IsBest f n (xs ++ ys)) (sym (ap (λ (t : Bool). cond t (Some p) (Some q)) (le-leb p.0 q.0 le)))
      (let r : IsBest f n (xs ++ ys) (Some p) = (h.0, h.1, λ x lt has. ⊎_elim (h.2 x lt) (k.2 x (omega arith)) (drawn_of x xs ys has)) in r))
      (λ gt. subst (IsBest f n (xs ++ ys)) (sym (ap (λ (t : Bool). cond t (Some p) (Some q)) (lt-leb p.0 q.0 (omega arith))))
      (let r : IsBest f n (xs ++ ys) (Some q) = (k.0, k.1, λ x lt has. ⊎_elim (h.2 x (omega arith)) (k.2 x lt) (drawn_of x xs ys has)) in r))

  -- the one number in a list of one
  only_one : (x y : ℕ) → 0 < times x (y ∷ []) → y ≡ x
  only_one x y has = dite (ℕ_discrete y x) (λ is. is) (λ ne. let z : cond {A = ℕ} (y == x) 1 0 ≡ 0 = ap (λ (t : Bool). cond t 1 0) (ne_eqb y x ne) in absurd (omega arith))

  pub best_one : (piece : ℕ) (found : Option ℕ) → piece < n → found ≡ f piece → IsBest f n (piece ∷ []) (at_piece piece found)
  best_one piece None lt is = λ x _ has. ap f (sym (only_one x piece has)) ∙ sym is
  best_one piece (Some place) lt is = (lt, sym is, λ x less has. let e = only_one x piece has in absurd (omega arith))

  -- a number that is no piece
  pub best_past : (xs : List ℕ) (r : Option (ℕ × ℕ)) (y : ℕ) → n ≤ y → IsBest f n xs r → IsBest f n (xs ++ y ∷ []) r
  best_past xs None y le h = λ x lt has. ⊎_elim (h x lt) (λ one. let e = only_one x y one in absurd (omega arith)) (drawn_of x xs (y ∷ []) has)
  best_past xs (Some p) y le h = (h.0, h.1, λ x lt has. ⊎_elim (h.2 x lt) (λ one. let e = only_one x y one in let l = h.0 in absurd (omega arith)) (drawn_of x xs (y ∷ []) has))

  past_has : (xs : List ℕ) → 0 < past n xs → (y : ℕ) × (n ≤ y) × (0 < times y xs)
  past_has [] some_past = absurd (omega arith)
  past_has (x ∷ xs) some_past = dite (dec_le n x)
      (λ le. let one : cond {A = ℕ} (x == x) 1 0 ≡ 1 = ap (λ (t : Bool). cond t 1 0) (eq-eqb x x refl) in (x, le, omega arith))
      (λ gt.
      let z : cond {A = ℕ} (leb n x) 1 0 ≡ 0 = ap (λ (t : Bool). cond t 1 0) (lt-leb n x (omega arith)) in
      let r = past_has xs (omega arith) in
      (r.0, r.1, let l = r.2 in omega arith))

  -- where the numbers drawn are those below some number, and one of them is no piece, each piece was drawn
  pub best_is_first : (xs : List ℕ) (m : ℕ) (r : Option (ℕ × ℕ)) → ((x : ℕ) → times x xs ≡ once_below x m) → 0 < past n xs → IsBest f n xs r → IsFirst f n r
  best_is_first xs m r all some_past h = first r h
    where
      y : (y : ℕ) × (n ≤ y) × (0 < times y xs)
      y = past_has xs some_past

      below : y.0 < m
      below = dite (dec_le m y.0) (λ le. let z : once_below y.0 m ≡ 0 = ap (λ (t : Bool). cond t 1 0) (le-ltb y.0 m le) in let a = all y.0 in let l = y.2 in absurd (omega arith)) (λ lt. omega arith)

      has : (x : ℕ) → x < n → 0 < times x xs
      has x lt = let z : once_below x m ≡ 1 = ap (λ (t : Bool). cond t 1 0) (lt-ltb x m (let l = below in let k = y.1 in omega arith)) in let a = all x in omega arith

      first : (q : Option (ℕ × ℕ)) → IsBest f n xs q → IsFirst f n q
      first None k = λ x lt. k x lt (has x lt)
      first (Some p) k = (k.0, k.1, λ x lt. k.2 x lt (has x (let l = k.0 in omega arith)))

pub past_in : (n x : ℕ) (xs : List ℕ) → x < n → past n (xs ++ x ∷ []) ≡ past n xs
past_in n x xs lt = let p = past_push n x xs in let z : cond {A = ℕ} (leb n x) 1 0 ≡ 0 = ap (λ (t : Bool). cond t 1 0) (lt-leb n x lt) in omega arith

pub past_out : (n x : ℕ) (xs : List ℕ) → n ≤ x → 0 < past n (xs ++ x ∷ [])
past_out n x xs le = let p = past_push n x xs in let z : cond {A = ℕ} (leb n x) 1 0 ≡ 1 = ap (λ (t : Bool). cond t 1 0) (le-leb n x le) in omega arith

-- two workers' findings together
pub done_both : {F : Type 0} (t : TableId) (f : ℕ → Option ℕ) (n k j l : ℕ) (a b c : Seat (Unit {0}) Hand) (ra rb r : Result (Option (ℕ × ℕ)) F) → IsDone t f n k a ra → IsDone t f n j b rb → c.table_id ≡ t
    → ◌≡◌ {A = Me (Unit {0}) Hand} c.me (hand (a.me.0.parts + b.me.0.parts) (a.me.0.drawn ++ b.me.0.drawn), a.me.1) → r ≡ both_of ra rb → l ≡ k + j → IsDone t f n l c r
done_both {F = F} t f n k j l a b c ra rb r x y of is same more =
    let parts : c.me.0.parts ≡ l = let p = ap (λ (m : Me (Unit {0}) Hand). m.0.parts) is in let u = x.2 in let v = y.2 in omega arith in (
      of,
      ap (λ (m : Me (Unit {0}) Hand). m.1) is ∙ x.1,
      parts,
      subst (λ q. IfOk q (λ b'. IsBest f n c.me.0.drawn b' × (0 < past n c.me.0.drawn))) (sym same) (subst (λ xs. IfOk (both_of ra rb) (λ b'. IsBest f n xs b' × (0 < past n xs))) (sym (ap (λ (m : Me (Unit {0}) Hand). m.0.drawn) is)) (found ra rb x.3 y.3)),
    )
  where
    found : (p q : Result (Option (ℕ × ℕ)) F) → IfOk p (λ b'. IsBest f n a.me.0.drawn b' × (0 < past n a.me.0.drawn)) → IfOk q (λ b'. IsBest f n b.me.0.drawn b' × (0 < past n b.me.0.drawn))
        → IfOk (both_of p q) (λ b'. IsBest f n (a.me.0.drawn ++ b.me.0.drawn) b' × (0 < past n (a.me.0.drawn ++ b.me.0.drawn)))
    found (Ok p) (Ok q) h k' = (best_join f n a.me.0.drawn b.me.0.drawn p q h.0 k'.0, let s = total_append (λ y'. cond (leb n y') 1 0) a.me.0.drawn b.me.0.drawn in let z = h.1 in omega arith)
    found (Ok p) (Err e) h k' = tt
    found (Err e) q h k' = tt

pub done_first : {F : Type 0} (f : ℕ → Option ℕ) (n : ℕ) (xs : List ℕ) (r : Result (Option (ℕ × ℕ)) F) → ((m : ℕ) × ((x : ℕ) → times x xs ≡ once_below x m)) → IfOk r (λ b. IsBest f n xs b × (0 < past n xs)) → IfOk r (λ b. IsFirst f n b)
done_first f n xs (Ok b) all h = best_is_first f n xs all.0 b all.1 h.1 h.0
done_first f n xs (Err e) all h = tt
