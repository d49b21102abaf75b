-- Places that are looked at eight in one go.
use Rattle.std.proofs.Common.{◌≡◌, ℕ, zero, suc, ◌+◌, ◌-◌, ◌<◌, ◌≤◌, List, length, take, drop, Option, Some, None, Bool, true, false, ◌&&◌, is_some, not, refl, sym, ap, ◌∙◌, arith, ⊎_elim}
use Rattle.std.proofs.Math.ListN.{get_or}
use Rattle.std.proofs.lemmas.Bool.{cases_lt, false≢true}
use Rattle.std.proofs.lemmas.List.{get_or_default, get_or-drop, get_or-take}
use Rattle.sim_queue.specs.inside.Sparse.{index_at}

both : (a b : Bool) → (a && b) ≡ true → (a ≡ true) × (b ≡ true)
both true b h = (refl, h)
both false b h = absurd (false≢true h)

none_there : (o : Option ℕ) (b : Bool) → is_some o ≡ not b → b ≡ true → o ≡ None
none_there None b is h = refl
none_there (Some x) true is h = absurd (false≢true (sym is))
none_there (Some x) false is h = absurd (false≢true h)

-- the place that is read at i, and whether it is none
pub there : (places : List (Option ℕ)) (i : ℕ) (o : Option ℕ) (b : Bool) → i < length places → o ≡ get_or places i o → is_some o ≡ not b → is_some (index_at places i) ≡ not b
there places i o b within read is = ap (λ x. is_some x) (get_or_default places i None o within ∙ sym read) ∙ is

-- none of the first eight places is there
pub eight_none : (places : List (Option ℕ)) (a b c d e f g h : Bool)
    → is_some (index_at places 0) ≡ not a → is_some (index_at places 1) ≡ not b → is_some (index_at places 2) ≡ not c → is_some (index_at places 3) ≡ not d
    → is_some (index_at places 4) ≡ not e → is_some (index_at places 5) ≡ not f → is_some (index_at places 6) ≡ not g → is_some (index_at places 7) ≡ not h
    → (((((((a && b) && c) && d) && e) && f) && g) && h) ≡ true → (i : ℕ) → i < 8 → index_at places i ≡ None
eight_none places a b c d e f g h is_a is_b is_c is_d is_e is_f is_g is_h all i below =
    let p7 = both ((((((a && b) && c) && d) && e) && f) && g) h all in
    let p6 = both (((((a && b) && c) && d) && e) && f) g p7.0 in
    let p5 = both ((((a && b) && c) && d) && e) f p6.0 in
    let p4 = both (((a && b) && c) && d) e p5.0 in
    let p3 = both ((a && b) && c) d p4.0 in
    let p2 = both (a && b) c p3.0 in
    let p1 = both a b p2.0 in
    go i below (none_there (index_at places 0) a is_a p1.0) (none_there (index_at places 1) b is_b p1.1) (none_there (index_at places 2) c is_c p2.1)
    (none_there (index_at places 3) d is_d p3.1) (none_there (index_at places 4) e is_e p4.1) (none_there (index_at places 5) f is_f p5.1)
    (none_there (index_at places 6) g is_g p6.1) (none_there (index_at places 7) h is_h p7.1)
  where
    go : (i : ℕ) → i < 8 → index_at places 0 ≡ None → index_at places 1 ≡ None → index_at places 2 ≡ None → index_at places 3 ≡ None
        → index_at places 4 ≡ None → index_at places 5 ≡ None → index_at places 6 ≡ None → index_at places 7 ≡ None → index_at places i ≡ None
    go zero lt n0 n1 n2 n3 n4 n5 n6 n7 = n0
    go (suc zero) lt n0 n1 n2 n3 n4 n5 n6 n7 = n1
    go (suc (suc zero)) lt n0 n1 n2 n3 n4 n5 n6 n7 = n2
    go (suc (suc (suc zero))) lt n0 n1 n2 n3 n4 n5 n6 n7 = n3
    go (suc (suc (suc (suc zero)))) lt n0 n1 n2 n3 n4 n5 n6 n7 = n4
    go (suc (suc (suc (suc (suc zero))))) lt n0 n1 n2 n3 n4 n5 n6 n7 = n5
    go (suc (suc (suc (suc (suc (suc zero)))))) lt n0 n1 n2 n3 n4 n5 n6 n7 = n6
    go (suc (suc (suc (suc (suc (suc (suc zero))))))) lt n0 n1 n2 n3 n4 n5 n6 n7 = n7
    go (suc (suc (suc (suc (suc (suc (suc (suc n)))))))) lt n0 n1 n2 n3 n4 n5 n6 n7 = absurd (omega arith)

none_told : (o : Option ℕ) (b : Bool) → is_some o ≡ not b → o ≡ None → b ≡ true
none_told o true is h = refl
none_told o false is h = absurd (false≢true (sym (ap (λ x. is_some x) h) ∙ is))

-- all of them are told to be none
pub all_told : (places : List (Option ℕ)) (a b c d e f g h : Bool)
    → is_some (index_at places 0) ≡ not a → is_some (index_at places 1) ≡ not b → is_some (index_at places 2) ≡ not c → is_some (index_at places 3) ≡ not d
    → is_some (index_at places 4) ≡ not e → is_some (index_at places 5) ≡ not f → is_some (index_at places 6) ≡ not g → is_some (index_at places 7) ≡ not h
    → ((i : ℕ) → i < 8 → index_at places i ≡ None) → (((((((a && b) && c) && d) && e) && f) && g) && h) ≡ true
all_told places a b c d e f g h is_a is_b is_c is_d is_e is_f is_g is_h none =
    rw (
      none_told (index_at places 0) a is_a (none 0 (omega arith)),
      none_told (index_at places 1) b is_b (none 1 (omega arith)),
      none_told (index_at places 2) c is_c (none 2 (omega arith)),
      none_told (index_at places 3) d is_d (none 3 (omega arith)),
      none_told (index_at places 4) e is_e (none 4 (omega arith)),
      none_told (index_at places 5) f is_f (none 5 (omega arith)),
      none_told (index_at places 6) g is_g (none 6 (omega arith)),
      none_told (index_at places 7) h is_h (none 7 (omega arith)),
    ) refl

-- none of the first 16 places is there, told of the first eight and of the next n
pub two_none : (places : List (Option ℕ)) (a b : Bool) (n : ℕ) → n ≡ 8 → (a ≡ true → (i : ℕ) → i < 8 → index_at (take 8 places) i ≡ None)
    → (b ≡ true → (i : ℕ) → i < 8 → index_at (take n (drop 8 places)) i ≡ None) → (a && b) ≡ true → (i : ℕ) → i < 16 → index_at places i ≡ None
two_none places a b n size first second told i below =
    let p = both a b told in
    ⊎_elim
    (λ (lt : i < 8). sym (get_or-take 8 places i None lt) ∙ first p.0 i lt)
    (λ (ge : 8 ≤ i).
    let e : 8 + (i - 8) ≡ i = omega arith in
    let inside : i - 8 < 8 = omega arith in
    ap (λ (m : ℕ). index_at places m) (sym e) ∙ sym (get_or-drop 8 places (i - 8) None) ∙ sym (get_or-take 8 (drop 8 places) (i - 8) None inside)
    ∙ ap (λ (m : ℕ). index_at (take m (drop 8 places)) (i - 8)) (sym size) ∙ second p.1 (i - 8) inside)
    (cases_lt i 8)

pub two_told : (places : List (Option ℕ)) (a b : Bool) (n : ℕ) → n ≡ 8 → (((i : ℕ) → i < 8 → index_at (take 8 places) i ≡ None) → a ≡ true)
    → (((i : ℕ) → i < 8 → index_at (take n (drop 8 places)) i ≡ None) → b ≡ true) → ((i : ℕ) → i < 16 → index_at places i ≡ None) → (a && b) ≡ true
two_told places a b n size first second none =
    rw (
      first (λ i lt. get_or-take 8 places i None lt ∙ none i (omega arith)),
      second (λ i lt. ap (λ (m : ℕ). index_at (take m (drop 8 places)) i) size ∙ get_or-take 8 (drop 8 places) i None lt ∙ get_or-drop 8 places i None ∙ none (8 + i) (omega arith)),
    ) refl
