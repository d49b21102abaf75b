-- The first finding of the pieces, in order, is the least place of the whole.
use Rattle.std.proofs.Common.{◌≡◌, ℕ, ◌+◌, ◌-◌, ◌*◌, ◌/◌, ◌%◌, ◌<◌, ◌≤◌, Bool, true, false, Option, Some, None, sym, ap, ◌∙◌, arith, ◌⊎◌, inl, inr}
use Rattle.std.proofs.Math.Nat.{div-mul-le_self, mul-div-le, le-div_iff_mul-le, mul-le-mul_right, mod-lt, eq-or-lt_of_le}
use Rattle.std.proofs.lemmas.Nat.{mul-add-lt}
use Rattle.sim_node.specs.Numbers.{least}
use Rattle.sim_scan.specs.Search.{pieces, piece}
use Rattle.sim_watch.proofs.Firsts.{least_is, least_none, side}
use Rattle.sim_history.proofs.Joined.{quotient, multiple}
use Rattle.sim_claims.specs.Best.{IsFirst}
use Rattle.sim_search.proofs.Leasts.{least_tells, none_tells}

div_mono : (m n k : ℕ) → 0 < k → m ≤ n → m / k ≤ n / k
div_mono m n k some le = let a = div-mul-le_self m k in (le-div_iff_mul-le {k = k} {x = m / k} {y = n} some).1 (omega (arith, a, le))

module _ (test : ℕ → Bool) (lo hi k : ℕ) (some : 0 < k) where
  -- what is found of a piece
  abbrev pub found_in : ℕ → Option ℕ
  found_in i = least test (piece lo hi k i).lo (piece lo hi k i).hi

  -- a place lies in the piece of its quotient
  record IsIn (i j : ℕ) : Type 0 where
    count : i < pieces lo hi k
    quotient_is : lo / k + i ≡ j / k
    from : (piece lo hi k i).lo ≤ j
    to : j ≤ (piece lo hi k i).hi

  its_piece : (j : ℕ) → lo ≤ j → j ≤ hi → IsIn (j / k - lo / k) j
  its_piece j a b =
      let x = div_mono lo j k some a in
      let y = div_mono j hi k some b in
      let i : lo / k + (j / k - lo / k) ≡ j / k = omega (arith, x) in
      let q = quotient j k in
      let r = mod-lt j some in
      let same : (lo / k + (j / k - lo / k)) * k ≡ j / k * k = ap (λ (n : ℕ). n * k) i in
      record { count = omega (arith, x, y); quotient_is = i; from = omega (arith, a, q, same); to = omega (arith, b, q, r, same, some) }

  -- a place of a later piece lies past those of an earlier one
  later_past : (x i j : ℕ) → x < i → lo / k + i ≡ j / k → (piece lo hi k x).hi < j
  later_past x i j lt is =
      let m = mul-add-lt (lo / k + x) k (k - 1) (j / k) (omega (arith, lt, is)) (omega (arith, some)) in
      let n = mul-div-le j k in
      omega (arith, m, n)

  pub place_none : IsFirst found_in (pieces lo hi k) None → None ≡ least test lo hi
  place_none h = sym (least_none test lo hi (λ j a b.
      let p = its_piece j a b in
      none_tells test (piece lo hi k (j / k - lo / k)).lo (piece lo hi k (j / k - lo / k)).hi (h (j / k - lo / k) p.count) j p.from p.to))

  pub place_some : (p : ℕ × ℕ) → IsFirst found_in (pieces lo hi k) (Some p) → Some p.1 ≡ least test lo hi
  place_some p h =
      let t = least_tells test (piece lo hi k p.0).lo (piece lo hi k p.0).hi p.1 h.1 in
      let from = t.from in
      let to = t.to in
      sym (least_is test lo hi p.1 (omega (arith, from)) (omega (arith, to)) t.passes (λ j a b. earlier j a b))
    where
      earlier : (j : ℕ) → lo ≤ j → j < p.1 → test j ≡ false
      earlier j a b =
          let t = least_tells test (piece lo hi k p.0).lo (piece lo hi k p.0).hi p.1 h.1 in
          let to = t.to in
          let i = j / k - lo / k in
          let q = its_piece j a (omega (arith, to, b)) in
          elim (side i p.0) [
            | inl before ↦ none_tells test (piece lo hi k i).lo (piece lo hi k i).hi (h.2 i before) j q.from q.to
            | inr le ↦ elim (eq-or-lt_of_le le) [
              | inl same ↦
                  let from = q.from in
                  let e : (piece lo hi k p.0).lo ≡ (piece lo hi k i).lo = ap (λ (n : ℕ). (piece lo hi k n).lo) same in
                  t.before j (omega (arith, from, e)) b
              | inr past ↦ let far = later_past p.0 i j past q.quotient_is in absurd (omega (arith, far, to, b))
            ]
          ]

quotient_is : (q n k : ℕ) → 0 < k → q * k ≤ n → n < q * k + k → n / k ≡ q
quotient_is q n k some a b =
    let least : q ≤ n / k = (le-div_iff_mul-le {k = k} {x = q} {y = n} some).1 a in
    elim (side q (n / k)) [
      | inl past ↦
          let m = mul-add-lt q k (k - 1) (n / k) past (omega (arith, some)) in
          let n = mul-div-le n k in
          absurd (omega (arith, m, n, b, some))
      | inr most ↦ omega (arith, least, most)
    ]

-- both ends of a piece lie between the same two checkpoints
pub one_interval : (lo hi k i : ℕ) → 0 < k → lo ≤ hi → i < pieces lo hi k → (piece lo hi k i).lo / k ≡ (piece lo hi k i).hi / k
one_interval lo hi k i some le lt =
    let q = lo / k + i in
    let x = div_mono lo hi k some le in
    let up : q ≤ hi / k = omega (arith, x, lt) in
    let most : q * k ≤ hi = multiple q hi k up in
    let first = quotient lo k in
    let rest = mod-lt lo some in
    let below : lo / k * k ≤ q * k = mul-le-mul_right {m = lo / k} {n = q} k (omega arith) in
    quotient_is q (piece lo hi k i).lo k some (omega (arith, below)) (omega (arith, first, rest, below, some))
    ∙ sym (quotient_is q (piece lo hi k i).hi k some (omega (arith, most, some)) (omega (arith, some)))
