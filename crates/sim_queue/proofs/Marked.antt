-- Days of which the lists were looked through.
use Rattle.std.proofs.Common.{◌≡◌, ◌≢◌, ℕ, ◌+◌, ◌-◌, ◌*◌, ◌/◌, ◌^◌, ◌<◌, ◌≤◌, ◌%◌, min, List, refl, ap, ◌∙◌, subst, arith, ◌⊎◌, inr, ⊎_elim}
use Rattle.std.proofs.lemmas.Bool.{cases_eq, cases_lt}
use Rattle.std.proofs.Math.Nat.{div-mul-le_self}
use Rattle.std.proofs.lemmas.Nat.{le-div, pow_pos}
use Rattle.std.specs.Prelude.{slice_index_or}
use Rattle.std.specs.Int.{bit_at}
use Rattle.sim_queue.specs.declared.lists.Node.{Node}
use Rattle.sim_queue.specs.inside.Lists.{node, day, list_of, order_of, HasKey, IsLists, IsEmptyList}
use Rattle.sim_queue.specs.inside.Marks.{mark_of, IsUnmarked}
use Rattle.sim_queue.specs.inside.Wheel.{HasMarks, IsFrom, IsFloor, IsDue}
use Rattle.sim_queue.proofs.Heads.{IsLeastIn, IsHead, head_least}

-- a due is in no day before an earlier one's
pub day_mono : (w d e : ℕ) → d ≤ e → day w d ≤ day w e
day_mono w d e le = let below : d / 2 ^ w * 2 ^ w ≤ d = div-mul-le_self d (2 ^ w) in le-div (d / 2 ^ w) e (2 ^ w) (pow_pos w) (omega arith)

-- days that are equal modulo 256 have one mark
pub same_mark : (words : List ℕ) (d e : ℕ) → d % 256 ≡ e % 256 → mark_of words d ≡ mark_of words e
same_mark words d e same =
    let low : d % 64 ≡ e % 64 = omega arith in
    ap (λ (n : ℕ). bit_at (slice_index_or words (n / 64) 0) (d % 64)) same ∙ ap (λ (n : ℕ). bit_at (slice_index_or words (e % 256 / 64) 0) n) low

-- no key is in the list of a day that is not marked
pub unmarked_none : (w : ℕ) (words : List ℕ) (nodes : List Node) (i r : ℕ) → HasMarks w words nodes → IsUnmarked words r → HasKey (node nodes i) → list_of w (node nodes i) ≢ r % 256
unmarked_none w words nodes i r marked none key same =
    let one : mark_of words (day w (node nodes i).due) ≡ 1 = marked i key in
    let e : mark_of words (day w (node nodes i).due) ≡ mark_of words r = same_mark words (day w (node nodes i).due) r same in
    let none_there : mark_of words r ≡ 0 = none in
    omega arith

-- the days from r0 on and before a day, counted from `start`, were looked through: no key of their lists is due in them, and `least` is the least due in these lists
pub record IsPassed (w : ℕ) (nodes : List Node) (start r0 to least : ℕ) : Type 0 where
  pub all : (i r : ℕ) → HasKey (node nodes i) → r0 ≤ r → r < to → list_of w (node nodes i) ≡ r % 256 → (day w (node nodes i).due ≢ start + r) × (least ≤ (node nodes i).due)
  pub settled : (2 ^ 64 ≤ least + 1) ⊎ IsDue least nodes

module _ (w : ℕ) (nodes : List Node) (words : List ℕ) (start r0 floor : ℕ) (lists : IsLists w nodes) (marked : HasMarks w words nodes) (from : IsFrom floor nodes)
    (is : day w floor ≡ start + r0) (whole : start % 256 ≡ 0) where
  -- days that are not marked
  pub passed_unmarked : (to more least : ℕ) → ((d : ℕ) → to ≤ d → d < more → IsUnmarked words d) → IsPassed w nodes start r0 to least → IsPassed w nodes start r0 more least
  passed_unmarked to more least none p = record {
    all = λ i r key ge lt same. ⊎_elim
        (λ (before : r < to). p.all i r key ge before same)
        (λ (after : to ≤ r). absurd (unmarked_none w words nodes i r marked (none r after lt) key same))
        (cases_lt r to);
    settled = p.settled;
  }

  -- a day whose list has no key
  pub passed_empty : (r least : ℕ) → IsEmptyList w (r % 256) nodes → IsPassed w nodes start r0 r least → IsPassed w nodes start r0 (r + 1) least
  passed_empty r least none p = record {
    all = λ i q key ge lt same. ⊎_elim
        (λ (before : q < r). p.all i q key ge before same)
        (λ (after : r ≤ q). let e : q ≡ r = omega arith in absurd (none i key (same ∙ ap (λ (n : ℕ). n % 256) e)))
        (cases_lt q r);
    settled = p.settled;
  }

  -- the day of a key is not before that of the floor
  pub day_from : (i : ℕ) → HasKey (node nodes i) → start + r0 ≤ day w (node nodes i).due
  day_from i key = let le : day w floor ≤ day w (node nodes i).due = day_mono w floor (node nodes i).due (from i key) in omega arith

  module _ (r p : ℕ) (after : r0 ≤ r) (head : IsHead w nodes (r % 256) p) (first : (i : ℕ) → HasKey (node nodes i) → list_of w (node nodes i) ≡ r % 256 → (node nodes p).due ≤ (node nodes i).due) where
    -- no key is due in a day of which the first key of the list is not
    not_in : (least : ℕ) → IsPassed w nodes start r0 r least → day w (node nodes p).due - start ≢ r → (i : ℕ) → HasKey (node nodes i) → list_of w (node nodes i) ≡ r % 256
        → day w (node nodes i).due ≢ start + r
    not_in least passed other i key same at =
        let le : day w (node nodes p).due ≤ day w (node nodes i).due = day_mono w (node nodes p).due (node nodes i).due (first i key same) in
        let ge : start + r0 ≤ day w (node nodes p).due = day_from p head.key in
        let q : ℕ = day w (node nodes p).due - start in
        let sum : day w (node nodes p).due ≡ start + (day w (node nodes p).due - start) = omega arith in
        let low : (start + (day w (node nodes p).due - start)) % 256 ≡ (day w (node nodes p).due - start) % 256 = omega arith in
        let list : list_of w (node nodes p) ≡ (day w (node nodes p).due - start) % 256 = ap (λ (n : ℕ). n % 256) sum ∙ low in
        (passed.all p (day w (node nodes p).due - start) head.key (omega arith) (omega arith) list).0 sum

    pub passed_other : (least : ℕ) → IsPassed w nodes start r0 r least → day w (node nodes p).due - start ≢ r → IsPassed w nodes start r0 (r + 1) (min least (node nodes p).due)
    passed_other least passed other = record {
      all = λ i q key ge lt same. ⊎_elim
          (λ (before : q < r). let h = passed.all i q key ge before same in (h.0, let le : least ≤ (node nodes i).due = h.1 in omega arith))
          (λ (later : r ≤ q).
          let e : q ≡ r = omega arith in
          let here : list_of w (node nodes i) ≡ r % 256 = same ∙ ap (λ (n : ℕ). n % 256) e in
          (λ at. not_in least passed other i key here (at ∙ ap (λ (n : ℕ). start + n) e), let le : (node nodes p).due ≤ (node nodes i).due = first i key here in omega arith))
          (cases_lt q r);
      settled = ⊎_elim
          (λ (lt : least < (node nodes p).due). subst (λ (n : ℕ). (2 ^ 64 ≤ n + 1) ⊎ IsDue n nodes) (let e : least ≡ min least (node nodes p).due = omega arith in e) passed.settled)
          (λ (ge : (node nodes p).due ≤ least). inr (record { place = p; key = head.key; due = let e : (node nodes p).due ≡ min least (node nodes p).due = omega arith in e }))
          (cases_lt least (node nodes p).due);
    }

    -- the first key of the list is due in this day
    pub found_floor : (least : ℕ) → IsPassed w nodes start r0 r least → day w (node nodes p).due - start ≡ r → IsFloor (node nodes p).due nodes
    found_floor least passed here = record {
      from = λ i key.
          let ge : start + r0 ≤ day w (node nodes p).due = day_from p head.key in
          let at_p : day w (node nodes p).due ≡ start + r = omega arith in
          let ge_i : start + r0 ≤ day w (node nodes i).due = day_from i key in
          ⊎_elim
          (λ (before : day w (node nodes i).due < start + r).
          let sum : day w (node nodes i).due ≡ start + (day w (node nodes i).due - start) = omega arith in
          let low : (start + (day w (node nodes i).due - start)) % 256 ≡ (day w (node nodes i).due - start) % 256 = omega arith in
          absurd ((passed.all i (day w (node nodes i).due - start) key (omega arith) (omega arith) (ap (λ (n : ℕ). n % 256) sum ∙ low)).0 sum))
          (λ (not_before : start + r ≤ day w (node nodes i).due). ⊎_elim
          (λ (same : day w (node nodes i).due ≡ start + r).
          let low : (start + r) % 256 ≡ r % 256 = omega arith in
          first i key (ap (λ (n : ℕ). n % 256) same ∙ low))
          (λ (later : day w (node nodes i).due ≢ start + r). ⊎_elim
          (λ (lt : (node nodes i).due < (node nodes p).due).
          let le : day w (node nodes i).due ≤ day w (node nodes p).due = day_mono w (node nodes i).due (node nodes p).due (omega arith) in
          absurd (omega arith))
          (λ ge. ge)
          (cases_lt (node nodes i).due (node nodes p).due))
          (cases_eq (day w (node nodes i).due) (start + r)))
          (cases_lt (day w (node nodes i).due) (start + r));
      settled = inr (record { place = p; key = head.key; due = refl });
    }

  -- all lists were looked through
  pub passed_all : (to least : ℕ) → r0 < 256 → r0 + 256 ≤ to → IsPassed w nodes start r0 to least → IsFloor least nodes
  passed_all to least low whole passed = record {
    from = λ i key. ⊎_elim
        (λ (lt : list_of w (node nodes i) < r0). (passed.all i (list_of w (node nodes i) + 256) key (omega arith) (omega arith) (omega arith)).1)
        (λ (ge : r0 ≤ list_of w (node nodes i)). (passed.all i (list_of w (node nodes i)) key ge (omega arith) (omega arith)).1)
        (cases_lt (list_of w (node nodes i)) r0);
    settled = passed.settled;
  }

-- the first key of a list is due no later than the others
pub first_due : (w : ℕ) (nodes : List Node) (l p : ℕ) → IsLists w nodes → (node nodes l).after ≡ p → HasKey (node nodes p) → (i : ℕ) → HasKey (node nodes i) → list_of w (node nodes i) ≡ l
    → (node nodes p).due ≤ (node nodes i).due
first_due w nodes l p lists is head i key same =
    let h : IsLeastIn w nodes l i = subst (λ (n : ℕ). IsLeastIn w nodes n i) same (head_least w nodes i lists key) in
    let least : order_of (node nodes p) ≤ order_of (node nodes i) = subst (λ (n : ℕ). order_of (node nodes n) ≤ order_of (node nodes i)) is h.least in
    omega arith

-- where the first key of the floor's list is due on its day, that is the least due
pub floor_today : (w floor p : ℕ) (nodes : List Node) → IsFrom floor nodes → HasKey (node nodes p) → ((i : ℕ) → HasKey (node nodes i) → list_of w (node nodes i) ≡ day w floor % 256
    → (node nodes p).due ≤ (node nodes i).due) → day w (node nodes p).due ≡ day w floor → IsFloor (node nodes p).due nodes
floor_today w floor p nodes from key first today = record {
  from = λ i has. ⊎_elim
      (λ (lt : (node nodes i).due < (node nodes p).due).
      let low : day w floor ≤ day w (node nodes i).due = day_mono w floor (node nodes i).due (from i has) in
      let high : day w (node nodes i).due ≤ day w (node nodes p).due = day_mono w (node nodes i).due (node nodes p).due (omega arith) in
      let same : day w (node nodes i).due ≡ day w floor = omega arith in
      let le : (node nodes p).due ≤ (node nodes i).due = first i has (ap (λ (n : ℕ). n % 256) same) in
      absurd (omega arith))
      (λ ge. ge)
      (cases_lt (node nodes i).due (node nodes p).due);
  settled = inr (record { place = p; key = key; due = refl });
}
