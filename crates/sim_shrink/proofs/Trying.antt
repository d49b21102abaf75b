-- Passes over the faults that stay.
use Rattle.std.proofs.Common.{◌≡◌, ◌⊎◌, ℕ, ◌+◌, ◌<◌, ◌≤◌, ◌%◌, Bool, true, false, ◌||◌, List, length, Some, None, refl, sym, ap, ◌∙◌, subst, arith, inl, inr}
use Rattle.std.specs.Prelude.{slice_set, slice_index_or}
use Rattle.std.specs.Option.{IsSome}
use Rattle.std.specs.List.{list_any}
use Rattle.std.proofs.Math.Nat.{eq-or-lt_of_le}
use Rattle.std.proofs.lemmas.List.{get_or_past}
use Rattle.std.specs.Prelude.{take, drop}
use Rattle.sim_events.specs.declared.Event.{Event}
use Rattle.sim_world.specs.Events.{Rules}
use Rattle.sim_watch.specs.Condition.{Cond}
use Rattle.sim_shrink.specs.Shrunk.{failing, IsMinimal}
use Rattle.sim_shrink.specs.Choices.{kept_by, count_left, without}
use Rattle.sim_shrink.specs.Passing.{StillFails, IsTried, IsPassing}
use Rattle.sim_shrink.proofs.Choices.{fewer_left, long_without, without_one, none_there, none_anywhere}

module _ {State Msg : Type 0} (r : Rules State Msg) (c : Cond) (es : List Event) where
  -- none of the part stayed
  pub tried_none : (choice : List Bool) (from n : ℕ) → StillFails r c es choice → list_any (λ stays. stays) (take n (drop from choice)) ≡ false
      → IsTried r c es choice from n choice false
  tried_none choice from n h none = record {
    fails = h;
    long = refl;
    fewer = λ off. absurd cc;
    same = λ _. refl;
    needed = λ _ one at.
        let off : slice_index_or choice from false ≡ false = none_there from choice (ap (λ (k : ℕ). list_any (λ stays. stays) (take k (drop from choice))) (sym one) ∙ none) in
        let both : false ≡ true = sym off ∙ at in
        absurd cc;
  }

  -- the condition still fails without it
  pub tried_dropped : (choice next : List Bool) (from n p : ℕ) → from + n ≤ length choice → list_any (λ stays. stays) (take n (drop from choice)) ≡ true
      → next ≡ without from n choice → Some p ≡ failing r c (kept_by next es) → IsTried r c es choice from n next true
  tried_dropped choice next from n p le some is found = record {
    fails = subst IsSome found refl;
    long = ap length is ∙ long_without from n choice le;
    fewer = λ _. subst (λ (xs : List Bool). count_left xs < count_left choice) (sym is) (fewer_left from n choice some);
    same = λ off. absurd cc;
    needed = λ off one at. absurd cc;
  }

  -- it does not
  pub tried_kept : (choice next : List Bool) (from n : ℕ) → from + n ≤ length choice → StillFails r c es choice
      → next ≡ without from n choice → None ≡ failing r c (kept_by next es) → IsTried r c es choice from n choice false
  tried_kept choice next from n le h is found = record {
    fails = h;
    long = refl;
    fewer = λ off. absurd cc;
    same = λ _. refl;
    needed = λ _ one at. ap (λ (xs : List Bool). failing r c (kept_by xs es)) (sym (without_one from n choice one le) ∙ sym is) ∙ sym found;
  }

  -- a pass begins
  pub passing_none : (size : ℕ) (choice : List Bool) → StillFails r c es choice → IsPassing r c es size choice 0 choice false
  passing_none size choice h = record {
    fails = h;
    long = refl;
    fewer = λ off. absurd cc;
    same = λ _. refl;
    needed = λ _ one i lt. absurd (omega arith);
  }

  -- no part begins here
  pub passing_skip : (size : ℕ) (first choice : List Bool) (from : ℕ) (has : Bool) → (from % size ≡ 0 → ⊥) → IsPassing r c es size first from choice has
      → IsPassing r c es size first (from + 1) choice has
  passing_skip size first choice from has apart h = record {
    fails = h.fails;
    long = h.long;
    fewer = h.fewer;
    same = h.same;
    needed = λ off one. absurd (apart (let m : from % 1 ≡ 0 = omega arith in ap (λ (k : ℕ). from % k) one ∙ m));
  }

  or_left : (a b : Bool) → (a || b) ≡ false → a ≡ false
  or_left false b e = refl
  or_left true b e = absurd cc

  or_right : (a b : Bool) → (a || b) ≡ false → b ≡ false
  or_right false b e = e
  or_right true b e = absurd cc

  -- the next part was tried
  pub passing_on : (size n : ℕ) (first choice next : List Bool) (from : ℕ) (has is : Bool) → (size ≡ 1 → n ≡ 1) → IsPassing r c es size first from choice has
      → IsTried r c es choice from n next is → IsPassing r c es size first (from + 1) next (has || is)
  passing_on size n first choice next from has is alone h t = record {
    fails = t.fails;
    long = t.long ∙ h.long;
    fewer = fewer has is h.fewer h.same t.fewer t.same;
    same = λ off. t.same (or_right has is off) ∙ h.same (or_left has is off);
    needed = λ off one i lt at. needed (or_left has is off) (or_right has is off) one i at (eq-or-lt_of_le (let le : i ≤ from = omega (arith, lt) in le));
  }
    where
      fewer : (a b : Bool) → (a ≡ true → count_left choice < count_left first) → (a ≡ false → choice ≡ first) → (b ≡ true → count_left next < count_left choice)
          → (b ≡ false → next ≡ choice) → (a || b) ≡ true → count_left next < count_left first
      fewer true true one same less still any = let x = one refl in let y = less refl in omega (arith, x, y)
      fewer true false one same less still any = let x = one refl in let y : count_left next ≡ count_left choice = ap count_left (still refl) in omega (arith, x, y)
      fewer false true one same less still any = let x : count_left choice ≡ count_left first = ap count_left (same refl) in let y = less refl in omega (arith, x, y)
      fewer false false one same less still any = absurd cc

      needed : has ≡ false → is ≡ false → size ≡ 1 → (i : ℕ) → slice_index_or first i false ≡ true → (i ≡ from) ⊎ (i < from)
          → failing r c (kept_by (slice_set first i false) es) ≡ None
      needed a b one i at (inr less) = h.needed a one i less at
      needed a b one i at (inl here) =
          let same : choice ≡ first = h.same a in
          ap (λ (k : ℕ). failing r c (kept_by (slice_set first k false) es)) here
          ∙ ap (λ (xs : List Bool). failing r c (kept_by (slice_set xs from false) es)) (sym same)
          ∙ t.needed b (alone one) (ap (λ (xs : List Bool). slice_index_or xs from false) same ∙ ap (λ (k : ℕ). slice_index_or first k false) (sym here) ∙ at)

  -- a pass over all faults that dropped nothing leaves a minimal choice
  pub passing_all : (size n : ℕ) (first choice : List Bool) (has : Bool) → n ≡ length first → IsPassing r c es size first n choice has → has ≡ false → size ≡ 1
      → IsMinimal r c es choice
  passing_all size n first choice has all h off one =
      subst (IsMinimal r c es) (sym (h.same off)) (λ i at. h.needed off one i (within i at) at)
    where
      within : (i : ℕ) → slice_index_or first i false ≡ true → i < n
      within i at = elim (Rattle.std.proofs.lemmas.Bool.cases_order i n) [
        | inl same ↦ absurd (past i at (omega (arith, same, all)))
        | inr (inl less) ↦ less
        | inr (inr more) ↦ absurd (past i at (omega (arith, more, all)))
      ]
        where
          past : (i : ℕ) → slice_index_or first i false ≡ true → length first ≤ i → ⊥
          past i at le = let off : slice_index_or first i false ≡ false = get_or_past first i false le in let both : false ≡ true = sym off ∙ at in absurd cc

  -- where no fault stays, the choice is minimal
  pub none_minimal : (choice : List Bool) → count_left choice ≡ 0 → IsMinimal r c es choice
  none_minimal choice none = λ i at. absurd (none_anywhere i choice none at)
