-- The reach after a rewind.
use Rattle.std.proofs.Common.{◌≡◌, ℕ, suc, zero, ◌+◌, ◌-◌, ◌/◌, ◌%◌, ◌==◌, ◌<◌, ◌≤◌, ◌⊎◌, Bool, true, false, ◌||◌, nat_le, nat_lt, List, Option, Some, None, inl, inr, min, refl, sym, ap, ◌∙◌, subst, arith}
use Rattle.std.specs.Prelude.{if◌then◌else◌, ◌&&◌, Result, Ok, Err, OnOk, IfOk}
use Rattle.std.proofs.Math.Nat.{eq-or-lt_of_le}
use Rattle.std.proofs.lemmas.Bool.Decides.{nat_tests}
use Rattle.sim_node.specs.Node.{NodeLaws}
use Rattle.sim_tape.specs.Tape.{Tape, with_world, at, raised, is_near_ahead, reach_at, reach_here}
use Rattle.sim_tape.proofs.Turning.{not_ahead}
use Rattle.sim_watch.specs.Condition.{Cond}
use Rattle.sim_runs.specs.declared.rewinds.Found.{Found}
use Rattle.sim_runs.specs.Reach.{reach_rewound}
use Rattle.sim_runs.specs.Running.{IsLast, place_found}
use Rattle.sim_runs.proofs.Looking.{quotient_on, interval_next}
use Rattle.sim_runs.proofs.Undoing.{not_within, reach_anew, found_between}

le_true : (m n : ℕ) → m ≤ n → nat_le m n ≡ true
le_true m n le = grind (arith, nat_tests)

le_false : (m n : ℕ) → n < m → nat_le m n ≡ false
le_false m n lt = grind (arith, nat_tests)

lt_true : (m n : ℕ) → m < n → nat_lt m n ≡ true
lt_true m n lt = grind (arith, nat_tests)

lt_false : (m n : ℕ) → n ≤ m → nat_lt m n ≡ false
lt_false m n le = grind (arith, nat_tests)

eq_true : (m n : ℕ) → m ≡ n → (m == n) ≡ true
eq_true m n same = grind (arith, nat_tests)

eq_false : (m n : ℕ) → (m ≡ n → ⊥) → (m == n) ≡ false
eq_false m n other = grind (arith, nat_tests)

or_true : (b : Bool) → (b || true) ≡ true
or_true true = refl
or_true false = refl

-- whether a rewind stops before `low`, at the last place of a stretch
abbrev pub stops_at_end : ℕ → ℕ → ℕ → ℕ → Bool
stops_at_end low p k top = nat_lt low p && (((p + 1) % k == 0) || (p + 1 == top))

-- the reach of a walk from the checkpoint at or below a place
abbrev pub reach_walked : ℕ → Tape → ℕ
reach_walked p t = min t.scenario.window (p % t.scenario.interval)

-- the reach after a rewind from a tape that had the reach h
abbrev pub by_reach : ℕ → ℕ → ℕ → Tape → ℕ
by_reach h low p t =
    if nat_le (t.place - p) h then h - (t.place - p)
    else if stops_at_end low p t.scenario.interval (t.place - h) then 0
    else reach_walked p t

ends_true : (low p k top : ℕ) → low < p → ((p + 1) % k ≡ 0) ⊎ (p + 1 ≡ top) → stops_at_end low p k top ≡ true
ends_true low p k top lt ends =
    ap (λ b. b && (((p + 1) % k == 0) || (p + 1 == top))) (lt_true low p lt)
    ∙ elim ends as (λ _. (((p + 1) % k == 0) || (p + 1 == top)) ≡ true) [
      | inl whole ↦ ap (λ b. b || (p + 1 == top)) (eq_true ((p + 1) % k) 0 whole)
      | inr last ↦ ap (λ b. ((p + 1) % k == 0) || b) (eq_true (p + 1) top last) ∙ or_true ((p + 1) % k == 0)
    ]

goes_down : (low p k top : ℕ) → p ≤ low → stops_at_end low p k top ≡ false
goes_down low p k top le = ap (λ b. b && (((p + 1) % k == 0) || (p + 1 == top))) (lt_false low p le)

and_false : (b : Bool) → (b && false) ≡ false
and_false true = refl
and_false false = refl

inside_one : (low p k top : ℕ) → ((p + 1) % k ≡ 0 → ⊥) → (p + 1 ≡ top → ⊥) → stops_at_end low p k top ≡ false
inside_one low p k top part more =
    ap (λ b. nat_lt low p && (b || (p + 1 == top))) (eq_false ((p + 1) % k) 0 part)
    ∙ ap (λ b. nat_lt low p && b) (eq_false (p + 1) top more) ∙ and_false (nat_lt low p)

here_is : (t : Tape) → t.warm ≡ true → reach_here t ≡ t.reach
here_is t warm = ap (λ b. if b then t.reach else min t.scenario.window (t.place % t.scenario.interval)) warm

by_here : (low p : ℕ) (t : Tape) → t.warm ≡ true → reach_rewound low p t ≡ by_reach t.reach low p t
by_here low p t warm = ap (λ (h : ℕ). by_reach h low p t) (here_is t warm)

by_near : (h low p : ℕ) (t : Tape) → t.place - p ≤ h → by_reach h low p t ≡ h - (t.place - p)
by_near h low p t near =
    ap (λ b. if b then h - (t.place - p) else (if stops_at_end low p t.scenario.interval (t.place - h) then 0 else reach_walked p t))
    (le_true (t.place - p) h near)

by_far : (h low p : ℕ) (t : Tape) (b : Bool) → h < t.place - p → stops_at_end low p t.scenario.interval (t.place - h) ≡ b
    → by_reach h low p t ≡ (if b then 0 else reach_walked p t)
by_far h low p t b far is =
    ap (λ d. if d then h - (t.place - p) else (if stops_at_end low p t.scenario.interval (t.place - h) then 0 else reach_walked p t))
    (le_false (t.place - p) h far)
    ∙ ap (λ d. if d then 0 else reach_walked p t) is

-- the same where no record is left
past_spent : (low p : ℕ) (t : Tape) (b : Bool) → t.warm ≡ true → t.reach ≡ 0 → p < t.place → stops_at_end low p t.scenario.interval t.place ≡ b
    → reach_rewound low p t ≡ (if b then 0 else reach_walked p t)
past_spent low p t b warm none below is =
    let top : t.place ≡ t.place - t.reach = omega (arith, none) in
    by_here low p t warm
    ∙ by_far t.reach low p t b (omega (arith, none, below)) (subst (λ (n : ℕ). stops_at_end low p t.scenario.interval n ≡ b) top is)

-- no place after p begins an interval, up to a place of that of p
not_whole : (low p h k : ℕ) → 0 < k → low ≤ p → p < h → low / k ≡ h / k → (p + 1) % k ≡ 0 → ⊥
not_whole low p h k some from below same whole =
    let next = interval_next (p + 1) k some (omega arith) whole in
    let this : (p + 1 - 1) / k ≡ p / k = let one : p + 1 - 1 ≡ p = omega arith in ap (λ (m : ℕ). m / k) one in
    let a = quotient_on low p k some from in
    let b = quotient_on (p + 1) h k some (omega (arith, below)) in
    omega (arith, next, this, a, b, same)

-- The reach of a tape on which a rewind has looked at the places down to `high`.
abbrev pub HasReach : ℕ → Tape → Tape → Type 0
HasReach high t u = (high ≡ t.place → u ≡ t) × (high < t.place → u.place ≡ high → u.reach ≡ reach_walked high t)

-- a jump back from a tape without records
pub jump_reach : (t u v : Tape) (p : ℕ) → u ≡ with_world true u.reach (at u.place t) → u.reach ≡ 0 → p < u.place → v.reach ≡ reach_at p u → v.reach ≡ reach_walked p t
jump_reach t u v p is none below gone =
    gone ∙ reach_anew p u (not_within p u none below) (not_ahead p u (omega (arith, below))) ∙ ap (λ (x : Tape). reach_walked p x) is

-- after one stretch more
pub stretch_reach : (t v w : Tape) (low high n : ℕ) → v.reach ≡ reach_walked low t → w.place ≡ low + n → (n ≡ 0 → w.reach ≡ v.reach) → low < high → high ≤ t.place → HasReach low t w
stretch_reach t v w low high n reach place still less within = (
  λ top. absurd (omega (arith, top, less, within)),
  λ _ end. still (omega (arith, place, end)) ∙ reach,
)

-- at a failure that was found at the end of a stretch, and before it
end_reach : (t v w x : Tape) (to low n p : ℕ) → t.warm ≡ true → t.reach ≡ 0 → v.reach ≡ reach_walked low t → (1 ≤ n → w.reach ≡ 0) → (n ≡ 0 → w.reach ≡ v.reach)
    → x.reach ≡ w.reach → p ≡ low + n → p < t.place → to ≤ low → (to < low → low % t.scenario.interval ≡ 0)
    → ((p + 1) % t.scenario.interval ≡ 0) ⊎ (p + 1 ≡ t.place) → x.reach ≡ reach_rewound to p t
end_reach t v w x to low (suc n) p warm none reach spent still same place below le whole ends =
    same ∙ spent (omega arith) ∙ sym (past_spent to p t true warm none below (ends_true to p t.scenario.interval t.place (omega (arith, place, le)) ends))
end_reach t v w x to low zero p warm none reach spent still same place below le whole ends =
    let at_low : low ≡ p = omega (arith, place) in
    elim (eq-or-lt_of_le le) [
      | inl end ↦ same ∙ still refl ∙ reach ∙ ap (λ (q : ℕ). reach_walked q t) at_low
          ∙ sym (past_spent to p t false warm none below (goes_down to p t.scenario.interval t.place (omega (arith, end, at_low))))
      | inr more ↦
          let rest : low % t.scenario.interval ≡ 0 = whole more in
          let none_kept : reach_walked low t ≡ 0 = omega (arith, rest) in
          same ∙ still refl ∙ reach ∙ none_kept
          ∙ sym (past_spent to p t true warm none below (ends_true to p t.scenario.interval t.place (omega (arith, more, at_low)) ends))
    ]

-- at a failure that was found in a stretch from `low` on, below `high`
pub found_reach : (t v w x : Tape) (to low high n p k : ℕ) → 0 < k → k ≡ t.scenario.interval → t.warm ≡ true → t.reach ≡ 0 → low + n + 1 ≡ high → high ≤ t.place
    → (high < t.place → high % t.scenario.interval ≡ 0) → low / k ≡ (high - 1) / k → to ≤ low → (to < low → low % k ≡ 0)
    → v.reach ≡ reach_walked low t → w ≡ with_world true w.reach (at (low + n) t) → (1 ≤ n → w.reach ≡ 0) → (n ≡ 0 → w.reach ≡ v.reach)
    → (w.warm ≡ true → p ≡ w.place → x ≡ w) → x.reach ≡ reach_at p w → low ≤ p → p < high
    → x.reach ≡ reach_rewound to p t
found_reach t v w x to low high n p k some is warm none ends within whole same le begins reach there spent still here gone from below =
    let place : w.place ≡ low + n = ap (λ (y : Tape). y.place) there in
    let near : p ≤ w.place = omega (arith, place, ends, below) in
    elim (eq-or-lt_of_le near) [
      | inl at_end ↦
          let last : p + 1 ≡ high = omega (arith, at_end, place, ends) in
          let ended : ((p + 1) % t.scenario.interval ≡ 0) ⊎ (p + 1 ≡ t.place) = elim (eq-or-lt_of_le within) [
            | inl top ↦ inr (omega (arith, last, top))
            | inr lower ↦ inl (ap (λ (m : ℕ). m % t.scenario.interval) last ∙ whole lower)
          ] in
          end_reach t v w x to low n p warm none reach spent still (ap (λ (y : Tape). y.reach) (here (ap (λ (y : Tape). y.warm) there) at_end)) (omega (arith, at_end, place))
          (omega (arith, below, within)) le (subst (λ (m : ℕ). to < low → low % m ≡ 0) is begins) ended
      | inr before ↦
          let no_record : w.reach ≡ 0 = spent (omega (arith, before, place, from)) in
          let walk : w ≡ with_world true w.reach (at w.place t) = there ∙ ap (λ (q : ℕ). with_world true w.reach (at q t)) (sym place) in
          let part = λ (e : (p + 1) % k ≡ 0). not_whole low p (high - 1) k some from (omega (arith, before, place, ends)) same e in
          jump_reach t w x p walk no_record before gone
          ∙ sym (past_spent to p t false warm none (omega (arith, below, within))
          (inside_one to p t.scenario.interval t.place (subst (λ (m : ℕ). (p + 1) % m ≡ 0 → ⊥) is part) (λ (e : p + 1 ≡ t.place). omega (arith, e, before, place, ends, within))))
    ]

-- where no watch failed
pub end_of_rewind : (t u x : Tape) (to high : ℕ) → t.warm ≡ true → t.reach ≡ 0 → u ≡ with_world true u.reach (at u.place t) → high ≡ to → high ≤ u.place → high ≤ t.place → HasReach high t u
    → ((u.reach ≡ 0) ⊎ (u.place ≡ to)) → (u.warm ≡ true → to ≡ u.place → x ≡ u) → x.reach ≡ reach_at to u → x.reach ≡ reach_rewound to to t
end_of_rewind t u x to high warm none is end ahead within has spent here gone =
    let from : to ≤ u.place = omega (arith, end, ahead) in
    let deep : to ≤ t.place = omega (arith, end, within) in
    let warm_now : u.warm ≡ true = ap (λ (y : Tape). y.warm) is in
    elim (eq-or-lt_of_le deep) [
      | inl top ↦
          let start = has.0 (end ∙ top) in
          let same : to ≡ u.place = top ∙ sym (ap (λ (y : Tape). y.place) start) in
          let nothing : t.reach - (t.place - to) ≡ 0 = omega (arith, none) in
          ap (λ (y : Tape). y.reach) (here warm_now same) ∙ ap (λ (y : Tape). y.reach) start ∙ none
          ∙ sym (by_here to to t warm ∙ by_near t.reach to to t (omega (arith, top)) ∙ nothing)
      | inr lower ↦
          let goal = past_spent to to t false warm none lower (goes_down to to t.scenario.interval t.place (omega arith)) in
          elim (eq-or-lt_of_le from) [
            | inl same ↦ ap (λ (y : Tape). y.reach) (here warm_now same) ∙ has.1 (omega (arith, end, lower)) (sym (end ∙ same))
                ∙ ap (λ (q : ℕ). reach_walked q t) end ∙ sym goal
            | inr more ↦
                let empty : u.reach ≡ 0 = elim spent [ inl e ↦ e | inr e ↦ absurd (omega (arith, e, more)) ] in
                jump_reach t u x to is empty more gone ∙ sym goal
          ]
    ]

-- a rewind without watches is a jump
pub back_rewound : (t u : Tape) (p : ℕ) → t.warm ≡ true → p ≤ t.place → u.place ≡ p → u.reach ≡ reach_at p t → u.reach ≡ reach_rewound p u.place t
back_rewound t u p warm le place gone =
    gone
    ∙ ap (λ b. if b && (nat_le p t.place && nat_le (t.place - p) t.reach) then t.reach - (t.place - p) else (if is_near_ahead p t then raised (p - t.place) t else reach_walked p t)) warm
    ∙ ap (λ b. if b && nat_le (t.place - p) t.reach then t.reach - (t.place - p) else (if is_near_ahead p t then raised (p - t.place) t else reach_walked p t)) (le_true p t.place le)
    ∙ ap (λ b. if nat_le (t.place - p) t.reach then t.reach - (t.place - p) else (if b then raised (p - t.place) t else reach_walked p t)) (not_ahead p t le)
    ∙ ap (λ b. if nat_le (t.place - p) t.reach then t.reach - (t.place - p) else (if b then 0 else reach_walked p t))
    (sym (goes_down p p t.scenario.interval (t.place - t.reach) (omega arith)))
    ∙ sym (by_here p p t warm) ∙ ap (λ (q : ℕ). reach_rewound p q t) (sym place)

-- a rewind that ends within the reach
pub near_rewound : (t u : Tape) (low : ℕ) → t.warm ≡ true → t.place - u.place ≤ t.reach → u.reach ≡ t.reach - (t.place - u.place) → u.reach ≡ reach_rewound low u.place t
near_rewound t u low warm near reach = reach ∙ sym (by_here low u.place t warm ∙ by_near t.reach low u.place t near)

-- a rewind that goes on past the reach, from a tape at its end
far_place : (t u : Tape) (low p : ℕ) → t.warm ≡ true → u ≡ with_world true u.reach (at (t.place - t.reach) t) → u.reach ≡ 0 → t.reach ≤ t.place → p ≤ u.place
    → reach_rewound low p u ≡ reach_rewound low p t
far_place t u low p warm is none deep le =
    let place : u.place ≡ t.place - t.reach = ap (λ (x : Tape). x.place) is in
    let warm_now : u.warm ≡ true = ap (λ (x : Tape). x.warm) is in
    elim (eq-or-lt_of_le le) [
      | inl same ↦
          let a : u.reach - (u.place - p) ≡ 0 = omega (arith, none) in
          let b : t.reach - (t.place - p) ≡ 0 = omega (arith, same, place, deep) in
          by_here low p u warm_now ∙ by_near u.reach low p u (omega (arith, same)) ∙ a ∙ sym b
          ∙ sym (by_here low p t warm ∙ by_near t.reach low p t (omega (arith, same, place, deep)))
      | inr below ↦
          past_spent low p u (stops_at_end low p u.scenario.interval u.place) warm_now none below refl
          ∙ ap (λ (x : Tape). if stops_at_end low p x.scenario.interval x.place then 0 else reach_walked p x) is
          ∙ sym (by_here low p t warm ∙ by_far t.reach low p t (stops_at_end low p t.scenario.interval (t.place - t.reach)) (omega (arith, below, place)) refl)
    ]

module _ {State Msg : Type 0} (node : NodeLaws State Msg) (probes : ℕ) where
  found_to : (ws : List (Option Cond)) (u : Tape) (to : ℕ) (f : Option Found) → to ≤ u.place → IsLast node probes ws u to u.place f → place_found to f ≤ u.place
  found_to ws u to None from last = from
  found_to ws u to (Some f) from last = let below : f.place < u.place = last.below in omega (arith, below)

  -- the reach past the reach of the tape before
  pub far_rewound : {E : Type 0} (ws : List (Option Cond)) (t u x : Tape) (near low to : ℕ) (o : Option Found) (r : Result (Option Found) E) → t.warm ≡ true → o ≡ None → near ≡ t.reach
      → u ≡ with_world true u.reach (at (place_found (t.place - near) o) t) → u.reach ≡ 0 → t.reach ≤ t.place → to ≡ low → to ≤ u.place
      → IfOk r (IsLast node probes ws u to u.place) → IfOk r (λ f. x ≡ with_world true x.reach (at (place_found to f) u)) → OnOk r (x.reach ≡ reach_rewound to x.place u)
      → OnOk r (x.reach ≡ reach_rewound low x.place t)
  far_rewound ws t u x near low to o (Err e) warm none_found same gone none deep is from last moved reach = tt
  far_rewound ws t u x near low to o (Ok f) warm none_found same gone none deep is from last moved reach =
      let first : u ≡ with_world true u.reach (at (t.place - t.reach) t) =
      gone ∙ ap (λ (y : Option Found). with_world true u.reach (at (place_found (t.place - near) y) t)) none_found ∙ ap (λ (n : ℕ). with_world true u.reach (at (t.place - n) t)) same in
      let place : x.place ≡ place_found to f = ap (λ (y : Tape). y.place) moved in
      let le : x.place ≤ u.place = omega (arith, place, found_to ws u to f from last) in
      reach ∙ ap (λ (n : ℕ). reach_rewound n x.place u) is ∙ far_place t u low x.place warm first none deep le

  -- how far back a look within the reach goes
  pub near_to : (ws : List (Option Cond)) (t u : Tape) (near : ℕ) (o : Option Found) → near ≤ t.reach → t.reach ≤ t.place → IsLast node probes ws t (t.place - near) t.place o
      → u ≡ with_world true u.reach (at (place_found (t.place - near) o) t) → t.place - u.place ≤ t.reach
  near_to ws t u near o le deep last moved =
      let between = found_between node probes ws t near o (omega (arith, le, deep)) last in
      let place : u.place ≡ place_found (t.place - near) o = ap (λ (x : Tape). x.place) moved in
      omega (arith, between.0, place, le)

-- what is said of a tape once its world is there is said of the tape before
pub warm_rewound : (t w : Tape) (low p : ℕ) → w ≡ with_world true w.reach t → w.reach ≡ reach_here t → reach_rewound low p w ≡ reach_rewound low p t
warm_rewound t w low p is reach =
    by_here low p w (ap (λ (x : Tape). x.warm) is) ∙ ap (λ (x : Tape). by_reach w.reach low p x) is ∙ ap (λ (h : ℕ). by_reach h low p t) reach
