-- How many events are planned.
use Rattle.std.proofs.Common.{◌≡◌, ℕ, zero, suc, ◌+◌, ◌/◌, ◌%◌, ◌==◌, ◌≤◌, Bool, true, false, ◌&&◌, Option, None, Some, List, [], ◌∷◌, ◌++◌, length, map, replicate, refl, ap, arith, inl, inr, length-append}
use Rattle.std.specs.Prelude.{if◌then◌else◌}
use Rattle.std.proofs.Math.Nat.{eq-or-lt_of_le}
use Rattle.std.proofs.lemmas.Bool.{eq-eqb, or_parts}
use Rattle.std.proofs.lemmas.List.{length-map, length-replicate}
use Rattle.sim_events.specs.declared.Event.{Event}
use Rattle.sim_events.specs.declared.Event.TheVariants as event
use Rattle.sim_events.specs.declared.Fault.{Fault}
use Rattle.sim_events.specs.Scenario.{Scenario}
use Rattle.sim_plan.specs.declared.plan.Plan.{Plan}
use Rattle.sim_plan.specs.Planned.{heals, healing, fault_of_kind, new_fault, struck, planned_by, planned_from, planned_events, planned, quiet_end}
use Rattle.sim_plan.specs.Happening.{IsPlan}

if_few : {A : Type 0} (b : Bool) (n : ℕ) (x y : A × List Fault) → length x.1 ≤ n → length y.1 ≤ n → length (if b then x else y).1 ≤ n
if_few true n x y h k = h
if_few false n x y h k = k

kind_few : (kind s a b : ℕ) → length (fault_of_kind kind s a b).1 ≤ 1
kind_few kind s a b =
    if_few (kind == 1) 1 _ _ (omega arith) (if_few (kind == 2) 1 _ _ (omega arith) (if_few (kind == 3) 1 _ _ (omega arith) (if_few (kind == 4) 1 _ _ (omega arith) (omega arith))))

healing_few : (k : ℕ) (owed : List Fault) → length (healing k owed).1 ≤ length owed
healing_few k [] = omega arith
healing_few k (f ∷ []) = omega arith
healing_few k (f ∷ g ∷ more) = if_few (k % 2 == 0) (length (f ∷ g ∷ more)) _ _ (omega arith) (omega arith)

less_than_two : (n : ℕ) → (n == 2) ≡ false → n ≤ 2 → n ≤ 1
less_than_two n apart le =
    elim (eq-or-lt_of_le le) [
      | inl same ↦ (let t = eq-eqb n 2 same in absurd cc)
      | inr less ↦ omega (arith, less)
    ]

struck_few : (servers hosts v : ℕ) (owed : List Fault) → length owed ≤ 2 → length (struck servers hosts v owed).1 ≤ 2
struck_few servers hosts v owed le = go (heals v owed) refl
  where
    go : (b : Bool) → heals v owed ≡ b
        → length (if b then healing (v / 2) owed else (event.Fault (new_fault servers hosts (v / 2)).0, owed ++ (new_fault servers hosts (v / 2)).1)).1 ≤ 2
    go true e = let h = healing_few (v / 2) owed in omega (arith, h, le)
    go false e =
        let one = less_than_two (length owed) (or_parts (length owed == 2) ((v % 2 == 1) && (length owed == 1)) e).0 le in
        let new : length (new_fault servers hosts (v / 2)).1 ≤ 1 = kind_few (v / 2 % 6) _ _ _ in
        let sum = length-append owed (new_fault servers hosts (v / 2)).1 in
        omega (arith, one, new, sum)

by_few : (servers hosts : ℕ) (spacing : Option ℕ) (w : ℕ) (owed : List Fault) → length owed ≤ 2 → length (planned_by servers hosts spacing w owed).1 ≤ 2
by_few servers hosts None w owed le = le
by_few servers hosts (Some spacing) w owed le = if_few (w % spacing == 0) 2 (struck servers hosts (w / spacing) owed) (event.Step, owed) (struck_few servers hosts (w / spacing) owed le) le

end_few : (q : ℕ) (owed : List Fault) → length owed ≤ 2 → length (quiet_end q owed) ≤ 2 + q
end_few zero owed le = omega arith
end_few (suc q) owed le =
    let healed : List Event = map event.Fault owed in
    let steps : List Event = replicate (suc q) event.Step in
    let sum : length (healed ++ steps) ≡ length healed + length steps = length-append healed steps in
    let a : length healed ≡ length owed = length-map owed event.Fault in
    let b : length steps ≡ suc q = length-replicate (suc q) event.Step in
    omega (arith, sum, a, b, le)

from_few : (words : ℕ → ℕ) (servers hosts : ℕ) (spacing : Option ℕ) (quiet p n : ℕ) (owed : List Fault) → length owed ≤ 2
    → length (planned_from words servers hosts spacing quiet p n owed) ≤ n + (2 + quiet)
from_few words servers hosts spacing quiet p zero owed le = let h = end_few quiet owed le in omega (arith, h)
from_few words servers hosts spacing quiet p (suc n) owed le =
    let h = from_few words servers hosts spacing quiet (p + 1) n (planned_by servers hosts spacing (words p) owed).1 (by_few servers hosts spacing (words p) owed le) in
    omega (arith, h)

planned_few : (seed : List ℕ) (servers hosts : ℕ) (plan : Plan) → length (planned_events seed servers hosts plan) ≤ plan.events + (2 + plan.quiet)
unfolding planned_events
planned_few seed servers hosts plan = from_few _ servers hosts plan.spacing plan.quiet 0 plan.events [] (omega arith)

-- the given events and the planned ones
pub all_few : (s : Scenario) (plan : Plan) (given es : List Event) → es ≡ planned s plan → IsPlan (length given) plan → length (given ++ es) ≤ 65536
all_few s plan given es is fine =
    let sum = length-append given es in
    let most = planned_few s.seed s.setup.servers s.setup.hosts plan in
    let same : length es ≡ length (planned s plan) = ap length is in
    let room = fine.events in
    omega (arith, sum, most, same, room)
