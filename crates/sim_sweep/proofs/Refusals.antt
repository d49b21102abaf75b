-- When a plan is refused.
use Rattle.std.proofs.Common.{◌≡◌, ◌∙◌, ℕ, ◌+◌, ◌≤◌, Bool, true, false, not, Option, Some, None, ap, sym, refl}
use Rattle.std.specs.Prelude.{◌↔◌, ◌||◌, IsTrue, nat_lt}
use Rattle.std.specs.Option.{ForSome}
use Rattle.std.proofs.lemmas.Bool.{or_parts, le-ltb, ltb-false}
use Rattle.sim_plan.specs.declared.plan.Plan.{Plan}
use Rattle.sim_plan.specs.Happening.{IsPlan}
use Rattle.sim_sweep.specs.Faults.{is_bad_plan, is_bad_spacing}

-- a spacing of 2 to 65,536, or none
spaced : (o : Option ℕ) → is_bad_spacing o ≡ false → ForSome o (λ f. (2 ≤ f) × (f ≤ 65536))
spaced o fine f is =
    let tests = or_parts (nat_lt f 2) (nat_lt 65536 f) (ap is_bad_spacing (sym is) ∙ fine) in
    (ltb-false f 2 tests.0, ltb-false 65536 f tests.1)

fine_spacing : (o : Option ℕ) → ForSome o (λ f. (2 ≤ f) × (f ≤ 65536)) → is_bad_spacing o ≡ false
fine_spacing None h = refl
fine_spacing (Some f) h =
    let both = h f refl in
    ap (λ (b : Bool). b || nat_lt 65536 f) (le-ltb f 2 both.0) ∙ le-ltb 65536 f both.1

-- a plan that is not refused is within the limits
plan_fine : (given : ℕ) (plan : Plan) → is_bad_plan given plan ≡ false → IsPlan given plan
plan_fine given plan fine =
    let tests = or_parts (is_bad_spacing plan.spacing) (nat_lt 65534 (given + plan.events + plan.quiet)) fine in record {
      spacing = spaced plan.spacing tests.0;
      events = ltb-false 65534 (given + plan.events + plan.quiet) tests.1;
    }

-- and the other way round
fine_plan : (given : ℕ) (plan : Plan) → IsPlan given plan → is_bad_plan given plan ≡ false
fine_plan given plan h =
    ap (λ (b : Bool). b || nat_lt 65534 (given + plan.events + plan.quiet)) (fine_spacing plan.spacing h.spacing)
    ∙ le-ltb 65534 (given + plan.events + plan.quiet) h.events

not_false : (b : Bool) → ¬ (b ≡ false) → true ≡ b
not_false true h = refl
not_false false h = absurd (h refl)

-- so the test whether a plan is within the limits says which are refused
pub refused_is : (within : Bool) (given : ℕ) (plan : Plan) → (IsTrue within ↔ IsPlan given plan) → not within ≡ is_bad_plan given plan
refused_is true given plan h = sym (fine_plan given plan (h.0 refl))
refused_is false given plan h = not_false (is_bad_plan given plan) (λ fine. let bad : false ≡ true = h.1 (plan_fine given plan fine) in cc)
