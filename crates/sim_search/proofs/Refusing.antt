-- What is refused for its condition.
use Rattle.std.proofs.Common.{◌≡◌, ℕ, Bool, true, false, Option, Some, None, sym, ap, ◌∙◌}
use Rattle.std.specs.Prelude.{is_some, if◌then◌else◌}
use Rattle.sim_watch.specs.declared.BadTerm.{BadTerm}
use Rattle.sim_watch.specs.Condition.{Cond, fault_of}
use Rattle.sim_search.specs.declared.SearchFault.{SearchFault}
use Rattle.sim_search.specs.declared.SearchFault.TheVariants.{BadRange, BadCondition, NoMemory}
use Rattle.sim_search.specs.Faults.{fault_after, reason}

of_condition : (b : Bool) (hosts probes : ℕ) (c : Cond) (why : BadTerm) → b ≡ false → fault_of hosts probes c ≡ Some why → BadCondition ≡ reason (fault_after b hosts probes c)
of_condition true hosts probes c why e f = absurd cc
of_condition false hosts probes c why e f = sym (ap (λ (o : Option BadTerm). reason (if is_some o then Some BadCondition else None)) f)

-- the condition was checked for these numbers
pub bad_condition : (b : Bool) (hosts probes h p : ℕ) (c : Cond) (why : BadTerm) → b ≡ false → h ≡ hosts → p ≡ probes → fault_of h p c ≡ Some why → BadCondition ≡ reason (fault_after b hosts probes c)
bad_condition b hosts probes h p c why e x y f =
    of_condition b hosts probes c why e (sym (ap (λ (n : ℕ). fault_of n p c) x ∙ ap (λ (n : ℕ). fault_of hosts n c) y) ∙ f)

pub good_condition : (hosts probes h p : ℕ) (c : Cond) → h ≡ hosts → p ≡ probes → fault_of h p c ≡ None → fault_of hosts probes c ≡ None
good_condition hosts probes h p c x y f = sym (ap (λ (n : ℕ). fault_of n p c) x ∙ ap (λ (n : ℕ). fault_of hosts n c) y) ∙ f

-- what is refused neither for its range nor for its condition is refused for want of memory
pub no_fault : (b : Bool) (hosts probes : ℕ) (c : Cond) → b ≡ false → fault_of hosts probes c ≡ None → NoMemory ≡ reason (fault_after b hosts probes c)
no_fault true hosts probes c e f = absurd cc
no_fault false hosts probes c e f = sym (ap (λ (o : Option BadTerm). reason (if is_some o then Some BadCondition else None)) f)
