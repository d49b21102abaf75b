-- Parts that say a value or a fault, one after the other.
use Rattle.std.proofs.Common.{◌≡◌, ℕ, List, [], ◌∷◌, ◌++◌, map, Option, Some, None, Result, Ok, Err, refl, ap, ◌∙◌}
use Rattle.sim_scenario.specs.Scenario.{Fault, first_some, keyed}
use Rattle.sim_scenario.specs.Parts.{checked, ◌>>=◌}

-- a part says a value, where it has no fault
pub record IsPart {A : Type 0} (part : Result A Fault) (fault : Option Fault) (value : A) : Type 0 where
  pub same : part ≡ checked fault value

-- parts say what their faults, in order, and their value at the end say
pub record Say {A : Type 0} (parts : Result A Fault) (faults : List (Option Fault)) (value : A) : Type 0 where
  pub same : parts ≡ checked (first_some faults) value

bind-checked : {A B : Type 0} (fault : Option Fault) (value : A) (next : A → Result B Fault) (faults : List (Option Fault)) (end : B)
    → next value ≡ checked (first_some faults) end → (checked fault value >>= next) ≡ checked (first_some (fault ∷ faults)) end
bind-checked (Some f) value next faults end h = refl
bind-checked None value next faults end h = h

-- a part, and then those after it
pub and : {A B : Type 0} {part : Result A Fault} {fault : Option Fault} {value : A} (next : A → Result B Fault) {faults : List (Option Fault)} {end : B}
    → IsPart part fault value → Say (next value) faults end → Say (part >>= next) (fault ∷ faults) end
and {part = part} {fault = fault} {value = value} next {faults = faults} {end = end} p s = record { same = ap (λ r. r >>= next) p.same ∙ bind-checked fault value next faults end s.same }

pub done : {A : Type 0} {value : A} → Say (Ok value) [] value
done = record { same = refl }

first_some-append : {A : Type 0} (xs ys : List (Option A)) → first_some (xs ++ ys) ≡ first_some (first_some xs ∷ ys)
first_some-append [] ys = refl
first_some-append (None ∷ xs) ys = first_some-append xs ys
first_some-append (Some x ∷ xs) ys = refl

pub after : {A : Type 0} (o : Option A) (xs ys : List (Option A)) → first_some (o ∷ (xs ++ ys)) ≡ first_some (o ∷ first_some xs ∷ ys)
after None xs ys = first_some-append xs ys
after (Some x) xs ys = refl

-- the first fault of one key
pub first_some-keyed : (key : List ℕ) (faults : List (Option ℕ)) → first_some (map (keyed key) faults) ≡ keyed key (first_some faults)
first_some-keyed key [] = refl
first_some-keyed key (None ∷ faults) = first_some-keyed key faults
first_some-keyed key (Some n ∷ faults) = refl
