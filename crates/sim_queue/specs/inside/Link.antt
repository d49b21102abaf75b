-- A place, or none, as one number: one more than the place, and 0 for none.
use Rattle.std.specs.Prelude.{◌≡◌, ℕ, zero, suc, Option, None, Some, refl}

abbrev pub place_of : ℕ → Option ℕ
place_of zero = None
place_of (suc n) = Some n

abbrev pub code_of : Option ℕ → ℕ
code_of None = 0
code_of (Some n) = suc n

-- the code of a place gives back the number
pub same_code : (n : ℕ) → code_of (place_of n) ≡ n
same_code zero = refl
same_code (suc n) = refl
