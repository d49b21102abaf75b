-- A value that was picked, and what it came from.
use Rattle.std.proofs.Common.{◌≡◌, refl, Bool, true, false, cond, Option, Some, None, ◌⊎◌, inl, inr, option_and_then, option_map}

pub of_if : {A : Type 0} (b : Bool) (x y : Option A) (v : A) → cond b x y ≡ Some v → ((b ≡ true) × (x ≡ Some v)) ⊎ ((b ≡ false) × (y ≡ Some v))
of_if true x y v h = inl (refl, h)
of_if false x y v h = inr (refl, h)

pub of_map : {A B : Type 0} (f : A → B) (o : Option A) (v : B) → option_map f o ≡ Some v → (x : A) × (o ≡ Some x) × (f x ≡ v)
of_map f None v h = absurd (cc)
of_map f (Some x) v h = let same : f x ≡ v = cc in (x, refl, same)

pub of_then : {A B : Type 0} (f : A → Option B) (o : Option A) (v : B) → option_and_then f o ≡ Some v → (x : A) × (o ≡ Some x) × (f x ≡ Some v)
of_then f None v h = absurd (cc)
of_then f (Some x) v h = (x, refl, h)
