-- Effects that are stored within the limits, as they are seen.
use Rattle.std.proofs.Common.{ℕ, zero, suc, ◌≡◌, ◌<◌, ◌≤◌, List, [], ◌∷◌, ◌++◌, length, map, take, refl, ap, sym, subst, arith, Option, Some, None, IfSome, slice_index_or}
use Rattle.std.specs.Option.{MatchOption}
use Rattle.std.specs.List.{HoldsAt}
use Rattle.std.proofs.lemmas.List.{length-take-le}
use Rattle.sim_node.specs.declared.effects.Effect.{Effect as Stored}
use Rattle.sim_node.specs.declared.effects.Effect.TheVariants as stored
use Rattle.sim_node.specs.Effects.{IsWithin, AllWithin}
use Rattle.sim_node.specs.Seen.{seen, IsStored, AllStored}

-- of 64 bytes as many as are asked for
length-taken : (len : ℕ) (bytes : List ℕ) → len ≤ 64 → length bytes ≡ 64 → length (take len bytes) ≡ len
length-taken len bytes few full = length-take-le len bytes (omega (arith, few, full))

module _ {M : Type 0} where
  pub AllStored-push : (hosts : ℕ) (es : List (Stored M)) (e : Stored M) → AllStored hosts es → IsStored hosts e → AllStored hosts (es ++ e ∷ [])
  AllStored-push hosts [] e all one = (one, tt)
  AllStored-push hosts (x ∷ xs) e all one = (all.0, AllStored-push hosts xs e all.1 one)

  stored-at : (hosts : ℕ) (es : List (Stored M)) (i : ℕ) (d : Stored M) → AllStored hosts es → i < length es → IsStored hosts (slice_index_or es i d)
  stored-at hosts [] i d all inside = absurd (omega (arith, inside))
  stored-at hosts (x ∷ xs) zero d all inside = all.0
  stored-at hosts (x ∷ xs) (suc i) d all inside = stored-at hosts xs i d all.1 (omega (arith, inside))

  -- what a look-up finds is within the limits
  pub stored-found : {B : Type 0} (hosts : ℕ) (es : List (Stored M)) (i : ℕ) (of : B → Stored M) (found : Option B) (none : Type 0) → AllStored hosts es
      → MatchOption found none (λ x. (i < length es) × HoldsAt (λ y. of x ≡ y) es i) → IfSome found (λ x. IsStored hosts (of x))
  stored-found hosts es i of None none all m = tt
  stored-found hosts es i of (Some x) none all m = subst (IsStored hosts) (sym (m.1 (of x))) (stored-at hosts es i (of x) all m.0)

  pub length-seen : (es : List (Stored M)) → length (map seen es) ≡ length es
  length-seen [] = refl
  length-seen (x ∷ xs) = ap suc (length-seen xs)

  IsWithin-seen : (hosts : ℕ) (e : Stored M) → IsStored hosts e → IsWithin hosts (seen e)
  IsWithin-seen hosts (stored.Send to msg) h = h
  IsWithin-seen hosts (stored.Timer delay) h = h
  IsWithin-seen hosts (stored.Write offset len bytes) h =
      let e = length-taken len bytes h.1 h.2 in (subst (λ n. 1 ≤ n) (sym e) h.0, subst (λ n. n ≤ 64) (sym e) h.1)
  IsWithin-seen hosts stored.Sync h = h
  IsWithin-seen hosts stored.Done h = h

  pub AllWithin-seen : (hosts : ℕ) (es : List (Stored M)) → AllStored hosts es → AllWithin hosts (map seen es)
  AllWithin-seen hosts [] all = tt
  AllWithin-seen hosts (x ∷ xs) all = (IsWithin-seen hosts x all.0, AllWithin-seen hosts xs all.1)
