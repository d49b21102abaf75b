-- The first finding of the seeds, in order.
use Rattle.std.proofs.Common.{◌≡◌, ℕ, ◌+◌, ◌-◌, ◌<◌, ◌≤◌, true, false, Option, Some, None, sym, ap, ◌∙◌, arith}
use Rattle.std.specs.Prelude.{is_some}
use Rattle.std.specs.Option.{option_map, option_and_then}
use Rattle.sim_node.specs.Numbers.{least}
use Rattle.sim_watch.proofs.Firsts.{least_is, least_none}
use Rattle.sim_claims.specs.Best.{IsFirst}

module _ (f : ℕ → Option ℕ) (first count : ℕ) (some : 0 < count) where
  -- the least seed with a finding, and that finding
  abbrev first_found : Option (ℕ × ℕ)
  first_found = option_and_then (λ i. option_map (λ p. (i, p)) (f i)) (least (λ i. is_some (f i)) first (first + count - 1))

  pub seed_none : IsFirst (λ i. f (first + i)) count None → None ≡ first_found
  seed_none h = sym (ap (option_and_then (λ i. option_map (λ p. (i, p)) (f i))) (least_none (λ i. is_some (f i)) first (first + count - 1) (λ j a b.
      let at : j ≡ first + (j - first) = omega (arith, a) in
      ap is_some (ap f at ∙ h (j - first) (omega (arith, a, b, some))))))

  pub seed_some : (p : ℕ × ℕ) → IsFirst (λ i. f (first + i)) count (Some p) → Some (first + p.0, p.1) ≡ first_found
  seed_some p h =
      let within = h.0 in
      sym (ap (option_and_then (λ i. option_map (λ q. (i, q)) (f i))) (least_is (λ i. is_some (f i)) first (first + count - 1) (first + p.0) (omega arith) (omega (arith, within, some)) (ap is_some h.1) (λ j a b.
      let at : j ≡ first + (j - first) = omega (arith, a) in
      ap is_some (ap f at ∙ h.2 (j - first) (omega (arith, a, b)))))
      ∙ ap (option_map (λ q. (first + p.0, q))) h.1)
