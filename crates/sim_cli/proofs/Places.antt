-- The nodes of the protocols after the first.
use Rattle.std.proofs.Common.{◌≡◌, ℕ, ◌+◌, ◌-◌, ◌<◌, zero, suc, List, [], ◌∷◌, ◌++◌, length, map, take, get_or, ap, sym, ◌∙◌, refl, arith}
use Rattle.std.proofs.Math.Seq.{take-suc}
use Rattle.std.proofs.lemmas.List.{map-append, take-map}
use Rattle.sim_script.specs.Script.{Text}
use Rattle.sim_events.specs.Scenario.{Scenario}
use Rattle.sim_cli.specs.Play.{Nodes}
use Rattle.sim_cli.specs.Subjects.{first_or}

pub later_probes : (first : Scenario → Nodes) (nodes : ℕ → Scenario → Nodes) (place : ℕ) (s : Scenario) → (place ≡ 0 → ⊥)
    → (nodes (place - 1) s).probes ≡ (first_or first nodes place s).probes
later_probes first nodes zero s h = absurd (h refl)
later_probes first nodes (suc place) s h = let same : suc place - 1 ≡ place = omega arith in ap (λ (k : ℕ). (nodes k s).probes) same

-- one text more was copied
pub next_text : {B S : Type 0} (f : S → Text) (g : B → Text) (owned items : List S) (texts : List B) (k : ℕ) (s : S) (d : B)
    → items ≡ owned ++ s ∷ [] → map f owned ≡ take k (map g texts) → k < length texts → f s ≡ g (get_or texts k d) → map f items ≡ take (k + 1) (map g texts)
next_text f g owned items texts k s d pushed old below same =
    let next : suc k ≡ k + 1 = omega arith in
    ap (map f) pushed ∙ map-append f owned (s ∷ []) ∙ ap (λ xs. xs ++ f s ∷ []) (old ∙ take-map g k texts) ∙ ap (λ (x : Text). map g (take k texts) ++ x ∷ []) same
    ∙ sym (map-append g (take k texts) (get_or texts k d ∷ [])) ∙ ap (map g) (sym (take-suc texts k d below)) ∙ sym (take-map g (suc k) texts)
    ∙ ap (λ (n : ℕ). take n (map g texts)) next
