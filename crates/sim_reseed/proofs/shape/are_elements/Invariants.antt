use Rattle.std.proofs.Common.{◌≡◌, drop}
use Rattle.std.specs.List.{list_all}
use Rattle.toml.specs.View.{view}
use Rattle.sim_reseed.specs.Shape as shape
use Rattle.sim_reseed.proofs.shape.are_elements.Given as goal

abbrev pub invariant-loop-item : goal.invariant-loop-item
invariant-loop-item l = list_all (λ v. shape.is_element (view v)) (drop l.item-index l.items) ≡ list_all (λ v. shape.is_element (view v)) l.items
