use Rattle.std.proofs.Common.{◌≡◌, List, Some, sym, ap, subst, ◌∙◌}
use Rattle.std.specs.Option.{option_map}
use Rattle.std.specs.List.{list_all}
use Rattle.toml.specs.Data.{as_array}
use Rattle.toml.specs.View.{view, items_view}
use Rattle.toml.specs.declared.value.Value.{Value}
use Rattle.sim_scenario.specs.Scenario.{data_of}
use Rattle.sim_scenario.proofs.Arrays.{items_of_ref}
use Rattle.sim_reseed.specs.Shape as shape
use Rattle.sim_reseed.proofs.Shapes.{is_value-array, other_array}
use Rattle.sim_reseed.proofs.shape.is_value.Goals as goal

pub returns-in-Some-clause-value : goal.returns-in-Some-clause-value
returns-in-Some-clause-value c =
    let items : as_array (view c.args.value.now) ≡ Some (items_view c.in-Some.items.now.items) = sym c.as_array.ensures ∙ ap (option_map items_of_ref) c.in-Some.is in
    c.are_elements.ensures.value
    ∙ ap (list_all (λ v. shape.is_element (view v))) c.as_slice.ensures.value
    ∙ sym (is_value-array (view c.args.value.now) c.in-Some.items.now.items items)

pub returns-in-Some-clause-other : goal.returns-in-Some-clause-other
returns-in-Some-clause-other c = λ no.
    let items : as_array (view c.args.value.now) ≡ Some (items_view c.in-Some.items.now.items) = sym c.as_array.ensures ∙ ap (option_map items_of_ref) c.in-Some.is in
    let P : List Value → Type 0 = λ vs. shape.HasOtherElement (data_of (items_view vs)) in
    other_array (view c.args.value.now) c.in-Some.items.now.items items (sym (returns-in-Some-clause-value c) ∙ no)
    (subst P c.as_slice.ensures.value (c.are_elements.ensures.other no))
