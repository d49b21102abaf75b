use Rattle.std.proofs.Common.{◌≡◌, Some, sym, subst, ap, ◌∙◌}
use Rattle.std.specs.Prelude.{IfOk}
use Rattle.std.specs.Option.{option_map}
use Rattle.toml.specs.Data.{as_array, as_table}
use Rattle.toml.specs.View.{view, items_view}
use Rattle.sim_scenario.specs.Scenario.{all_some, list_of}
use Rattle.sim_scenario.proofs.Arrays.{table_of, members_of_refs, items_of_ref, list_of-array}
use Rattle.sim_scenario.proofs.hosts.tables.Goals as goal

pub returns-in-Some : goal.returns-in-Some
returns-in-Some c =
    let items : as_array (view c.args.value.now) ≡ Some (items_view c.in-Some.items.now.items) = sym c.as_array.ensures ∙ ap (option_map items_of_ref) c.in-Some.is in
    let same : list_of as_table (view c.args.value.now) ≡ all_some table_of c.as_slice.result.now =
    list_of-array as_table (view c.args.value.now) c.in-Some.items.now.items items ∙ ap (all_some table_of) (sym c.as_slice.ensures.value) in
    subst (λ said. IfOk c.item_tables.result (λ found. option_map members_of_refs found ≡ said)) (sym same) c.item_tables.ensures
