use Rattle.std.proofs.Common.{◌≡◌, [], map, true, false, List, Some, None, Ok, Result, sym, subst, ap, ◌∙◌}
use Rattle.std.specs.Option.{option_map}
use Rattle.toml.specs.Data.{get_member, as_table}
use Rattle.toml.specs.View.{view, table_view}
use Rattle.sim_scenario.specs.Faults.{Gives}
use Rattle.sim_scenario.specs.Links.{link_said}
use Rattle.sim_scenario.specs.Parts.{linked, links_in}
use Rattle.sim_scenario.specs.Scenario.{Fault, LinkText, is_format_2, list_of}
use Rattle.sim_scenario.proofs.Arrays.{data_of_ref, members_of_ref, members_of_refs}
use Rattle.sim_scenario.proofs.Linking.{links_of_format_1, links_missing, links_untyped, links_said}
use Rattle.sim_scenario.proofs.links.links.Goals as goal

pub returns-then-not-is_format_2 : goal.returns-then-not-is_format_2
returns-then-not-is_format_2 c =
    let one : is_format_2 (table_view c.args.table.now) ≡ false = sym c.is_format_2.ensures ∙ c.if-not-is_format_2.true in
    links_of_format_1 _ one ∙ ap (λ ls. Ok (map link_said ls)) (sym c.new.ensures.items)

pub returns-in_default : goal.returns-in_default
returns-in_default c =
    let two : is_format_2 (table_view c.args.table.now) ≡ true = sym c.is_format_2.ensures ∙ c.if-not-is_format_2.false in
    let at = sym c.field.ensures ∙ ap (option_map data_of_ref) c.in_default.is in
    links_missing _ two at ∙ ap (λ ls. Ok (map link_said ls)) (sym c.new-in_default.ensures.items)

pub returns-in_default-2 : goal.returns-in_default-2
returns-in_default-2 c =
    let two : is_format_2 (table_view c.args.table.now) ≡ true = sym c.is_format_2.ensures ∙ c.if-not-is_format_2.false in
    let at = sym c.field.ensures ∙ ap (option_map data_of_ref) c.in-Some.is in
    let said : list_of as_table (view c.in-Some.value.now) ≡ None = sym c.in_ok-tables.ensures ∙ ap (option_map members_of_refs) c.in_default-2.is in
    λ _. links_untyped _ _ two at said

pub returns : goal.returns
returns c =
    let two : is_format_2 (table_view c.args.table.now) ≡ true = sym c.is_format_2.ensures ∙ c.if-not-is_format_2.false in
    let at = sym c.field.ensures ∙ ap (option_map data_of_ref) c.in-Some.is in
    let said : list_of as_table (view c.in-Some.value.now) ≡ Some (members_of_refs c.in-Some-2.tables) = sym c.in_ok-tables.ensures ∙ ap (option_map members_of_refs) c.in-Some-2.is in
    let all : links_in (table_view c.args.table.now) ≡ linked [] (map members_of_ref c.as_slice.result.now) =
    links_said _ _ _ two at said ∙ ap (λ ts. linked [] (map members_of_ref ts)) (sym c.as_slice.ensures.value) in
    subst (λ (said : Result (List LinkText) Fault). Gives (λ links. map link_said links.items) c.linked.result said) (sym all) c.linked.ensures
