use Rattle.std.proofs.Common.{◌≡◌, ◌==◌, length, true, false, Some, None, refl, sym, ap, ◌∙◌, string_bytes, codes}
use Rattle.std.specs.Option.{option_map}
use Rattle.std.specs.List.{list_all}
use Rattle.toml.specs.Data.{get_member, as_str}
use Rattle.toml.specs.View.{view, table_view}
use Rattle.sim_scenario.specs.Scenario.{list_of, is_name}
use Rattle.sim_scenario.proofs.Arrays.{data_of_ref, names_of}
use Rattle.sim_scenario.proofs.Servers.{servers_untyped, servers_said}
use Rattle.sim_scenario.proofs.hosts.server_names.Goals as goal

pub returns-in_default-2 : goal.returns-in_default-2
returns-in_default-2 c =
    let at : get_member (codes "servers") (table_view c.args.table.now) ≡ Some (view c.in-Some.value.now) = sym c.field.ensures ∙ ap (option_map data_of_ref) c.in-Some.is in
    let said : list_of as_str (view c.in-Some.value.now) ≡ None = sym c.in_ok-names.ensures ∙ ap (option_map names_of) c.in_default-2.is in
    λ _. servers_untyped _ _ at said

pub returns-then-is_empty : goal.returns-then-is_empty
returns-then-is_empty c =
    let at : get_member (codes "servers") (table_view c.args.table.now) ≡ Some (view c.in-Some.value.now) = sym c.field.ensures ∙ ap (option_map data_of_ref) c.in-Some.is in
    let said : list_of as_str (view c.in-Some.value.now) ≡ Some (names_of c.in-Some-2.names) = sym c.in_ok-names.ensures ∙ ap (option_map names_of) c.in-Some-2.is in
    let empty : (length c.in-Some-2.names.items == 0) ≡ true = ap (λ n. n == 0) (sym c.in-Some-2.names.ok.0) ∙ sym c.is_empty.ensures ∙ c.if-is_empty.true in
    λ _. servers_said _ _ c.in-Some-2.names.items true (list_all (λ t. is_name (string_bytes t)) c.in-Some-2.names.items) at said empty refl

pub returns-then-not-are_names : goal.returns-then-not-are_names
returns-then-not-are_names c =
    let at : get_member (codes "servers") (table_view c.args.table.now) ≡ Some (view c.in-Some.value.now) = sym c.field.ensures ∙ ap (option_map data_of_ref) c.in-Some.is in
    let said : list_of as_str (view c.in-Some.value.now) ≡ Some (names_of c.in-Some-2.names) = sym c.in_ok-names.ensures ∙ ap (option_map names_of) c.in-Some-2.is in
    let empty : (length c.in-Some-2.names.items == 0) ≡ false = ap (λ n. n == 0) (sym c.in-Some-2.names.ok.0) ∙ sym c.is_empty.ensures ∙ c.if-is_empty.false in
    let names : list_all (λ t. is_name (string_bytes t)) c.in-Some-2.names.items ≡ false = ap (list_all (λ t. is_name (string_bytes t))) (sym c.as_slice.ensures.value) ∙ sym c.are_names.ensures ∙ c.if-not-are_names.true in
    λ _. servers_said _ _ c.in-Some-2.names.items false false at said empty names

pub returns : goal.returns
returns c =
    let at : get_member (codes "servers") (table_view c.args.table.now) ≡ Some (view c.in-Some.value.now) = sym c.field.ensures ∙ ap (option_map data_of_ref) c.in-Some.is in
    let said : list_of as_str (view c.in-Some.value.now) ≡ Some (names_of c.in-Some-2.names) = sym c.in_ok-names.ensures ∙ ap (option_map names_of) c.in-Some-2.is in
    let empty : (length c.in-Some-2.names.items == 0) ≡ false = ap (λ n. n == 0) (sym c.in-Some-2.names.ok.0) ∙ sym c.is_empty.ensures ∙ c.if-is_empty.false in
    let names : list_all (λ t. is_name (string_bytes t)) c.in-Some-2.names.items ≡ true = ap (list_all (λ t. is_name (string_bytes t))) (sym c.as_slice.ensures.value) ∙ sym c.are_names.ensures ∙ c.if-not-are_names.false in
    servers_said _ _ c.in-Some-2.names.items false true at said empty names
