use Rattle.std.proofs.Common.{◌≡◌, ◌==◌, length, true, false, ℕ, List, [], Result, map, Some, None, sym, subst, ap, ◌∙◌, string_bytes, codes}
use Rattle.std.specs.Option.{option_map}
use Rattle.toml.specs.Data.{get_member, as_table}
use Rattle.toml.specs.View.{view, table_view}
use Rattle.sim_scenario.specs.Faults.{Gives}
use Rattle.sim_scenario.specs.Parts.{clients_of, listed}
use Rattle.sim_scenario.specs.Scenario.{Fault, list_of}
use Rattle.sim_scenario.specs.declared.hosts.Hosts.{Hosts}
use Rattle.sim_scenario.proofs.Arrays.{data_of_ref, members_of_ref, members_of_refs}
use Rattle.sim_scenario.proofs.Servers.{clients_missing, clients_untyped, clients_said, clients_none, clients_some}
use Rattle.sim_scenario.proofs.hosts.all_hosts.Goals as goal

-- the names and the operations of the hosts
abbrev listed_hosts : Hosts → List (List ℕ) × List ℕ
listed_hosts hosts = (map string_bytes hosts.names.items, hosts.operations.items)

pub returns-in_default-clause-said : goal.returns-in_default-clause-said
returns-in_default-clause-said c =
    let at : get_member (codes "client") (table_view c.args.table.now) ≡ None = sym c.field.ensures ∙ ap (option_map data_of_ref) c.in_default.is in
    λ _. clients_missing _ _ at

pub returns-in_default-2-clause-said : goal.returns-in_default-2-clause-said
returns-in_default-2-clause-said c =
    let at : get_member (codes "client") (table_view c.args.table.now) ≡ Some (view c.in-Some.value.now) = sym c.field.ensures ∙ ap (option_map data_of_ref) c.in-Some.is in
    let said : list_of as_table (view c.in-Some.value.now) ≡ None = sym c.in_ok-tables.ensures ∙ ap (option_map members_of_refs) c.in_default-2.is in
    λ _. clients_untyped _ _ _ at said

pub returns-then-is_empty-clause-said : goal.returns-then-is_empty-clause-said
returns-then-is_empty-clause-said c =
    let at : get_member (codes "client") (table_view c.args.table.now) ≡ Some (view c.in-Some.value.now) = sym c.field.ensures ∙ ap (option_map data_of_ref) c.in-Some.is in
    let said : list_of as_table (view c.in-Some.value.now) ≡ Some (members_of_refs c.in-Some-2.tables) = sym c.in_ok-tables.ensures ∙ ap (option_map members_of_refs) c.in-Some-2.is in
    let empty : (length c.in-Some-2.tables.items == 0) ≡ true = ap (λ n. n == 0) (sym c.in-Some-2.tables.ok.0) ∙ sym c.is_empty.ensures ∙ c.if-is_empty.true in
    λ _. clients_said _ _ _ _ at said ∙ clients_none _ members_of_ref c.in-Some-2.tables.items empty

pub returns-clause-said : goal.returns-clause-said
returns-clause-said c =
    let at : get_member (codes "client") (table_view c.args.table.now) ≡ Some (view c.in-Some.value.now) = sym c.field.ensures ∙ ap (option_map data_of_ref) c.in-Some.is in
    let said : list_of as_table (view c.in-Some.value.now) ≡ Some (members_of_refs c.in-Some-2.tables) = sym c.in_ok-tables.ensures ∙ ap (option_map members_of_refs) c.in-Some-2.is in
    let empty : (length c.in-Some-2.tables.items == 0) ≡ false = ap (λ n. n == 0) (sym c.in-Some-2.tables.ok.0) ∙ sym c.is_empty.ensures ∙ c.if-is_empty.false in
    let names = map string_bytes c.args.servers.items in
    let all : clients_of names (table_view c.args.table.now) ≡ listed names [] (map members_of_ref c.as_slice.result.now) =
    clients_said names _ _ _ at said ∙ clients_some names members_of_ref c.in-Some-2.tables.items empty
    ∙ ap (λ ts. listed names [] (map members_of_ref ts)) (sym c.as_slice.ensures.value) in
    subst (λ (said : Result (List (List ℕ) × List ℕ) Fault). Gives listed_hosts c.with_clients.result said) (sym all) c.with_clients.ensures.said
