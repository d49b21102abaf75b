use Rattle.std.proofs.Common.{◌≡◌, ◌∷◌, [], ◌+◌, map, drop, Some, None, sym, ap, ◌∙◌, arith}
use Rattle.std.specs.Option.{option_map}
use Rattle.std.proofs.lemmas.List.{map-append}
use Rattle.toml.specs.View.{table_view}
use Rattle.sim_scenario.specs.Scenario.{all_some}
use Rattle.sim_scenario.proofs.Arrays.{with_rest, with_rest-nil, read_more, read_stop, read_all, table_of, members_of_ref}
use Rattle.sim_scenario.proofs.hosts.item_tables.Goals as goal

pub loop-item-init : goal.loop-item-init
loop-item-init c = rw c.new-tables.ensures.items (with_rest-nil table_of (all_some table_of c.args.items.now))

pub loop-item-preserved : goal.loop-item-preserved
loop-item-preserved c =
    let here = c.loop-item.tables.items in
    let read : table_of c.item-item.result ≡ Some (table_view c.in-Some.table.now) = sym c.as_table.ensures ∙ ap (option_map members_of_ref) c.in-Some.is in
    let pushed = ap (map members_of_ref) c.in_ok-push.ensures.items ∙ map-append members_of_ref here (c.in-Some.table ∷ []) in
    c.loop-item.invariant
    ∙ read_more table_of c.args.items.now c.loop-item.item-index c.item-item.result (table_view c.in-Some.table.now) (map members_of_ref here) (omega arith) c.item-item.is read
    ∙ ap (λ done. with_rest table_of done (all_some table_of (drop (c.loop-item.item-index + 1) c.args.items.now))) (sym pushed)

pub returns-in_default : goal.returns-in_default
returns-in_default c =
    let read : table_of c.item-item.result ≡ None = sym c.as_table.ensures ∙ ap (option_map members_of_ref) c.in_default.is in
    sym (c.loop-item.invariant ∙ read_stop table_of c.args.items.now c.loop-item.item-index c.item-item.result (map members_of_ref c.loop-item.tables.items) (omega arith) c.item-item.is read)

pub returns : goal.returns
returns c = sym (c.loop-item.invariant ∙ read_all table_of c.args.items.now c.loop-item.item-index (map members_of_ref c.loop-item.tables.items) (omega arith))
