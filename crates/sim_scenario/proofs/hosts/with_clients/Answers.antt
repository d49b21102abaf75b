use Rattle.std.proofs.Common.{◌≡◌, ◌+◌, ◌++◌, ◌∷◌, [], map, drop, sym, ap, ◌∙◌, string_bytes, arith}
use Rattle.std.proofs.lemmas.List.{map-append, drop_more, drop_all}
use Rattle.sim_scenario.specs.Faults.{fault_of}
use Rattle.sim_scenario.specs.Parts.{listed}
use Rattle.sim_scenario.proofs.Arrays.{members_of_ref}
use Rattle.sim_scenario.proofs.Given.{Gives-passed}
use Rattle.sim_scenario.proofs.Clients.{listed_more, listed_stop, listed_all}
use Rattle.sim_scenario.proofs.hosts.with_clients.Goals as goal

pub returns-in_err-client-clause-said : goal.returns-in_err-client-clause-said
returns-in_err-client-clause-said c =
    let i = c.loop-table.table-index in
    let names = map string_bytes c.loop-table.names.items in
    let operations = c.loop-table.operations.items in
    Gives-passed _ c.from_residual.result c.in_err-client.field-0.0 _ c.from_residual.ensures.1
    (λ other.
    c.loop-table.invariant.same
    ∙ ap (λ ts. listed names operations (map members_of_ref ts)) (drop_more c.args.tables.now i c.table-item.result (omega arith))
    ∙ ap (λ t. listed names operations (members_of_ref t ∷ map members_of_ref (drop (i + 1) c.args.tables.now))) (sym c.table-item.is)
    ∙ listed_stop names operations (members_of_ref c.table-item.result) (map members_of_ref (drop (i + 1) c.args.tables.now)) (fault_of c.in_err-client.field-0.0) (c.in_err-client.ensures other))

pub loop-table-preserved : goal.loop-table-preserved
loop-table-preserved c =
    let i = c.loop-table.table-index in
    let names = map string_bytes c.loop-table.names.items in
    let operations = c.loop-table.operations.items in
    let rest = map members_of_ref (drop (i + 1) c.args.tables.now) in
    let named : map string_bytes c.push.new.self.items ≡ names ++ c.in_ok-client.client.name.now ∷ [] =
    ap (map string_bytes) c.in_ok-push.ensures.items ∙ map-append string_bytes c.loop-table.names.items (c.in_ok-from_str.field-0 ∷ [])
    ∙ ap (λ name. names ++ name ∷ []) c.in_ok-from_str.ensures.ok in
    record {
      same =
          c.loop-table.invariant.same
          ∙ ap (λ ts. listed names operations (map members_of_ref ts)) (drop_more c.args.tables.now i c.table-item.result (omega arith))
          ∙ ap (λ t. listed names operations (members_of_ref t ∷ rest)) (sym c.table-item.is)
          ∙ listed_more names operations (members_of_ref c.table-item.result) rest c.in_ok-client.client.name.now c.in_ok-client.client.operations c.in_ok-client.ensures
          ∙ ap (λ ns. listed ns (operations ++ c.in_ok-client.client.operations ∷ []) rest) (sym named)
          ∙ ap (λ os. listed (map string_bytes c.push.new.self.items) os rest) (sym c.in_ok-push-2.ensures.items);
      counted = omega (arith, c.loop-table.invariant.counted, c.in_ok-push.ensures.len, c.in_ok-push-2.ensures.len);
    }

pub returns-clause-said : goal.returns-clause-said
returns-clause-said c =
    let names = map string_bytes c.loop-table.names.items in
    c.loop-table.invariant.same
    ∙ ap (λ ts. listed names c.loop-table.operations.items (map members_of_ref ts)) (drop_all c.loop-table.table-index c.args.tables.now (omega arith))
    ∙ listed_all names c.loop-table.operations.items
