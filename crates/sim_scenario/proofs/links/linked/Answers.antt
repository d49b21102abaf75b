use Rattle.std.proofs.Common.{◌≡◌, ◌+◌, ◌++◌, ◌∷◌, [], map, drop, sym, ap, ◌∙◌, arith}
use Rattle.std.proofs.lemmas.List.{map-append, drop_more, drop_all}
use Rattle.sim_scenario.specs.Faults.{fault_of}
use Rattle.sim_scenario.specs.Links.{link_said}
use Rattle.sim_scenario.specs.Parts.{linked}
use Rattle.sim_scenario.proofs.Arrays.{members_of_ref}
use Rattle.sim_scenario.proofs.Given.{Gives-passed}
use Rattle.sim_scenario.proofs.Linking.{linked_more, linked_stop, linked_all}
use Rattle.sim_scenario.proofs.links.linked.Goals as goal

pub returns-in_err-read_link : goal.returns-in_err-read_link
returns-in_err-read_link c =
    let i = c.loop-table.table-index in
    let done = map link_said c.loop-table.links.items in
    Gives-passed _ c.from_residual.result c.in_err-read_link.field-0.0 _ c.from_residual.ensures.1
    (λ other.
    c.loop-table.invariant
    ∙ ap (λ ts. linked done (map members_of_ref ts)) (drop_more c.args.tables.now i c.table-item.result (omega arith))
    ∙ ap (λ t. linked done (members_of_ref t ∷ map members_of_ref (drop (i + 1) c.args.tables.now))) (sym c.table-item.is)
    ∙ linked_stop done (members_of_ref c.table-item.result) (map members_of_ref (drop (i + 1) c.args.tables.now)) (fault_of c.in_err-read_link.field-0.0) (c.in_err-read_link.ensures other))

pub loop-table-preserved : goal.loop-table-preserved
loop-table-preserved c =
    let i = c.loop-table.table-index in
    let done = map link_said c.loop-table.links.items in
    let rest = map members_of_ref (drop (i + 1) c.args.tables.now) in
    let said = link_said c.in_ok-read_link.field-0 in
    let pushed : map link_said c.push.new.self.items ≡ done ++ said ∷ [] =
    ap (map link_said) c.in_ok-push.ensures.items ∙ map-append link_said c.loop-table.links.items (c.in_ok-read_link.field-0 ∷ []) in
    c.loop-table.invariant
    ∙ ap (λ ts. linked done (map members_of_ref ts)) (drop_more c.args.tables.now i c.table-item.result (omega arith))
    ∙ ap (λ t. linked done (members_of_ref t ∷ rest)) (sym c.table-item.is)
    ∙ linked_more done (members_of_ref c.table-item.result) rest said c.in_ok-read_link.ensures
    ∙ ap (λ ls. linked ls rest) (sym pushed)

pub returns : goal.returns
returns c =
    c.loop-table.invariant
    ∙ ap (λ ts. linked (map link_said c.loop-table.links.items) (map members_of_ref ts)) (drop_all c.loop-table.table-index c.args.tables.now (omega arith))
    ∙ linked_all (map link_said c.loop-table.links.items)
