use Rattle.std.proofs.Common.{◌≡◌, codes, Some, refl, ap, ◌∙◌, string_bytes}
use Rattle.hex.specs.Hex.{encode_lower}
use Rattle.toml.specs.Data.{Members, string}
use Rattle.toml.specs.View.{table_view}
use Rattle.sim_reseed.specs.Numbered.{numbered_seed, with_seed}
use Rattle.sim_reseed.specs.Shape.{is_shallow}
use Rattle.sim_reseed.proofs.Flat.{shallow-with_value}
use Rattle.sim_reseed.proofs.Printed.{document-ends}
use Rattle.sim_reseed.proofs.Reseeded.{text-numbered, on_both, on_one}
use Rattle.sim_reseed.specs.Refused.{IsSeeded}
use Rattle.sim_reseed.proofs.Refusals.{written, refuses_printed, on_error}
use Rattle.sim_reseed.proofs.numbering.numbered_text.Goals as goal

pub print-requires : goal.print-requires
print-requires c =
    ap is_shallow c.in_ok-set_seed.ensures.set
    ∙ shallow-with_value (codes "seed") (string (encode_lower c.numbered_seed.result)) (table_view c.in_ok-table.table) refl c.in_ok-table.ensures.shallow

pub returns-clause-reads : goal.returns-clause-reads
returns-clause-reads c =
    let doc : Members = table_view c.in_ok-table.table in
    let set : table_view c.set_seed.new.table ≡ with_seed (numbered_seed c.args.number c.in-Some.seed) doc = c.in_ok-set_seed.ensures.set ∙ ap (λ seed. with_seed seed doc) c.numbered_seed.ensures in
    on_both c.print.result (λ t short parsed protocols.
    text-numbered c.args.number doc c.in-Some.seed c.in-Some.ensures.found protocols c.args.text.now (string_bytes t)
    c.in_ok-table.ensures.short short c.in_ok-table.ensures.parsed (parsed ∙ ap Some set))
    c.print.ensures.short c.print.ensures.parsed

pub returns-clause-written : goal.returns-clause-written
returns-clause-written c =
    let doc : Members = table_view c.in_ok-table.table in
    let set : table_view c.set_seed.new.table ≡ with_seed (numbered_seed c.args.number c.in-Some.seed) doc = c.in_ok-set_seed.ensures.set ∙ ap (λ seed. with_seed seed doc) c.numbered_seed.ensures in
    let own : IsSeeded c.args.text.now doc c.in-Some.seed = record { parsed = c.in_ok-table.ensures.parsed; had = c.in-Some.ensures.found } in
    on_one c.print.result (λ t. written c.args.number c.args.text.now doc (table_view c.set_seed.new.table) c.in-Some.seed own set (string_bytes t)) c.print.ensures.written

pub returns-clause-refused : goal.returns-clause-refused
returns-clause-refused c =
    let doc : Members = table_view c.in_ok-table.table in
    let set : table_view c.set_seed.new.table ≡ with_seed (numbered_seed c.args.number c.in-Some.seed) doc = c.in_ok-set_seed.ensures.set ∙ ap (λ seed. with_seed seed doc) c.numbered_seed.ensures in
    let own : IsSeeded c.args.text.now doc c.in-Some.seed = record { parsed = c.in_ok-table.ensures.parsed; had = c.in-Some.ensures.found } in
    on_error c.print.result (refuses_printed c.args.number c.args.text.now doc (table_view c.set_seed.new.table) c.in-Some.seed own set) c.print.ensures.refused

pub returns-clause-lines : goal.returns-clause-lines
returns-clause-lines c = on_one c.print.result (λ t written. document-ends (table_view c.set_seed.new.table) (string_bytes t) written) c.print.ensures.written
