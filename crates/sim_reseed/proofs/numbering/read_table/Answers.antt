use Rattle.std.proofs.Common.{◌≤◌, length, refl, arith}
use Rattle.toml.specs.View.{table_view}
use Rattle.sim_reseed.proofs.Refusals.{not_shaped}
use Rattle.sim_reseed.proofs.numbering.read_table.Goals as goal

pub returns-else-is_shallow-clause-refused : goal.returns-else-is_shallow-clause-refused
returns-else-is_shallow-clause-refused c = λ _.
    let short : length c.args.text.now ≤ 65536 = omega arith in
    (refl, not_shaped c.args.text.now (table_view c.in-Ok.table) short c.in-Ok.ensures.ok (c.is_shallow.ensures.other c.if-is_shallow.false))
