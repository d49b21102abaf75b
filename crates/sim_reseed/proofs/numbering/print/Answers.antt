use Rattle.std.proofs.Common.{arith}
use Rattle.toml.specs.View.{table_view}
use Rattle.sim_reseed.proofs.Flat.{shallow-flat}
use Rattle.sim_reseed.proofs.numbering.print.Goals as goal

pub returns-clause-parsed : goal.returns-clause-parsed
returns-clause-parsed c =
    let flat = shallow-flat (table_view c.args.table.now) c.requires in
    c.in-Ok.ensures.reads_back (omega (arith, flat.shallow))
