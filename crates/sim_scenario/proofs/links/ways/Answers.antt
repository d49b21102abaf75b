use Rattle.std.proofs.Common.{sym, subst}
use Rattle.std.specs.Prelude.{All}
use Rattle.sim_scenario.specs.Hosts.{names_in}
use Rattle.sim_scenario.specs.Links.{IsInTable}
use Rattle.sim_scenario.proofs.Linking.{placed-in_table}
use Rattle.sim_scenario.proofs.links.ways.Goals as goal

pub linked_ways-requires : goal.linked_ways-requires
linked_ways-requires c =
    subst (All IsInTable) (sym c.as_slice.ensures.value) (placed-in_table (names_in c.args.names.now) _ c.in_ok-between.between.items c.requires.few c.in_ok-between.ensures)
