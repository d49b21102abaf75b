use Rattle.std.proofs.Common.{◌≡◌, drop}
use Rattle.std.specs.List.{fold}
use Rattle.sim_links.specs.Places.{with_kept, links_of}
use Rattle.sim_links.specs.Table.{links_in, IsSound}
use Rattle.sim_links.proofs.packed.PackedLinks.open.Given as goal

abbrev pub invariant-loop-kept : goal.invariant-loop-kept
invariant-loop-kept g l = record {
  sound : IsSound l.table;
  rest : fold with_kept (links_in l.table) (drop l.kept-index l.kept-items) ≡ links_of l.kept-items;
}
