use Rattle.std.proofs.Common.{◌≡◌, take, vec_capacity}
use Rattle.sim_links.proofs.table.Table.copy.Given as goal

abbrev pub invariant-loop-direction : goal.invariant-loop-direction
invariant-loop-direction g l = record {
  items : l.touched.items ≡ take l.direction-index l.direction-items;
  room : vec_capacity l.touched ≡ 1025;
}
