use Rattle.std.proofs.Common.{◌≡◌, ◌≤◌, [], length}
use Rattle.sim_claims.specs.Claims.{past}
use Rattle.sim_claims.specs.Best.{IsBest}
use Rattle.sim_claims.proofs.search.work.Given as goal

abbrev pub invariant-loop : goal.invariant-loop
invariant-loop g l = record {
  of : l.worker.table_id ≡ l.claims.table.shared.table_id;
  parts : l.worker.me.0.parts ≡ 1;
  bare : l.worker.me.1 ≡ [];
  count : length l.worker.me.0.drawn ≡ l.counter;
  inside : past l.count l.worker.me.0.drawn ≡ 0;
  within : l.counter ≤ l.count;
  best : IsBest (g.S.Pieces.finding l.pieces) (g.S.Pieces.count l.pieces) l.worker.me.0.drawn l.best;
}
