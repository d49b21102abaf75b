use Rattle.std.proofs.Common.{◌≡◌, length}
use Rattle.sim_search.proofs.places.scanners.Given as goal

abbrev pub invariant-loop-meter : goal.invariant-loop-meter
invariant-loop-meter g l = length l.made.items ≡ length l.yielded
