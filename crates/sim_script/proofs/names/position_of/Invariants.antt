use Rattle.std.proofs.Common.{string_bytes}
use Rattle.std.specs.Str.{bytes_eq}
use Rattle.sim_script.proofs.Positions.{Fails}
use Rattle.sim_script.proofs.names.position_of.Given as goal

abbrev pub invariant-loop-i : goal.invariant-loop-i
invariant-loop-i l = Fails string_bytes (bytes_eq l.word) l.names l.i
