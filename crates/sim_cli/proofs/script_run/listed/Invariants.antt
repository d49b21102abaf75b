use Rattle.std.proofs.Common.{◌≡◌, take}
use Rattle.sim_cli.proofs.script_run.listed.Given as goal

abbrev pub invariant-loop-i : goal.invariant-loop-i
invariant-loop-i l = l.events.items ≡ take l.i l.list
