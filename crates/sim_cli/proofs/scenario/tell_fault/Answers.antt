use Rattle.std.proofs.Common.{append_assoc}
use Rattle.sim_cli.proofs.scenario.tell_fault.Goals as goal

pub returns-in-Ok : goal.returns-in-Ok
returns-in-Ok c = simp append_assoc c.in-Ok.ensures.ok
