use Rattle.std.proofs.Common.{append_assoc}
use Rattle.sim_primary_backup.proofs.roles.Primary.begin.Goals as goal

pub returns-clause-effects : goal.returns-clause-effects
returns-clause-effects c = rw (c.timer.ensures, c.apply-before.ensures.effects, c.apply-before.ensures.state, c.saturating_add-n.ensures, append_assoc)
