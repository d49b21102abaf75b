use Rattle.sim_primary_backup.proofs.BegunLowest.{begun_lowest-Some}
use Rattle.sim_primary_backup.proofs.roles.Primary.begin_lowest.Goals as goal

pub returns-in-Some-clause-effects : goal.returns-in-Some-clause-effects
returns-in-Some-clause-effects c =
    let next = begun_lowest-Some c.args.setup.now c.args.self.now (c.in-Some.client, c.in-Some.put) c.in-Some.ensures.value in
    rw (c.begin-cell.ensures.effects, c.put_waiter-slot.ensures.state, next)
