use Rattle.std.proofs.Common.{None, Some}
use Rattle.sim_hosts.proofs.Slots.{put_again}
use Rattle.sim_hosts.proofs.waiting.wait_with.Goals as goal

pub returns-in-None-clause-back : goal.returns-in-None-clause-back
returns-in-None-clause-back g c = put_again c.args.waiting.now c.args.host c.args.what None c.index-waiting-host.result c.in-None.is

pub returns-in-Some-clause-back : goal.returns-in-Some-clause-back
returns-in-Some-clause-back g c =
    put_again c.args.waiting.now c.args.host c.args.what (Some c.in-Some.before) c.index-waiting-host.result c.in-Some.is
