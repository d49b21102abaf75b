use Rattle.std.proofs.Common.{◌∙◌, arith, length-append}
use Rattle.sim_hosts.proofs.ServerSteps.{to_all-step}
use Rattle.sim_hosts.proofs.servers.send_to_all.Goals as goal

pub loop-host-preserved : goal.loop-host-preserved
loop-host-preserved g c = record {
  hosts = rw c.send.ensures c.loop-host.invariant.hosts;
  room = rw (c.send.ensures, length-append) (omega (arith, c.loop-host.invariant.room, c.loop-host-test.true));
  all = rw c.send.ensures (to_all-step c.args.setup.now c.args.msg c.loop-host.effects.list c.loop-host.host c.loop-host-test.true ∙ c.loop-host.invariant.all);
}
