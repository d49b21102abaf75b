use Rattle.std.proofs.Common.{◌∙◌}
use Rattle.sim_hosts.proofs.ServerSteps.{all_in-step}
use Rattle.sim_hosts.proofs.set.HostSet.has_servers_from.Goals as goal

pub loop-host-preserved : goal.loop-host-preserved
loop-host-preserved c = c.loop-host.invariant ∙ all_in-step c.loop-host.host c.args.setup.now c.args.self c.loop-host-test.true (cc)
