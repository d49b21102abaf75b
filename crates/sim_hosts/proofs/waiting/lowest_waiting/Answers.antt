use Rattle.std.proofs.Common.{◌∙◌, ◌<◌, length, None, arith}
use Rattle.std.proofs.lemmas.List.{get_or_default}
use Rattle.sim_hosts.proofs.FirstWaiting.{first_waiting-skip}
use Rattle.sim_hosts.proofs.waiting.lowest_waiting.Goals as goal

pub loop-host-preserved : goal.loop-host-preserved
loop-host-preserved g c =
    let inside : c.loop-host.host < length c.args.waiting.now = omega (arith, c.loop-host-test.true, c.type_inv.waiting, c.requires) in
    let absent = get_or_default c.args.waiting.now c.loop-host.host None _ inside ∙ c.in_default.is in
    c.loop-host.invariant ∙ first_waiting-skip c.args.waiting.now c.loop-host.host c.args.setup.now.hosts c.loop-host-test.true absent
