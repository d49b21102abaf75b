use Rattle.std.proofs.Common.{◌≡◌, ◌∙◌, arith, length-append, true, false}
use Rattle.sim_hosts.specs.Hosts.{is_in}
use Rattle.sim_hosts.proofs.ServerSteps.{missing-step, missing-skip}
use Rattle.sim_hosts.proofs.servers.send_to_missing.Goals as goal
use Rattle.sim_hosts.proofs.servers.send_to_missing.Goals.{then-not-contains, else-not-contains}

pub loop-host-preserved : goal.loop-host-preserved
loop-host-preserved g c = elim c.if-not-contains.branch [
  | then-not-contains w ↦ (
      let absent : is_in c.args.set c.loop-host.host ≡ false = cc in
      rw w.effects-is (record {
        hosts = rw w.send.ensures c.loop-host.invariant.hosts;
        room = rw (w.send.ensures, length-append) (omega (arith, c.loop-host.invariant.room, c.loop-host-test.true));
        all = rw w.send.ensures (missing-step c.args.setup.now c.args.msg c.loop-host.effects.list c.args.set c.loop-host.host c.loop-host-test.true absent ∙ c.loop-host.invariant.all);
      }))
  | else-not-contains w ↦ (
      let member : is_in c.args.set c.loop-host.host ≡ true = cc in
      rw w.effects-is (record {
        hosts = c.loop-host.invariant.hosts;
        room = omega (arith, c.loop-host.invariant.room, c.loop-host-test.true);
        all = missing-skip c.args.setup.now c.args.msg c.loop-host.effects.list c.args.set c.loop-host.host c.loop-host-test.true member ∙ c.loop-host.invariant.all;
      }))
]
