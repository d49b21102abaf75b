use Rattle.std.proofs.Common.{length, ap, arith}
use Rattle.sim_plan.proofs.Runs.{run_none}
use Rattle.sim_plan.proofs.run.run_of_planner.Goals as goal

pub loop-event-init : goal.loop-event-init
loop-event-init g c =
    let all = c.into_iter-event-iterator.ensures.into_iter_gives in
    let world = c.in_ok-world.ensures.value in
    let few = c.requires.few in
    let long = ap length all in
    let age = ap (λ w. w.age) world in (
      run_none g.N.Node.laws g.N.Node.PROBES c.args.scenario.now c.in_ok-world.world c.new-run.result.items c.args.planner
          c.into_iter-event-iterator.result world c.new-run.ensures.items all,
      ap (λ w. w.scenario) world,
      omega (arith, age, long, few),
    )
