use Rattle.std.proofs.Common.{◌+◌, ◌≤◌, subst}
use Rattle.sim_world.specs.World.{in_flight, held_messages}
use Rattle.sim_world.specs.Room.{IsReady}
use Rattle.sim_world.proofs.Readies.{ready_of}
use Rattle.sim_world.proofs.world.World.laws.Goals as goal

pub returns-clause-ready : goal.returns-clause-ready
returns-clause-ready g c =
    let k = c.self.inside.cluster.value in
    subst (λ v. IsReady g.N.Node.told v.scenario.setup v.world) c.self.view_is
    (ready_of g.N.Node.told k.scenario k.age k.parts.world c.self.invariant.sound)

pub returns-clause-few : goal.returns-clause-few
returns-clause-few g c = subst (λ v. in_flight v.world + held_messages v.world ≤ 4096) c.self.view_is c.self.invariant.sound.few
