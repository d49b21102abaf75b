use Rattle.std.proofs.Common.{◌≡◌, ◌++◌, length, min}
use Rattle.sim_world.specs.World.{World}
use Rattle.sim_world.specs.Events.{rules}
use Rattle.sim_account.specs.Account.{all_told}
use Rattle.sim_account.specs.inside.Ledger.{Follows, HasRoomFor}
use Rattle.sim_account.proofs.fates.told.Given as goal

abbrev pub decreases-loop-effect : goal.decreases-loop-effect
decreases-loop-effect g l = length l.effects.list

abbrev pub invariant-loop-effect : goal.invariant-loop-effect
invariant-loop-effect g l = record {
  hosts : l.effects.hosts ≡ l.initial.effects.hosts;
  room : HasRoomFor (min (length l.effects.list) 40) l.ledger;
  told : (v : World g.row.N.Denot g.row.N-Msg.Denot) → Follows l.initial.ledger l.host l.world.world v
      → (w : World g.row.N.Denot g.row.N-Msg.Denot) × Follows l.ledger l.host l.world.world w
      × (l.told.items ++ all_told (rules g.N.Node.laws g.N.Node.PROBES l.world.scenario) l.host l.effects.list w
      ≡ all_told (rules g.N.Node.laws g.N.Node.PROBES l.world.scenario) l.host l.initial.effects.list v);
}
