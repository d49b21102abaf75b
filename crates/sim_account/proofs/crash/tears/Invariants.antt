use Rattle.std.proofs.Common.{◌≡◌, ◌+◌, ◌++◌, drop}
use Rattle.sim_streams.specs.Word.{torn}
use Rattle.sim_world.specs.World.{place}
use Rattle.sim_world.specs.Events.{rules}
use Rattle.sim_account.proofs.Kept.{tears_from}
use Rattle.sim_account.proofs.crash.tears.Given as goal

abbrev pub invariant-loop-place : goal.invariant-loop-place
invariant-loop-place g l =
    let words = (rules g.N.Node.laws g.N.Node.PROBES l.world.scenario).words torn in
    let first = place torn l.world.world in
    l.kept.items ++ tears_from words (first + l.place) (drop l.place l.disk.writes) ≡ tears_from words first l.disk.writes
