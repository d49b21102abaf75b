use Rattle.std.proofs.Common.{◌≡◌, ℕ, ◌<◌, false, None, get_or}
use Rattle.sim_world.specs.Events.{rules}
use Rattle.sim_runs.specs.Watches.{watch_fails}
use Rattle.sim_runs.proofs.stops.failing.Given as goal

abbrev pub invariant-loop-number : goal.invariant-loop-number
invariant-loop-number g l = (j : ℕ) → j < l.number → watch_fails (rules g.N.Node.laws g.N.Node.PROBES l.world.scenario) l.world.world (get_or l.watches j None) ≡ false
