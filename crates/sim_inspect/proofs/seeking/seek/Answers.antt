use Rattle.std.proofs.Common.{◌∙◌, ap, min, length}
use Rattle.sim_world.specs.Events.{rules}
use Rattle.sim_inspect.proofs.Spans.{found_held}
use Rattle.sim_inspect.proofs.seeking.seek.Goals as goal

pub returns-in-Held : goal.returns-in-Held
returns-in-Held g c =
    let run = c.args.run.now.frozen in
    let here = c.min-here.ensures ∙ ap (λ n. min c.args.here n) c.len.ensures in
    found_held (rules g.N.Node.laws g.N.Node.PROBES run.scenario) run.events (min c.args.here (length run.events)) c.min-here.result c.args.sought.now c.in-Held.field-0 c.held_of.result c.in-Held.is here
    c.held_of.ensures
