use Rattle.std.proofs.Common.{sym, ap, ◌∙◌}
use Rattle.sim_watch.specs.Condition.{term_holds}
use Rattle.sim_watch.proofs.holding.term_holds.Goals as goal

pub returns-in-AgreeBy : goal.returns-in-AgreeBy
returns-in-AgreeBy g c = c.is_nowhere.ensures ∙ ap (λ term. term_holds g.N.Node.laws term c.args.world.now.world) (sym c.in-AgreeBy.is)

pub returns-in-Differ : goal.returns-in-Differ
returns-in-Differ g c = c.is_nowhere-in-Differ.ensures ∙ ap (λ term. term_holds g.N.Node.laws term c.args.world.now.world) (sym c.in-Differ.is)
