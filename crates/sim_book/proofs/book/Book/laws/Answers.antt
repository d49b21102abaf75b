use Rattle.std.proofs.Common.{subst}
use Rattle.sim_world.specs.Events.{rules}
use Rattle.sim_book.specs.Headline.{AreOf, AreBranches, HasWorlds, HasStepWorlds, BackAfterEvent, ForwardAfterBack}
use Rattle.sim_book.specs.Kept.{BookView, all_shown}
use Rattle.sim_book.proofs.Headlines.{has_worlds, back_after_event, forward_after_back}
use Rattle.sim_book.proofs.Ahead.{has_step_worlds}
use Rattle.sim_book.proofs.book.Book.laws.Goals as goal

pub returns-clause-branches : goal.returns-clause-branches
returns-clause-branches g c =
    subst (λ (v : BookView). AreBranches (rules g.N.Node.laws g.N.Node.PROBES v.scenario) (all_shown v.kept)) c.self.view_is c.self.invariant.branches

pub returns-clause-worlds : goal.returns-clause-worlds
returns-clause-worlds g c =
    let i = c.self.inside in
    subst (λ (v : BookView). HasWorlds (rules g.N.Node.laws g.N.Node.PROBES v.scenario) (all_shown v.kept)) c.self.view_is
    (has_worlds (rules g.N.Node.laws g.N.Node.PROBES i.scenario) (all_shown i.branches.items) c.self.invariant.branches)

pub returns-clause-ahead : goal.returns-clause-ahead
returns-clause-ahead g c =
    let i = c.self.inside in
    subst (λ (v : BookView). HasStepWorlds (rules g.N.Node.laws g.N.Node.PROBES v.scenario) (all_shown v.kept)) c.self.view_is
    (has_step_worlds (rules g.N.Node.laws g.N.Node.PROBES i.scenario) (all_shown i.branches.items) c.self.invariant.branches)

pub returns-clause-tapes : goal.returns-clause-tapes
returns-clause-tapes g c =
    subst (λ (v : BookView). AreOf v.scenario v.kept) c.self.view_is (λ i d there. (c.self.invariant.same i d there).scenario)

pub returns-clause-back : goal.returns-clause-back
returns-clause-back g c =
    let i = c.self.inside in
    subst (λ (v : BookView). BackAfterEvent (rules g.N.Node.laws g.N.Node.PROBES v.scenario) (all_shown v.kept)) c.self.view_is
    (back_after_event (rules g.N.Node.laws g.N.Node.PROBES i.scenario) (all_shown i.branches.items) c.self.invariant.branches)

pub returns-clause-forward : goal.returns-clause-forward
returns-clause-forward g c =
    let i = c.self.inside in
    subst (λ (v : BookView). ForwardAfterBack (rules g.N.Node.laws g.N.Node.PROBES v.scenario) (all_shown v.kept)) c.self.view_is
    (forward_after_back (rules g.N.Node.laws g.N.Node.PROBES i.scenario) (all_shown i.branches.items) c.self.invariant.branches)
