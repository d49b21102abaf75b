use Rattle.std.proofs.Common.{rules as std_rules, ◌≡◌}
use Rattle.std.specs.Result.{IfOk}
use Rattle.sim_world.specs.Events.{rules}
use Rattle.sim_account.specs.Account.{next_reaction}
use Rattle.sim_account.proofs.Accounts.{told_leads}
use Rattle.sim_account.proofs.next.next_reaction.Goals as goal

pub returns-clause-leads : goal.returns-clause-leads
returns-clause-leads g c =
    let r = rules g.N.Node.laws g.N.Node.PROBES c.args.world.now.scenario in
    let w = c.args.world.now.world in
    let told : IfOk c.first_reaction.result (λ t. t ≡ next_reaction r w) = search std_rules in
    told_leads r w c.first_reaction.result told
