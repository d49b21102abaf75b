use Rattle.std.proofs.Common.{◌∙◌, ◌++◌, ◌∷◌, [], List, Some, cond, is_some, sym, ap}
use Rattle.sim_node.specs.Work.{copied}
use Rattle.sim_world.specs.declared.packed_hosts.KeptHost.{KeptHost}
use Rattle.sim_world.proofs.packed_hosts.push_kept.Goals as goal

pub returns-in_ok-push-in-None-clause-hosts : goal.returns-in_ok-push-in-None-clause-hosts
returns-in_ok-push-in-None-clause-hosts g c =
    let added : KeptHost g.row.N.Denot → List (KeptHost g.row.N.Denot) = λ x. c.args.kept.now.items ++ x ∷ [] in
    c.in_ok-push-in-None.ensures.items
    ∙ ap (λ n. added (record { node = n; done = c.args.host.now.done; timer = c.args.timer; others = c.args.others })) (sym c.in-None.is)

pub returns-in_ok-push-in-None-clause-work : goal.returns-in_ok-push-in-None-clause-work
returns-in_ok-push-in-None-clause-work g c =
    let m = g.N.Meter.Meter.work c.args.meter.now in
    ap (λ o. cond (is_some o) (copied m) m) (sym c.in-None.is)

pub returns-in_ok-push-in-Some-clause-hosts : goal.returns-in_ok-push-in-Some-clause-hosts
returns-in_ok-push-in-Some-clause-hosts g c =
    let added : KeptHost g.row.N.Denot → List (KeptHost g.row.N.Denot) = λ x. c.args.kept.now.items ++ x ∷ [] in
    c.in_ok-push-in-Some.ensures.items
    ∙ (ap (λ s. added (record { node = Some s; done = c.args.host.now.done; timer = c.args.timer; others = c.args.others })) c.in_ok-copy-in-Some.ensures.state
    ∙ ap (λ n. added (record { node = n; done = c.args.host.now.done; timer = c.args.timer; others = c.args.others })) (sym c.in-Some.is))

pub returns-in_ok-push-in-Some-clause-work : goal.returns-in_ok-push-in-Some-clause-work
returns-in_ok-push-in-Some-clause-work g c =
    let m = g.N.Meter.Meter.work c.args.meter.now in
    c.in_ok-copy-in-Some.ensures.work ∙ ap (λ o. cond (is_some o) (copied m) m) (sym c.in-Some.is)
