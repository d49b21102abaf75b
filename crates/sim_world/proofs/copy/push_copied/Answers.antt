use Rattle.std.proofs.Common.{◌∙◌, ◌++◌, ◌∷◌, [], List, Some, cond, is_some, sym, ap}
use Rattle.sim_node.specs.Work.{copied}
use Rattle.sim_world.specs.declared.host.Host.{Host}
use Rattle.sim_world.proofs.copy.push_copied.Goals as goal

pub returns-in_ok-push-in-None-clause-hosts : goal.returns-in_ok-push-in-None-clause-hosts
returns-in_ok-push-in-None-clause-hosts g c =
    let host = c.args.host.now in
    let added : Host g.row.N.Denot → List (Host g.row.N.Denot) = λ x. c.args.copies.now.items ++ x ∷ [] in
    c.in_ok-push-in-None.ensures.items
    ∙ (ap (λ n. added (record { node = n; disk = c.in_ok-disk.disk; done = host.done })) (sym c.in-None.is)
    ∙ ap (λ d. added (record { node = host.node; disk = d; done = host.done })) c.in_ok-disk.ensures)

pub returns-in_ok-push-in-None-clause-work : goal.returns-in_ok-push-in-None-clause-work
returns-in_ok-push-in-None-clause-work g c =
    let m = g.N.Meter.Meter.work c.args.meter.now in
    ap (λ o. cond (is_some o) (copied m) m) (sym c.in-None.is)

pub returns-in_ok-push-in-Some-clause-hosts : goal.returns-in_ok-push-in-Some-clause-hosts
returns-in_ok-push-in-Some-clause-hosts g c =
    let host = c.args.host.now in
    let added : Host g.row.N.Denot → List (Host g.row.N.Denot) = λ x. c.args.copies.now.items ++ x ∷ [] in
    c.in_ok-push-in-Some.ensures.items
    ∙ (ap (λ s. added (record { node = Some s; disk = c.in_ok-disk.disk; done = host.done })) c.in_ok-copy-in-Some.ensures.state
    ∙ (ap (λ n. added (record { node = n; disk = c.in_ok-disk.disk; done = host.done })) (sym c.in-Some.is)
    ∙ ap (λ d. added (record { node = host.node; disk = d; done = host.done })) c.in_ok-disk.ensures))

pub returns-in_ok-push-in-Some-clause-work : goal.returns-in_ok-push-in-Some-clause-work
returns-in_ok-push-in-Some-clause-work g c =
    let m = g.N.Meter.Meter.work c.args.meter.now in
    c.in_ok-copy-in-Some.ensures.work ∙ ap (λ o. cond (is_some o) (copied m) m) (sym c.in-Some.is)
