use Rattle.std.proofs.Common.{rules, ◌≡◌, ◌≤◌, ◌+◌, length, take, sym, ap, subst, ◌∙◌, arith}
use Rattle.std.proofs.lemmas.List.{length-take-le}
use Rattle.sim_node.specs.Seen.{IsStored}
use Rattle.sim_world.specs.Events.{rules as rules_of}
use Rattle.sim_account.specs.declared.fate.Fate.TheVariants as fate
use Rattle.sim_account.proofs.Ledgers.{told_timer, told_sync, told_write}
use Rattle.sim_account.proofs.fates.fate.Goals as goal

pub returns-in-Send-clause-told : goal.returns-in-Send-clause-told
returns-in-Send-clause-told g c = λ w f. rw c.in-Send.is (c.sent_fate.ensures.told w _ f)

pub returns-in-Timer-clause-told : goal.returns-in-Timer-clause-told
returns-in-Timer-clause-told g c = λ w f.
    let r = rules_of g.N.Node.laws g.N.Node.PROBES c.args.world.now.scenario in
    let l = c.args.ledger.now in
    let p = told_timer r c.args.host c.args.world.now.world l w f c.in-Timer.delay in
    rw c.in-Timer.is (c.pending.ensures.fate ∙ ap (λ d. fate.Pending (l.clock + d) l.serial) c.from.ensures ∙ p.0, rw c.pending.ensures.after p.1)

pub returns-in-Write-clause-told : goal.returns-in-Write-clause-told
returns-in-Write-clause-told g c = λ w f.
    let r = rules_of g.N.Node.laws g.N.Node.PROBES c.args.world.now.scenario in
    let stored = subst (IsStored (length c.args.world.now.world.hosts)) c.in-Write.is c.requires.stored in
    let few : c.in-Write.len ≤ 64 = stored.1 in
    let all : length c.in-Write.bytes ≡ 64 = stored.2 in
    let len : length (take c.in-Write.len c.in-Write.bytes) ≡ c.in-Write.len = length-take-le c.in-Write.len c.in-Write.bytes (omega arith) in
    let p = told_write r c.args.host c.args.world.now.world c.args.ledger.now w f c.in-Write.offset c.in-Write.len (take c.in-Write.len c.in-Write.bytes) (sym len) in
    rw c.in-Write.is (c.write.ensures.fate ∙ p.0, rw c.write.ensures.after p.1)

pub returns-in-Sync-clause-told : goal.returns-in-Sync-clause-told
returns-in-Sync-clause-told g c = λ w f.
    let r = rules_of g.N.Node.laws g.N.Node.PROBES c.args.world.now.scenario in
    let p = told_sync r c.args.host c.args.world.now.world c.args.ledger.now w f c.disk_latency.result (search rules) in
    rw c.in-Sync.is (c.sync.ensures.fate ∙ p.0, rw c.sync.ensures.after p.1)
