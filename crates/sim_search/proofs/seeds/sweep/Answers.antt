use Rattle.std.proofs.Common.{◌≡◌, ◌+◌, ℕ, sym, subst, ◌∙◌}
use Rattle.sim_scan.specs.Search.{failing_of_seed}
use Rattle.sim_claims.specs.Best.{IsFirst}
use Rattle.sim_search.specs.Faults.{is_bad_sweep}
use Rattle.sim_search.proofs.Seeding.{seed_none, seed_some}
use Rattle.sim_search.proofs.Refusing.{bad_condition, good_condition}
use Rattle.sim_search.proofs.seeds.sweep.Goals as goal

pub returns-in-Err-clause-refused : goal.returns-in-Err-clause-refused
returns-in-Err-clause-refused g c =
    bad_condition (is_bad_sweep c.args.first c.args.count c.args.events) _ _ c.hosts.result c.PROBES.result c.args.cond.now _
    (sym c.is_bad.ensures.value ∙ c.if-is_bad.false) c.hosts.ensures.value c.PROBES.ensures c.in-Err.ensures

pub returns-in-Ok-Some-clause-found : goal.returns-in-Ok-Some-clause-found
returns-in-Ok-Some-clause-found g c =
    let f = failing_of_seed g.N.Node.laws g.N.Node.PROBES c.args.scenario.now c.args.cond.now c.args.events in
    let some = (c.is_bad.ensures.fine c.if-is_bad.false).0 in
    seed_some f c.args.first c.args.count some _ (subst (IsFirst (λ (i : ℕ). f (c.args.first + i)) c.args.count) c.in-Ok-Some.field-0-is c.in-Ok-Some.ensures.least)

pub returns-in-Ok-None-clause-found : goal.returns-in-Ok-None-clause-found
returns-in-Ok-None-clause-found g c =
    let f = failing_of_seed g.N.Node.laws g.N.Node.PROBES c.args.scenario.now c.args.cond.now c.args.events in
    let some = (c.is_bad.ensures.fine c.if-is_bad.false).0 in
    seed_none f c.args.first c.args.count some (subst (IsFirst (λ (i : ℕ). f (c.args.first + i)) c.args.count) c.in-Ok-None.field-0-is c.in-Ok-None.ensures.least)

pub invariant_of-seeds : goal.invariant_of-seeds
invariant_of-seeds g c =
    let fine = c.is_bad.ensures.fine c.if-is_bad.false in record {
      past = fine.2;
      few = fine.1;
      checked = good_condition c.args.scenario.now.setup.hosts g.N.Node.PROBES c.hosts.result c.PROBES.result c.args.cond.now c.hosts.ensures.value c.PROBES.ensures c.in-Ok.ensures;
    }
