use Rattle.std.proofs.Common.{◌+◌, ◌||◌, ℕ, sym, subst, ◌∙◌, length}
use Rattle.sim_claims.specs.Best.{IsFirst}
use Rattle.sim_search.proofs.Seeding.{seed_none, seed_some}
use Rattle.sim_search.proofs.Refusing.{bad_condition, good_condition}
use Rattle.sim_sweep.specs.Planned.{failing_of_planned_seed}
use Rattle.sim_sweep.specs.Faults.{are_bad_seeds, is_bad_plan}
use Rattle.sim_sweep.proofs.seeds.sweep_planned.Goals as goal

pub returns-in-Err-clause-refused : goal.returns-in-Err-clause-refused
returns-in-Err-clause-refused g c =
    let course = c.args.course.now in
    bad_condition (are_bad_seeds c.args.seeds.0 c.args.seeds.1 || is_bad_plan (length course.given.now) course.plan) _ _ c.hosts.result c.PROBES.result c.args.cond.now _
    (sym c.is_refused.ensures.value ∙ c.if-is_refused.false) c.hosts.ensures.value c.PROBES.ensures c.in-Err.ensures

pub returns-in-Ok-Some-clause-found : goal.returns-in-Ok-Some-clause-found
returns-in-Ok-Some-clause-found g c =
    let course = c.args.course.now in
    let f = failing_of_planned_seed g.N.Node.laws g.N.Node.PROBES course.scenario.now course.given.now course.plan c.args.cond.now in
    let some = (c.is_refused.ensures.some c.if-is_refused.false).0 in
    seed_some f c.args.seeds.0 c.args.seeds.1 some _ (subst (IsFirst (λ (i : ℕ). f (c.args.seeds.0 + i)) c.args.seeds.1) c.in-Ok-Some.field-0-is c.in-Ok-Some.ensures.least)

pub returns-in-Ok-None-clause-found : goal.returns-in-Ok-None-clause-found
returns-in-Ok-None-clause-found g c =
    let course = c.args.course.now in
    let f = failing_of_planned_seed g.N.Node.laws g.N.Node.PROBES course.scenario.now course.given.now course.plan c.args.cond.now in
    let some = (c.is_refused.ensures.some c.if-is_refused.false).0 in
    seed_none f c.args.seeds.0 c.args.seeds.1 some (subst (IsFirst (λ (i : ℕ). f (c.args.seeds.0 + i)) c.args.seeds.1) c.in-Ok-None.field-0-is c.in-Ok-None.ensures.least)

pub invariant_of-runs : goal.invariant_of-runs
invariant_of-runs g c =
    let some = c.is_refused.ensures.some c.if-is_refused.false in
    let fine = c.is_refused.ensures.fine c.if-is_refused.false in record {
      past = some.1;
      own = c.requires.own;
      fine = fine;
      checked = good_condition c.args.course.now.scenario.now.setup.hosts g.N.Node.PROBES c.hosts.result c.PROBES.result c.args.cond.now c.hosts.ensures.value c.PROBES.ensures c.in-Ok.ensures;
    }
