use Rattle.std.proofs.Common.{◌≡◌, ◌≤◌, length, sym, ap, subst, ◌∙◌, arith}
use Rattle.sim_world.specs.Events.{rules}
use Rattle.sim_scan.specs.Search.{pieces, fails_at}
use Rattle.sim_claims.specs.Best.{IsFirst}
use Rattle.sim_search.specs.Faults.{is_bad_search}
use Rattle.sim_search.proofs.Cutting.{place_none, place_some, found_in}
use Rattle.sim_search.proofs.Refusing.{bad_condition, good_condition, no_fault}
use Rattle.sim_search.proofs.places.search.Goals as goal

pub returns-in-Err-clause-refused : goal.returns-in-Err-clause-refused
returns-in-Err-clause-refused g c =
    let end : c.len.result ≡ length c.args.frozen.now.events = c.len.ensures.value ∙ ap length c.events.ensures in
    bad_condition (is_bad_search c.args.lo c.args.hi (length c.args.frozen.now.events)) _ _ c.hosts.result c.PROBES.result c.args.cond.now _
    (sym (ap (is_bad_search c.args.lo c.args.hi) end) ∙ (sym c.is_bad.ensures.value ∙ c.if-is_bad.false)) c.hosts.ensures c.PROBES.ensures c.in-Err.ensures

pub returns-in-Err-scanners-clause-refused : goal.returns-in-Err-scanners-clause-refused
returns-in-Err-scanners-clause-refused g c =
    let f = c.args.frozen.now in
    let end : c.len.result ≡ length f.events = c.len.ensures.value ∙ ap length c.events.ensures in
    no_fault (is_bad_search c.args.lo c.args.hi (length f.events)) f.scenario.setup.hosts g.N.Node.PROBES c.args.cond.now
    (sym (ap (is_bad_search c.args.lo c.args.hi) end) ∙ (sym c.is_bad.ensures.value ∙ c.if-is_bad.false))
    (good_condition f.scenario.setup.hosts g.N.Node.PROBES c.hosts.result c.PROBES.result c.args.cond.now c.hosts.ensures c.PROBES.ensures c.in-Ok.ensures)

pub returns-in-Ok-Some-clause-found : goal.returns-in-Ok-Some-clause-found
returns-in-Ok-Some-clause-found g c =
    let f = c.args.frozen.now in
    let test = fails_at (rules g.N.Node.laws g.N.Node.PROBES f.scenario) c.args.cond.now f.events in
    let k = c.interval.result in
    let some = c.interval.ensures.least in
    place_some test c.args.lo c.args.hi k some _ (subst (IsFirst (found_in test c.args.lo c.args.hi k some) (pieces c.args.lo c.args.hi k)) c.in-Ok-Some.field-0-is c.in-Ok-Some.ensures.least)

pub returns-in-Ok-None-clause-found : goal.returns-in-Ok-None-clause-found
returns-in-Ok-None-clause-found g c =
    let f = c.args.frozen.now in
    let test = fails_at (rules g.N.Node.laws g.N.Node.PROBES f.scenario) c.args.cond.now f.events in
    let k = c.interval.result in
    let some = c.interval.ensures.least in
    place_none test c.args.lo c.args.hi k some (subst (IsFirst (found_in test c.args.lo c.args.hi k some) (pieces c.args.lo c.args.hi k)) c.in-Ok-None.field-0-is c.in-Ok-None.ensures.least)

pub invariant_of-places : goal.invariant_of-places
invariant_of-places g c =
    let f = c.args.frozen.now in
    let fine = c.is_bad.ensures.fine c.if-is_bad.false in
    let below = fine.1 in
    let end : c.len.result ≡ length f.events = c.len.ensures.value ∙ ap length c.events.ensures in
    let same : length c.events.result.now ≡ length f.events = ap length c.events.ensures in
    let most = c.len.ensures.few in
    let within : c.args.hi ≤ length f.events = omega (arith, below, end) in
    let few : c.args.hi ≤ 65536 = omega (arith, within, same, most) in record {
      order = fine.0;
      end = within;
      few = few;
      own = c.interval.ensures.value;
      least = c.interval.ensures.least;
      most = c.interval.ensures.most;
      checked = good_condition f.scenario.setup.hosts g.N.Node.PROBES c.hosts.result c.PROBES.result c.args.cond.now c.hosts.ensures c.PROBES.ensures c.in-Ok.ensures;
    }
