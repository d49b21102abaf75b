use Rattle.std.proofs.Common.{◌≡◌, ◌++◌, ◌∷◌, [], ◌≤◌, true, false, length, is_some, string_eq, sym, ap, ◌∙◌, arith}
use Rattle.std.specs.Vec.Iter.{into_iter_items}
use Rattle.std.proofs.lemmas.Bool.{lt-ltb, le-ltb}
use Rattle.indexmap.specs.IndexMap.{get}
use Rattle.indexmap.proofs.CallerLemmas.{insert_entry-new}
use Rattle.sim_scenario.proofs.Numbering.{Host, few, placed, still_new, still_numbered, differing_stop, differing_all, nil_from_length, None_from_is_some}
use Rattle.sim_scenario.proofs.hosts.number_hosts.Goals as goal
use Rattle.sim_scenario.proofs.hosts.number_hosts.Goals.{then-number-servers, else-number-servers}

pub overflow_cast-number : goal.overflow_cast-number
overflow_cast-number c =
    let most = few c.loop-name.hosts.entries (into_iter_items c.loop-name.name-iterator) c.args.names.items c.loop-name.invariant.names in
    let size : length c.args.names.items ≤ 32 = omega (arith, c.args.names.ok.0, c.requires) in
    omega (arith, most, size, c.len-number.ensures.len)

pub returns-then-is_some-clause-differing : goal.returns-then-is_some-clause-differing
returns-then-is_some-clause-differing c =
    let hosts = c.loop-name.hosts.entries in
    let old : is_some (get string_eq c.loop-name.hosts c.in-Some.name) ≡ true = ap is_some (sym c.in_ok-insert.ensures.old) ∙ sym c.is_some.ensures ∙ c.if-is_some.true in
    elim c.if-number-servers.branch [
      | then-number-servers w ↦ λ _.
          rw w.key-is (differing_stop c.args.servers hosts c.in-Some.name _ _ _ true c.in-Some.ensures.steps.0 old c.loop-name.invariant.repeated
          (lt-ltb (length hosts) c.args.servers (omega (arith, w.if-number-servers.true, c.len-number.ensures.len))))
      | else-number-servers w ↦ λ _.
          rw w.key-is (differing_stop c.args.servers hosts c.in-Some.name _ _ _ false c.in-Some.ensures.steps.0 old c.loop-name.invariant.repeated
          (le-ltb (length hosts) c.args.servers (omega (arith, w.if-number-servers.false, c.len-number.ensures.len))))
    ]

pub loop-name-preserved : goal.loop-name-preserved
loop-name-preserved c =
    let hosts = c.loop-name.hosts in
    let fresh : is_some (get string_eq hosts c.in-Some.name) ≡ false = ap is_some (sym c.in_ok-insert.ensures.old) ∙ sym c.is_some.ensures ∙ c.if-is_some.false in
    let host : Host = (c.in-Some.name, c.len-number.result) in
    let added : c.insert.new.self.entries ≡ hosts.entries ++ host ∷ [] =
    c.in_ok-insert.ensures.entries ∙ insert_entry-new string_eq hosts c.in-Some.name c.len-number.result (None_from_is_some _ fresh) in
    record {
      can_next = tt;
      is_finite = tt;
      names = placed hosts.entries _ host _ _ _ added c.in-Some.ensures.steps.0 c.loop-name.invariant.names;
      repeated = still_new hosts.entries _ host _ _ added c.in-Some.ensures.steps.0 fresh ∙ c.loop-name.invariant.repeated;
      numbered = still_numbered hosts.entries _ host added c.len-number.ensures.len c.loop-name.invariant.numbered;
    }

pub returns-clause-differing : goal.returns-clause-differing
returns-clause-differing c =
    let left = into_iter_items c.loop-name.name-iterator in
    let none : left ≡ [] = nil_from_length left (sym c.loop-name.name-iterator.rest.ok.0 ∙ c.in-None.ensures.steps.0) in
    differing_all c.args.servers c.loop-name.hosts.entries left _ none c.loop-name.invariant.names c.loop-name.invariant.repeated
