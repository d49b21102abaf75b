use Rattle.std.proofs.Common.{◌≡◌, ◌∙◌, ◌+◌, ◌<◌, ◌≤◌, ◌++◌, ◌∷◌, [], Bool, ap, sym, length, map, take, is_some, slice_index_or, None, refl, subst, arith}
use Rattle.std.specs.List.{count_by}
use Rattle.std.proofs.lemmas.List.{take_all, take_more, length_push, map-append}
use Rattle.sim_world.specs.declared.host.Host.{Host}
use Rattle.sim_world.specs.declared.packed_hosts.KeptHost.{KeptHost}
use Rattle.sim_world.specs.Acts.{copied_by}
use Rattle.sim_world.specs.inside.Packed.{hosts_in, timers_in, others_in}
use Rattle.sim_world.proofs.Copying.{counted-more, work-more}
use Rattle.sim_world.proofs.Packing.{kept-more}
use Rattle.sim_world.proofs.packed_hosts.kept_hosts.Goals as goal

pub loop-i-preserved : goal.loop-i-preserved
loop-i-preserved g c =
    let hosts = c.args.hosts.now in
    let timers = c.args.timers.now in
    let i = c.loop-i.i in
    let host = c.index-hosts-i.result in
    let timer = slice_index_or timers i None in
    let others = c.args.others.now in
    let number = slice_index_or others i 0 in
    let before = c.loop-i.kept.items in
    let k : KeptHost g.row.N.Denot = record { node = host.node; done = host.done; timer = timer; others = number } in
    let test : Host g.row.N.Denot → Bool = λ x. is_some x.node in
    let inside : i < length hosts = omega arith in
    let within : i ≤ length hosts = omega arith in
    let also : i < length timers = omega arith in
    let as_well : i < length others = omega arith in
    let more : take (i + 1) hosts ≡ take i hosts ++ host ∷ [] = cc (c.index-hosts-i.is, take_more hosts i host inside) in
    let more_timers : take (i + 1) timers ≡ take i timers ++ timer ∷ [] = take_more timers i None also in
    let more_others : take (i + 1) others ≡ take i others ++ number ∷ [] = take_more others i 0 as_well in
    let pushed : c.push_kept.new.kept.items ≡ before ++ k ∷ [] = c.in_ok-push_kept.ensures.hosts in
    record {
      hosts = ap (λ kept. hosts_in kept (map (λ h. h.disk) (take (i + 1) hosts))) pushed
          ∙ kept-more hosts i host before k c.loop-i.invariant.hosts c.loop-i.invariant.count within more
          refl;
      timers = ap timers_in pushed ∙ (map-append (λ x. x.timer) before (k ∷ [])
          ∙ (ap (λ ts. ts ++ timer ∷ []) c.loop-i.invariant.timers ∙ sym more_timers));
      others = ap others_in pushed ∙ (map-append (λ x. x.others) before (k ∷ [])
          ∙ (ap (λ ns. ns ++ number ∷ []) c.loop-i.invariant.others ∙ sym more_others));
      count = ap length pushed ∙ (length_push before k ∙ ap (λ n. n + 1) c.loop-i.invariant.count);
      work = work-more (test host) (g.N.Meter.Meter.work c.args.meter.now) (g.N.Meter.Meter.work c.loop-i.meter) _
          (count_by test (take i hosts)) (count_by test (take (i + 1) hosts))
          c.loop-i.invariant.work c.in_ok-push_kept.ensures.work (ap (count_by test) more ∙ counted-more test (take i hosts) host);
    }

pub returns-clause-hosts : goal.returns-clause-hosts
returns-clause-hosts g c =
    let kept = c.loop-i.kept.items in
    subst (λ hs. hosts_in kept (map (λ h. h.disk) hs) ≡ hs) (take_all c.loop-i.i c.args.hosts.now c.loop-i-test.false) c.loop-i.invariant.hosts

pub returns-clause-timers : goal.returns-clause-timers
returns-clause-timers g c =
    let timers = c.args.timers.now in
    let all : length timers ≤ c.loop-i.i = subst (λ n. n ≤ c.loop-i.i) (sym c.requires.timers) c.loop-i-test.false in
    c.loop-i.invariant.timers ∙ take_all c.loop-i.i timers all

pub returns-clause-others : goal.returns-clause-others
returns-clause-others g c =
    let others = c.args.others.now in
    let all : length others ≤ c.loop-i.i = subst (λ n. n ≤ c.loop-i.i) (sym c.requires.others) c.loop-i-test.false in
    c.loop-i.invariant.others ∙ take_all c.loop-i.i others all

pub returns-clause-work : goal.returns-clause-work
returns-clause-work g c =
    let before = g.N.Meter.Meter.work c.args.meter.now in
    c.loop-i.invariant.work
    ∙ ap (λ hs. copied_by (count_by (λ host. is_some host.node) hs) before) (take_all c.loop-i.i c.args.hosts.now c.loop-i-test.false)
