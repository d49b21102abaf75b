use Rattle.std.proofs.Common.{rules, ◌≡◌, ◌∙◌, ◌+◌, ◌<◌, ◌≤◌, ◌++◌, ◌∷◌, [], Bool, ap, sym, length, take, is_some}
use Rattle.std.specs.List.{count_by}
use Rattle.std.proofs.lemmas.List.{take_more, take_all}
use Rattle.std.proofs.lemmas.Option.{get_or_from_slice_get}
use Rattle.sim_world.specs.declared.host.Host.{Host}
use Rattle.sim_world.proofs.Copying.{counted-more, work-more}
use Rattle.sim_world.proofs.Packing.{hosts-count}
use Rattle.sim_world.proofs.packed_hosts.PackedHosts.hosts.Goals as goal

pub host-requires : goal.host-requires
host-requires g c =
    let kept = c.self.inside.kept.items in
    let count : length c.args.self.now.hosts ≡ length kept =
    sym (ap (λ p. length p.hosts) c.self.view_is) ∙ hosts-count kept c.self.inside.disks c.self.invariant in
    search rules

pub loop-number-preserved : goal.loop-number-preserved
loop-number-preserved g c =
    let hosts = c.args.self.now.hosts in
    let kept = c.self.inside.kept.items in
    let i = c.loop-number.number in
    let host = c.in_ok-host.field-0 in
    let test : Host g.row.N.Denot → Bool = λ x. is_some x.node in
    let count : length hosts ≡ length kept = sym (ap (λ p. length p.hosts) c.self.view_is) ∙ hosts-count kept c.self.inside.disks c.self.invariant in
    let inside : i < length hosts = search rules in
    let more : take (i + 1) hosts ≡ take i hosts ++ host ∷ [] = take_more hosts i host inside ∙ ap (λ h. take i hosts ++ h ∷ []) (get_or_from_slice_get hosts i host host c.in_ok-host.ensures.host) in
    record {
      hosts = c.in_ok-push.ensures.items ∙ cc (c.loop-number.invariant.hosts, more);
      work = work-more (test host) (g.N.Meter.Meter.work c.args.meter.now) (g.N.Meter.Meter.work c.loop-number.meter) _
          (count_by test (take i hosts)) (count_by test (take (i + 1) hosts))
          c.loop-number.invariant.work c.in_ok-host.ensures.work (ap (count_by test) more ∙ counted-more test (take i hosts) host);
    }

pub returns-clause-hosts : goal.returns-clause-hosts
returns-clause-hosts g c =
    let hosts = c.args.self.now.hosts in
    let kept = c.self.inside.kept.items in
    let count : length hosts ≡ length kept = sym (ap (λ p. length p.hosts) c.self.view_is) ∙ hosts-count kept c.self.inside.disks c.self.invariant in
    let all : length hosts ≤ c.loop-number.number = search rules in
    c.loop-number.invariant.hosts ∙ take_all c.loop-number.number hosts all

pub returns-clause-work : goal.returns-clause-work
returns-clause-work g c =
    let hosts = c.args.self.now.hosts in
    let kept = c.self.inside.kept.items in
    let count : length hosts ≡ length kept = sym (ap (λ p. length p.hosts) c.self.view_is) ∙ hosts-count kept c.self.inside.disks c.self.invariant in
    let all : length hosts ≤ c.loop-number.number = search rules in
    c.loop-number.invariant.work ∙ ap (λ hs. record (g.N.Meter.Meter.work c.args.meter.now) {
      copies = (g.N.Meter.Meter.work c.args.meter.now).copies + count_by (λ host. is_some host.node) hs;
    }) (take_all c.loop-number.number hosts all)
