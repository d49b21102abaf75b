use Rattle.std.proofs.Common.{rules, ◌≡◌, ◌<◌, ◌∙◌, ap, sym, length, slice_get, Some}
use Rattle.std.proofs.lemmas.Option.{slice_get-get_or}
use Rattle.sim_world.proofs.Packing.{hosts-count, hosts-at}
use Rattle.sim_world.proofs.packed_hosts.PackedHosts.host.Goals as goal

pub index-kept-requires : goal.index-kept-requires
index-kept-requires g c =
    let kept = c.self.inside.kept.items in
    let count : length c.args.self.now.hosts ≡ length kept =
    sym (ap (λ p. length p.hosts) c.self.view_is) ∙ hosts-count kept c.self.inside.disks c.self.invariant in
    search rules

pub get-requires : goal.get-requires
get-requires g c =
    let kept = c.self.inside.kept.items in
    let count : length c.args.self.now.hosts ≡ length kept =
    sym (ap (λ p. length p.hosts) c.self.view_is) ∙ hosts-count kept c.self.inside.disks c.self.invariant in
    search rules

pub returns-clause-host : goal.returns-clause-host
returns-clause-host g c =
    let kept = c.self.inside.kept.items in
    let k = c.index-kept.result.now in
    let count : length c.args.self.now.hosts ≡ length kept =
    sym (ap (λ p. length p.hosts) c.self.view_is) ∙ hosts-count kept c.self.inside.disks c.self.invariant in
    let inside : c.args.number < length kept = search rules in
    let there : slice_get kept c.args.number ≡ Some k = slice_get-get_or kept c.args.number k inside ∙ sym (ap Some c.index-kept.ensures) in
    sym (ap (λ p. slice_get p.hosts c.args.number) c.self.view_is)
    ∙ (hosts-at kept c.self.inside.disks c.args.number k c.in_ok-disk.disk there c.in_ok-disk.ensures
    ∙ sym (ap (λ node. Some (record { node = node; disk = c.in_ok-disk.disk; done = k.done })) c.in_ok-node.ensures.node))
