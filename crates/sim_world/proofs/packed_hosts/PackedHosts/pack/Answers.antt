use Rattle.std.proofs.Common.{length, ap, sym, ◌∙◌}
use Rattle.std.proofs.lemmas.List.{length-map}
use Rattle.sim_world.proofs.Packing.{hosts-same}
use Rattle.sim_world.proofs.packed_hosts.PackedHosts.pack.Goals as goal

pub returns-clause-hosts : goal.returns-clause-hosts
returns-clause-hosts g c =
    let e = c.in_ok-kept.ensures in
    hosts-same c.in_ok-kept.kept.items c.in_ok-disks.disks c.args.hosts.now c.args.timers.now c.args.others.now c.in_ok-disks.ensures e.hosts e.timers e.others

pub returns-clause-work : goal.returns-clause-work
returns-clause-work g c = c.in_ok-kept.ensures.work

pub invariant_of-result : goal.invariant_of-result
invariant_of-result g c = ap (λ ds. length ds) c.in_ok-disks.ensures ∙ (length-map c.args.hosts.now _ ∙ sym c.in_ok-kept.ensures.count)
