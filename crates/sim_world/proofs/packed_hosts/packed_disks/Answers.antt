use Rattle.std.proofs.Common.{◌≡◌, ◌∙◌, ◌+◌, ◌<◌, ◌++◌, ◌∷◌, [], ap, sym, length, map, take, arith}
use Rattle.std.proofs.lemmas.List.{take_all, take_more, map-append}
use Rattle.sim_disk.specs.Disk.{Disk}
use Rattle.sim_world.specs.declared.host.Host.{Host}
use Rattle.sim_world.proofs.packed_hosts.packed_disks.Goals as goal

pub loop-host-preserved : goal.loop-host-preserved
loop-host-preserved g c =
    let hosts = c.args.hosts.now in
    let i = c.loop-host.host-index in
    let host = c.host-item.result in
    let disk : Host g.row.S.Denot → Disk = λ h. h.disk in
    let inside : i < length hosts = omega arith in
    let more : take (i + 1) hosts ≡ take i hosts ++ host ∷ [] = cc (c.host-item.is, take_more hosts i host inside) in
    c.in_ok-push.ensures.ok
    ∙ (ap (λ ds. ds ++ host.disk ∷ []) c.loop-host.invariant ∙ sym (ap (map disk) more ∙ map-append disk (take i hosts) (host ∷ [])))

pub returns : goal.returns
returns g c = c.loop-host.invariant ∙ ap (map (λ h. h.disk)) (take_all c.loop-host.host-index c.args.hosts.now c.loop-host-test.false)
