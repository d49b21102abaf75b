use Rattle.std.proofs.Common.{◌≡◌, ◌∙◌, ap}
use Rattle.sim_disk.specs.Change.{disk_in}
use Rattle.sim_disk.specs.Spans.{disk_at}
use Rattle.sim_disk.proofs.Spans.{inside, disk_kept, disk_got}
use Rattle.sim_disk.proofs.packed.PackedDisks.get.Goals as goal

marked : (c : goal.In_ok-content) → disk_in c.in_ok-content.content ≡ disk_at c.self.inside.bytes.items c.self.inside.writes.items c.index-span.result.now
marked c =
    c.in_ok-content.ensures ∙ ap (λ bytes. disk_at bytes c.deref-2.result.now c.index-span.result.now) c.deref.ensures.value
    ∙ ap (λ writes. disk_at c.self.inside.bytes.items writes c.index-span.result.now) c.deref-2.ensures.value

pub invariant_of-result : goal.invariant_of-result
invariant_of-result c =
    let p = c.self.inside in
    disk_kept p.bytes.items p.writes.items p.spans.items c.args.place c.index-span.result.now (disk_in c.in_ok-content.content) c.self.invariant
    (inside p.bytes.items p.writes.items p.spans.items c.args.place c.args.self.now c.self.view_is c.requires) c.index-span.ensures (marked c)

pub returns : goal.returns
returns c =
    let p = c.self.inside in
    disk_got p.bytes.items p.writes.items p.spans.items c.args.place c.index-span.result.now (disk_in c.in_ok-content.content) c.args.self.now c.self.view_is
    c.requires c.index-span.ensures (marked c)
