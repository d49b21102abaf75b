use Rattle.std.proofs.Common.{◌∙◌, ◌++◌, [], ◌∷◌, ap, arith}
use Rattle.sim_disk.specs.Disk.{written}
use Rattle.sim_disk.specs.Change.{disk_in}
use Rattle.sim_disk.proofs.Fit.{IsDisk-written, one_added, without_added}
use Rattle.sim_disk.proofs.Disk.write.Goals as goal

pub invariant_of-self-2 : goal.invariant_of-self-2
invariant_of-self-2 c =
    let few = rw (← c.self.view_is) at c.requires.room in
    rw (c.in_ok-add.ensures.ok, c.new.ensures)
    (IsDisk-written _ _ _ c.self.invariant (omega arith) (omega arith) (let b = c.if-from-bytes.false in omega arith) few)

pub returns-clause-ok : goal.returns-clause-ok
returns-clause-ok c =
    let content = c.self.inside.content in
    ap (λ writes. record { stable = content.stable.items; writes = writes; asked = content.asked })
    (c.in_ok-add.ensures.ok ∙ ap (λ w. content.writes.items ++ w ∷ []) c.new.ensures)
    ∙ ap (written c.args.offset c.args.bytes.now) c.self.view_is

pub returns-clause-fits : goal.returns-clause-fits
returns-clause-fits c = one_added (disk_in c.self.inside.content) c.new.result c.add.new.writes.items c.self.invariant c.in_ok-add.ensures.ok

pub returns-clause-back : goal.returns-clause-back
returns-clause-back c = without_added (disk_in c.self.inside.content) c.new.result c.add.new.writes.items c.in_ok-add.ensures.ok ∙ c.self.view_is
