use Rattle.std.proofs.Common.{◌≡◌, ◌∙◌, ap, sym, subst}
use Rattle.sim_disk.specs.Change.{disk_in}
use Rattle.sim_disk.specs.Disk.{Disk, IsDisk, crashed}
use Rattle.sim_disk.proofs.Fit.{IsDisk-crashed}
use Rattle.sim_disk.proofs.Disk.crash.Goals as goal

pub invariant_of-self : goal.invariant_of-self
invariant_of-self c =
    subst IsDisk (sym (ap disk_in (c.swap.ensures.x_after ∙ c.deref_mut-2.ensures.value) ∙ c.in_ok-become_crashed.ensures)) (IsDisk-crashed c.args.words.now _ c.self.invariant)

pub invariant_of-result-2 : goal.invariant_of-result-2
invariant_of-result-2 c = subst IsDisk (sym (ap disk_in c.swap.ensures.y_after)) c.self.invariant

pub returns : goal.returns
returns c =
    let after : disk_in c.swap.new.x ≡ crashed c.args.words.now (disk_in c.self.inside.content) =
    ap disk_in (c.swap.ensures.x_after ∙ c.deref_mut-2.ensures.value) ∙ c.in_ok-become_crashed.ensures in
    record {
      ok = after ∙ ap (crashed c.args.words.now) c.self.view_is;
      fits = (ap (λ (d : Disk). d.writes) after, ap (λ (d : Disk). d.asked) after);
      back = ap disk_in c.swap.ensures.y_after ∙ c.self.view_is;
      err = tt;
    }
