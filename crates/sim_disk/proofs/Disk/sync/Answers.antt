use Rattle.std.proofs.Common.{◌≡◌, ◌≤◌, ◌∙◌, ap, sym, subst}
use Rattle.sim_disk.specs.Change.{disk_in}
use Rattle.sim_disk.specs.Disk.{Disk, IsDisk, synced}
use Rattle.sim_disk.proofs.Fit.{IsDisk-synced}
use Rattle.sim_disk.proofs.Disk.sync.Goals as goal

pub invariant_of-self : goal.invariant_of-self
invariant_of-self c =
    subst IsDisk (sym (ap disk_in (c.swap.ensures.x_after ∙ c.deref_mut-2.ensures.value) ∙ c.in_ok-become_synced.ensures))
    (IsDisk-synced c.args.count _ c.self.invariant (rw (← c.self.view_is) at c.requires))

pub invariant_of-result-2 : goal.invariant_of-result-2
invariant_of-result-2 c = subst IsDisk (sym (ap disk_in c.swap.ensures.y_after)) c.self.invariant

pub returns : goal.returns
returns c =
    let count = c.args.count in
    let after : disk_in c.swap.new.x ≡ synced count (disk_in c.self.inside.content) =
    ap disk_in (c.swap.ensures.x_after ∙ c.deref_mut-2.ensures.value) ∙ c.in_ok-become_synced.ensures in
    let kept : disk_in c.swap.new.y ≡ disk_in c.self.inside.content = ap disk_in c.swap.ensures.y_after in
    record {
      ok = after ∙ ap (synced count) c.self.view_is;
      fits = (subst (λ (d : Disk). count ≤ d.asked) (sym (kept ∙ c.self.view_is)) c.requires, after ∙ ap (synced count) (sym kept));
      back = kept ∙ c.self.view_is;
      err = tt;
    }
