use Rattle.std.proofs.Common.{◌≡◌, ◌<◌, ◌+◌, ◌-◌, ℕ, ◌∙◌, ap, sym, subst, length, Some, None}
use Rattle.std.proofs.Math.ListN.{set}
use Rattle.sim_queue.specs.Items.{items_from, pending}
use Rattle.sim_queue.specs.Pending.{Pending, put_back, IsPending, with_serial}
use Rattle.sim_queue.specs.inside.Store.{pending_in}
use Rattle.sim_queue.proofs.Laws.{not_found}
use Rattle.sim_queue.proofs.Packing.{on_ok}
use Rattle.sim_queue.proofs.Views.{empty_at, put_again}
use Rattle.sim_queue.proofs.store.Store.add_back.Goals as goal

pub fill-requires-clause-empty : goal.fill-requires-clause-empty
fill-requires-clause-empty g c =
    let s = c.widen.new.self.slots in
    let none : with_serial c.args.item.serial (items_from s.base s.items) ≡ None =
    not_found c.args.item.serial (items_from s.base s.items) (λ h. c.requires.absent (subst (λ (q : Pending _). IsPending c.args.item.serial q) c.widen.ensures.items h)) in
    rw c.base.ensures (empty_at c.args.item.serial s.base s.items c.in_ok-widen.ensures.reached none)

pub returns-clause-ok : goal.returns-clause-ok
returns-clause-ok g c =
    let s = c.widen.new.self.slots in
    let new = c.fill.new.self in
    let none : with_serial c.args.item.serial (items_from s.base s.items) ≡ None =
    not_found c.args.item.serial (items_from s.base s.items) (λ h. c.requires.absent (subst (λ (q : Pending _). IsPending c.args.item.serial q) c.widen.ensures.items h)) in
    let next : s.base + length s.items ≡ (pending_in c.args.self.now).next_serial = ap (λ (q : Pending _). q.next_serial) c.widen.ensures.items in
    let made : c.args.item.serial < (pending_in c.args.self.now).next_serial = c.requires.made in
    let below : c.args.item.serial < s.base + length s.items = subst (λ (n : ℕ). c.args.item.serial < n) (sym next) made in
    on_ok c.fill.result
    (λ e. ap (λ (n : ℕ). pending n new.items) c.fill.ensures.base
    ∙ put_again c.args.item s.base s.items new.items c.in_ok-widen.ensures.reached below none
    (e ∙ ap (λ (n : ℕ). set s.items (c.args.item.serial - n) (Some (c.args.item.due, c.args.item.body))) c.base.ensures)
    ∙ ap (λ (q : Pending _). put_back c.args.item q) c.widen.ensures.items)
    c.fill.ensures.ok
