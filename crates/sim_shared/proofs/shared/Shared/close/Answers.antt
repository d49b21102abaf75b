use Rattle.std.proofs.Common.{◌≡◌, ℕ, List, slice_index_or, sym, ap, subst, ◌∙◌}
use Rattle.sim_world.specs.Events.{rules}
use Rattle.sim_book.specs.declared.Entry.{Entry}
use Rattle.sim_book.specs.Kept.{all_shown}
use Rattle.sim_book.specs.History.{IsLegal, of_session}
use Rattle.sim_lock.specs.Entries.{Begins}
use Rattle.sim_lock.specs.Seats.{session, seen}
use Rattle.sim_shared.proofs.shared.Shared.close.Goals as goal

pub returns-clause-legal : goal.returns-clause-legal
returns-clause-legal g c =
    let book = c.close-book.result.book in
    let same = c.close-book.ensures.scenario ∙ ap (λ v. v.scenario) c.self.view_is in (
      all_shown book.kept,
      subst (λ s. IsLegal (rules g.N.Node.laws g.N.Node.PROBES s) c.into_entries.result.items (all_shown book.kept)) same c.into_entries.ensures.legal,
    )

pub returns-clause-mine : goal.returns-clause-mine
returns-clause-mine g c = λ k d lt.
    ap (λ (l : List Entry). of_session (session (slice_index_or c.args.seats.items k d)) l) c.into_entries.ensures.value ∙ c.close-book.ensures.mine k d lt

pub returns-clause-others : goal.returns-clause-others
returns-clause-others g c = λ k apart. ap (λ (l : List Entry). of_session k l) c.into_entries.ensures.value ∙ c.close-book.ensures.others k apart

pub returns-clause-seen : goal.returns-clause-seen
returns-clause-seen g c = λ k d lt.
    subst (λ (l : List Entry). Begins (seen (slice_index_or c.args.seats.items k d)) l) (sym c.into_entries.ensures.value) (c.close-book.ensures.seen k d lt)
