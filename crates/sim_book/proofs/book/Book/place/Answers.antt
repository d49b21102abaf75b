use Rattle.std.proofs.Common.{◌<◌, ◌≤◌, length, sym, ap, ◌∙◌, subst, arith}
use Rattle.std.proofs.lemmas.List.{length-map}
use Rattle.sim_book.specs.Book.{branch, empty_branch}
use Rattle.sim_book.specs.Kept.{Kept, BookView, shown, all_shown}
use Rattle.sim_book.proofs.Headlines.{place_at}
use Rattle.sim_book.proofs.book.Book.place.Goals as goal

pub returns-clause-value : goal.returns-clause-value
returns-clause-value g c =
    let i = c.self.inside in
    let there : c.args.b < length i.branches.items = omega arith in
    c.place.ensures.value ∙ ap (λ (x : Kept). x.tape.place) c.kept.view_is
    ∙ sym (place_at i.branches.items c.args.b c.index-kept.result.now there c.index-kept.ensures)
    ∙ ap (λ (v : BookView). (branch c.args.b (all_shown v.kept)).place) c.self.view_is

pub returns-clause-within : goal.returns-clause-within
returns-clause-within g c =
    let i = c.self.inside in
    let there : c.args.b < length i.branches.items = omega arith in
    let is = c.place.ensures.value ∙ ap (λ (x : Kept). x.tape.place) c.kept.view_is
    ∙ sym (place_at i.branches.items c.args.b c.index-kept.result.now there c.index-kept.ensures) in
    let among = (c.self.invariant.branches c.args.b empty_branch (omega (arith, there, length-map i.branches.items shown))).within in
    subst (λ (v : BookView). c.place.result ≤ length (branch c.args.b (all_shown v.kept)).events) c.self.view_is (omega (arith, is, among))
