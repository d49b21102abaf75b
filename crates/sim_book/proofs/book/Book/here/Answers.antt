use Rattle.std.proofs.Common.{◌≡◌, ◌<◌, length, take, Some, true, refl, sym, ap, ◌∙◌, subst, arith}
use Rattle.sim_world.specs.Events.{rules, run}
use Rattle.sim_book.specs.Book.{branch}
use Rattle.sim_book.specs.Headline.{is_warm, IsWorldOf}
use Rattle.sim_book.specs.Kept.{Kept, BookView, all_shown}
use Rattle.sim_book.proofs.Headlines.{headline_at, is_warm_at, place_at}
use Rattle.sim_book.proofs.book.Book.here.Goals as goal

pub returns-clause-headline : goal.returns-clause-headline
returns-clause-headline g c =
    let i = c.self.inside in
    let w = c.here.result.now.world in
    let k = c.index-kept.result.now in
    let there : c.args.b < length i.branches.items = omega arith in
    let ran = subst (λ (x : Kept). run (rules g.N.Node.laws g.N.Node.PROBES x.tape.scenario) (take x.tape.place x.tape.events) ≡ Some w) c.kept.view_is c.here.ensures.run in
    subst (λ (v : BookView). IsWorldOf (rules g.N.Node.laws g.N.Node.PROBES v.scenario) (branch c.args.b (all_shown v.kept)) w) c.self.view_is
    (headline_at g.N.Node.laws g.N.Node.PROBES i.scenario i.branches.items c.args.b k w there c.index-kept.ensures c.self.invariant.same ran)

pub returns-clause-age : goal.returns-clause-age
returns-clause-age g c =
    let i = c.self.inside in
    let there : c.args.b < length i.branches.items = omega arith in
    c.here.ensures.age ∙ ap (λ (x : Kept). x.tape.place) c.kept.view_is
    ∙ sym (place_at i.branches.items c.args.b c.index-kept.result.now there c.index-kept.ensures)
    ∙ ap (λ (v : BookView). (branch c.args.b (all_shown v.kept)).place) c.self.view_is

pub returns-clause-there : goal.returns-clause-there
returns-clause-there g c =
    let i = c.self.inside in
    let there : c.args.b < length i.branches.items = omega arith in
    let warm : is_warm c.args.b c.args.self.now.kept ≡ true =
    ap (λ (v : BookView). is_warm c.args.b v.kept) (sym c.self.view_is) ∙ is_warm_at i.branches.items c.args.b c.index-kept.result.now there c.index-kept.ensures
    ∙ ap (λ (x : Kept). x.tape.warm) (sym c.kept.view_is) ∙ sym c.warm.ensures.value ∙ c.if-not-warm.false in
    (λ _. warm, λ _. refl)
