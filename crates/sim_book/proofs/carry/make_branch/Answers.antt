use Rattle.std.proofs.Common.{◌≡◌, ◌≤◌, List, length, take, get_or, arith, sym, ap, ◌∙◌, subst}
use Rattle.sim_world.specs.Events.{rules}
use Rattle.sim_book.specs.Kept.{Kept, all_shown, shown}
use Rattle.sim_book.specs.Book.{empty_branch}
use Rattle.sim_book.specs.History.{IsTurn}
use Rattle.sim_watch.specs.declared.command.Command.TheVariants as command
use Rattle.sim_book.specs.declared.Reply.TheVariants as reply
use Rattle.std.proofs.lemmas.List.Elements.{All-push}
use Rattle.sim_book.specs.BookOf.{IsKept, AllKept}
use Rattle.sim_book.specs.declared.Refusal.TheVariants as refusal
use Rattle.sim_book.specs.Headline.{AreBranches}
use Rattle.sim_book.proofs.Headlines.{branches_push}
use Rattle.sim_book.proofs.Books.{branch_made, branch_wants}
use Rattle.sim_book.proofs.carry.make_branch.Goals as goal

pub returns-in-Ok-push-clause-turn : goal.returns-in-Ok-push-clause-turn
returns-in-Ok-push-clause-turn g c = λ s.
    let ks = c.args.branches.now.items in
    let k = c.index-kept.result.now in
    let at : k ≡ get_or ks c.args.b k = c.index-kept.ensures in
    let known : c.args.p ≤ length k.tape.events = omega (arith, ap (λ (x : Kept). length x.tape.events) c.kept.view_is, c.len.ensures.value, c.if-len-p.false) in
    let within : c.args.p ≤ length (get_or ks c.args.b k).tape.events = subst (λ (x : Kept). c.args.p ≤ length x.tape.events) at known in
    let made : shown c.in-Ok.made ≡ record empty_branch { events = take c.args.p (get_or ks c.args.b k).tape.events; place = c.args.p } =
    c.in-Ok.ensures.shown ∙ ap (λ (x : Kept). record empty_branch { events = take c.args.p x.tape.events; place = c.args.p }) at in
    subst (λ (xs : List Kept). IsTurn (rules g.N.Node.laws g.N.Node.PROBES s) (all_shown ks) (command.Branch c.args.b c.args.p) (reply.Made c.len-number.result) (all_shown xs))
    (sym c.in-Ok-push.ensures.items)
    (branch_made (rules g.N.Node.laws g.N.Node.PROBES s) ks c.in-Ok.made k c.args.b c.args.p c.len-number.result c.requires within (omega arith) (omega arith) made)

pub returns-in-Ok-push-clause-same : goal.returns-in-Ok-push-clause-same
returns-in-Ok-push-clause-same g c = λ s all.
    let ks = c.args.branches.now.items in
    let k = c.index-kept.result.now in
    let one : IsKept g.N.Node.PROBES s k = subst (λ (x : Kept). IsKept g.N.Node.PROBES s x) (sym c.index-kept.ensures) (all c.args.b k c.requires) in
    subst (λ (xs : List Kept). AllKept g.N.Node.PROBES s xs) (sym c.in-Ok-push.ensures.items) (All-push (IsKept g.N.Node.PROBES s) ks c.in-Ok.made all (c.in-Ok.ensures.kept s one))

pub returns-in-Err-push-clause-turn : goal.returns-in-Err-push-clause-turn
returns-in-Err-push-clause-turn g c = λ s.
    let r = rules g.N.Node.laws g.N.Node.PROBES s in
    let ks = c.args.branches.now.items in
    let k = c.index-kept.result.now in
    let at : k ≡ get_or ks c.args.b k = c.index-kept.ensures in
    let known : c.args.p ≤ length k.tape.events = omega (arith, ap (λ (x : Kept). length x.tape.events) c.kept.view_is, c.len.ensures.value, c.if-len-p.false) in
    let within : c.args.p ≤ length (get_or ks c.args.b k).tape.events = subst (λ (x : Kept). c.args.p ≤ length x.tape.events) at known in
    subst (λ (xs : List Kept). IsTurn r (all_shown ks) (command.Branch c.args.b c.args.p) (reply.Refused refusal.NoMemory) (all_shown xs))
    (sym c.in-Err-push.ensures.items) (branch_wants r ks k c.args.b c.args.p c.requires within (omega arith))

pub returns-in-Err-push-clause-same : goal.returns-in-Err-push-clause-same
returns-in-Err-push-clause-same g c = λ s all. subst (λ (xs : List Kept). AllKept g.N.Node.PROBES s xs) (sym c.in-Err-push.ensures.items) all

pub returns-in-Ok-push-clause-branches : goal.returns-in-Ok-push-clause-branches
returns-in-Ok-push-clause-branches g c = λ s all branches.
    let ks = c.args.branches.now.items in
    let k = c.index-kept.result.now in
    let one : IsKept g.N.Node.PROBES s k = subst (λ (x : Kept). IsKept g.N.Node.PROBES s x) (sym c.index-kept.ensures) (all c.args.b k c.requires) in
    subst (λ (xs : List Kept). AreBranches (rules g.N.Node.laws g.N.Node.PROBES s) (all_shown xs)) (sym c.in-Ok-push.ensures.items)
    (branches_push g.N.Node.laws g.N.Node.PROBES s ks c.in-Ok.made (c.in-Ok.ensures.kept s one).scenario c.in-Ok.ensures.branch branches)

pub returns-in-Err-push-clause-branches : goal.returns-in-Err-push-clause-branches
returns-in-Err-push-clause-branches g c = λ s all branches.
    subst (λ (xs : List Kept). AreBranches (rules g.N.Node.laws g.N.Node.PROBES s) (all_shown xs)) (sym c.in-Err-push.ensures.items) branches
