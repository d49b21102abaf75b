use Rattle.std.proofs.Common.{◌≡◌, Bool, true, false, List, sym, ap, ◌∙◌, subst, take, drop}
use Rattle.std.specs.List.{list_any}
use Rattle.sim_world.specs.Events.{rules}
use Rattle.sim_shrink.specs.Choices.{kept_by, without}
use Rattle.sim_shrink.specs.Shrunk.{failing}
use Rattle.sim_shrink.specs.Passing.{IsTried}
use Rattle.sim_shrink.proofs.Trying.{tried_dropped, tried_kept}
use Rattle.sim_shrink.proofs.case.Case.drop_part.Goals as goal

pub returns-in-Some : goal.returns-in-Some
returns-in-Some g c =
    let case = c.args.self.now in
    let r = rules g.N.Node.laws g.N.Node.PROBES case.scenario.now in
    let es = case.events.now in
    let stays = c.args.choice.stays.items in
    let from = c.args.from in
    let n = c.args.count in
    let some : list_any (λ (b : Bool). b) (take n (drop from stays)) ≡ true =
    ap (λ (xs : List Bool). list_any (λ (b : Bool). b) (take n (drop from xs))) (sym c.deref.ensures.value) ∙ sym c.has_left.ensures ∙ c.if-not-has_left.false in record {
      tried =
          subst (λ (xs : List Bool). IsTried r case.cond.now es stays from n xs true) (sym (ap (λ v. v.items) c.after_trial.ensures))
          (tried_dropped r case.cond.now es stays c.in_ok-fewer.fewer.items from n c.in-Some.field-0 c.requires.within some (c.in_ok-fewer.ensures ∙ ap (without from n) c.deref-2.ensures.value)
          (sym c.in-Some.is ∙ c.in_ok-trial.ensures ∙ ap (λ (xs : List Bool). failing r case.cond.now (kept_by xs es)) c.deref-3.ensures.value));
    }

pub returns-in-None : goal.returns-in-None
returns-in-None g c =
    let case = c.args.self.now in
    let r = rules g.N.Node.laws g.N.Node.PROBES case.scenario.now in
    let es = case.events.now in
    let stays = c.args.choice.stays.items in
    let from = c.args.from in
    let n = c.args.count in record {
      tried =
          subst (λ (xs : List Bool). IsTried r case.cond.now es stays from n xs false) (sym (ap (λ v. v.items) c.after_trial-in-None.ensures))
          (tried_kept r case.cond.now es stays c.in_ok-fewer.fewer.items from n c.requires.within c.requires.fails (c.in_ok-fewer.ensures ∙ ap (without from n) c.deref-2.ensures.value)
          (sym c.in-None.is ∙ c.in_ok-trial.ensures ∙ ap (λ (xs : List Bool). failing r case.cond.now (kept_by xs es)) c.deref-3.ensures.value));
    }
