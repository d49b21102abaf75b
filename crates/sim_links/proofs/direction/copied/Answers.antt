use Rattle.std.proofs.Common.{◌≡◌, ◌∙◌, refl}
use Rattle.std.proofs.lemmas.Fn.{says_at}
use Rattle.std.proofs.lemmas.List.{take_all}
use Rattle.std.proofs.lemmas.Result.{IfOk-at_ok}
use Rattle.sim_links.proofs.Copies.{next_copied}
use Rattle.sim_links.proofs.direction.copied.Goals as goal

pub loop-message-preserved : goal.loop-message-preserved
loop-message-preserved g c =
    let equal : c.in_ok-copy.copy ≡ c.message-item.result =
    IfOk-at_ok (λ copy. copy ≡ c.message-item.result) c.in_ok-copy.was (c.requires.equal _ _ (says_at g.F.Fn c.each.ensures refl)) in
    record {
      items = next_copied c.loop-message.copies.items c.args.messages.now c.push_reserved.new.self.items c.loop-message.message-index
          c.in_ok-copy.copy c.message-item.result c.loop-message.invariant.items c.push_reserved.ensures.items equal c.message-item.is
          c.loop-message-test.true;
      room = c.push_reserved.ensures.capacity ∙ c.loop-message.invariant.room;
    }

pub loop-message-init : goal.loop-message-init
loop-message-init g c = record { items = c.in_ok-copies.ensures.items; room = c.in_ok-copies.ensures.exact }

pub returns : goal.returns
returns g c = c.loop-message.invariant.items ∙ take_all c.loop-message.message-index c.args.messages.now c.loop-message-test.false
