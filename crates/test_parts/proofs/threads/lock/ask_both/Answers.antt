use Rattle.std.proofs.Common.{[], ◌∷◌, ◌++◌, ap, ◌∙◌}
use Rattle.std.specs.Prelude.{All}
use Rattle.test_parts.specs.declared.threads.lock.Note.{Note}
use Rattle.sim_lock.specs.Entries.{HasEntry}
use Rattle.sim_lock.specs.Seats.{IsOf, IsReceipt}
use Rattle.sim_lock.proofs.Gathering.{all_at}
use Rattle.sim_lock.proofs.Receipts.{all_then, ok_is}
use Rattle.test_parts.proofs.threads.lock.ask_both.Goals as goal

pub returns-clause-one : goal.returns-clause-one
returns-clause-one g c =
    let zero = c.in_ok-zero.zero in
    let one = c.in_ok-one.one in
    let is = c.in_ok-push-2.ensures.items ∙ ap (λ l. l ++ one ∷ []) (c.in_ok-push.ensures.items ∙ ap (λ l. l ++ zero ∷ []) c.new-seats.ensures.items) in
    let found = all_at (λ s. (r : Note) → IsReceipt s r → HasEntry (λ e. e.session) (λ e. e.number) c.close-notes.result.notes.items r) _ [] (one ∷ []) zero is c.close-notes.ensures.receipts in
    let mine = ok_is (λ r. IsOf r.0 c.in_ok-lock.lock × All (λ e. IsReceipt r.0 e) r.1.items) c.join-zero.result.0 (zero, c.in_ok-zero.zeros) c.in_ok-zero.was c.join-zero.ensures.first in
    all_then (λ r. IsReceipt zero r) (λ r. HasEntry (λ e. e.session) (λ e. e.number) c.close-notes.result.notes.items r) c.in_ok-zero.zeros.items found mine.1

pub returns-clause-two : goal.returns-clause-two
returns-clause-two g c =
    let zero = c.in_ok-zero.zero in
    let one = c.in_ok-one.one in
    let is = c.in_ok-push-2.ensures.items ∙ ap (λ l. l ++ one ∷ []) (c.in_ok-push.ensures.items ∙ ap (λ l. l ++ zero ∷ []) c.new-seats.ensures.items) in
    let found = all_at (λ s. (r : Note) → IsReceipt s r → HasEntry (λ e. e.session) (λ e. e.number) c.close-notes.result.notes.items r) _ (zero ∷ []) [] one is c.close-notes.ensures.receipts in
    let mine = ok_is (λ r. IsOf r.0 c.in_ok-lock.lock × All (λ e. IsReceipt r.0 e) r.1.items) c.join-zero.result.1 (one, c.in_ok-one.ones) c.in_ok-one.was c.join-zero.ensures.second in
    all_then (λ r. IsReceipt one r) (λ r. HasEntry (λ e. e.session) (λ e. e.number) c.close-notes.result.notes.items r) c.in_ok-one.ones.items found mine.1
