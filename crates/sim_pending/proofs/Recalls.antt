-- The newest messages are taken out one after another.
use Rattle.std.specs.Prelude.{◌≡◌, ℕ, zero, suc, ◌-◌, ◌<◌, List, [], ◌∷◌, Option, Some, None}
use Rattle.std.proofs.Common.{sym, ap, ◌∙◌, subst, arith}
use Rattle.sim_queue.specs.declared.Item.{Item}
use Rattle.sim_queue.specs.Pending.{Pending, uninsert, uninsert_all, newest}
use Rattle.sim_pending.specs.Occurrence.{Body, Occurrence}
use Rattle.sim_pending.specs.Recall.{AreNewest, newest_messages, before_item, before_body}

module _ {Msg : Type 0} (a b : ℕ) where
  pub newest_rest : (n : ℕ) (q : Pending (Occurrence Msg)) → 0 < n → AreNewest n a b q → AreNewest (n - 1) a b (uninsert q)
  newest_rest zero q lt are = absurd (omega arith)
  newest_rest (suc n) q lt are = let e : suc n - 1 ≡ n = omega arith in subst (λ k. AreNewest k a b (uninsert q)) (sym e) are.2

module _ {Msg : Type 0} where
  pub uninsert_rest : (n : ℕ) (q : Pending (Occurrence Msg)) → 0 < n → uninsert_all (n - 1) (uninsert q) ≡ uninsert_all n q
  uninsert_rest zero q lt = absurd (omega arith)
  uninsert_rest (suc n) q lt = let e : suc n - 1 ≡ n = omega arith in ap (λ k. uninsert_all k (uninsert q)) e

  before_more : (o : Option (Item (Occurrence Msg))) (m : Msg) (ms : List Msg) → before_item o [] ≡ m ∷ [] → before_item o ms ≡ m ∷ ms
  before_more None m ms e = cc
  before_more (Some x) m ms e = body x.body.body e
    where
      body : (y : Body Msg) → before_body y [] ≡ m ∷ [] → before_body y ms ≡ m ∷ ms
      body Body.Start f = cc
      body Body.Timer f = cc
      body (Body.Message sender msg) f = let same : msg ≡ m = cc in ap (λ z. z ∷ ms) same
      body (Body.Sync count) f = cc

  pub messages_rest : (n : ℕ) (q : Pending (Occurrence Msg)) (m : Msg) (ms : List Msg) → 0 < n → newest_messages 1 q [] ≡ m ∷ []
      → newest_messages (n - 1) (uninsert q) (m ∷ ms) ≡ newest_messages n q ms
  messages_rest zero q m ms lt one = absurd (omega arith)
  messages_rest (suc n) q m ms lt one =
      let e : suc n - 1 ≡ n = omega arith in
      ap (λ k. newest_messages k (uninsert q) (m ∷ ms)) e ∙ ap (newest_messages n (uninsert q)) (sym (before_more (newest q) m ms one))
