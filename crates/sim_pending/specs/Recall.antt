-- The newest messages of a queue, which the undo of a release takes back.
use Rattle.std.specs.Prelude.{◌≡◌, ℕ, zero, suc, List, ◌∷◌, Option, Some, None, IfSome}
use Rattle.sim_queue.specs.declared.Item.{Item}
use Rattle.sim_queue.specs.Pending.{Pending, uninsert, newest, HasNewest}
use Rattle.sim_pending.specs.Occurrence.{Body, Occurrence}

module _ {Msg : Type 0} where
  -- the message of an occurrence, if it is one, and then these
  abbrev pub before_body : Body Msg → List Msg → List Msg
  before_body (Body.Message sender m) ms = m ∷ ms
  before_body _ ms = ms

  abbrev pub before_item : Option (Item (Occurrence Msg)) → List Msg → List Msg
  before_item None ms = ms
  before_item (Some x) ms = before_body x.body.body ms

  -- the messages of the n newest occurrences, the oldest first, and then these
  abbrev pub newest_messages : ℕ → Pending (Occurrence Msg) → List Msg → List Msg
  newest_messages zero q ms = ms
  newest_messages (suc n) q ms = newest_messages n (uninsert q) (before_item (newest q) ms)

  -- the occurrence is a message from a to b
  abbrev pub IsBetween : ℕ → ℕ → Occurrence Msg → Type 0
  IsBetween a b o = (o.host ≡ b) × (elim o.body [ Body.Message sender m ↦ (sender ≡ a) | _ ↦ ⊥ ])

  -- the n newest occurrences are messages from a to b
  abbrev pub AreNewest : ℕ → ℕ → ℕ → Pending (Occurrence Msg) → Type 0
  AreNewest zero a b q = Unit {0}
  AreNewest (suc n) a b q =
      HasNewest q × IfSome (newest q) (λ x. IsBetween a b x.body) × AreNewest n a b (uninsert q)
