-- The occurrences that a crash takes out of the queue, one after another.
use Rattle.std.specs.Prelude.{◌≡◌, ℕ, ◌+◌, ◌<◌, nat_le, ◌&&◌, Option, Some, None}
use Rattle.std.specs.List.{find}
use Rattle.sim_queue.specs.declared.Item.{Item}
use Rattle.sim_queue.specs.Pending.{Pending, take}
use Rattle.sim_node.specs.Node.{NodeRecords}
use Rattle.sim_pending.specs.Occurrence.{Occurrence, is_lost_by_crash}
use Rattle.sim_world.specs.World.{World}
use Rattle.sim_world.specs.inside.Trail.{Changes, Extends}

-- the first occurrence, from a serial on, that a crash of the host takes out
abbrev pub first_lost : {Msg : Type 0} → ℕ → ℕ → Pending (Occurrence Msg)
    → Option (Item (Occurrence Msg))
first_lost h from q = find (λ x. nat_le from x.serial && is_lost_by_crash h x) q.items

-- it is taken out, and the search for the next goes on after it
pub record PurgedOne {Msg : Type 0} (h from : ℕ) (old : Pending (Occurrence Msg)) (next : ℕ)
    (new : Pending (Occurrence Msg)) : Type 0 where
  pub item : Item (Occurrence Msg)
  pub found : first_lost h from old ≡ Some item
  pub next_is : next ≡ item.serial + 1
  pub within : item.serial < old.next_serial
  pub after : new ≡ take item.serial old

module _ {State Msg Undo : Type 0} (records : NodeRecords State Undo) where
  -- the changes between two trails lead back from the present queue to the earlier one; the rest of
  -- the world is unchanged
  abbrev pub ExtendsPending : Changes State Msg Undo → Pending (Occurrence Msg)
      → Changes State Msg Undo → Pending (Occurrence Msg) → Type 0
  ExtendsPending old was new now =
      (w : World State Msg) → Extends records old (record w { queue = was }) new
      (record w { queue = now })

abbrev pub Purged : {Msg : Type 0} → ℕ → ℕ → Pending (Occurrence Msg) → Option ℕ
    → Pending (Occurrence Msg) → Type 0
Purged h from old None new = (first_lost h from old ≡ None) × (new ≡ old)
Purged h from old (Some next) new = PurgedOne h from old next new
