-- The pending items in a store.
use Rattle.std.specs.Prelude.{◌+◌, ◌^◌, ◌≤◌, length}
use Rattle.sim_queue.specs.declared.store.Store.{Store}
use Rattle.sim_queue.specs.Pending.{Pending}
use Rattle.sim_queue.specs.Items.{pending}

abbrev pub pending_in : {B : Type 0} → Store B → Pending B
pending_in s = pending s.slots.base s.slots.items

-- the next serial is at most 2 ^ 40
abbrev pub IsKeyed : {B : Type 0} → Store B → Type 0
IsKeyed s = s.slots.base + length s.slots.items ≤ 2 ^ 40
