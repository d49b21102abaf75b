-- What can be pending for a host.
use Rattle.std.specs.Prelude.{ℕ, ◌==◌, Bool, true, false, not, ◌&&◌, Option, Some, None}
use Rattle.sim_queue.specs.declared.Item.{Item}
use Rattle.sim_node.specs.declared.Input.{Input}
use Rattle.sim_node.specs.declared.Input.TheVariants as input

-- What can be pending for a host: its start, its timer, a message from a host, a sync that covers
-- the first `count` writes of its disk.
pub data Body (Msg : Type 0) : Type 0 where
  Start : Body Msg
  Timer : Body Msg
  Message : (sender : ℕ) → (msg : Msg) → Body Msg
  Sync : (count : ℕ) → Body Msg

pub record Occurrence (Msg : Type 0) : Type 0 where
  pub host : ℕ
  pub body : Body Msg

module _ {Msg : Type 0} where
  -- the input that the host gets
  abbrev pub input_of : Body Msg → Input Msg
  input_of Body.Start = input.Start
  input_of Body.Timer = input.Timer
  input_of (Body.Message sender msg) = input.Message sender msg
  input_of (Body.Sync count) = input.Synced

  -- what is pending, given the input that a host will get; a sync covers `covered` writes
  abbrev pub body_of : ℕ → Input Msg → Body Msg
  body_of covered input.Start = Body.Start
  body_of covered input.Timer = Body.Timer
  body_of covered (input.Message sender msg) = Body.Message sender msg
  body_of covered input.Synced = Body.Sync covered

  abbrev pub occurrence_of : ℕ → ℕ → Input Msg → Occurrence Msg
  occurrence_of h covered i = record { host = h; body = body_of covered i }

  -- the number of writes that a sync covers
  abbrev pub sync_count : Body Msg → Option ℕ
  sync_count (Body.Sync count) = Some count
  sync_count _ = None

  -- whether an occurrence is a message
  abbrev pub is_message : Item (Occurrence Msg) → Bool
  is_message x = elim x.body.body [ Body.Message sender msg ↦ true | _ ↦ false ]

  -- whether it is this host's timer, and whether a crash of this host takes it out: its timer, its
  -- start, its syncs
  abbrev pub is_timer_of : ℕ → Item (Occurrence Msg) → Bool
  is_timer_of h x = (x.body.host == h) && (elim x.body.body [ Body.Timer ↦ true | _ ↦ false ])

  abbrev pub is_lost_by_crash : ℕ → Item (Occurrence Msg) → Bool
  is_lost_by_crash h x = (x.body.host == h) && not (is_message x)
