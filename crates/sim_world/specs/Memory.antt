-- The events and effects that take no memory, and so cannot fail for want of it.
use Rattle.std.specs.Prelude.{ℕ, ◌+◌, ◌==◌, nat_lt, Bool, true, false, not, ◌&&◌, ◌||◌, length}
use Rattle.sim_links.specs.declared.LinkState.{LinkState}
use Rattle.sim_links.specs.declared.LinkState.TheVariants as state
use Rattle.sim_links.specs.Link.{link}
use Rattle.sim_node.specs.Effects.{Effect}
use Rattle.sim_events.specs.declared.Event.{Event}
use Rattle.sim_events.specs.declared.Event.TheVariants as event
use Rattle.sim_events.specs.declared.Fault.TheVariants as fault
use Rattle.sim_world.specs.Acts.{acts}
use Rattle.sim_world.specs.World.{World, host_at, runs, is_full}

abbrev pub is_cut : LinkState → Bool
is_cut state.Cut = true
is_cut _ = false

module _ {State Msg : Type 0} where
  -- A sent message is dropped if 4096 are in flight and held, or if it goes to another host over a
  -- cut direction.
  abbrev pub is_dropped : ℕ → ℕ → World State Msg → Bool
  is_dropped from to w = is_full w || (not (from == to) && is_cut (link from to w.links).state)

  -- An effect of a host that changes nothing: a message that is dropped, a write past the end of
  -- the disk, being done once more.
  abbrev pub is_vain : ℕ → Effect Msg → World State Msg → Bool
  is_vain h (Effect.Send to m) w = is_dropped h to w
  is_vain h (Effect.Timer delay) w = false
  is_vain h (Effect.Write offset bytes) w = nat_lt 4096 (offset + length bytes)
  is_vain h Effect.Sync w = false
  is_vain h Effect.Done w = (host_at h w).done

  -- An event is for a stopped host if it is a step at which no node reacts, or the crash of a
  -- stopped host.
  abbrev pub is_for_stopped : Event → World State Msg → Bool
  is_for_stopped event.Step w = not (acts w event.Step)
  is_for_stopped (event.Advance to) w = false
  is_for_stopped (event.Fault (fault.Crash h)) w = not (runs h w)
  is_for_stopped (event.Fault f) w = false
