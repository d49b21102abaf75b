-- Small runs of a node that writes, asks for syncs and sets a timer, worked out: what the definitions of a world compute of disks and
-- timers. A sync takes 5 ms. The words of torn writes are 1, which keeps a write whole, then 5, which keeps 5 / 3 = 1 of its 8 bytes,
-- then 0, which drops it, and 8, which keeps 8 / 3 = 2 of 8 bytes.
use Rattle.std.specs.Prelude.{slice_index, ◌≡◌, ℕ, ◌+◌, ◌==◌, List, [], ◌∷◌, ◌++◌, Option, Some, replicate, true, false, if◌then◌else◌}
use Rattle.std.specs.Option.{option_map, unwrap_or}
use Rattle.std.proofs.Common.{refl, arith}
use Rattle.sim_streams.specs.Word.{torn}
use Rattle.sim_queue.specs.declared.Item.{Item}
use Rattle.sim_disk.specs.Disk.{DiskUndo, Disk}
use Rattle.sim_node.specs.declared.Setup.{Setup}
use Rattle.sim_node.specs.declared.Input.{Input}
use Rattle.sim_node.specs.declared.Input.TheVariants as input
use Rattle.sim_node.specs.Effects.{Effect}
use Rattle.sim_node.specs.Node.{NodeRecords}
use Rattle.sim_events.specs.declared.Event.{Event}
use Rattle.sim_events.specs.declared.Event.TheVariants as event
use Rattle.sim_events.specs.declared.Fault.TheVariants as fault
use Rattle.sim_events.specs.declared.Query.{Query}
use Rattle.sim_events.specs.declared.Query.TheVariants as query
use Rattle.sim_events.specs.declared.Kind.TheVariants as kind
use Rattle.sim_events.specs.declared.View.{View}
use Rattle.sim_events.specs.declared.View.TheVariants as view
use Rattle.sim_world.specs.declared.small.Small.{Small}
use Rattle.sim_world.specs.declared.small.Small.TheVariants as small
use Rattle.sim_pending.specs.Occurrence.{Body, Occurrence}
use Rattle.sim_world.specs.World.{World, host_at}
use Rattle.sim_world.specs.Events.{Rules, start, run}
use Rattle.sim_world.specs.Looks.{looked}
use Rattle.sim_world.specs.Records.{AnswersFor}
use Rattle.test_world.proofs.EchoRows.{scenario_with, on_rows}

-- what the node read at its boot, and how many syncs have come since
record Scribe : Type 0 where
  found : List ℕ
  synced : ℕ

abbrev boot : Setup → ℕ → List ℕ → Scribe
boot setup me bytes = record { found = bytes; synced = 0 }

-- At its start it asks for given effects; when a sync comes, it is done.
abbrev react_with : List (Effect ℕ) → Scribe → Input ℕ → Scribe × List (Effect ℕ)
react_with at_start node input.Start = (node, at_start)
react_with at_start node input.Synced = (record node { synced = node.synced + 1 }, Effect.Done ∷ [])
react_with at_start node _ = (node, [])

abbrev scribe_with : List (Effect ℕ) → Rules Scribe ℕ
scribe_with at_start = record {
  node = record { boot = boot; react = λ node now i word. react_with at_start node i; probe = λ node k. node.synced };
  probes = 1;
  words = λ stream place. if stream == torn then slice_index (1 ∷ 5 ∷ 0 ∷ 8 ∷ []) place else 0;
  scenario = record (scenario_with 10 10 0) { disk_latency = 5 };
}

abbrev four : Effect ℕ
four = Effect.Write 0 (0x11 ∷ 0x22 ∷ 0x33 ∷ 0x44 ∷ [])

abbrev eight : Effect ℕ
eight = Effect.Write 4 (1 ∷ 2 ∷ 3 ∷ 4 ∷ 5 ∷ 6 ∷ 7 ∷ 8 ∷ [])

-- It writes four bytes, asks for a sync, writes eight that the sync does not cover, and sets a timer twice.
abbrev slow : Rules Scribe ℕ
slow = scribe_with (four ∷ Effect.Sync ∷ eight ∷ Effect.Timer 7 ∷ Effect.Timer 9 ∷ [])

-- It asks for a second sync, which covers the eight bytes alone, and writes the four again.
abbrev twice : Rules Scribe ℕ
twice = scribe_with (four ∷ Effect.Sync ∷ eight ∷ Effect.Sync ∷ four ∷ [])

-- the record of a reaction is the state before it
abbrev kept_whole : NodeRecords Scribe Scribe
kept_whole = record { fits = λ undo state. Unit {0}; back = λ undo state. undo }

-- what is seen after events, or none where one of them can't happen
abbrev seen : List Event → Query → Option View
seen events q = option_map (looked slow q) (run slow events)

-- the world after events that can all happen
abbrev world_after : List Event → World Scribe ℕ
world_after events = unwrap_or (run slow events) (start slow)

abbrev both_started : List Event
both_started = event.Step ∷ event.Step ∷ []

-- The start of host 0. The sync is pending, and one timer: the second has taken the place of the first. Each took a serial.
started : seen (event.Step ∷ []) query.Summary ≡ Some (view.Summary 0 5 0 0 3 0)
unfolding on_rows
started = refl

started_host : seen (event.Step ∷ []) (query.HostView 0) ≡ Some (view.HostView 0 true false 1 0 2)
unfolding on_rows
started_host = refl

next_is_the_sync : seen both_started query.Next ≡ Some (view.Next (Some (record { due = 5; serial = 2; host = 0; kind = kind.Sync })))
unfolding on_rows
next_is_the_sync = refl

-- The sync comes: the four bytes are stable, the eight are not, and the node has reacted.
sync_comes : seen (event.Step ∷ event.Step ∷ event.Step ∷ []) (query.HostView 0) ≡ Some (view.HostView 0 true true 2 4 1)
unfolding on_rows
sync_comes = refl

timers_come : seen (event.Step ∷ event.Step ∷ event.Step ∷ event.Step ∷ []) query.Next
    ≡ Some (view.Next (Some (record { due = 9; serial = 4; host = 0; kind = kind.Timer })))
unfolding on_rows
timers_come = refl

-- Two syncs of host 0 come, each with the writes that were asked for; the last write is in none.
second_sync : option_map (looked twice (query.HostView 0)) (run twice (replicate 4 event.Step)) ≡ Some (view.HostView 0 true true 3 12 1)
unfolding on_rows
second_sync = refl

-- A crash before the sync comes: the host's sync and timer are gone, a word was drawn for each write, and five bytes are stable.
crash_before_sync : List Event
crash_before_sync = event.Step ∷ event.Step ∷ event.Fault (fault.Crash 0) ∷ []

crashed : seen crash_before_sync query.Summary ≡ Some (view.Summary 0 8 0 2 2 0)
unfolding on_rows crash_before_sync
crashed = refl

crashed_host : seen crash_before_sync (query.HostView 0) ≡ Some (view.HostView 0 false false 1 5 0)
unfolding on_rows crash_before_sync
crashed_host = refl

-- A bounce instead: the node boots from these five bytes.
bounce_before_sync : List Event
bounce_before_sync = event.Step ∷ event.Step ∷ event.Fault (fault.Bounce 0) ∷ []

bounced_node : (host_at 0 (world_after bounce_before_sync)).node ≡ Some (record { found = 0x11 ∷ 0x22 ∷ 0x33 ∷ 0x44 ∷ 1 ∷ []; synced = 0 })
unfolding on_rows bounce_before_sync
bounced_node = refl

bounced : seen bounce_before_sync query.Summary ≡ Some (view.Summary 0 9 0 2 3 0)
unfolding on_rows bounce_before_sync
bounced = refl

-- After its new start it crashes again, by the next two words: of the eight bytes two are kept.
crashed_twice : seen (event.Step ∷ event.Step ∷ event.Fault (fault.Bounce 0) ∷ event.Step ∷ event.Fault (fault.Crash 0) ∷ []) (query.HostView 0)
    ≡ Some (view.HostView 0 false false 2 6 0)
unfolding on_rows
crashed_twice = refl

-- A bounce after the sync came, at 5 ms: of the writes the first is stable, and the other is kept whole, by the first word. Its start
-- comes after the sync of host 1; what it asks for is due 5 and 9 ms later.
abbrev bounce_after_sync : List Event
bounce_after_sync = event.Step ∷ event.Step ∷ event.Step ∷ event.Fault (fault.Bounce 0) ∷ []

bounced_after_sync : seen bounce_after_sync (query.HostView 0) ≡ Some (view.HostView 0 true true 2 12 0)
unfolding on_rows
bounced_after_sync = refl

later_sync : seen (bounce_after_sync ++ event.Step ∷ event.Step ∷ event.Step ∷ []) query.Next
    ≡ Some (view.Next (Some (record { due = 10; serial = 9; host = 0; kind = kind.Sync })))
unfolding on_rows
later_sync = refl

later_timer : seen (bounce_after_sync ++ event.Step ∷ event.Step ∷ event.Step ∷ event.Step ∷ []) query.Next
    ≡ Some (view.Next (Some (record { due = 14; serial = 11; host = 0; kind = kind.Timer })))
unfolding on_rows
later_timer = refl

-- The records of the sync's step, of the crash and of the bounce: each fits, and leads back to the world before.
abbrev pending_for : ℕ → ℕ → ℕ → Body ℕ → Item (Occurrence ℕ)
pending_for due serial host body = record { due = due; serial = serial; body = record { host = host; body = body } }

abbrev new_scribe : Scribe
new_scribe = record { found = []; synced = 0 }

abbrev disk_before : Disk
disk_before = record {
  stable = [];
  writes = record { offset = 0; bytes = 0x11 ∷ 0x22 ∷ 0x33 ∷ 0x44 ∷ [] } ∷ record { offset = 4; bytes = 1 ∷ 2 ∷ 3 ∷ 4 ∷ 5 ∷ 6 ∷ 7 ∷ 8 ∷ [] } ∷ [];
  asked = 1;
}

abbrev sync_record : List (Small Scribe ℕ Scribe)
sync_record =
    small.Took (pending_for 5 2 0 (Body.Sync 1)) ∷ small.Timed 0 ∷ small.Stored 0 (DiskUndo.Synced 1 disk_before)
    ∷ small.Drew 2 1 ∷ small.Acted 0 new_scribe ∷ small.Finished 0 ∷ []

undone_sync : AnswersFor slow kept_whole sync_record (world_after both_started) event.Step (world_after (event.Step ∷ event.Step ∷ event.Step ∷ []))
unfolding on_rows
undone_sync = record {
  is_next = refl;
  fits = ((((((tt, refl), (refl, tt)), (omega arith, omega arith)), (omega arith, (omega arith, refl))), tt), (omega arith, λ p. cc));
  back = refl;
}

abbrev crash_record : List (Small Scribe ℕ Scribe)
crash_record =
    small.Took (pending_for 5 2 0 (Body.Sync 1)) ∷ small.Took (pending_for 9 4 0 Body.Timer) ∷ small.Drew 1 2
    ∷ small.Stored 0 (DiskUndo.Crashed disk_before) ∷ small.Stopped 0 new_scribe ∷ []

undone_crash : AnswersFor slow kept_whole crash_record (world_after both_started) (event.Fault (fault.Crash 0)) (world_after crash_before_sync)
unfolding on_rows crash_before_sync
undone_crash = record {
  is_next = refl;
  fits = (((((tt, (omega arith, refl)), (omega arith, (refl, refl))), (omega arith, omega arith)), (omega arith, λ p. cc)), (omega arith, λ p. cc));
  back = refl;
}

abbrev bounce_record : List (Small Scribe ℕ Scribe)
bounce_record =
    small.Took (pending_for 5 2 0 (Body.Sync 1)) ∷ small.Took (pending_for 9 4 0 Body.Timer) ∷ small.Drew 1 2
    ∷ small.Stored 0 (DiskUndo.Crashed disk_before) ∷ small.Stopped 0 new_scribe ∷ small.Booted 0 ∷ small.Queued ∷ []

undone_bounce : AnswersFor slow kept_whole bounce_record (world_after both_started) (event.Fault (fault.Bounce 0)) (world_after bounce_before_sync)
unfolding on_rows bounce_before_sync
undone_bounce = record {
  is_next = refl;
  fits = (((((((tt, (omega arith, refl)), refl), (omega arith, refl)), (omega arith, (refl, refl))), (omega arith, omega arith)), (omega arith, λ p. cc)), (omega arith, λ p. cc));
  back = refl;
}
