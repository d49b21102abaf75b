-- Small runs of a node that at its start sends 7 to host 0, then 8 and 9 to host 1, worked out: messages to oneself, and the order in
-- which a release lets messages go. There are two hosts, and each does so.
use Rattle.std.specs.Prelude.{true, false, ◌+◌, ◌*◌, ◌++◌, replicate, map, ◌≡◌, ℕ, List, [], ◌∷◌, Option, Some}
use Rattle.std.specs.Option.{option_map, unwrap_or}
use Rattle.std.proofs.Common.{refl, arith}
use Rattle.sim_queue.specs.declared.Item.{Item}
use Rattle.sim_links.specs.declared.LinkState.TheVariants as state
use Rattle.sim_links.specs.declared.Change.TheVariants as change
use Rattle.sim_node.specs.declared.Input.{Input}
use Rattle.sim_node.specs.declared.Input.TheVariants as input
use Rattle.sim_node.specs.Effects.{Effect}
use Rattle.sim_node.specs.Node.{NodeRecords}
use Rattle.sim_events.specs.declared.Event.{Event}
use Rattle.sim_events.specs.declared.Event.TheVariants as event
use Rattle.sim_events.specs.declared.Fault.TheVariants as fault
use Rattle.sim_events.specs.declared.Query.TheVariants as query
use Rattle.sim_events.specs.declared.View.TheVariants as view
use Rattle.sim_world.specs.declared.small.Small.{Small}
use Rattle.sim_world.specs.declared.small.Small.TheVariants as small
use Rattle.sim_pending.specs.Occurrence.{Body, Occurrence}
use Rattle.sim_world.specs.World.{World, is_full}
use Rattle.sim_world.specs.Events.{Rules, start, run}
use Rattle.sim_world.specs.Looks.{looked}
use Rattle.sim_world.specs.Records.{AnswersFor}
use Rattle.test_world.proofs.EchoRows.{scenario_with, on_rows}

-- It keeps the time (ms) and the word of its last input; from its boot on, its number and 0.
abbrev Last : Type 0
Last = ℕ × ℕ

abbrev react : Last → ℕ → Input ℕ → ℕ → Last × List (Effect ℕ)
react node now input.Start word = ((now, word), Effect.Send 0 7 ∷ Effect.Send 1 8 ∷ Effect.Send 1 9 ∷ [])
react node now _ word = ((now, word), [])

-- word p of stream s is 100 s + p
abbrev sending : Rules Last ℕ
sending = record {
  node = record { boot = λ setup me bytes. (me, 0); react = react; probe = λ node k. 0 };
  probes = 1;
  words = λ stream place. 100 * stream + place;
  scenario = scenario_with 10 10 0;
}

-- the record of a reaction is the state before it
abbrev kept_whole : NodeRecords Last Last
kept_whole = record { fits = λ undo state. Unit {0}; back = λ undo state. undo }

abbrev world_after : List Event → World Last ℕ
world_after events = unwrap_or (run sending events) (start sending)

-- what is pending after events: due, serial, host, and what it is
abbrev pending_for : ℕ → ℕ → ℕ → Body ℕ → Item (Occurrence ℕ)
pending_for due serial host body = record { due = due; serial = serial; body = record { host = host; body = body } }

abbrev pending_after : List Event → Option (List (Item (Occurrence ℕ)))
pending_after events = option_map (λ w. w.queue.items) (run sending events)

-- The start of host 0 over open links: its message to itself is due now, the two others 10 ms later.
one_start : pending_after (event.Step ∷ [])
    ≡ Some (pending_for 0 1 1 Body.Start ∷ pending_for 0 2 0 (Body.Message 0 7) ∷ pending_for 10 3 1 (Body.Message 0 8) ∷ pending_for 10 4 1 (Body.Message 0 9) ∷ [])
unfolding on_rows
one_start = refl

-- The nodes after both starts, and after four messages: that of host 0 to itself, the two of host 1 to itself, and at 10 ms the first
-- of host 0 to host 1. Stream 2 is that of host 0, stream 3 that of host 1.
abbrev nodes_after : List Event → List (Option Last)
nodes_after events = map (λ host. host.node) (world_after events).hosts

two_starts : nodes_after (replicate 2 event.Step) ≡ Some (0, 200) ∷ Some (0, 300) ∷ []
unfolding on_rows
two_starts = refl

four_messages : nodes_after (replicate 6 event.Step) ≡ Some (0, 201) ∷ Some (10, 303) ∷ []
unfolding on_rows
four_messages = refl

bounced : nodes_after (replicate 2 event.Step ++ event.Fault (fault.Bounce 1) ∷ []) ≡ Some (0, 200) ∷ Some (1, 0) ∷ []
unfolding on_rows
bounced = refl

-- Both starts over held links: messages to oneself are not held, and no word of the network is drawn.
held : List Event
held = event.Fault (fault.Hold 0 1) ∷ event.Step ∷ event.Step ∷ []

while_held : option_map (looked sending query.Summary) (run sending held) ≡ Some (view.Summary 0 5 0 0 3 3)
unfolding on_rows held
while_held = refl

-- A release of 0 and 1: what goes from 0 to 1 comes first, in the order in which it was sent, and then what goes from 1 to 0.
abbrev released : List Event
released = event.Fault (fault.Hold 0 1) ∷ event.Step ∷ event.Step ∷ event.Fault (fault.Release 0 1) ∷ []

order_of_release : pending_after released
    ≡ Some (
    pending_for 0 2 0 (Body.Message 0 7) ∷ pending_for 0 3 1 (Body.Message 1 8) ∷ pending_for 0 4 1 (Body.Message 1 9)
    ∷ pending_for 0 5 1 (Body.Message 0 8) ∷ pending_for 0 6 1 (Body.Message 0 9) ∷ pending_for 0 7 0 (Body.Message 1 7) ∷ []
    )
unfolding on_rows
order_of_release = refl

-- Its record: two messages went from 0 to 1, and one from 1 to 0. It fits, and leads back to the same held messages.
abbrev release_record : List (Small Last ℕ Last)
release_record =
    small.Released (record { a = 0; b = 1; change = change.Release; was = state.Held }) 2
    ∷ small.Released (record { a = 1; b = 0; change = change.Release; was = state.Held }) 1 ∷ []

undone_release : AnswersFor sending kept_whole release_record (world_after held) (event.Fault (fault.Release 0 1)) (world_after released)
unfolding on_rows held
undone_release = record {
  is_next = refl;
  fits = (
    (tt, ((omega arith, omega arith, (refl, refl), refl), ((omega arith, refl), (refl, refl), tt))),
    ((omega arith, omega arith, (refl, refl), refl), ((omega arith, refl), (refl, refl), ((omega arith, refl), (refl, refl), tt))),
  );
  back = refl;
}

-- A world is full at 4,096 messages in flight and held; a pending timer is none.
abbrev crowded : ℕ → World Last ℕ
crowded messages = record (start sending) {
  queue = record { items = pending_for 0 0 0 Body.Timer ∷ replicate messages (pending_for 0 1 0 (Body.Message 0 7)); next_serial = 2 };
}

almost_full : is_full (crowded 4095) ≡ false
unfolding on_rows
almost_full = refl

full : is_full (crowded 4096) ≡ true
unfolding on_rows
full = refl
