-- The index that the code keeps beside a world so that no step searches for it: counts of messages,
-- each host's pending timer, and the number of its pending starts and syncs.
use Rattle.std.specs.Prelude.{◌≡◌, ◌≢◌, ℕ, ◌+◌, ◌-◌, ◌<◌, ◌≤◌, ◌==◌, ◌&&◌, Bool, true, false, List}
use Rattle.std.specs.Prelude.{[], ◌∷◌, length, map, Option}
use Rattle.std.specs.Prelude.{Some, None, slice_index_or, slice_set}
use Rattle.std.specs.List.{filter, count_by}
use Rattle.sim_queue.specs.declared.Item.{Item}
use Rattle.sim_queue.specs.Pending.{first}
use Rattle.sim_events.specs.declared.Event.{Event}
use Rattle.sim_events.specs.declared.Event.TheVariants as event
use Rattle.sim_events.specs.declared.Fault.{Fault}
use Rattle.sim_events.specs.declared.Fault.TheVariants as fault
use Rattle.sim_world.specs.declared.index.Beside.{Beside}
use Rattle.sim_world.specs.declared.index.Index.{Index}
use Rattle.sim_world.specs.Acts.{first_host}
use Rattle.sim_events.specs.Scenario.{Scenario}
use Rattle.sim_pending.specs.Occurrence.{Body, Occurrence, is_timer_of}
use Rattle.sim_world.specs.World.{World, in_flight}
use Rattle.sim_world.specs.World.{held_messages}
use Rattle.sim_world.specs.inside.Sound.{IsSound}

-- the value of an option as a list
abbrev pub listed : {A : Type 0} → Option A → List A
listed None = []
listed (Some x) = x ∷ []

-- the serials of the pending timers of a host
abbrev pub timers_of : {Msg : Type 0} → ℕ → List (Item (Occurrence Msg)) → List ℕ
timers_of h items = map (λ x. x.serial) (filter (is_timer_of h) items)

-- whether an occurrence is the start or a sync of this host: what a crash of the host takes out
-- beside its timer
abbrev pub is_other_of : {Msg : Type 0} → ℕ → Item (Occurrence Msg) → Bool
is_other_of h x = (x.body.host == h)
    && (elim x.body.body [ Body.Start ↦ true | Body.Sync count ↦ true | _ ↦ false ])

-- the number of pending starts and syncs of a host
abbrev pub others_of : {Msg : Type 0} → ℕ → List (Item (Occurrence Msg)) → ℕ
others_of h items = count_by (is_other_of h) items

-- the count of messages in flight, after an occurrence is no longer pending
abbrev pub flight_without : {Msg : Type 0} → Body Msg → ℕ → ℕ
flight_without (Body.Message sender msg) count = count - 1
flight_without _ count = count

-- a message in flight is counted
abbrev pub IsCounted : {Msg : Type 0} → Body Msg → ℕ → Type 0
IsCounted (Body.Message sender msg) count = 0 < count
IsCounted _ count = Unit {0}

-- the timers, after an occurrence of a host is no longer pending
abbrev pub timers_without : {Msg : Type 0} → ℕ → Body Msg → List (Option ℕ) → List (Option ℕ)
timers_without h Body.Timer timers = slice_set timers h None
timers_without h _ timers = timers

-- the numbers of starts and syncs, after an occurrence of a host is no longer pending
abbrev pub others_without : {Msg : Type 0} → ℕ → Body Msg → List ℕ → List ℕ
others_without h Body.Start others = slice_set others h (slice_index_or others h 0 - 1)
others_without h (Body.Sync count) others = slice_set others h (slice_index_or others h 0 - 1)
others_without h _ others = others

-- a start or a sync is counted
abbrev pub IsOtherCounted : {Msg : Type 0} → Body Msg → ℕ → Type 0
IsOtherCounted Body.Start count = 0 < count
IsOtherCounted (Body.Sync covered) count = 0 < count
IsOtherCounted _ count = Unit {0}

-- the host that a crash or a bounce stops, or 0 for any other fault
abbrev pub stopped_host : Fault → ℕ
stopped_host (fault.Crash h) = h
stopped_host (fault.Bounce h) = h
stopped_host _ = 0

-- the one host whose timer, starts and syncs an event can change: that of a step, of a crash, of a
-- bounce; or 0 for any other event
abbrev pub changing_host : {State Msg : Type 0} → Event → World State Msg → ℕ
changing_host event.Step w = first_host (first w.queue.items)
changing_host (event.Advance to) w = 0
changing_host (event.Fault f) w = stopped_host f

-- what an event can change of an index: the counts of messages, and the entries of one host
abbrev pub beside_of : Index → ℕ → Beside
beside_of index h = record {
  in_flight = index.in_flight;
  held = index.held;
  host = h;
  timer = slice_index_or index.timers.items h None;
  others = slice_index_or index.others.items h 0;
}

-- the counts are those of the world, and each host has at most one pending timer, whose serial is
-- stored, and as many pending starts and syncs as are counted
pub record IsIndexOf {State Msg : Type 0} (flying waiting : ℕ) (serials : List (Option ℕ))
    (numbers : List ℕ) (w : World State Msg) : Type 0 where
  pub in_flight : flying ≡ in_flight w
  pub held : waiting ≡ held_messages w
  pub few : flying + waiting ≤ 4096
  pub hosts : length serials ≡ length w.hosts
  pub timers : (h : ℕ) → h < length w.hosts → timers_of h w.queue.items
      ≡ listed (slice_index_or serials h None)
  pub counted : length numbers ≡ length w.hosts
  pub others : (h : ℕ) → h < length w.hosts → others_of h w.queue.items
      ≡ slice_index_or numbers h 0

abbrev pub IsIndex : {State Msg : Type 0} → Index → World State Msg → Type 0
IsIndex index w = IsIndexOf index.in_flight index.held index.timers.items index.others.items w

-- The token in the record of an event: the index entries of the world before it.
abbrev pub Token : Type 0
Token = Beside

-- A token is that of an event that made a later world out of one of this age: the earlier world is
-- sound, and these are its index entries. The timers, starts and syncs of all hosts but one are
-- as many as in the later world.
pub record IsTokenOf {State Msg : Type 0} (told : State → ℕ) (token : Token) (s : Scenario)
    (age : ℕ) (before later : World State Msg) : Type 0 where
  pub sound : IsSound told s age before
  pub there : token.host < length later.hosts
  pub in_flight : token.in_flight ≡ in_flight before
  pub held : token.held ≡ held_messages before
  pub timer : timers_of token.host before.queue.items ≡ listed token.timer
  pub timers : (h : ℕ) → h ≢ token.host → timers_of h before.queue.items
      ≡ timers_of h later.queue.items
  pub count : others_of token.host before.queue.items ≡ token.others
  pub others : (h : ℕ) → h ≢ token.host → others_of h before.queue.items
      ≡ others_of h later.queue.items
