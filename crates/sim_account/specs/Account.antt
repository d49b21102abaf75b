-- The account of the next step before it happens: the word drawn, the state after the reaction, and
-- the fate of each effect.
use Rattle.std.specs.Prelude.{ℕ, ◌+◌, ◌==◌, nat_le, Bool, true, List, [], ◌∷◌, length, map, Option}
use Rattle.std.specs.Prelude.{Some, None, if◌then◌else◌}
use Rattle.sim_streams.specs.Word.{network, torn, stream_of}
use Rattle.sim_queue.specs.declared.Item.{Item}
use Rattle.sim_queue.specs.Pending.{first}
use Rattle.sim_links.specs.declared.LinkState.{LinkState}
use Rattle.sim_links.specs.declared.LinkState.TheVariants as state
use Rattle.sim_links.specs.Link.{link}
use Rattle.sim_links.specs.Ways.{way}
use Rattle.sim_disk.specs.Disk as disk
use Rattle.sim_node.specs.Effects.{Effect}
use Rattle.sim_node.specs.Work.{Work, turned, copied}
use Rattle.sim_pending.specs.Occurrence.{Body, Occurrence, input_of, is_timer_of}
use Rattle.sim_pending.specs.Fate.{is_lost, latency}
use Rattle.sim_world.specs.World.{World, host_at, place, drawn, with_host, with_node, with_disk}
use Rattle.sim_world.specs.World.{queued, without, is_full, held_back, made_stable}
use Rattle.sim_world.specs.Events.{Rules, next_word, words_from, effect, reaction, begun}
use Rattle.sim_account.specs.declared.fate.Fate.{Fate}
use Rattle.sim_account.specs.declared.fate.Fate.TheVariants as fate

-- an effect, and its fate
pub record ToldEffect (Msg : Type 0) : Type 0 where
  pub effect : Effect Msg
  pub fate : Fate

-- word       the word drawn for the host
-- state      the state of its node after the reaction
-- effects    the effects that the node asks for, in order, each with its fate
pub record Reaction (State Msg : Type 0) : Type 0 where
  pub word : ℕ
  pub state : State
  pub effects : List (ToldEffect Msg)

-- an account takes a copy of the node, which reacts
abbrev pub told_if : Bool → Work → Work
told_if test w = if test then turned (copied w) else w

module _ {State Msg : Type 0} (r : Rules State Msg) where
  -- Over an open link a message is lost, or it is pending after its latency.
  abbrev pub open_fate : ℕ → ℕ → World State Msg → Fate
  open_fate from to w =
      if is_lost (way from to r.scenario.ways) (r.words network (place network w + 1)) then
      fate.Lost
      else fate.Pending (w.clock + latency (way from to r.scenario.ways)
      (r.words network (place network w))) w.queue.next_serial

  abbrev pub fate_over : LinkState → ℕ → ℕ → World State Msg → Fate
  fate_over state.Through from to w = open_fate from to w
  fate_over state.Held from to w = fate.Held
  fate_over state.Cut from to w = fate.Cut

  abbrev pub sent_fate : ℕ → ℕ → World State Msg → Fate
  sent_fate from to w =
      if is_full w then fate.Full
      else if from == to then fate.Pending w.clock w.queue.next_serial
      else fate_over (link from to w.links).state from to w

  -- the fate of an effect
  abbrev pub fate_of : ℕ → Effect Msg → World State Msg → Fate
  fate_of h (Effect.Send to m) w = sent_fate h to w
  fate_of h (Effect.Timer delay) w = fate.Pending (w.clock + delay) w.queue.next_serial
  fate_of h (Effect.Write offset bytes) w =
      if nat_le (offset + length bytes) 4096 then fate.Added else fate.Skipped
  fate_of h Effect.Sync w =
      fate.Asked (w.clock + r.scenario.disk_latency) w.queue.next_serial
      (disk.not_asked (host_at h w).disk)
  fate_of h Effect.Done w = fate.Done

  -- the effects in order, each with its fate in the world that those before it leave
  abbrev pub all_told : ℕ → List (Effect Msg) → World State Msg → List (ToldEffect Msg)
  all_told h [] w = []
  all_told h (e ∷ es) w =
      record { effect = e; fate = fate_of h e w } ∷ all_told h es (effect r h e w)

  -- the account of a reaction of a host
  abbrev pub told_of : ℕ → State × List (Effect Msg) → World State Msg → Reaction State Msg
  told_of h reaction w = record {
    word = next_word r (stream_of h) w;
    state = reaction.0;
    effects = all_told h reaction.1 (with_node h (Some reaction.0) (drawn 1 (stream_of h) w));
  }

  -- a stopped host has no reaction
  abbrev pub reaction_to : ℕ → Body Msg → Option State → World State Msg
      → Option (Reaction State Msg)
  reaction_to h body None w = None
  reaction_to h body (Some state) w =
      Some (told_of h (reaction r h state (input_of body) (made_stable h body w))
      (made_stable h body w))

  abbrev pub reaction_by : Option (Item (Occurrence Msg)) → World State Msg
      → Option (Reaction State Msg)
  reaction_by None w = None
  reaction_by (Some x) w =
      reaction_to x.body.host x.body.body (host_at x.body.host w).node (begun x w)

  -- the account of the next step
  abbrev pub next_reaction : World State Msg → Option (Reaction State Msg)
  next_reaction w = reaction_by (first w.queue.items) w

  -- the number of bytes that a crash of the host keeps of each write that is not stable
  abbrev pub tears : ℕ → World State Msg → List ℕ
  tears h w =
      let writes = (host_at h w).disk.writes in
      map (λ x. length x.bytes) (disk.all_kept (words_from r.words torn (place torn w)
      (length writes)) writes)

module _ {State Msg : Type 0} where
  -- The fate of a host's effect determines the world after it. A message to another host that is
  -- pending, and one that is lost, took two words of the network's stream.
  abbrev pub paid : Fate → ℕ → Effect Msg → World State Msg → World State Msg
  paid fate.Lost h e w = drawn 2 network w
  paid (fate.Pending due serial) h (Effect.Send to m) w = if h == to then w else drawn 2 network w
  paid _ h e w = w

  abbrev pub carried : Fate → ℕ → Effect Msg → World State Msg → World State Msg
  carried (fate.Pending due serial) h (Effect.Send to m) w = queued due to (Body.Message h m) w
  carried (fate.Pending due serial) h (Effect.Timer delay) w =
      queued due h Body.Timer (without (is_timer_of h) w)
  carried fate.Held h (Effect.Send to m) w = held_back h to m w
  carried fate.Added h (Effect.Write offset bytes) w =
      with_disk h (disk.written offset bytes (host_at h w).disk) w
  carried (fate.Asked due serial count) h Effect.Sync w =
      queued due h (Body.Sync count) (with_disk h (disk.all_asked (host_at h w).disk) w)
  carried fate.Done h Effect.Done w = with_host h (record (host_at h w) { done = true }) w
  carried _ h e w = w

  abbrev pub all_carried : ℕ → List (ToldEffect Msg) → World State Msg → World State Msg
  all_carried h [] w = w
  all_carried h (t ∷ ts) w = all_carried h ts (carried t.fate h t.effect (paid t.fate h t.effect w))

  -- the world after a step, given the account of its reaction
  abbrev pub after_reaction : Option (Reaction State Msg) → Item (Occurrence Msg) → World State Msg
      → World State Msg
  after_reaction None x w = begun x w
  after_reaction (Some t) x w =
      all_carried x.body.host t.effects
      (with_node x.body.host (Some t.state) (drawn 1 (stream_of x.body.host)
      (made_stable x.body.host x.body.body (begun x w))))

  abbrev pub after_told_by : Option (Item (Occurrence Msg)) → Option (Reaction State Msg)
      → World State Msg → World State Msg
  after_told_by None t w = w
  after_told_by (Some x) t w = after_reaction t x w

  abbrev pub after_told : Option (Reaction State Msg) → World State Msg → World State Msg
  after_told t w = after_told_by (first w.queue.items) t w
