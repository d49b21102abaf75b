-- The tables of the counter: a client asks a server to add one; the server saves its count and
-- answers the client.
use Rattle.std.specs.Prelude.{ℕ, ◌+◌, ◌-◌, ◌%◌, ◌^◌, ◌==◌, nat_le, ◌&&◌, min, length}
use Rattle.std.specs.Prelude.{List, [], ◌∷◌, if◌then◌else◌}
use Rattle.std.specs.Int.{w64, to_le_bytes, from_le_bytes}
use Rattle.sim_node.specs.declared.Setup.{Setup}
use Rattle.sim_node.specs.declared.Input.{Input}
use Rattle.sim_node.specs.declared.Input.TheVariants as input
use Rattle.sim_node.specs.Effects.{Effect}
use Rattle.sim_node.specs.Node.{NodeLaws, is_server, host_setup}
use Rattle.example_counter.specs.declared.Message.{Message}
use Rattle.example_counter.specs.declared.Message.TheVariants.{Add, Added}
use Rattle.example_counter.specs.declared.Role.{Role}
use Rattle.example_counter.specs.declared.Role.TheVariants.{Client, Idle, Saving}
use Rattle.example_counter.specs.declared.State.{State}

-- a state, and the effects of the reaction in order
abbrev pub Reaction : Type 0
Reaction = State × List (Effect Message)

-- a number plus one; it stays at the largest
abbrev pub raised : ℕ → ℕ
raised n = min (n + 1) (2 ^ 64 - 1)

-- the saved count: 8 bytes, low byte first
abbrev pub count_on : List ℕ → ℕ
count_on bytes = if length bytes == 8 then from_le_bytes w64 bytes else 0

abbrev pub boot : Setup → ℕ → List ℕ → State
boot setup me bytes =
    record {
      setup = host_setup setup me;
      me = me;
      role = if is_server setup me then Idle (count_on bytes) else Client 0;
    }

abbrev pub in_role : Role → State → State
in_role role state = record state { role = role }

abbrev pub nothing : State → Reaction
nothing state = (state, [])

-- a client asks its server to add one for operation n, and again if no answer comes in 500 ms
abbrev pub asking : ℕ → State → Reaction
asking n state = (
  in_role (Client n) state,
  Effect.Send (state.me % state.setup.servers) (Add n) ∷ Effect.Timer 500 ∷ [],
)

-- the answer to operation n has come; after the last one the client is done
abbrev pub answered : ℕ → State → Reaction
answered n state =
    if n == state.setup.ops
    then (in_role (Client (raised n)) state, Effect.Done ∷ [])
    else asking (raised n) state

-- a server adds one, and saves its new count
abbrev pub adding : ℕ → ℕ → ℕ → State → Reaction
adding count client n state = (
  in_role (Saving (raised count) client n) state,
  Effect.Write 0 (to_le_bytes w64 (raised count)) ∷ Effect.Sync ∷ [],
)

-- the table, a row for each line; an input for which no row applies changes nothing
abbrev pub react_as : Role → Input Message → State → Reaction
react_as (Client next) input.Start state = asking 1 state
react_as (Client next) input.Timer state =
    if nat_le 1 next && nat_le next state.setup.ops then asking next state
    else nothing state
react_as (Client next) (input.Message sender (Added n)) state =
    if n == next then answered next state else nothing state
react_as (Idle count) (input.Message sender (Add n)) state = adding count sender n state
react_as (Saving count client n) input.Synced state =
    (in_role (Idle count) state, Effect.Send client (Added n) ∷ [])
react_as _ _ state = nothing state

-- probe 0 shows the `next` of a client, probe 1 the count of a server
abbrev pub probe_as : Role → ℕ → ℕ
probe_as (Client next) k = if k == 0 then next else 0
probe_as (Idle count) k = if k == 1 then count else 0
probe_as (Saving count client n) k = if k == 1 then count else 0

abbrev pub counter : NodeLaws State Message
counter = record {
  boot = boot;
  react = λ state now i word. react_as state.role i state;
  probe = λ state k. probe_as state.role k;
}
