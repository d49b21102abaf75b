-- The register of Attiya, Bar-Noy and Dolev with several writers: each operation asks a majority of
-- the servers, and then stores at a majority. A server answers for what it stores only after its
-- disk reports that the write is stable.
use Rattle.std.specs.Prelude.{ℕ, ◌+◌, ◌*◌, ◌/◌, ◌%◌, ◌==◌, nat_lt, nat_le, Bool, false, not, ◌&&◌}
use Rattle.std.specs.Prelude.{◌||◌, List, [], ◌∷◌, ◌++◌, Option, None, Some, if◌then◌else◌}
use Rattle.sim_node.specs.declared.Setup.{Setup}
use Rattle.sim_node.specs.declared.host_setup.HostSetup.{HostSetup}
use Rattle.sim_node.specs.declared.Input.{Input}
use Rattle.sim_node.specs.declared.Input.TheVariants as input
use Rattle.sim_node.specs.Effects.{Effect}
use Rattle.sim_node.specs.Node.{NodeLaws, is_server, host_setup}
use Rattle.sim_hosts.specs.declared.set.HostSet.{HostSet}
use Rattle.sim_abd.specs.declared.roles.Tagged.{Tagged}
use Rattle.sim_abd.specs.declared.roles.AbdMsg.{AbdMsg}
use Rattle.sim_abd.specs.declared.roles.AbdMsg.TheVariants.{Ask, Tell, Store, Kept}
use Rattle.sim_abd.specs.declared.roles.Phase.{Phase}
use Rattle.sim_abd.specs.declared.roles.Phase.TheVariants as phase
use Rattle.sim_abd.specs.declared.roles.Client.{Client}
use Rattle.sim_abd.specs.declared.roles.Owed.{Owed}
use Rattle.sim_abd.specs.declared.roles.Server.{Server}
use Rattle.sim_abd.specs.declared.roles.Role.{Role}
use Rattle.sim_abd.specs.declared.roles.Role.TheVariants as role
use Rattle.sim_abd.specs.declared.roles.State.{State}
use Rattle.sim_hosts.specs.Numbers.{raised, lowered, is_settled, plus, times}
use Rattle.sim_hosts.specs.Reactions.{Reaction}
use Rattle.sim_hosts.specs.Bytes.{bytes_of, number_at}
use Rattle.sim_hosts.specs.Hosts.{nobody, servers, is_in, joined, not_in, size, to_all}

-- the first tag is greater: by its number, and by its writer if the numbers are equal
abbrev pub is_greater : Tagged → Tagged → Bool
is_greater a b = nat_lt b.number a.number || ((a.number == b.number) && nat_lt b.writer a.writer)

abbrev pub untagged : Tagged
untagged = record { number = 0; writer = 0; val = 0 }

-- A client: a row for each definition.

abbrev pub client_at_boot : Client
client_at_boot =
    record { next = 0; phase = phase.Resting; answers = nobody; best = untagged; last_read = 0 }

-- an operation of an odd number is a write, of an even one a read
abbrev pub is_write : ℕ → Bool
is_write i = i % 2 == 1

abbrev pub is_majority : HostSetup → HostSet → Bool
is_majority setup set = nat_le (setup.servers / 2 + 1) (size set)

abbrev pub ask_of : Client → AbdMsg
ask_of c = Ask (times 2 c.next)

abbrev pub store_of : Client → AbdMsg
store_of c = Store (plus (times 2 c.next) 1) c.best

-- an operation begins: it asks the servers
abbrev pub begun : ℕ → HostSetup → Client → Reaction Client AbdMsg
begun i setup c =
    let new = record c { next = i; phase = phase.Asking; answers = nobody; best = untagged } in
    (new, to_all (servers setup) (ask_of new) ++ Effect.Timer 200 ∷ [])

-- a write has a tag and a value of its own
abbrev pub to_be_stored : ℕ → ℕ → Tagged → Tagged
to_be_stored me i best =
    if is_write i
    then record { number = raised best.number; writer = me; val = plus (times 1000 me) i }
    else best

-- a majority has answered: the client asks the servers to store
abbrev pub stores : ℕ → HostSetup → Client → Reaction Client AbdMsg
stores me setup c =
    let new = record c {
      phase = phase.Storing;
      answers = nobody;
      best = to_be_stored me c.next c.best;
    } in
    (new, to_all (servers setup) (store_of new) ++ Effect.Timer 200 ∷ [])

abbrev pub greater_of : Tagged → Tagged → Tagged
greater_of best told = if is_greater told best then told else best

abbrev pub has_told : ℕ → Tagged → ℕ → HostSetup → Client → Reaction Client AbdMsg
has_told from told me setup c =
    let new = record c { answers = joined from c.answers; best = greater_of c.best told } in
    if is_majority setup new.answers then stores me setup new else (new, [])

-- a majority has stored: the operation ends, and the next begins; after the last the client rests
abbrev pub finished : ℕ → HostSetup → Client → Reaction Client AbdMsg
finished ops setup c =
    let next = raised c.next in
    let over = record c { last_read = if is_write c.next then c.last_read else c.best.val } in
    if nat_lt ops next then (record over { next = next; phase = phase.Resting }, Effect.Done ∷ [])
    else begun next setup over

abbrev pub has_kept : ℕ → ℕ → HostSetup → Client → Reaction Client AbdMsg
has_kept from ops setup c =
    let new = record c { answers = joined from c.answers } in
    if is_majority setup new.answers then finished ops setup new else (new, [])

-- the timer: the client sends again to the servers that have not answered
abbrev pub asks_again : Phase → HostSetup → Client → Reaction Client AbdMsg
asks_again phase.Resting setup c = (c, [])
asks_again phase.Asking setup c =
    (c, to_all (not_in (servers setup) c.answers) (ask_of c) ++ Effect.Timer 200 ∷ [])
asks_again phase.Storing setup c =
    (c, to_all (not_in (servers setup) c.answers) (store_of c) ++ Effect.Timer 200 ∷ [])

-- the answer that an asking client waits for, and the one that a storing client waits for
abbrev pub is_told : ℕ → ℕ → Phase → Client → Bool
is_told from r phase.Asking c = (r == 2 * c.next) && not (is_in c.answers from)
is_told from r _ c = false

abbrev pub is_kept : ℕ → ℕ → Phase → Client → Bool
is_kept from r phase.Storing c = (r == 2 * c.next + 1) && not (is_in c.answers from)
is_kept from r _ c = false

abbrev pub react_client : HostSetup → ℕ → Client → Input AbdMsg → Reaction Client AbdMsg
react_client setup me c input.Start = begun 1 setup c
react_client setup me c input.Timer = asks_again c.phase setup c
react_client setup me c (input.Message from (Tell r told)) =
    if is_told from r c.phase c then has_told from told me setup c else (c, [])
react_client setup me c (input.Message from (Kept r)) =
    if is_kept from r c.phase c then has_kept from setup.ops setup c else (c, [])
react_client setup me c _ = (c, [])

-- A server: a row for each definition. Its 24 bytes are the number, the writer and the value.

abbrev pub server_at_boot : List ℕ → Server
server_at_boot bytes = record {
  kept =
      record { number = number_at bytes 0; writer = number_at bytes 8; val = number_at bytes 16 };
  unsure = 0;
  owed = None;
}

abbrev pub tagged_bytes : Tagged → List ℕ
tagged_bytes t = bytes_of t.number ++ bytes_of t.writer ++ bytes_of t.val

-- takes a greater tag with its value; the server answers when it is stable
abbrev pub takes : ℕ → ℕ → Tagged → Server → Reaction Server AbdMsg
takes from r new s = (
  record {
    kept = new;
    unsure = raised s.unsure;
    owed = Some (record { host = from; request = r });
  },
  Effect.Write 0 (tagged_bytes new) ∷ Effect.Sync ∷ [],
)

abbrev pub stored : ℕ → ℕ → Tagged → Server → Reaction Server AbdMsg
stored from r new s =
    if is_greater new s.kept then takes from r new s
    else if is_settled s.unsure then (s, Effect.Send from (Kept r) ∷ [])
    else (record s { owed = Some (record { host = from; request = r }) }, [])

-- sends the answer that the server owes
abbrev pub paid : Option Owed → Server → Reaction Server AbdMsg
paid None s = (s, [])
paid (Some o) s = (record s { owed = None }, Effect.Send o.host (Kept o.request) ∷ [])

-- handles a sync
abbrev pub server_synced : Server → Reaction Server AbdMsg
server_synced s =
    let new = record s { unsure = lowered s.unsure } in
    if is_settled new.unsure then paid new.owed new else (new, [])

abbrev pub react_server : Server → Input AbdMsg → Reaction Server AbdMsg
react_server s input.Synced = server_synced s
react_server s (input.Message from (Ask r)) = (s, Effect.Send from (Tell r s.kept) ∷ [])
react_server s (input.Message from (Store r new)) = stored from r new s
react_server s _ = (s, [])

-- A host.

abbrev pub role_at_boot : Setup → ℕ → List ℕ → Role
role_at_boot setup me bytes =
    if is_server setup me then role.Server (server_at_boot bytes) else role.Client client_at_boot

abbrev pub boot : Setup → ℕ → List ℕ → State
boot setup me bytes =
    record { setup = host_setup setup me; me = me; role = role_at_boot setup me bytes }

abbrev pub in_role : {Part : Type 0} → (Part → Role) → Reaction Part AbdMsg → State
    → Reaction State AbdMsg
in_role as_role reaction state = (record state { role = as_role reaction.0 }, reaction.1)

abbrev pub react_as : Role → Input AbdMsg → State → Reaction State AbdMsg
react_as (role.Client c) i state = in_role role.Client (react_client state.setup state.me c i) state
react_as (role.Server s) i state = in_role role.Server (react_server s i) state

-- probe 0 is `next` of a client, probe 1 the number of a server, probe 2 the value of a server or
-- the last read of a client
abbrev pub probe_as : Role → ℕ → ℕ
probe_as (role.Client c) k = if k == 0 then c.next else if k == 2 then c.last_read else 0
probe_as (role.Server s) k = if k == 1 then s.kept.number else if k == 2 then s.kept.val else 0

abbrev pub abd : NodeLaws State AbdMsg
abd = record {
  boot = boot;
  react = λ state now i word. react_as state.role i state;
  probe = λ state k. probe_as state.role k;
}
