-- Primary-backup: clients put values into cells at the primary, which is server 0. It answers when
-- all backups have them. A server answers for what it has applied only after its disk reports that
-- it is stable; a primary that starts spreads its last put at once.
use Rattle.std.specs.Prelude.{ℕ, ◌+◌, ◌*◌, ◌%◌, ◌==◌, nat_lt, nat_le, Bool, true, not, ◌&&◌, List}
use Rattle.std.specs.Prelude.{[], ◌∷◌, ◌++◌, map, replicate, slice_index, slice_set, Option, None}
use Rattle.std.specs.Prelude.{Some, if◌then◌else◌}
use Rattle.sim_node.specs.declared.Setup.{Setup}
use Rattle.sim_node.specs.declared.host_setup.HostSetup.{HostSetup}
use Rattle.sim_node.specs.declared.Input.{Input}
use Rattle.sim_node.specs.declared.Input.TheVariants as input
use Rattle.sim_node.specs.Numbers.{numbers_from}
use Rattle.sim_node.specs.Effects.{Effect}
use Rattle.sim_node.specs.Node.{NodeLaws, is_server, host_setup}
use Rattle.sim_primary_backup.specs.declared.roles.BackupMsg.{BackupMsg}
use Rattle.sim_primary_backup.specs.declared.roles.BackupMsg.TheVariants.{Put, Apply, Ack, Fin}
use Rattle.sim_primary_backup.specs.declared.roles.Store.{Store}
use Rattle.sim_primary_backup.specs.declared.roles.Request.{Request}
use Rattle.sim_primary_backup.specs.declared.roles.Primary.{Primary}
use Rattle.sim_primary_backup.specs.declared.roles.Role.{Role}
use Rattle.sim_primary_backup.specs.declared.roles.Role.TheVariants as role
use Rattle.sim_primary_backup.specs.declared.roles.State.{State}
use Rattle.sim_hosts.specs.Numbers.{raised, lowered, is_settled, plus, times}
use Rattle.sim_hosts.specs.Reactions.{Reaction}
use Rattle.sim_hosts.specs.Bytes.{bytes_of, number_at}
use Rattle.sim_hosts.specs.Hosts.{nobody, others, is_other, joined, all_in, not_in, to_all}
use Rattle.sim_hosts.specs.Waiting.{lowest_waiting}

-- A server's disk: cell c at 8 c, the number of puts applied at 128, the cell of the last put in
-- one byte at 136.

abbrev pub cells_on : List ℕ → List ℕ
cells_on bytes = map (λ c. number_at bytes (8 * c)) (numbers_from 0 16)

abbrev pub store_on : List ℕ → Store
store_on bytes = record {
  cells = cells_on bytes;
  progress =
      record { applied = number_at bytes 128; last = slice_index bytes 136 % 16; unsure = 0 };
}

-- the store after put number n, of a value into a cell
abbrev pub with_put : ℕ → ℕ → ℕ → Store → Store
with_put n cell val store = record {
  cells = slice_set store.cells cell val;
  progress = record { applied = n; last = cell; unsure = raised store.progress.unsure };
}

-- writes the last cell, the number of puts and the last cell's place, and asks for a sync
abbrev pub saved : Store → List (Effect BackupMsg)
saved store =
    Effect.Write (8 * store.progress.last) (bytes_of (slice_index store.cells store.progress.last))
    ∷ Effect.Write 128 (bytes_of store.progress.applied ++ store.progress.last ∷ [])
    ∷ Effect.Sync ∷ []

-- the message that gives the last put to the backups
abbrev pub apply_of : Store → BackupMsg
apply_of store =
    Apply store.progress.last store.progress.applied (slice_index store.cells store.progress.last)

-- the store after a sync
abbrev pub after_sync : Store → Store
after_sync store =
    record store { progress = record store.progress { unsure = lowered store.progress.unsure } }

-- The primary: a row for each definition.

abbrev pub primary_at_boot : List ℕ → Primary
primary_at_boot bytes =
    record { store = store_on bytes; current = None; waiting = replicate 32 None }

-- it starts: it spreads the last applied put again, since that put may have been lost
abbrev pub started : HostSetup → Primary → Reaction Primary BackupMsg
started setup p =
    if nat_lt 0 p.store.progress.applied then (
      record p { current = Some (record { client = None; number = 0; answers = nobody }) },
      to_all (others setup) (apply_of p.store) ++ Effect.Timer 100 ∷ [],
    )
    else (p, [])

-- it begins a client's put
abbrev pub begun : ℕ → ℕ → ℕ → Primary → Reaction Primary BackupMsg
begun client number val p =
    let new = with_put (raised p.store.progress.applied) (number % 16) val p.store in (
      record p {
        store = new;
        current = Some (record {
          client = Some client;
          number = number;
          answers = nobody;
        });
      },
      saved new ++ Effect.Timer 100 ∷ [],
    )

-- it begins the put of the lowest waiting host, which then no longer waits
abbrev pub begun_lowest : HostSetup → Primary → Reaction Primary BackupMsg
begun_lowest setup p = elim (lowest_waiting setup p.waiting) [
  | None ↦ (record p { current = None }, [])
  | Some w ↦ begun w.0 w.1.number w.1.val (record p { waiting = slice_set p.waiting w.0 None })
]

-- the put is not this host's
abbrev pub is_of_another : ℕ → Request → Bool
is_of_another host r = elim r.client [ None ↦ true | Some client ↦ not (client == host) ]

abbrev pub put_by : ℕ → ℕ → ℕ → Option Request → Primary → Reaction Primary BackupMsg
put_by from i val None p = begun from i val p
put_by from i val (Some r) p =
    if is_of_another from r
    then (
      record p {
        waiting = slice_set p.waiting from (Some (record { number = i; val = val }));
      },
      [],
    )
    else (p, [])

-- the put ends: its client gets the answer
abbrev pub fin_of : Request → List (Effect BackupMsg)
fin_of r = elim r.client [ None ↦ [] | Some client ↦ Effect.Send client (Fin r.number) ∷ [] ]

abbrev pub finished : Request → HostSetup → Primary → Reaction Primary BackupMsg
finished r setup p = let next = begun_lowest setup p in (next.0, fin_of r ++ next.1)

-- a backup has the put; after the last backup the put ends
abbrev pub acknowledged : ℕ → Request → HostSetup → Primary → Reaction Primary BackupMsg
acknowledged from r setup p =
    if all_in (others setup) (joined from r.answers) then finished r setup p
    else (record p { current = Some (record r { answers = joined from r.answers }) }, [])

abbrev pub acked : ℕ → ℕ → Option Request → HostSetup → Primary → Reaction Primary BackupMsg
acked from m None setup p = (p, [])
acked from m (Some r) setup p =
    if is_other setup from && (m == p.store.progress.applied) then acknowledged from r setup p
    else (p, [])

-- sends the put to the backups that have not answered
abbrev pub spread : Request → HostSetup → Primary → List (Effect BackupMsg)
spread r setup p = to_all (not_in (others setup) r.answers) (apply_of p.store)

abbrev pub primary_timer : Option Request → HostSetup → Primary → Reaction Primary BackupMsg
primary_timer None setup p = (p, [])
primary_timer (Some r) setup p = (
  p,
  (if is_settled p.store.progress.unsure then spread r setup p else []) ++ Effect.Timer 100 ∷ [],
)

abbrev pub settled : Option Request → HostSetup → Primary → Reaction Primary BackupMsg
settled None setup p = (p, [])
settled (Some r) setup p = (p, spread r setup p ++ Effect.Timer 100 ∷ [])

abbrev pub primary_synced : HostSetup → Primary → Reaction Primary BackupMsg
primary_synced setup p =
    let new = record p { store = after_sync p.store } in
    if is_settled new.store.progress.unsure then settled new.current setup new else (new, [])

abbrev pub react_primary : HostSetup → Primary → Input BackupMsg → Reaction Primary BackupMsg
react_primary setup p input.Start = started setup p
react_primary setup p input.Timer = primary_timer p.current setup p
react_primary setup p input.Synced = primary_synced setup p
react_primary setup p (input.Message from (Put i val)) = put_by from i val p.current p
react_primary setup p (input.Message from (Ack m)) = acked from m p.current setup p
react_primary setup p _ = (p, [])

-- A backup: a row for each definition.

abbrev pub applied_by : ℕ → ℕ → ℕ → Store → Reaction Store BackupMsg
applied_by m cell val store = let new = with_put m (cell % 16) val store in (new, saved new)

-- applies the next put; acknowledges an old one again if it is stable
abbrev pub told : ℕ → ℕ → ℕ → ℕ → Store → Reaction Store BackupMsg
told from m cell val store =
    if m == store.progress.applied + 1 then applied_by m cell val store
    else if nat_le m store.progress.applied && is_settled store.progress.unsure then (
      store,
      Effect.Send from (Ack m) ∷ [],
    )
    else (store, [])

abbrev pub backup_synced : Store → Reaction Store BackupMsg
backup_synced store =
    let new = after_sync store in (
      new,
      if is_settled new.progress.unsure then Effect.Send 0 (Ack new.progress.applied)
          ∷ [] else [],
    )

abbrev pub react_backup : Store → Input BackupMsg → Reaction Store BackupMsg
react_backup store input.Synced = backup_synced store
react_backup store (input.Message from (Apply cell m val)) = told from m cell val store
react_backup store _ = (store, [])

-- A client: its counter is the number of the put that it waits for, from 1.

abbrev pub client_puts : ℕ → ℕ → Reaction ℕ BackupMsg
client_puts me next =
    (next, Effect.Send 0 (Put next (plus (times 1000 me) next)) ∷ Effect.Timer 200 ∷ [])

-- its put has ended; after the last one it is done
abbrev pub client_answered : ℕ → ℕ → ℕ → Reaction ℕ BackupMsg
client_answered me ops next =
    if next == ops then (raised next, Effect.Done ∷ []) else client_puts me (raised next)

abbrev pub react_client : ℕ → ℕ → ℕ → Input BackupMsg → Reaction ℕ BackupMsg
react_client me ops next input.Start = client_puts me 1
react_client me ops next input.Timer =
    if nat_le 1 next && nat_le next ops then client_puts me next else (next, [])
react_client me ops next (input.Message from (Fin i)) =
    if i == next then client_answered me ops next else (next, [])
react_client me ops next _ = (next, [])

-- A host.

abbrev pub role_at_boot : Setup → ℕ → List ℕ → Role
role_at_boot setup me bytes =
    if not (is_server setup me) then role.Client 0
    else if me == 0 then role.Primary (primary_at_boot bytes)
    else role.Backup (store_on bytes)

abbrev pub boot : Setup → ℕ → List ℕ → State
boot setup me bytes =
    record { setup = host_setup setup me; me = me; role = role_at_boot setup me bytes }

abbrev pub in_role : {Part : Type 0} → (Part → Role) → Reaction Part BackupMsg → State
    → Reaction State BackupMsg
in_role as_role reaction state = (record state { role = as_role reaction.0 }, reaction.1)

abbrev pub react_as : Role → Input BackupMsg → State → Reaction State BackupMsg
react_as (role.Client next) i state =
    in_role role.Client (react_client state.me state.setup.ops next i) state
react_as (role.Primary p) i state = in_role role.Primary (react_primary state.setup p i) state
react_as (role.Backup store) i state = in_role role.Backup (react_backup store i) state

-- probe 0 is `next` of a client, probe 1 the number of puts that a server has applied
abbrev pub probe_as : Role → ℕ → ℕ
probe_as (role.Client next) k = if k == 0 then next else 0
probe_as (role.Primary p) k = if k == 1 then p.store.progress.applied else 0
probe_as (role.Backup store) k = if k == 1 then store.progress.applied else 0

abbrev pub primary_backup : NodeLaws State BackupMsg
primary_backup = record {
  boot = boot;
  react = λ state now i word. react_as state.role i state;
  probe = λ state k. probe_as state.role k;
}
