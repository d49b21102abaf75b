-- Rows of Raft, worked out: three servers and a client with one operation are hosts 0 to 3.
-- Server 0 reacts, and in the last two rows the client.
use Rattle.std.specs.Prelude.{◌≡◌, ℕ, [], ◌∷◌, ◌++◌, List, Some, true, false, replicate, ⊤}
use Rattle.std.proofs.Common.{refl}
use Rattle.sim_node.specs.declared.host_setup.HostSetup.{HostSetup}
use Rattle.sim_node.specs.declared.Input.{Input}
use Rattle.sim_node.specs.declared.Input.TheVariants as input
use Rattle.sim_node.specs.Effects.{Effect}
use Rattle.sim_hosts.specs.Bytes.{number_at}
use Rattle.example_raft.specs.declared.rules.Rules.{Rules}
use Rattle.example_raft.specs.declared.roles.Context.{Context}
use Rattle.example_raft.specs.declared.roles.Entry.{Entry}
use Rattle.example_raft.specs.declared.roles.Message.{Message}
use Rattle.example_raft.specs.declared.roles.Message.TheVariants as msg
use Rattle.example_raft.specs.declared.roles.Server.{Server}
use Rattle.example_raft.specs.RaftLog.{is_linked, log_from, half_bytes, entry_bytes, server_on}
use Rattle.example_raft.specs.Raft.{react_server, react_client}

-- what the rows compute with
unfoldable on_rows : ⊤
unfolding number_at is_linked log_from lib.Count.ones
on_rows = tt

-- what each host keeps of the setup; the operations are the client's
abbrev four_hosts : HostSetup
four_hosts = record { servers = 3; hosts = 4; ops = 1 }

abbrev sound : Rules
sound = record { eager = false; hasty = false }

abbrev hasty : Rules
hasty = record { eager = false; hasty = true }

abbrev eager : Rules
eager = record { eager = true; hasty = false }

abbrev here : Rules → Context
here rules = record { rules = rules; setup = four_hosts; me = 0; word = 170 }

abbrev from : ℕ → Message → Input Message
from sender m = input.Message sender m

-- what a server asks for at the last input
abbrev asks : Rules → List (Input Message) → Input Message → Server → List (Effect Message)
asks rules [] last s = (react_server (here rules) s last).1
asks rules (i ∷ is) last s = asks rules is last (react_server (here rules) s i).0

abbrev after : Rules → List (Input Message) → Server → Server
after rules [] s = s
after rules (i ∷ is) s = after rules is (react_server (here rules) s i).0

-- Votes.

abbrev request : Input Message
request = from 1 (msg.RequestVote (record { term = 1; len = 0; last = 0 }))

abbrev vote_written : List (Effect Message)
vote_written = Effect.Write 0 (0 ∷ 0 ∷ 0 ∷ 0 ∷ 0 ∷ 0 ∷ 0 ∷ 1 ∷ 2 ∷ []) ∷ Effect.Sync ∷ Effect.Timer 170 ∷ []

abbrev fresh : Server
fresh = server_on four_hosts []

vote_is_saved : asks sound [] request fresh ≡ vote_written
unfolding on_rows
vote_is_saved = refl

vote_is_told_when_stable : asks sound (request ∷ []) input.Synced fresh ≡ Effect.Send 1 (msg.Vote true 1) ∷ []
unfolding on_rows
vote_is_told_when_stable = refl

no_second_vote : asks sound (request ∷ input.Synced ∷ []) (from 2 (msg.RequestVote (record { term = 1; len = 0; last = 0 }))) fresh
    ≡ Effect.Send 2 (msg.Vote false 1) ∷ []
unfolding on_rows
no_second_vote = refl

hasty_vote_is_told_at_once : asks hasty [] request fresh ≡ vote_written ++ Effect.Send 1 (msg.Vote true 1) ∷ []
unfolding on_rows
hasty_vote_is_told_at_once = refl

-- Disks.

abbrev entry : ℕ → ℕ → Entry
entry term value = record { term = term; value = value }

-- a disk of term 2, with two entries, and a third that stood behind an entry of term 3
abbrev old_disk : List ℕ
old_disk =
    0 ∷ 0 ∷ 0 ∷ 0 ∷ 0 ∷ 0 ∷ 0 ∷ 2 ∷ replicate 56 0
    ++ entry_bytes (entry 1 3001) 0 ++ entry_bytes (entry 2 1) 1 ++ entry_bytes (entry 3 4001) 3

-- the same without the third entry, and the second one is torn
abbrev torn_disk : List ℕ
torn_disk =
    0 ∷ 0 ∷ 0 ∷ 0 ∷ 0 ∷ 0 ∷ 0 ∷ 2 ∷ replicate 56 0
    ++ entry_bytes (entry 1 3001) 0 ++ half_bytes (entry 2 1) 1 ++ half_bytes (entry 2 3002) 1

abbrev old : Server
old = server_on four_hosts old_disk

linked_entries : old.standing.len ≡ 2
unfolding on_rows
linked_entries = refl

whole_entries : (server_on four_hosts torn_disk).standing.len ≡ 1
unfolding on_rows
whole_entries = refl

-- A leader of term 3, over the old disk.

abbrev elected : List (Input Message)
elected = input.Timer ∷ input.Synced ∷ from 1 (msg.Vote true 3) ∷ input.Synced ∷ []

abbrev appended : ℕ → ℕ → ℕ → Input Message
appended from_host at term = from from_host (msg.Appended (record { agrees = true; at = at; term = term }))

leads : (after sound elected old).standing.len ≡ 3
unfolding on_rows
leads = refl

abbrev next_entry : ℕ → Effect Message
next_entry commit =
    Effect.Send 1 (msg.Append (record { term = 3; prev = 1; before = 1; entry = Some (entry 2 1); commit = commit }))

older_entry_waits : asks sound elected (appended 1 1 3) old ≡ next_entry 0 ∷ []
unfolding on_rows
older_entry_waits = refl

eager_commits_an_older_entry : asks eager elected (appended 1 1 3) old
    ≡ Effect.Send 3 (msg.Fin 3001) ∷ next_entry 1 ∷ []
unfolding on_rows
eager_commits_an_older_entry = refl

own_entry_commits_all : (after sound (elected ++ appended 1 3 3 ∷ []) old).standing.commit ≡ 3
unfolding on_rows
own_entry_commits_all = refl

committed_value_is_told_again : asks sound (elected ++ appended 1 3 3 ∷ []) (from 3 (msg.Put 3001)) old
    ≡ Effect.Send 3 (msg.Fin 3001) ∷ []
unfolding on_rows
committed_value_is_told_again = refl

-- A client asks the next server, and then the one that it is told of.
asks_the_next : (react_client four_hosts 3 (record { next = 1; server = 2 }) input.Timer).1
    ≡ Effect.Send 0 (msg.Put 3001) ∷ Effect.Timer 250 ∷ []
asks_the_next = refl

asks_the_leader : (react_client four_hosts 3 (record { next = 1; server = 0 }) (from 0 (msg.Try 2))).1
    ≡ Effect.Send 2 (msg.Put 3001) ∷ Effect.Timer 250 ∷ []
asks_the_leader = refl
