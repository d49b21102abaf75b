-- The log of Raft, and the disk of a server.
use Rattle.std.specs.Prelude.{ℕ, zero, suc, ◌+◌, ◌-◌, ◌*◌, ◌==◌, nat_lt, nat_le, Bool, ◌&&◌, List}
use Rattle.std.specs.Prelude.{[], ◌∷◌, ◌++◌, take, replicate, position, slice_index, slice_index_or}
use Rattle.std.specs.Prelude.{slice_set, Option, None, Some, if◌then◌else◌}
use Rattle.std.specs.Int.{w64, to_be_bytes, from_be_bytes}
use Rattle.sim_node.specs.declared.host_setup.HostSetup.{HostSetup}
use Rattle.sim_node.specs.Effects.{Effect}
use Rattle.sim_hosts.specs.Bytes.{bytes_of, number_at}
use Rattle.sim_hosts.specs.Hosts.{nobody}
use Rattle.example_raft.specs.declared.roles.Entry.{Entry}
use Rattle.example_raft.specs.declared.roles.Message.{Message}
use Rattle.example_raft.specs.declared.roles.Rank.TheVariants as rank
use Rattle.example_raft.specs.declared.roles.Standing.{Standing}
use Rattle.example_raft.specs.declared.roles.Server.{Server}

-- The log. Places count from 0; a length of n means the places below n.

abbrev pub no_entry : Entry
no_entry = record { term = 0; value = 0 }

abbrev pub entry_at : ℕ → List Entry → Entry
entry_at place log = slice_index_or log place no_entry

-- the term of the n-th entry, 0 before the first
abbrev pub term_of : ℕ → List Entry → ℕ
term_of n log = if n == 0 then 0 else (entry_at (n - 1) log).term

-- the value of the n-th entry
abbrev pub value_of : ℕ → List Entry → ℕ
value_of n log = (entry_at (n - 1) log).value

-- the first place below a length with this value
abbrev pub place_of : ℕ → ℕ → List Entry → Option ℕ
place_of value len log = position (λ e. e.value == value) (take len log)

-- The disk. At 0: the term, high byte first, and a byte for the vote. Entry k is at 64 + 48 k,
-- twice, with the term of the entry before it.

abbrev pub vote_byte : Option ℕ → ℕ
vote_byte None = 0
vote_byte (Some host) = host + 1

abbrev pub vote_bytes : Standing → List ℕ
vote_bytes standing = to_be_bytes w64 standing.term ++ vote_byte standing.voted ∷ []

abbrev pub half_bytes : Entry → ℕ → List ℕ
half_bytes e before = bytes_of e.term ++ bytes_of e.value ++ bytes_of before

abbrev pub entry_bytes : Entry → ℕ → List ℕ
entry_bytes e before = half_bytes e before ++ half_bytes e before

abbrev pub entry_offset : ℕ → ℕ
entry_offset place = 64 + 48 * place

-- What a server writes. Each write is followed by a sync, for which it then waits.

abbrev pub saved_vote : Standing → List (Effect Message)
saved_vote standing = Effect.Write 0 (vote_bytes standing) ∷ Effect.Sync ∷ []

abbrev pub saved_entry : ℕ → List Entry → List (Effect Message)
saved_entry place log =
    Effect.Write (entry_offset place) (entry_bytes (entry_at place log) (term_of place log))
    ∷ Effect.Sync ∷ []

-- What a server boots from.

abbrev pub entry_on : List ℕ → ℕ → Entry
entry_on bytes place =
    record {
      term = number_at bytes (entry_offset place);
      value = number_at bytes (entry_offset place + 8);
    }

-- the entry at a place is whole, and the entry before it had this term
unfoldable pub is_linked : List ℕ → ℕ → ℕ → Bool
is_linked bytes place before =
    nat_lt 0 (number_at bytes (entry_offset place))
    && (number_at bytes (entry_offset place + 16) == before)
    && (number_at bytes (entry_offset place + 24) == number_at bytes (entry_offset place))
    && (number_at bytes (entry_offset place + 32) == number_at bytes (entry_offset place + 8))
    && (number_at bytes (entry_offset place + 40) == before)

-- n more entries from a place on, while they are linked: the length and the log
unfoldable pub log_from : List ℕ → ℕ → ℕ → ℕ → List Entry → ℕ × List Entry
log_from bytes place zero before log = (place, log)
log_from bytes place (suc n) before log =
    if is_linked bytes place before then log_from bytes (place + 1) n (entry_on bytes place).term
    (slice_set log place (entry_on bytes place))
    else (place, log)

abbrev pub log_on : List ℕ → ℕ × List Entry
log_on bytes = log_from bytes 0 64 0 (replicate 64 no_entry)

abbrev pub term_on : List ℕ → ℕ
term_on bytes = from_be_bytes w64 (
    slice_index bytes 0 ∷ slice_index bytes 1 ∷ slice_index bytes 2 ∷ slice_index bytes 3
    ∷ slice_index bytes 4 ∷ slice_index bytes 5 ∷ slice_index bytes 6 ∷ slice_index bytes 7 ∷ []
    )

-- a byte that names no server is no vote
abbrev pub voted_on : HostSetup → List ℕ → Option ℕ
voted_on setup bytes =
    let byte = slice_index bytes 8 in
    if nat_le 1 byte && nat_le byte setup.servers then Some (byte - 1) else None

abbrev pub server_on : HostSetup → List ℕ → Server
server_on setup bytes =
    let found = log_on bytes in record {
      standing = record {
        term = term_on bytes;
        voted = voted_on setup bytes;
        rank = rank.Follower;
        leader = None;
        votes = nobody;
        len = found.0;
        matched = 0;
        commit = 0;
        unsure = 0;
      };
      log = found.1;
      peers = replicate 32 (record { term = 0; has = 0 });
    }
