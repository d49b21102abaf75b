-- The probes of Raft: their names, and what they show.
use Rattle.std.specs.Prelude.{ℕ, ◌+◌, ◌-◌, ◌==◌, nat_le, ◌&&◌, List, [], ◌∷◌, Option, None, Some}
use Rattle.std.specs.Prelude.{codes, if◌then◌else◌}
use Rattle.example_raft.specs.declared.roles.Rank.{Rank}
use Rattle.example_raft.specs.declared.roles.Rank.TheVariants as rank
use Rattle.example_raft.specs.declared.roles.Standing.{Standing}
use Rattle.example_raft.specs.declared.roles.Server.{Server}
use Rattle.example_raft.specs.declared.roles.Role.{Role}
use Rattle.example_raft.specs.declared.roles.Role.TheVariants as role
use Rattle.example_raft.specs.RaftLog.{value_of}

-- the names, in the order of their numbers
abbrev pub probe_names : List (List ℕ)
probe_names =
    codes "next" ∷ codes "term" ∷ codes "leads" ∷ codes "commit" ∷ codes "len"
    ∷ codes "c1" ∷ codes "c2" ∷ codes "c3" ∷ codes "c4" ∷ codes "c5" ∷ codes "c6" ∷ codes "c7"
    ∷ codes "c8"
    ∷ codes "e1" ∷ codes "e2" ∷ codes "e3" ∷ codes "e4" ∷ codes "e5" ∷ codes "e6" ∷ codes "e7"
    ∷ codes "e8"
    ∷ []

-- the term that a server leads
abbrev pub leads_term : Rank → ℕ → ℕ
leads_term rank.Leader term = term
leads_term _ term = 0

-- the n-th value, if a server knows that it is committed
abbrev pub committed_at : ℕ → Server → ℕ
committed_at n s = if nat_le n s.standing.commit then value_of n s.log else 0

abbrev pub leader_of : Option ℕ → ℕ
leader_of None = 0
leader_of (Some leader) = leader + 1

-- one more than the server that it knows to lead a term
abbrev pub elected_in : ℕ → Standing → ℕ
elected_in term standing = if term == standing.term then leader_of standing.leader else 0

abbrev pub probe_server : ℕ → Server → ℕ
probe_server k s =
    if k == 1 then s.standing.term
    else if k == 2 then leads_term s.standing.rank s.standing.term
    else if k == 3 then s.standing.commit
    else if k == 4 then s.standing.len
    else if nat_le 5 k && nat_le k 12 then committed_at (k - 4) s
    else if nat_le 13 k then elected_in (k - 12) s.standing
    else 0

abbrev pub probe_as : Role → ℕ → ℕ
probe_as (role.Client c) k = if k == 0 then c.next else 0
probe_as (role.Server s) k = probe_server k s
