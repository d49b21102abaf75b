-- The tables of Raft: servers elect a leader, the leader adds the values of clients to its log and
-- sends them to the others, and an entry that a majority has is committed. A server reports a vote
-- or an entry only after its disk reports that it is stable.
use Rattle.std.specs.Prelude.{ℕ, ◌+◌, ◌-◌, ◌*◌, ◌/◌, ◌%◌, ◌==◌, min, max, nat_lt, nat_le, Bool}
use Rattle.std.specs.Prelude.{true, false, ◌&&◌, ◌||◌, List, [], ◌∷◌, ◌++◌, take, count_by}
use Rattle.std.specs.Prelude.{slice_index_or, slice_set, Option, None, Some, if◌then◌else◌}
use Rattle.sim_node.specs.declared.Setup.{Setup}
use Rattle.sim_node.specs.declared.host_setup.HostSetup.{HostSetup}
use Rattle.sim_node.specs.declared.Input.{Input}
use Rattle.sim_node.specs.declared.Input.TheVariants as input
use Rattle.sim_node.specs.Effects.{Effect}
use Rattle.sim_node.specs.Node.{NodeLaws, is_server, host_setup}
use Rattle.sim_hosts.specs.Numbers.{raised, lowered, is_settled, plus, times}
use Rattle.sim_hosts.specs.Reactions.{Reaction}
use Rattle.sim_hosts.specs.Hosts.{nobody, servers, joined, size, not_in, to_all}
use Rattle.example_raft.specs.declared.rules.Rules.{Rules}
use Rattle.example_raft.specs.declared.roles.Context.{Context}
use Rattle.example_raft.specs.declared.roles.Entry.{Entry}
use Rattle.example_raft.specs.declared.roles.Ask.{Ask}
use Rattle.example_raft.specs.declared.roles.Append.{Append}
use Rattle.example_raft.specs.declared.roles.Ack.{Ack}
use Rattle.example_raft.specs.declared.roles.Message.{Message}
use Rattle.example_raft.specs.declared.roles.Message.TheVariants as msg
use Rattle.example_raft.specs.declared.roles.Client.{Client}
use Rattle.example_raft.specs.declared.roles.Rank.{Rank}
use Rattle.example_raft.specs.declared.roles.Rank.TheVariants as rank
use Rattle.example_raft.specs.declared.roles.Standing.{Standing}
use Rattle.example_raft.specs.declared.roles.Server.{Server}
use Rattle.example_raft.specs.declared.roles.Role.{Role}
use Rattle.example_raft.specs.declared.roles.Role.TheVariants as role
use Rattle.example_raft.specs.declared.roles.State.{State}
use Rattle.example_raft.specs.RaftLog.{entry_at, term_of, value_of, place_of, saved_vote}
use Rattle.example_raft.specs.RaftLog.{saved_entry, server_on}
use Rattle.example_raft.specs.RaftProbes.{probe_as}

abbrev pub with_standing : Standing → Server → Server
with_standing standing s = record s { standing = standing }

-- an election timer (ms)
abbrev pub timeout : ℕ → List (Effect Message)
timeout word = Effect.Timer (150 + word % 150) ∷ []

-- these effects, if the server is settled
abbrev pub if_settled : Standing → List (Effect Message) → List (Effect Message)
if_settled standing said = if is_settled standing.unsure then said else []

abbrev pub to_others : Context → Message → List (Effect Message)
to_others here msg = to_all (not_in (servers here.setup) (joined here.me nobody)) msg

-- The log grows.

-- an entry is stored at a place, where the log then ends
abbrev pub kept : ℕ → Entry → Server → Server
kept place e s = record {
  standing = record s.standing { len = place + 1; unsure = raised s.standing.unsure };
  log = slice_set s.log place e;
  peers = s.peers;
}

-- an entry of its own term is stored at the end, unless the log is full
abbrev pub appended : ℕ → Server → Reaction Server Message
appended value s =
    if nat_lt s.standing.len 64 then (
    let new = kept s.standing.len (record { term = s.standing.term; value = value }) s in
    (new, saved_entry s.standing.len new.log)
    )
    else (s, [])

-- a leader's message about the entry at a place
abbrev pub append_of : ℕ → Server → Message
append_of place s = msg.Append (record {
  term = s.standing.term;
  prev = place;
  before = term_of place s.log;
  entry = if nat_lt place s.standing.len then Some (entry_at place s.log) else None;
  commit = s.standing.commit;
})

-- it sends its last entry to all others
abbrev pub spread : Context → Server → List (Effect Message)
spread here s = to_others here (append_of (s.standing.len - 1) s)

-- Terms.

abbrev pub following : ℕ → Standing → Standing
following term standing =
    record standing { term = term; voted = None; rank = rank.Follower; leader = None; matched = 0 }

abbrev pub waiting : Standing → Standing
waiting standing = record standing { unsure = raised standing.unsure }

-- a leader that follows now sets its timer again
abbrev pub anew : Rank → ℕ → List (Effect Message)
anew rank.Leader word = timeout word
anew _ word = []

-- it steps down to follow in a later term
abbrev pub steps_down : Context → ℕ → Server → Reaction Server Message
steps_down here term s =
    let new = waiting (following term s.standing) in
    (with_standing new s, saved_vote new ++ anew s.standing.rank here.word)

-- Elections.

abbrev pub is_majority : ℕ → HostSetup → Bool
is_majority n setup = nat_lt setup.servers (2 * n)

abbrev pub candidacy : ℕ → Standing → Standing
candidacy me standing = record standing {
  term = raised standing.term;
  voted = Some me;
  rank = rank.Candidate;
  leader = None;
  votes = joined me nobody;
  matched = 0;
  unsure = raised standing.unsure;
}

-- it becomes a candidate in the next term
abbrev pub stands : Context → Server → Reaction Server Message
stands here s =
    let new = candidacy here.me s.standing in
    (with_standing new s, saved_vote new ++ timeout here.word)

abbrev pub blank : ℕ
blank = 1

-- it leads, and appends a blank entry
abbrev pub leads : ℕ → Server → Reaction Server Message
leads me s =
    let next = appended blank (with_standing (record s.standing {
      rank = rank.Leader;
      leader = Some me;
    }) s) in
    (next.0, next.1 ++ Effect.Timer 50 ∷ [])

abbrev pub last_term : Server → ℕ
last_term s = term_of s.standing.len s.log

abbrev pub request_of : Server → Message
request_of s =
    msg.RequestVote (record { term = s.standing.term; len = s.standing.len; last = last_term s })

abbrev pub is_free : Option ℕ → ℕ → Bool
is_free None candidate = true
is_free (Some voted) candidate = voted == candidate

-- the log of the candidate is at least as new
abbrev pub is_new : Ask → Server → Bool
is_new ask s =
    nat_lt (last_term s) ask.last || ((ask.last == last_term s) && nat_le s.standing.len ask.len)

-- its standing in the term of the message, if that is later than its own
abbrev pub caught_up : ℕ → Standing → Standing
caught_up term standing = if nat_lt standing.term term then following term standing else standing

abbrev pub grants : ℕ → Ask → Server → Bool
grants from ask s =
    let standing = caught_up ask.term s.standing in
    (ask.term == standing.term) && is_free standing.voted from && is_new ask s

-- it votes; a hasty server reports the vote at once
abbrev pub granted : Context → ℕ → Ask → Server → Reaction Server Message
granted here from ask s =
    let new = waiting (record (caught_up ask.term s.standing) { voted = Some from }) in (
      with_standing new s,
      saved_vote new ++ timeout here.word ++ (if here.rules.hasty then Effect.Send from
          (msg.Vote true new.term) ∷ [] else []),
    )

abbrev pub asked : Context → ℕ → Ask → Server → Reaction Server Message
asked here from ask s =
    if grants from ask s then granted here from ask s
    else if nat_lt s.standing.term ask.term then steps_down here ask.term s
    else (s, if_settled s.standing (Effect.Send from (msg.Vote false s.standing.term) ∷ []))

-- a candidate gets a vote
abbrev pub elected : Context → ℕ → Server → Reaction Server Message
elected here from s =
    let new = with_standing (record s.standing { votes = joined from s.standing.votes }) s in
    if is_majority (size new.standing.votes) here.setup then leads here.me new else (new, [])

abbrev pub voted_by : Rank → Context → ℕ → Bool → ℕ → Server → Reaction Server Message
voted_by rank.Candidate here from true term s =
    if nat_lt s.standing.term term then steps_down here term s
    else if term == s.standing.term then elected here from s
    else (s, [])
voted_by _ here from agrees term s =
    if nat_lt s.standing.term term then steps_down here term s else (s, [])

-- Commitment.

-- how many servers have acknowledged n entries in this term
abbrev pub holders : ℕ → HostSetup → Server → ℕ
holders n setup s =
    count_by (λ p. (p.term == s.standing.term) && nat_le n p.has) (take setup.servers s.peers)

-- an eager leader doesn't look at the entry's term
abbrev pub may_commit : Context → ℕ → Server → Bool
may_commit here n s =
    nat_lt s.standing.commit n && nat_le n s.standing.len
    && (here.rules.eager || (term_of n s.log == s.standing.term))
    && is_majority (holders n here.setup s + 1) here.setup

-- the client of a value gets the answer that it is committed
abbrev pub fin_of : ℕ → HostSetup → List (Effect Message)
fin_of value setup =
    let client = (value - 1) / 1000 in
    if nat_le setup.servers client && nat_lt client setup.hosts
    then Effect.Send client (msg.Fin value) ∷ []
    else []

abbrev pub commits : Context → ℕ → Server → Reaction Server Message
commits here n s =
    if may_commit here n s then (
      with_standing (record s.standing { commit = n }) s,
      fin_of (value_of n s.log) here.setup,
    )
    else (s, [])

-- A follower receives a leader's message.

abbrev pub follower_of : ℕ → Standing → Standing
follower_of from standing = record standing { rank = rank.Follower; leader = Some from }

-- the log has the entries before this one
abbrev pub fits : Append → Server → Bool
fits a s = nat_le a.prev s.standing.len && (term_of a.prev s.log == a.before)

-- n entries are known to be the leader's, and as many of them committed as the leader says
abbrev pub verified : ℕ → ℕ → Standing → Standing
verified n commit standing =
    record standing {
      matched = max standing.matched n;
      commit = max standing.commit (min commit n);
    }

abbrev pub acknowledges : ℕ → Bool → ℕ → Standing → List (Effect Message)
acknowledges to agrees at standing =
    if_settled standing (Effect.Send to (msg.Appended (record {
      agrees = agrees;
      at = at;
      term = standing.term;
    })) ∷ [])

-- it has n entries of the leader already
abbrev pub agreed : Context → ℕ → ℕ → ℕ → Server → Reaction Server Message
agreed here from n commit s =
    let new = verified n commit (follower_of from s.standing) in
    (with_standing new s, timeout here.word ++ acknowledges from true new.matched new)

-- it takes the leader's entry
abbrev pub took : Context → ℕ → Append → Entry → Server → Reaction Server Message
took here from a e s =
    let new = kept a.prev e (with_standing (verified (a.prev + 1) a.commit
    (follower_of from s.standing)) s) in
    (new, saved_entry a.prev new.log ++ timeout here.word)

abbrev pub told_entry : Option Entry → Context → ℕ → Append → Server → Reaction Server Message
told_entry None here from a s = agreed here from a.prev a.commit s
told_entry (Some e) here from a s =
    if nat_lt a.prev s.standing.len && (term_of (a.prev + 1) s.log == e.term) then agreed here from
    (a.prev + 1) a.commit s
    else if nat_lt a.prev 64 then took here from a e s
    else agreed here from a.prev a.commit s

-- it lacks entries before this one
abbrev pub lacks : Context → ℕ → ℕ → Server → Reaction Server Message
lacks here from prev s =
    let new = follower_of from s.standing in (
      with_standing new s,
      timeout here.word ++ acknowledges from false (min s.standing.len (prev - 1)) new,
    )

-- it follows the leader of a later term
abbrev pub joins : Context → ℕ → ℕ → Server → Reaction Server Message
joins here from term s =
    let new = waiting (follower_of from (following term s.standing)) in
    (with_standing new s, saved_vote new ++ timeout here.word)

abbrev pub told : Context → ℕ → Append → Server → Reaction Server Message
told here from a s =
    if nat_lt a.term s.standing.term then (s, acknowledges from false 0 s.standing)
    else if nat_lt s.standing.term a.term then joins here from a.term s
    else if fits a s then told_entry a.entry here from a s
    else lacks here from a.prev s

-- A leader receives a follower's message.

-- how many entries a host has acknowledged in this term
abbrev pub known_of : ℕ → Server → ℕ
known_of host s =
    let p = slice_index_or s.peers host (record { term = 0; has = 0 }) in
    if p.term == s.standing.term then p.has else 0

abbrev pub sends_next : ℕ → ℕ → Server → List (Effect Message)
sends_next to place s = if_settled s.standing (Effect.Send to (append_of place s) ∷ [])

abbrev pub noted : ℕ → ℕ → Server → Server
noted from at s =
    record s { peers = slice_set s.peers from (record { term = s.standing.term; has = at }) }

-- a follower has more of the log than before
abbrev pub advanced : Context → ℕ → ℕ → Server → Reaction Server Message
advanced here from at s =
    let next = commits here at (noted from at s) in
    (next.0, next.1 ++ (if nat_lt at s.standing.len then sends_next from at next.0 else []))

abbrev pub heard_back : Bool → Context → ℕ → ℕ → Server → Reaction Server Message
heard_back true here from at s =
    if nat_lt (known_of from s) at then advanced here from at s else (s, [])
heard_back false here from at s = (s, if nat_le at s.standing.len then sends_next from at s else [])

abbrev pub acked : Rank → Context → ℕ → Ack → Server → Reaction Server Message
acked rank.Leader here from ack s =
    if nat_lt s.standing.term ack.term then steps_down here ack.term s
    else if ack.term == s.standing.term then heard_back ack.agrees here from ack.at s
    else (s, [])
acked _ here from ack s =
    if nat_lt s.standing.term ack.term then steps_down here ack.term s else (s, [])

-- A server receives a client's message.

abbrev pub redirected : Option ℕ → ℕ → List (Effect Message)
redirected None from = []
redirected (Some leader) from = Effect.Send from (msg.Try leader) ∷ []

abbrev pub put_again : Option ℕ → ℕ → ℕ → Server → Reaction Server Message
put_again None from value s = appended value s
put_again (Some place) from value s =
    (s, if nat_lt place s.standing.commit then Effect.Send from (msg.Fin value) ∷ [] else [])

abbrev pub put_by : Rank → ℕ → ℕ → Server → Reaction Server Message
put_by rank.Leader from value s = put_again (place_of value s.standing.len s.log) from value s
put_by _ from value s = (s, redirected s.standing.leader from)

-- Timers and syncs.

abbrev pub timed_out : Rank → Context → Server → Reaction Server Message
timed_out rank.Leader here s = (s, if_settled s.standing (spread here s) ++ Effect.Timer 50 ∷ [])
timed_out _ here s = stands here s

-- a follower reports its log to its leader, or its vote to a candidate
abbrev pub answered : Option ℕ → Option ℕ → Standing → List (Effect Message)
answered (Some leader) voted standing =
    Effect.Send leader (msg.Appended (record {
      agrees = true;
      at = standing.matched;
      term = standing.term;
    })) ∷ []
answered None (Some candidate) standing = Effect.Send candidate (msg.Vote true standing.term) ∷ []
answered None None standing = []

abbrev pub settled : Rank → Context → Server → Reaction Server Message
settled rank.Follower here s = (s, answered s.standing.leader s.standing.voted s.standing)
settled rank.Candidate here s =
    if is_majority (size s.standing.votes) here.setup then leads here.me s
    else (s, to_others here (request_of s))
settled rank.Leader here s =
    let next = commits here s.standing.len s in (next.0, next.1 ++ spread here next.0)

abbrev pub synced : Context → Server → Reaction Server Message
synced here s =
    let new = with_standing (record s.standing { unsure = lowered s.standing.unsure }) s in
    if is_settled new.standing.unsure then settled new.standing.rank here new else (new, [])

-- a server, a row for each input
abbrev pub react_server : Context → Server → Input Message → Reaction Server Message
react_server here s input.Start = (s, timeout here.word)
react_server here s input.Timer = timed_out s.standing.rank here s
react_server here s input.Synced = synced here s
react_server here s (input.Message from (msg.Put value)) = put_by s.standing.rank from value s
react_server here s (input.Message from (msg.RequestVote ask)) = asked here from ask s
react_server here s (input.Message from (msg.Vote agrees term)) =
    voted_by s.standing.rank here from agrees term s
react_server here s (input.Message from (msg.Append a)) = told here from a s
react_server here s (input.Message from (msg.Appended ack)) = acked s.standing.rank here from ack s
react_server here s _ = (s, [])

-- A client.

abbrev pub value_by : ℕ → ℕ → ℕ
value_by me next = plus (times 1000 me) next

-- it asks, and sets a timer
abbrev pub puts : ℕ → Client → Reaction Client Message
puts me c = (c, Effect.Send c.server (msg.Put (value_by me c.next)) ∷ Effect.Timer 250 ∷ [])

-- it waits for an operation
abbrev pub waits : ℕ → Client → Bool
waits ops c = nat_le 1 c.next && nat_le c.next ops

-- its value is committed; after the last it is done
abbrev pub finished : ℕ → ℕ → Client → Reaction Client Message
finished me ops c =
    let new = record c { next = raised c.next } in if c.next == ops then (new, Effect.Done ∷ [])
    else puts me new

-- the server after this one; server 0 comes after the last
abbrev pub next_server : ℕ → HostSetup → ℕ
next_server server setup = if nat_lt (server + 1) setup.servers then server + 1 else 0

-- a client, a row for each input
abbrev pub react_client : HostSetup → ℕ → Client → Input Message → Reaction Client Message
react_client setup me c input.Start = puts me (record c { next = 1 })
react_client setup me c input.Timer =
    if waits setup.ops c then puts me (record c { server = next_server c.server setup })
    else (c, [])
react_client setup me c (input.Message from (msg.Fin value)) =
    if waits setup.ops c && (value == value_by me c.next)
    then finished me setup.ops c
    else (c, [])
react_client setup me c (input.Message from (msg.Try server)) =
    if waits setup.ops c && nat_lt server setup.servers
    then puts me (record c { server = server })
    else (c, [])
react_client setup me c _ = (c, [])

-- A host.

abbrev pub role_at_boot : Setup → ℕ → List ℕ → Role
role_at_boot setup me bytes =
    if is_server setup me then role.Server (server_on (host_setup setup me) bytes)
    else role.Client (record { next = 0; server = me % setup.servers })

abbrev pub boot : Setup → ℕ → List ℕ → State
boot setup me bytes =
    record { setup = host_setup setup me; me = me; role = role_at_boot setup me bytes }

abbrev pub in_role : {Part : Type 0} → (Part → Role) → Reaction Part Message → State
    → Reaction State Message
in_role as_role reaction state = (record state { role = as_role reaction.0 }, reaction.1)

-- the context in which a server reacts
abbrev pub context : Rules → ℕ → State → Context
context rules word state = record { rules = rules; setup = state.setup; me = state.me; word = word }

abbrev pub react_as : Rules → Role → Input Message → ℕ → State → Reaction State Message
react_as rules (role.Client c) i word state =
    in_role role.Client (react_client state.setup state.me c i) state
react_as rules (role.Server s) i word state =
    in_role role.Server (react_server (context rules word state) s i) state

abbrev pub raft : Rules → NodeLaws State Message
raft rules = record {
  boot = boot;
  react = λ state now i word. react_as rules state.role i word state;
  probe = λ state k. probe_as state.role k;
}
