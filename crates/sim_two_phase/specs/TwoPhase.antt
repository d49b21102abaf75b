-- Two-phase commit with presumed abort: server 0 is the coordinator, the other servers are the
-- participants. A server votes for a transaction or reports a commit only after its disk reports
-- that the write of it is stable. It reports an abort at once.
use Rattle.std.specs.Prelude.{ℕ, ◌%◌, ◌==◌, nat_lt, nat_le, Bool, true, false, not, ◌&&◌, ◌||◌}
use Rattle.std.specs.Prelude.{List, [], ◌∷◌, ◌++◌, replicate, slice_index, slice_set, Option, None}
use Rattle.std.specs.Prelude.{Some, if◌then◌else◌}
use Rattle.sim_node.specs.declared.Setup.{Setup}
use Rattle.sim_node.specs.declared.host_setup.HostSetup.{HostSetup}
use Rattle.sim_node.specs.declared.Input.{Input}
use Rattle.sim_node.specs.declared.Input.TheVariants as input
use Rattle.sim_node.specs.Effects.{Effect}
use Rattle.sim_node.specs.Node.{NodeLaws, is_server, host_setup}
use Rattle.sim_hosts.specs.declared.set.HostSet.{HostSet}
use Rattle.sim_two_phase.specs.declared.roles.CommitMsg.{CommitMsg}
use Rattle.sim_two_phase.specs.declared.roles.CommitMsg.TheVariants.{Begin, Answer, Prepare, Vote}
use Rattle.sim_two_phase.specs.declared.roles.CommitMsg.TheVariants.{Decide, Seen, Inquire}
use Rattle.sim_two_phase.specs.declared.roles.First.{First}
use Rattle.sim_two_phase.specs.declared.roles.First.TheVariants as first
use Rattle.sim_two_phase.specs.declared.roles.Phase.{Phase}
use Rattle.sim_two_phase.specs.declared.roles.Phase.TheVariants as phase
use Rattle.sim_two_phase.specs.declared.roles.Owed.{Owed}
use Rattle.sim_two_phase.specs.declared.roles.Conduct.{Conduct}
use Rattle.sim_two_phase.specs.declared.roles.Coordinator.{Coordinator}
use Rattle.sim_two_phase.specs.declared.roles.Status.{Status}
use Rattle.sim_two_phase.specs.declared.roles.Status.TheVariants as status
use Rattle.sim_two_phase.specs.declared.roles.Participant.{Participant}
use Rattle.sim_two_phase.specs.declared.roles.Role.{Role}
use Rattle.sim_two_phase.specs.declared.roles.Role.TheVariants as role
use Rattle.sim_two_phase.specs.declared.roles.State.{State}
use Rattle.sim_hosts.specs.Numbers.{raised, lowered, is_settled}
use Rattle.sim_hosts.specs.Reactions.{Reaction}
use Rattle.sim_hosts.specs.Bytes.{bytes_of, number_at}
use Rattle.sim_hosts.specs.Hosts.{nobody, others, is_other, joined, all_in, not_in, to_all}
use Rattle.sim_hosts.specs.Waiting.{lowest_waiting}

abbrev pub byte_of_first : First → ℕ
byte_of_first first.Open = 0
byte_of_first first.Committed = 1
byte_of_first first.Aborted = 2

abbrev pub first_of_byte : ℕ → First
first_of_byte b = if b == 1 then first.Committed else if b == 2 then first.Aborted else first.Open

abbrev pub byte_of_flag : Bool → ℕ
byte_of_flag true = 1
byte_of_flag false = 0

abbrev pub byte_of_status : Status → ℕ
byte_of_status status.Idle = 0
byte_of_status status.Prepared = 1
byte_of_status status.Committed = 2
byte_of_status status.Aborted = 3

abbrev pub status_of_byte : ℕ → Status
status_of_byte b =
    if b == 1 then status.Prepared
    else if b == 2 then status.Committed else if b == 3 then status.Aborted else status.Idle

-- a server's 10 bytes: the transaction, the commit flag or the status, and the outcome of
-- transaction 1
abbrev pub server_bytes : ℕ → ℕ → First → List ℕ
server_bytes transaction byte outcome = bytes_of transaction ++ byte ∷ byte_of_first outcome ∷ []

-- writes them in one write, and asks for a sync
abbrev pub forced : ℕ → ℕ → First → List (Effect CommitMsg)
forced transaction byte outcome =
    Effect.Write 0 (server_bytes transaction byte outcome) ∷ Effect.Sync ∷ []

-- the outcome of transaction 1, after this transaction got its outcome
abbrev pub noted : ℕ → First → First → First
noted transaction outcome before = if transaction == 1 then outcome else before

-- The coordinator: a row for each definition.

-- if transaction 1 has begun and is open, it is presumed aborted
abbrev pub presumed : ℕ → First → First
presumed transaction first.Open = if nat_le 1 transaction then first.Aborted else first.Open
presumed transaction outcome = outcome

abbrev pub coordinator_at_boot : List ℕ → Coordinator
coordinator_at_boot bytes = record {
  conduct = record {
    transaction = number_at bytes 0;
    commits = slice_index bytes 8 == 1;
    first = presumed (number_at bytes 0) (first_of_byte (slice_index bytes 9));
    phase = phase.Resting;
    unsure = 0;
    owed = None;
  };
  waiting = replicate 32 None;
}

abbrev pub forced_by_coordinator : Conduct → List (Effect CommitMsg)
forced_by_coordinator c = forced c.transaction (byte_of_flag c.commits) c.first

-- sends all participants the commit of its transaction
abbrev pub telling : HostSetup → Conduct → List (Effect CommitMsg)
telling setup c = to_all (others setup) (Decide true c.transaction) ++ Effect.Timer 100 ∷ []

-- it starts with a commit on its disk
abbrev pub started : HostSetup → Conduct → Reaction Conduct CommitMsg
started setup c =
    if c.commits then (record c { phase = phase.Telling nobody }, telling setup c) else (c, [])

-- the last vote has come: it commits, and owes the client an answer
abbrev pub committed : ℕ → ℕ → Conduct → Reaction Conduct CommitMsg
committed client number c =
    let new = record c {
      commits = true;
      first = noted c.transaction first.Committed c.first;
      phase = phase.Telling nobody;
      unsure = raised c.unsure;
      owed = Some (record { client = client; number = number });
    } in (new, forced_by_coordinator new ++ Effect.Timer 100 ∷ [])

abbrev pub voted_yes : ℕ → ℕ → ℕ → HostSet → HostSetup → Conduct → Reaction Conduct CommitMsg
voted_yes from client number voted setup c =
    if all_in (others setup) (joined from voted) then committed client number c
    else (record c { phase = phase.Voting client (joined from voted) number }, [])

-- a participant is against: it aborts, and answers the client and all participants at once
abbrev pub voted_no : ℕ → ℕ → HostSetup → Conduct → Reaction Conduct CommitMsg
voted_no client number setup c =
    let new = record c {
      first = noted c.transaction first.Aborted c.first;
      phase = phase.Resting;
      unsure = raised c.unsure;
    } in (
      new,
      forced_by_coordinator new ++ Effect.Send client (Answer false number)
          ∷ to_all (others setup) (Decide false c.transaction) ++ Effect.Timer 1 ∷ [],
    )

abbrev pub voted : ℕ → Bool → Phase → HostSetup → Conduct → Reaction Conduct CommitMsg
voted from true (phase.Voting client votes number) setup c =
    voted_yes from client number votes setup c
voted from false (phase.Voting client votes number) setup c = voted_no client number setup c
voted from agrees _ setup c = (c, [])

-- a participant has seen the commit; after the last one the coordinator rests
abbrev pub seen : ℕ → Phase → HostSetup → Conduct → Reaction Conduct CommitMsg
seen from (phase.Telling told) setup c =
    if all_in (others setup) (joined from told) then (
      record c { phase = phase.Resting },
      Effect.Timer 1 ∷ [],
    )
    else (record c { phase = phase.Telling (joined from told) }, [])
seen from _ setup c = (c, [])

-- It reports the outcome of its transaction once all votes have come, and a commit only once it is
-- stable.
abbrev pub may_tell : Phase → ℕ → Bool
may_tell phase.Resting unsure = true
may_tell (phase.Voting client votes number) unsure = false
may_tell (phase.Telling told) unsure = is_settled unsure

abbrev pub inquired : ℕ → ℕ → Conduct → Reaction Conduct CommitMsg
inquired from u c =
    if nat_lt u c.transaction then (c, Effect.Send from (Decide false u) ∷ [])
    else if (u == c.transaction) && may_tell c.phase c.unsure then
    (c, Effect.Send from (Decide c.commits u) ∷ [])
    else (c, [])

-- the messages of a settled coordinator to the participants that have not answered yet
abbrev pub asked_again : Phase → HostSetup → Conduct → List (Effect CommitMsg)
asked_again phase.Resting setup c = []
asked_again (phase.Voting client votes number) setup c =
    to_all (not_in (others setup) votes) (Prepare c.transaction)
asked_again (phase.Telling told) setup c =
    to_all (not_in (others setup) told) (Decide true c.transaction)

-- its timer during a transaction
abbrev pub timed_out : HostSetup → Conduct → Reaction Conduct CommitMsg
timed_out setup c =
    (c, (if is_settled c.unsure then asked_again c.phase setup c else []) ++ Effect.Timer 100 ∷ [])

-- a settled coordinator, after a sync: it asks for votes, or answers its client and reports the
-- commit
abbrev pub settled : Phase → Option Owed → HostSetup → Conduct → Reaction Conduct CommitMsg
settled (phase.Voting client votes number) owed setup c =
    (c, asked_again c.phase setup c ++ Effect.Timer 100 ∷ [])
settled (phase.Telling told) (Some o) setup c =
    (record c { owed = None }, Effect.Send o.client (Answer true o.number) ∷ telling setup c)
settled _ owed setup c = (c, [])

abbrev pub coordinator_synced : HostSetup → Conduct → Reaction Conduct CommitMsg
coordinator_synced setup c =
    let new = record c { unsure = lowered c.unsure } in
    if is_settled new.unsure then settled new.phase new.owed setup new else (new, [])

-- a message from a participant about the current transaction
abbrev pub is_of_this : ℕ → ℕ → HostSetup → Conduct → Bool
is_of_this from u setup c = is_other setup from && (u == c.transaction)

-- it begins a transaction for the lowest waiting host
abbrev pub begun_for : ℕ × ℕ → Coordinator → Reaction Coordinator CommitMsg
begun_for w c =
    let new = record c.conduct {
      transaction = raised c.conduct.transaction;
      commits = false;
      phase = phase.Voting w.0 nobody w.1;
      unsure = raised c.conduct.unsure;
    } in (
      record { conduct = new; waiting = slice_set c.waiting w.0 None },
      forced_by_coordinator new ++ Effect.Timer 100 ∷ [],
    )

abbrev pub begun : HostSetup → Coordinator → Reaction Coordinator CommitMsg
begun setup c = elim (lowest_waiting setup c.waiting) [ None ↦ (c, []) | Some w ↦ begun_for w c ]

abbrev pub is_voting_for : ℕ → Phase → Bool
is_voting_for host (phase.Voting client votes number) = client == host
is_voting_for host _ = false

abbrev pub begun_if_resting : Phase → HostSetup → Coordinator → Reaction Coordinator CommitMsg
begun_if_resting phase.Resting setup c = begun setup c
begun_if_resting _ setup c = (c, [])

-- a host waits with this operation now, whatever it waited with; a resting coordinator begins
abbrev pub asked_by : ℕ → ℕ → HostSetup → Coordinator → Reaction Coordinator CommitMsg
asked_by from i setup c =
    if is_voting_for from c.conduct.phase then (c, [])
    else begun_if_resting c.conduct.phase setup
    (record c { waiting = slice_set c.waiting from (Some i) })

-- the reaction of the conduct, with the waiting hosts unchanged
abbrev pub conducted : Coordinator → Reaction Conduct CommitMsg → Reaction Coordinator CommitMsg
conducted c reaction = (record c { conduct = reaction.0 }, reaction.1)

abbrev pub coordinator_timer : Phase → HostSetup → Coordinator → Reaction Coordinator CommitMsg
coordinator_timer phase.Resting setup c = begun setup c
coordinator_timer _ setup c = conducted c (timed_out setup c.conduct)

-- a message that does not change who waits
abbrev pub heard : ℕ → CommitMsg → HostSetup → Coordinator → Reaction Coordinator CommitMsg
heard from (Vote agrees u) setup c =
    if is_of_this from u setup c.conduct
    then conducted c (voted from agrees c.conduct.phase setup c.conduct)
    else (c, [])
heard from (Seen u) setup c =
    if is_of_this from u setup c.conduct
    then conducted c (seen from c.conduct.phase setup c.conduct)
    else (c, [])
heard from (Inquire u) setup c = conducted c (inquired from u c.conduct)
heard from _ setup c = (c, [])

abbrev pub react_coordinator : HostSetup → Coordinator → Input CommitMsg
    → Reaction Coordinator CommitMsg
react_coordinator setup c input.Start = conducted c (started setup c.conduct)
react_coordinator setup c input.Timer = coordinator_timer c.conduct.phase setup c
react_coordinator setup c input.Synced = conducted c (coordinator_synced setup c.conduct)
react_coordinator setup c (input.Message from (Begin i)) = asked_by from i setup c
react_coordinator setup c (input.Message from msg) = heard from msg setup c

-- A participant: a row for each definition.

abbrev pub participant_at_boot : List ℕ → Participant
participant_at_boot bytes = record {
  transaction = number_at bytes 0;
  status = status_of_byte (slice_index bytes 8);
  first = first_of_byte (slice_index bytes 9);
  unsure = 0;
}

abbrev pub forced_by_participant : Participant → List (Effect CommitMsg)
forced_by_participant p = forced p.transaction (byte_of_status p.status) p.first

abbrev pub is_prepared : Status → Bool
is_prepared status.Prepared = true
is_prepared _ = false

abbrev pub is_committed : Status → Bool
is_committed status.Committed = true
is_committed _ = false

abbrev pub is_aborted : Status → Bool
is_aborted status.Aborted = true
is_aborted _ = false

-- a prepared participant asks for the outcome of its transaction
abbrev pub inquires : Participant → Reaction Participant CommitMsg
inquires p =
    if is_prepared p.status then (p, Effect.Send 0 (Inquire p.transaction) ∷ Effect.Timer 100 ∷ [])
    else (p, [])

-- if it was prepared for transaction 1 and is asked for a later one, transaction 1 was aborted
abbrev pub passed_over : Participant → First
passed_over p = if is_prepared p.status && (p.transaction == 1) then first.Aborted else p.first

abbrev pub votes_yes : ℕ → Participant → Reaction Participant CommitMsg
votes_yes u p =
    let new : Participant = record {
      transaction = u;
      status = status.Prepared;
      first = passed_over p;
      unsure = raised p.unsure;
    } in
    (new, forced_by_participant new ++ Effect.Timer 100 ∷ [])

abbrev pub votes_no : ℕ → Participant → Reaction Participant CommitMsg
votes_no u p =
    let new : Participant = record {
      transaction = u;
      status = status.Aborted;
      first = noted u first.Aborted (passed_over p);
      unsure = raised p.unsure;
    } in
    (new, forced_by_participant new ++ Effect.Send 0 (Vote false u) ∷ [])

-- It is asked to prepare: one time in eight it is against. It repeats a stable vote.
abbrev pub has_stable_vote : ℕ → Participant → Bool
has_stable_vote u p =
    (u == p.transaction) && ((is_prepared p.status || is_aborted p.status) && is_settled p.unsure)

abbrev pub prepares : ℕ → ℕ → Participant → Reaction Participant CommitMsg
prepares u word p =
    if nat_lt p.transaction u then (if word % 8 == 0 then votes_no u p else votes_yes u p)
    else if has_stable_vote u p then (p, Effect.Send 0 (Vote (is_prepared p.status) u) ∷ [])
    else (p, [])

abbrev pub status_of : Bool → Status
status_of true = status.Committed
status_of false = status.Aborted

abbrev pub outcome_of : Bool → First
outcome_of true = first.Committed
outcome_of false = first.Aborted

abbrev pub learns : ℕ → Bool → Participant → Reaction Participant CommitMsg
learns u commit p =
    let new = record p {
      status = status_of commit;
      first = noted u (outcome_of commit) p.first;
      unsure = raised p.unsure;
    } in
    (new, forced_by_participant new)

-- its own commit, once that is stable, and each transaction before its own
abbrev pub has_seen : ℕ → Participant → Bool
has_seen u p =
    is_settled p.unsure && (nat_lt u p.transaction || ((u == p.transaction)
    && is_committed p.status))

abbrev pub decided : ℕ → Bool → Participant → Reaction Participant CommitMsg
decided u commit p =
    if (u == p.transaction) && is_prepared p.status then learns u commit p
    else if commit && has_seen u p then (p, Effect.Send 0 (Seen u) ∷ [])
    else (p, [])

-- the messages of a settled participant after a sync
abbrev pub says : Status → ℕ → List (Effect CommitMsg)
says status.Prepared t = Effect.Send 0 (Vote true t) ∷ []
says status.Committed t = Effect.Send 0 (Seen t) ∷ []
says _ t = []

abbrev pub participant_synced : Participant → Reaction Participant CommitMsg
participant_synced p =
    let new = record p { unsure = lowered p.unsure } in
    (new, if is_settled new.unsure then says new.status new.transaction else [])

abbrev pub react_participant : Participant → Input CommitMsg → ℕ → Reaction Participant CommitMsg
react_participant p input.Start word = inquires p
react_participant p input.Timer word = inquires p
react_participant p input.Synced word = participant_synced p
react_participant p (input.Message from (Prepare u)) word = prepares u word p
react_participant p (input.Message from (Decide commit u)) word = decided u commit p
react_participant p _ word = (p, [])

-- A client: its counter is the number of the operation that it waits for, from 1.

abbrev pub client_asks : ℕ → Reaction ℕ CommitMsg
client_asks next = (next, Effect.Send 0 (Begin next) ∷ Effect.Timer 200 ∷ [])

-- the answer to its operation has come; after the last one it is done
abbrev pub client_answered : ℕ → ℕ → Reaction ℕ CommitMsg
client_answered ops next =
    if next == ops then (raised next, Effect.Done ∷ []) else client_asks (raised next)

abbrev pub react_client : ℕ → ℕ → Input CommitMsg → Reaction ℕ CommitMsg
react_client ops next input.Start = client_asks 1
react_client ops next input.Timer =
    if nat_le 1 next && nat_le next ops then client_asks next else (next, [])
react_client ops next (input.Message from (Answer ok i)) =
    if i == next then client_answered ops next else (next, [])
react_client ops next _ = (next, [])

-- A host.

abbrev pub role_at_boot : Setup → ℕ → List ℕ → Role
role_at_boot setup me bytes =
    if not (is_server setup me) then role.Client 0
    else if me == 0 then role.Coordinator (coordinator_at_boot bytes)
    else role.Participant (participant_at_boot bytes)

abbrev pub boot : Setup → ℕ → List ℕ → State
boot setup me bytes =
    record { setup = host_setup setup me; me = me; role = role_at_boot setup me bytes }

abbrev pub in_role : {Part : Type 0} → (Part → Role) → Reaction Part CommitMsg → State
    → Reaction State CommitMsg
in_role as_role reaction state = (record state { role = as_role reaction.0 }, reaction.1)

abbrev pub react_as : Role → Input CommitMsg → ℕ → State → Reaction State CommitMsg
react_as (role.Client next) i word state =
    in_role role.Client (react_client state.setup.ops next i) state
react_as (role.Coordinator c) i word state =
    in_role role.Coordinator (react_coordinator state.setup c i) state
react_as (role.Participant p) i word state =
    in_role role.Participant (react_participant p i word) state

-- probe 0 is `next` of a client, probe 1 the outcome of transaction 1 at a server
abbrev pub probe_as : Role → ℕ → ℕ
probe_as (role.Client next) k = if k == 0 then next else 0
probe_as (role.Coordinator c) k = if k == 1 then byte_of_first c.conduct.first else 0
probe_as (role.Participant p) k = if k == 1 then byte_of_first p.first else 0

abbrev pub two_phase : NodeLaws State CommitMsg
two_phase = record {
  boot = boot;
  react = λ state now i word. react_as state.role i word state;
  probe = λ state k. probe_as state.role k;
}
