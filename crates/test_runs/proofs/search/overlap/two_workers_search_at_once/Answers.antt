use denote.Param.Send.{IsSend, IsSync, sendable}
use Rattle.std.proofs.Crossing.{crosses}
use Rattle.sim_tally.specs.contracts.tally.Tally as Tally
use Rattle.test_runs.specs.contracts.search.comers.Comer as Comer
use Rattle.test_runs.specs.contracts.search.meeting.Meeting as Meeting
use Rattle.test_runs.proofs.search.overlap.two_workers_search_at_once.Goals as goal

meeting_sync : IsSync Meeting.the_row
meeting_sync = search (crosses, sendable) depth 24

tally_send : IsSend Tally.the_row
tally_send = search (crosses, sendable) depth 24

comer_send : (κ : _) → IsSend (Comer.the_row κ)
comer_send κ = search (meeting_sync, tally_send, sendable) depth 24

pub search-found-requires-send-N-Meter : goal.search-found-requires-send-N-Meter
search-found-requires-send-N-Meter g c κs within = search (comer_send, sendable) depth 16
