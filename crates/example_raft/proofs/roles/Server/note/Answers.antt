use Rattle.std.proofs.Common.{rules}
use Rattle.example_raft.proofs.Restored.{put_back}
use Rattle.example_raft.proofs.roles.Server.note.Goals as goal

pub returns-clause-back : goal.returns-clause-back
returns-clause-back c = record {
  placed = search rules;
  log = search rules;
  peers = put_back c.args.self.now.peers c.args.host _ _;
}
