use Rattle.std.proofs.Common.{rules}
use Rattle.example_raft.proofs.Restored.{put_back}
use Rattle.example_raft.proofs.roles.Server.keep.Goals as goal

pub returns-clause-back : goal.returns-clause-back
returns-clause-back c = record {
  placed = search rules;
  log = put_back c.args.self.now.log c.args.place c.args.entry _;
  peers = search rules;
}
