use Rattle.std.proofs.Common.{◌≡◌, rules, nat_lt, true, false, append-nil}
use Rattle.example_raft.proofs.roles.Server.advance.Goals as goal

pub returns-then-at-len-clause-did : goal.returns-then-at-len-clause-did
returns-then-at-len-clause-did c =
    let more : nat_lt c.args.at c.args.self.now.standing.len ≡ true = search rules in record {
      state = rw (c.commit.ensures.did.state, c.note-change.ensures.state);
      effects = rw (c.send_next.ensures, c.commit.ensures.did.effects, c.commit.ensures.did.state, c.note-change.ensures.state, more);
      placed = c.commit.ensures.did.placed;
    }

pub returns-else-at-len-clause-did : goal.returns-else-at-len-clause-did
returns-else-at-len-clause-did c =
    let all : nat_lt c.args.at c.args.self.now.standing.len ≡ false = search rules in record {
      state = rw (c.commit.ensures.did.state, c.note-change.ensures.state);
      effects = rw (c.commit.ensures.did.effects, c.note-change.ensures.state, all, append-nil);
      placed = c.commit.ensures.did.placed;
    }

pub returns-else-at-len-clause-back : goal.returns-else-at-len-clause-back
returns-else-at-len-clause-back c = record { placed = search rules; log = search rules; peers = search rules }
