use Rattle.std.proofs.Common.{rules, ◌≡◌, ◌+◌, vec_len}
use Rattle.sim_claims.proofs.Finding.{done_both}
use Rattle.sim_claims.proofs.search.+fn-share-join+arg3+share.Goals as goal

pub returns : goal.returns
returns g t c =
    let first = c.join-mine.ensures.first in
    let second = c.join-mine.ensures.second in
    let long : vec_len c.args.meters ≡ vec_len c.pop.new.self + 1 = search rules in
    done_both _ (g.S.Pieces.finding c.args.pieces.now) (g.S.Pieces.count c.args.pieces.now) (vec_len c.pop.new.self) 1 (vec_len c.args.meters) c.join-mine.result.1.0 c.join-mine.result.0.0 c.together.new.worker c.join-mine.result.1.1 c.join-mine.result.0.1 c.both.result second first c.together.ensures.of c.together.ensures.both c.both.ensures long
