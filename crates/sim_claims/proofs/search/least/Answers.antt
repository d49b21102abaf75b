use Rattle.sim_claims.proofs.Finding.{done_first}
use Rattle.sim_claims.proofs.Plain.{ok_plain}
use Rattle.sim_claims.proofs.search.least.Goals as goal

pub returns : goal.returns
returns g c =
    let f = g.S.Pieces.finding c.args.pieces.now in
    let n = g.S.Pieces.count c.args.pieces.now in
    let first = done_first f n c.share-worker.result.0.me.0.drawn c.share-worker.result.1 c.close.ensures c.share-worker.ensures.3 in record {
      least = first;
      plain = ok_plain f n c.share-worker.result.1 first;
    }
