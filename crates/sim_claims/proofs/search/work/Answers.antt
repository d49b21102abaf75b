use Rattle.std.proofs.Common.{◌≡◌, ◌<◌, ◌≤◌, [], ◌∷◌, ◌++◌, length, None, refl, sym, ap, subst, ◌∙◌, arith, length-append}
use Rattle.sim_claims.specs.Claims.{past}
use Rattle.sim_claims.specs.Best.{IsBest, at_piece}
use Rattle.sim_claims.proofs.Finding.{best_nil, best_join, best_one, best_past, past_in, past_out}
use Rattle.sim_claims.proofs.search.work.Goals as goal

pub loop-init : goal.loop-init
loop-init g c =
    let m = c.requires.fresh in
    let drawn = ap (λ x. x.0.drawn) m in record {
      of = c.requires.of;
      parts = ap (λ x. x.0.parts) m;
      bare = ap (λ x. x.1) m;
      count = ap (λ x. length x.0.drawn) m;
      inside = ap (λ x. past c.count-count.result x.0.drawn) m;
      within = omega arith;
      best = subst (λ xs. IsBest (g.S.Pieces.finding c.args.pieces.now) (g.S.Pieces.count c.args.pieces.now) xs None) (sym drawn) (best_nil (g.S.Pieces.finding c.args.pieces.now) (g.S.Pieces.count c.args.pieces.now));
    }

pub claim-piece-requires : goal.claim-piece-requires
claim-piece-requires g c =
    let i = c.loop.invariant in record {
      of = i.of;
      turn = let e = ap (λ n. past n c.loop.worker.me.0.drawn) c.count-count.ensures.0 in let p = i.parts in let z = i.inside in omega arith;
    }

pub loop-preserved : goal.loop-preserved
loop-preserved g c =
    let i = c.loop.invariant in
    let piece = c.claim-piece.result in
    let n = c.count-count.result in
    let e = c.claim-piece.ensures in
    let f = g.S.Pieces.finding c.args.pieces.now in
    let count = g.S.Pieces.count c.args.pieces.now in
    let known : n ≡ count = c.count-count.ensures.0 ∙ c.requires.count in
    let drawn = ap (λ x. x.0.drawn) e.drawn in
    let inside : piece < n = c.if-piece-count.false in
    let best = best_join f count c.loop.worker.me.0.drawn (piece ∷ []) c.loop.best (at_piece piece (f piece)) i.best (best_one f count piece (f piece) (omega arith) refl) in record {
      of = e.of;
      parts = ap (λ x. x.0.parts) e.drawn ∙ i.parts;
      bare = ap (λ x. x.1) e.drawn ∙ i.bare;
      count = omega (arith, ap length drawn, length-append c.loop.worker.me.0.drawn (piece ∷ []));
      inside = ap (past n) drawn ∙ (past_in n piece c.loop.worker.me.0.drawn inside ∙ i.inside);
      within = let l = e.later in let k = i.count in omega arith;
      best = subst (λ xs. IsBest f count xs c.in_ok-best.best) (sym drawn) (subst (IsBest f count (c.loop.worker.me.0.drawn ++ piece ∷ [])) (sym c.in_ok-best.ensures) best);
    }

pub returns-then-piece-count : goal.returns-then-piece-count
returns-then-piece-count g c =
    let i = c.loop.invariant in
    let piece = c.claim-piece.result in
    let n = c.count-count.result in
    let e = c.claim-piece.ensures in
    let f = g.S.Pieces.finding c.args.pieces.now in
    let count = g.S.Pieces.count c.args.pieces.now in
    let known : n ≡ count = c.count-count.ensures.0 ∙ c.requires.count in
    let drawn = ap (λ x. x.0.drawn) e.drawn in
    let out : n ≤ piece = c.if-piece-count.true in (
      e.of,
      ap (λ x. x.1) e.drawn ∙ i.bare,
      ap (λ x. x.0.parts) e.drawn ∙ i.parts,
      (
        subst (λ xs. IsBest f count xs c.loop.best) (sym drawn) (best_past f count c.loop.worker.me.0.drawn c.loop.best piece (omega arith) i.best),
        subst (λ xs. 0 < past count xs) (sym drawn) (past_out count piece c.loop.worker.me.0.drawn (omega arith)),
      ),
    )
