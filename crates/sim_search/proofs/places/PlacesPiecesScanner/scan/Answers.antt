use Rattle.std.proofs.Common.{◌≡◌, ◌/◌, sym, ap, subst, ◌∙◌}
use Rattle.sim_scan.specs.declared.places.Piece.{Piece}
use Rattle.sim_search.proofs.Cutting.{one_interval}
use Rattle.sim_search.proofs.places.PlacesPiecesScanner.scan.Goals as goal

pub scan_after-requires-clause-one : goal.scan_after-requires-clause-one
scan_after-requires-clause-one g c =
    let s = c.args.self.now in
    let part = c.piece-part.result in
    let same = ap (λ (p : Piece). p.lo / s.interval) c.piece-part.ensures ∙ one_interval s.lo s.hi s.interval c.args.number s.least s.order c.requires ∙ sym (ap (λ (p : Piece). p.hi / s.interval) c.piece-part.ensures) in
    subst (λ k. part.lo / k ≡ part.hi / k) s.own same
