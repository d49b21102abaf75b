use Rattle.std.proofs.Common.{◌∙◌, ℕ, ◌-◌, ◌<◌, length, sym, ap, subst, arith}
use Rattle.sim_world.specs.declared.small.Small.TheVariants as small
use Rattle.sim_world.specs.Records.{Fits, FitsOne, back, back_one}
use Rattle.sim_world.specs.inside.Trail.{sent_changes}
use Rattle.sim_world.proofs.Plain.{seeded}
use Rattle.sim_world.proofs.Places.{places-back_one}
use Rattle.sim_world.proofs.Usual.{sent_fits, sent_back}
use Rattle.sim_world.proofs.parts.Parts.take_back_sent.Goals as goal

pub unqueue-requires : goal.unqueue-requires
unqueue-requires g c =
    let some : 0 < c.loop-left.left = omega arith in
    (sent_fits g.N.Node.records c.loop-left.left c.loop-left.self.world some c.loop-left.invariant.fits).0

pub undraw-requires-clause-fits : goal.undraw-requires-clause-fits
undraw-requires-clause-fits g c =
    let records = g.N.Node.records in
    let some : 0 < c.loop-left.left = omega arith in
    subst (λ v. FitsOne records (small.Drew 0 2) v.world) (sym c.unqueue.ensures)
    (sent_fits records c.loop-left.left c.loop-left.self.world some c.loop-left.invariant.fits).1

pub undraw-requires-clause-places : goal.undraw-requires-clause-places
undraw-requires-clause-places g c =
    ap (λ v. length v.world.places) c.unqueue.ensures ∙ (places-back_one g.N.Node.records small.Queued c.loop-left.self.world ∙ c.loop-left.invariant.places)

pub loop-left-preserved : goal.loop-left-preserved
loop-left-preserved g c =
    let records = g.N.Node.records in
    let i = c.loop-left.invariant in
    let n : ℕ = c.loop-left.left in
    let some : 0 < n = omega arith in
    let was = c.loop-left.self in
    let is = c.undraw.ensures ∙ ap (λ v. seeded v.seed (back_one records (small.Drew 0 2) v.world)) c.unqueue.ensures in
    record {
      fits = subst (λ v. Fits records (sent_changes (n - 1)) v.world) (sym is) (sent_fits records n was.world some i.fits).2;
      places = ap (λ v. length v.world.places) is
          ∙ (places-back_one records (small.Drew 0 2) (back_one records small.Queued was.world) ∙ (places-back_one records small.Queued was.world ∙ i.places));
      seed = ap (λ v. v.seed) is ∙ i.seed;
      back = ap (λ v. back records (sent_changes (n - 1)) v.world) is ∙ (sent_back records n was.world some ∙ i.back);
    }
