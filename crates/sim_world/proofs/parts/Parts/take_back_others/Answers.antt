use Rattle.std.proofs.Common.{◌≡◌, ◌∙◌, [], ◌∷◌, ◌++◌, List, length, map, sym, ap, subst}
use Rattle.sim_world.specs.declared.small.Small.{Small}
use Rattle.sim_world.specs.Records.{Fits, back, back_one}
use Rattle.sim_node.specs.Work.{Work}
use Rattle.sim_world.specs.Undone.{taken_back}
use Rattle.sim_world.specs.inside.Trail.{unboxed}
use Rattle.sim_world.proofs.Trails.{Fits-pop, back-push}
use Rattle.sim_world.proofs.Undoing.{taken_back-push}
use Rattle.sim_world.proofs.Usual.{others_popped}
use Rattle.sim_world.proofs.Places.{places-back_one}
use Rattle.sim_world.proofs.parts.Parts.take_back_others.Goals as goal

pub take_back-requires-clause-fits : goal.take_back-requires-clause-fits
take_back-requires-clause-fits g c =
    let records = g.N.Node.records in
    (Fits-pop records (map unboxed c.pop.new.self) (unboxed c.in-Some.change) c.loop-change.self.world
    (subst (λ cs. Fits records cs c.loop-change.self.world) (others_popped c.loop-change.others c.pop.new.self c.pop.result c.in-Some.change c.pop.ensures.items c.in-Some.is) c.loop-change.invariant.fits)).0

pub loop-change-preserved : goal.loop-change-preserved
loop-change-preserved g c =
    let records = g.N.Node.records in
    let i = c.loop-change.invariant in
    let left : List (Small g.row.N.Denot g.row.N-Msg.Denot g.row.N-Undo.Denot) = map unboxed c.pop.new.self in
    let change = unboxed c.in-Some.change in
    let was = c.loop-change.self in
    let out : map unboxed c.loop-change.others ≡ left ++ change ∷ [] = others_popped c.loop-change.others c.pop.new.self c.pop.result c.in-Some.change c.pop.ensures.items c.in-Some.is in
    let done : c.take_back.new.self.world ≡ back_one records change was.world = ap (λ v. v.world) c.in_ok-take_back.ensures.world in
    let before : Work = g.N.Meter.Meter.work c.loop-change.meter in
    record {
      fits = subst (Fits records left) (sym done)
          (Fits-pop records left change was.world (subst (λ cs. Fits records cs was.world) out i.fits)).1;
      places = ap (λ v. length v.world.places) c.in_ok-take_back.ensures.world ∙ (places-back_one records change was.world ∙ i.places);
      seed = ap (λ v. v.seed) c.in_ok-take_back.ensures.world ∙ i.seed;
      back = ap (back records left) done ∙ (sym (back-push records left change was.world) ∙ (sym (ap (λ cs. back records cs was.world) out) ∙ i.back));
      work = ap (taken_back left) c.in_ok-take_back.ensures.work ∙ (taken_back-push left change before ∙ (sym (ap (λ cs. taken_back cs before) out) ∙ i.work));
    }
