-- A change that is taken back leaves as many streams.
use Rattle.std.specs.Prelude.{◌≡◌, length}
use Rattle.std.proofs.Common.{refl}
use Rattle.std.proofs.lemmas.List.{length-set}
use Rattle.sim_node.specs.Node.{NodeRecords}
use Rattle.sim_world.specs.declared.small.Small.{Small}
use Rattle.sim_world.specs.declared.small.Small.TheVariants as small
use Rattle.sim_world.specs.World.{World}
use Rattle.sim_world.specs.Records.{back_one}

module _ {State Msg Undo : Type 0} (records : NodeRecords State Undo) where
  pub places-back_one : (c : Small State Msg Undo) (w : World State Msg) → length (back_one records c w).places ≡ length w.places
  unfolding back_one
  places-back_one (small.Took x) w = refl
  places-back_one small.Queued w = refl
  places-back_one (small.Timed was) w = refl
  places-back_one (small.Drew stream n) w = length-set w.places stream _
  places-back_one (small.Acted h undo) w = refl
  places-back_one (small.Stopped h was) w = refl
  places-back_one (small.Booted h) w = refl
  places-back_one (small.Finished h) w = refl
  places-back_one (small.Stored h undo) w = refl
  places-back_one (small.KeptBack a b) w = refl
  places-back_one (small.Changed undo dropped) w = refl
  places-back_one (small.Released undo count) w = refl
