-- A walk along the run that a list of events makes: how far it has come.
use Rattle.std.specs.Prelude.{◌≡◌, ℕ, ◌<◌, ◌≤◌, Bool, false, List, length, drop}
use Rattle.sim_events.specs.declared.Event.{Event}
use Rattle.sim_world.specs.Records.{InHand}
use Rattle.sim_world.specs.Events.{Rules}
use Rattle.sim_moves.specs.Places.{IsAt}
use Rattle.sim_watch.specs.Condition.{Cond}
use Rattle.sim_scan.specs.Search.{fails_at}
use Rattle.sim_plan.specs.Happening.{happening}

-- The world is at a place of the run, and the events in `rest` make the remainder of the run. The
-- condition did not fail before.
module _ {State Msg : Type 0} (r : Rules State Msg) where
  pub record IsWalking (c : Cond) (at_end : Bool) (run : List Event) (place : ℕ)
      (w : InHand State Msg) (rest : List Event) : Type 0 where
    pub here : IsAt r run place w
    pub within : place ≤ length run
    pub follows : drop place run ≡ happening r w.world rest
    pub before : at_end ≡ false → (j : ℕ) → j < place → fails_at r c run j ≡ false
