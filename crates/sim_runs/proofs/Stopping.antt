-- Lemmas on why a run stops.
use Rattle.std.proofs.Common.{◌≡◌, ℕ, List, Option, None, sym, ap, arith}
use Rattle.sim_world.specs.World.{World}
use Rattle.sim_world.specs.Events.{Rules}
use Rattle.sim_watch.specs.Condition.{Cond}
use Rattle.sim_watch.proofs.Firsts.{find_nowhere}
use Rattle.sim_runs.specs.Watches.{watch_fails, failing_watch}
use Rattle.sim_runs.specs.Watches.{NoneFrom}
use Rattle.std.proofs.Common.{get_or}

-- where there is no watch none fails
pub none_fails : {State Msg : Type 0} (r : Rules State Msg) (watches : List (Option Cond)) (w : World State Msg) (end : ℕ) → end ≡ 0 → NoneFrom end watches → None ≡ failing_watch r watches w
none_fails r watches w end is none =
    sym (find_nowhere (λ k. watch_fails r w (get_or watches k None)) 8 (λ j lt. ap (watch_fails r w) (none j (omega (arith, is)))))
