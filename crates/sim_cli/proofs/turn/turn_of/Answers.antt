use Rattle.std.proofs.Common.{◌≡◌, ◌<◌, ℕ, length, ap, Result, Ok, Err}
use Rattle.std.specs.Prelude.{IfOk, OnOk, OnErr}
use Rattle.sim_node.specs.Node.{NodeLaws}
use Rattle.sim_world.specs.Events.{rules}
use Rattle.sim_watch.specs.declared.command.Command.{Command}
use Rattle.sim_book.specs.declared.Entry.{Entry}
use Rattle.sim_book.specs.declared.NotTaken.{NotTaken}
use Rattle.sim_book.specs.BookOf.{IsTaken, Turned}
use Rattle.sim_book.specs.Kept.{BookView}
use Rattle.sim_cli.proofs.OneAnswer.{takes}
use Rattle.sim_cli.proofs.turn.turn_of.Goals as goal

module _ {State Msg : Type 0} (node : NodeLaws State Msg) (probes : ℕ) (old new : BookView) (command : Command) where
  taken : (turn : Result Entry NotTaken) → IfOk turn (λ e. Turned node probes 0 command old e new)
      → IfOk turn (λ e. IsTaken (rules node probes old.scenario) 0 command old.kept old.history e new.kept new.history)
  taken (Ok e) t = t.taken
  taken (Err why) t = t

  room : (turn : Result Entry NotTaken) → IfOk turn (λ e. Turned node probes 0 command old e new) → OnOk turn (length old.history < 65536)
  room (Ok e) t = t.room
  room (Err why) t = t

  same_scenario : (turn : Result Entry NotTaken) → IfOk turn (λ e. Turned node probes 0 command old e new) → OnErr turn (new ≡ old) → new.scenario ≡ old.scenario
  same_scenario (Ok e) t s = t.scenario
  same_scenario (Err why) t s = ap (λ (v : BookView). v.scenario) s

pub returns-in-Ok-clause-takes : goal.returns-in-Ok-clause-takes
returns-in-Ok-clause-takes g c =
    let turn = c.turn.result in
    let t = c.turn.ensures.turned in
    rw (← c.in-Ok.ensures) (takes _ _ _ c.in-Ok.command turn (taken g.N.Node.laws g.N.Node.PROBES _ _ _ turn t) (room g.N.Node.laws g.N.Node.PROBES _ _ _ turn t) c.turn.ensures.not_taken c.turn.ensures.full)

pub returns-in-Ok-clause-scenario : goal.returns-in-Ok-clause-scenario
returns-in-Ok-clause-scenario g c = same_scenario g.N.Node.laws g.N.Node.PROBES _ _ _ c.turn.result c.turn.ensures.turned c.turn.ensures.not_taken
