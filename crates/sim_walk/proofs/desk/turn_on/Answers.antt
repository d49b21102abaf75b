use Rattle.std.proofs.Common.{◌≡◌, ◌<◌, ◌≤◌, ℕ, length, sym, ap, subst, Result, Ok, Err}
use Rattle.std.specs.Prelude.{IfOk, OnOk, OnErr}
use Rattle.sim_node.specs.Node.{NodeLaws}
use Rattle.sim_events.specs.Scenario.{Scenario}
use Rattle.sim_world.specs.Events.{rules}
use Rattle.sim_watch.specs.declared.command.Command.{Command}
use Rattle.sim_book.specs.declared.Entry.{Entry}
use Rattle.sim_book.specs.declared.NotTaken.{NotTaken}
use Rattle.sim_book.specs.Book.{branch}
use Rattle.sim_watch.specs.Commands.{branch_of}
use Rattle.sim_book.specs.BookOf.{IsTaken, Turned}
use Rattle.sim_book.specs.Headline.{AreBranches}
use Rattle.sim_book.specs.Kept.{BookView, all_shown}
use Rattle.sim_cli.proofs.OneAnswer.{takes}
use Rattle.sim_walk.specs.Accounts.{IsWithin}
use Rattle.sim_walk.proofs.Moving.{moved_within, place_in, stays_within}
use Rattle.sim_walk.proofs.desk.turn_on.Goals as goal

module _ {State Msg : Type 0} (node : NodeLaws State Msg) (probes : ℕ) (old new : BookView) (command : Command) where
  taken : (turn : Result Entry NotTaken) → IfOk turn (λ e. Turned node probes 0 command old e new)
      → IfOk turn (λ e. IsTaken (rules node probes old.scenario) 0 command old.kept old.history e new.kept new.history)
  taken (Ok e) t = t.taken
  taken (Err why) t = t

  room : (turn : Result Entry NotTaken) → IfOk turn (λ e. Turned node probes 0 command old e new) → OnOk turn (length old.history < 65536)
  room (Ok e) t = t.room
  room (Err why) t = t

  same_scenario : (turn : Result Entry NotTaken) → IfOk turn (λ e. Turned node probes 0 command old e new) → OnErr turn (new ≡ old) → new.scenario ≡ old.scenario
  same_scenario (Ok e) t s = t.scenario
  same_scenario (Err why) t s = ap (λ (v : BookView). v.scenario) s

  within : (turn : Result Entry NotTaken) → IfOk turn (λ e. Turned node probes 0 command old e new) → IsWithin turn (branch (branch_of command) (all_shown new.kept)).events
  within (Ok e) t =
      let all = subst (λ (s : Scenario). AreBranches (rules node probes s) (all_shown new.kept)) t.scenario t.branches in
      moved_within (rules node probes old.scenario) command (all_shown old.kept) (all_shown new.kept) e.reply all t.taken.turn
  within (Err why) t = tt

  from : (turn : Result Entry NotTaken) → AreBranches (rules node probes old.scenario) (all_shown old.kept) → IfOk turn (λ e. Turned node probes 0 command old e new) → OnErr turn (new ≡ old)
      → (branch (branch_of command) (all_shown old.kept)).place ≤ length (branch (branch_of command) (all_shown new.kept)).events
  from (Ok e) all t s =
      let r = rules node probes old.scenario in
      stays_within r command (all_shown old.kept) (all_shown new.kept) e.reply (place_in r (all_shown old.kept) (branch_of command) all) t.taken.turn
  from (Err why) all t s =
      let b : ℕ = branch_of command in
      subst (λ (v : BookView). (branch b (all_shown old.kept)).place ≤ length (branch b (all_shown v.kept)).events) (sym s)
      (place_in (rules node probes old.scenario) (all_shown old.kept) b all)

pub returns-clause-takes : goal.returns-clause-takes
returns-clause-takes g c =
    let turn = c.turn.result in
    let t = c.turn.ensures.turned in
    takes _ _ _ c.args.command turn (taken g.N.Node.laws g.N.Node.PROBES _ _ _ turn t) (room g.N.Node.laws g.N.Node.PROBES _ _ _ turn t) c.turn.ensures.not_taken c.turn.ensures.full

pub returns-clause-scenario : goal.returns-clause-scenario
returns-clause-scenario g c = same_scenario g.N.Node.laws g.N.Node.PROBES _ _ _ c.turn.result c.turn.ensures.turned c.turn.ensures.not_taken

pub returns-clause-within : goal.returns-clause-within
returns-clause-within g c = within g.N.Node.laws g.N.Node.PROBES _ _ _ c.turn.result c.turn.ensures.turned

pub returns-clause-from : goal.returns-clause-from
returns-clause-from g c = from g.N.Node.laws g.N.Node.PROBES _ _ _ c.turn.result c.laws.ensures.branches c.turn.ensures.turned c.turn.ensures.not_taken
