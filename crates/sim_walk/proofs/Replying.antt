-- The answer to an order, by what was done for it.
use Rattle.std.specs.Prelude.{◌≡◌, ℕ, Result, Ok}
use Rattle.std.proofs.Common.{subst}
use Rattle.sim_node.specs.Node.{NodeLaws}
use Rattle.sim_events.specs.Scenario.{Scenario}
use Rattle.sim_world.specs.Events.{rules}
use Rattle.sim_script.specs.Script.{Names}
use Rattle.sim_book.specs.Book.{branch}
use Rattle.sim_watch.specs.Commands.{branch_of}
use Rattle.sim_book.specs.Kept.{BookView, all_shown}
use Rattle.sim_watch.specs.declared.command.Command.{Command}
use Rattle.sim_book.specs.declared.Entry.{Entry}
use Rattle.sim_book.specs.declared.NotTaken.{NotTaken}
use Rattle.sim_answers.specs.Lines.{turn_line}
use Rattle.sim_cli.specs.Turns.{Takes, course_of}
use Rattle.sim_walk.specs.Accounts.{Accounts}
use Rattle.sim_walk.specs.declared.desk.Answer.{Answer}
use Rattle.sim_walk.specs.Walks.{TakesTurn}

-- a turn, and the answer to it
pub answered : {State Msg E : Type 0} (node : NodeLaws State Msg) (probes : ℕ) (names : Names) (old new : BookView) (asked : Command) (b n : ℕ)
    (turn : Result Entry NotTaken) (a : Answer) → new.scenario ≡ old.scenario → b ≡ branch_of asked
    → n ≡ (branch b (all_shown old.kept)).place → Takes (rules node probes old.scenario) (course_of old) asked turn (course_of new)
    → a.reply.items ≡ turn_line names turn
    → Accounts (rules node probes new.scenario) n (branch b (all_shown new.kept)).events turn a.account.told.items
    → TakesTurn (rules node probes old.scenario) names {E = E} (course_of old) asked (Ok a) (course_of new)
answered node probes names old new asked b n turn a same of place t reply told =
    let told_of = subst (λ (s : Scenario). Accounts (rules node probes s) n (branch b (all_shown new.kept)).events turn a.account.told.items) same told in
    let told_on = subst (λ (m : ℕ). Accounts (rules node probes old.scenario) m (branch b (all_shown new.kept)).events turn a.account.told.items) place told_of in
    let here = subst (λ (k : ℕ). Accounts (rules node probes old.scenario) (branch k (all_shown old.kept)).place (branch k (all_shown new.kept)).events turn a.account.told.items) of told_on in
    record { turn = turn; takes = t; told = (reply, here) }
