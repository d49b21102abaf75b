-- What is found in the run of a branch is found from the place of the branch.
use Rattle.std.proofs.Common.{◌≡◌, ◌∙◌, ℕ, ◌≤◌, min, List, length, Some, Result, Ok, Err, IfOk, subst, arith}
use Rattle.sim_node.specs.Node.{NodeLaws}
use Rattle.sim_events.specs.declared.Event.{Event}
use Rattle.sim_events.specs.Scenario.{Scenario}
use Rattle.sim_world.specs.Events.{rules}
use Rattle.sim_tape.specs.Tape.{Frozen}
use Rattle.sim_watch.specs.declared.sought.Sought.{Sought}
use Rattle.sim_book.specs.Book.{branch}
use Rattle.sim_book.specs.Kept.{Kept, all_shown}
use Rattle.sim_book.specs.Freezing.{IsWhole}
use Rattle.sim_inspect.specs.declared.seeking.SeekError.{SeekError}
use Rattle.sim_inspect.specs.Seeking.{IsFound}
use Rattle.sim_inspect.proofs.Branches.{events_here}
use Rattle.sim_walk.specs.Walks.{IsPlaceFor}

pub found_here : {State Msg : Type 0} (node : NodeLaws State Msg) (probes : ℕ) (s : Scenario) (kept : List Kept) (b : ℕ) (run : Frozen) (here : ℕ) (sought : Sought) (found : Result ℕ SeekError)
    → IsWhole s kept b (Some run) → here ≡ (branch b (all_shown kept)).place → here ≤ length (branch b (all_shown kept)).events
    → IsFound (rules node probes run.scenario) run.events (min here (length run.events)) sought found → IfOk found (λ p. IsPlaceFor (rules node probes s) (branch b (all_shown kept)) sought p)
found_here node probes s kept b run here sought (Err why) whole at within h = tt
found_here node probes s kept b run here sought (Ok p) whole at within h =
    let e = events_here s kept b run whole in
    let events = (branch b (all_shown kept)).events in
    let of_run : IsFound (rules node probes s) run.events (min here (length run.events)) sought (Ok p) =
    subst (λ (x : Scenario). IsFound (rules node probes x) run.events (min here (length run.events)) sought (Ok p)) whole.1 h in
    let of_branch : IsFound (rules node probes s) events (min here (length events)) sought (Ok p) =
    subst (λ (es : List Event). IsFound (rules node probes s) es (min here (length es)) sought (Ok p)) e of_run in
    let same : min here (length events) ≡ here = omega (arith, within) in
    subst (λ (n : ℕ). IsFound (rules node probes s) events n sought (Ok p)) (same ∙ at) of_branch
