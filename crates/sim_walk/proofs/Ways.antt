-- The account of a way, by its lines.
use Rattle.std.proofs.Common.{◌≡◌, ℕ, ◌+◌, ◌≤◌, min, false, List, [], length, Some, ap, subst, arith}
use Rattle.sim_node.specs.Node.{NodeLaws}
use Rattle.sim_events.specs.declared.Event.{Event}
use Rattle.sim_events.specs.Scenario.{Scenario}
use Rattle.sim_world.specs.Events.{Rules, rules}
use Rattle.sim_tape.specs.Tape.{Frozen}
use Rattle.sim_runs.specs.Branch.{Branch}
use Rattle.sim_book.specs.Book.{branch}
use Rattle.sim_book.specs.Kept.{Kept, all_shown}
use Rattle.sim_book.specs.Freezing.{IsWhole}
use Rattle.sim_log.specs.Lines.{AreLines}
use Rattle.sim_walk.specs.Accounts.{told_count, IsAccount}
use Rattle.sim_inspect.proofs.Branches.{events_here, nowhere}

module _ {State Msg : Type 0} (node : NodeLaws State Msg) (probes : ℕ) (s : Scenario) (kept : List Kept) (b : ℕ) (run : Frozen) (whole : IsWhole s kept b (Some run)) where
  -- the lines of the run tell the way of the branch
  pub way_told : (from to : ℕ) (told : List ℕ)
      → AreLines (rules node probes run.scenario) run.events false (min from to + 1) (told_count from to) told
      → IsAccount (rules node probes s) from (branch b (all_shown kept)).events to told
  way_told from to told lines =
      let of = subst (λ (x : Scenario). AreLines (rules node probes x) run.events false (min from to + 1) (told_count from to) told) whole.1 lines in
      subst (λ (es : List Event). AreLines (rules node probes s) es false (min from to + 1) (told_count from to) told) (events_here s kept b run whole) of

-- where there is no branch there is no way
pub no_way : {State Msg : Type 0} (r : Rules State Msg) (kept : List Kept) (b from to : ℕ) (told : List ℕ) → length kept ≤ b → from ≤ length (branch b (all_shown kept)).events
    → to ≤ length (branch b (all_shown kept)).events → told ≡ [] → IsAccount r from (branch b (all_shown kept)).events to told
no_way r kept b from to told past start end none =
    let few : length (branch b (all_shown kept)).events ≡ 0 = ap (λ (x : Branch). length x.events) (nowhere kept b past) in
    let first : 0 ≡ from = omega (arith, few, start) in
    let last : 0 ≡ to = omega (arith, few, end) in
    let es : List Event = (branch b (all_shown kept)).events in
    let P : ℕ → ℕ → Type 0 = λ m n. IsAccount r m es n told in
    subst (λ (m : ℕ). P m to) first (subst (λ (n : ℕ). P 0 n) last none)
