use Rattle.std.proofs.Common.{◌≡◌, ℕ, ◌-◌, ◌≤◌, List, ◌++◌, length, take, drop, ap, ◌∙◌, arith, append-nil}
use Rattle.std.proofs.Math.ListN.{drop_of_length-le}
use Rattle.std.proofs.lemmas.List.{length-drop}
use Rattle.sim_events.specs.Scenario.{Scenario}
use Rattle.sim_events.proofs.scenario.Scenario.numbered.Goals as goal

-- the list from 24 on is replaced
end_replaced : (xs ys : List ℕ) → take 24 xs ++ (ys ++ drop (length xs - 24) (drop 24 xs)) ≡ take 24 xs ++ ys
end_replaced xs ys =
    let short : length (drop 24 xs) ≤ length xs - 24 = omega (arith, length-drop 24 xs) in
    ap (λ l. take 24 xs ++ l) (ap (λ l. ys ++ l) (drop_of_length-le (drop 24 xs) short) ∙ append-nil ys)

-- a scenario whose seed ends in these bytes
ending : List ℕ → Scenario → Scenario
ending ys s = record s { seed = take 24 s.seed ++ (ys ++ drop (length s.seed - 24) (drop 24 s.seed)) }

pub returns : goal.returns
unfolding ending
returns c =
    let bytes = c.copy_from_slice.new.self in
    ap (ending bytes) (c.scenario.view_is ∙ c.copy-scenario.ensures)
    ∙ (ap (λ l. let s : Scenario = record (c.args.self.now) { seed = l } in s) (end_replaced c.args.self.now.seed bytes)
    ∙ ap (λ l. let s : Scenario = record (c.args.self.now) { seed = take 24 c.args.self.now.seed ++ l } in s) (c.copy_from_slice.ensures.after ∙ c.to_le_bytes.ensures))
