use Rattle.std.proofs.Common.{◌≡◌, ℕ, ◌-◌, ◌≤◌, List, ◌++◌, length, take, drop, ap, ◌∙◌, arith, append-nil}
use Rattle.std.proofs.Math.ListN.{drop_of_length-le}
use Rattle.std.proofs.lemmas.List.{length-drop}
use Rattle.sim_reseed.proofs.numbering.numbered_seed.Goals as goal

-- the list from 24 on is replaced
end_replaced : (xs ys : List ℕ) → take 24 xs ++ (ys ++ drop (length xs - 24) (drop 24 xs)) ≡ take 24 xs ++ ys
end_replaced xs ys =
    let short : length (drop 24 xs) ≤ length xs - 24 = omega (arith, length-drop 24 xs) in
    ap (λ l. take 24 xs ++ l) (ap (λ l. ys ++ l) (drop_of_length-le (drop 24 xs) short) ∙ append-nil ys)

pub returns : goal.returns
returns c =
    end_replaced c.args.seed c.copy_from_slice.new.self
    ∙ ap (λ l. take 24 c.args.seed ++ l) (c.copy_from_slice.ensures.after ∙ c.to_le_bytes.ensures)
