-- The work that the meter `Tally` counts.
use Rattle.std.specs.Prelude.{ℕ, refl}
use Rattle.std.specs.Coded.{Coded, code_by, coded×, coded_ℕ}
use Rattle.sim_node.specs.Work.{Work, turned, copied, undone}
use Rattle.sim_tally.specs.declared.tally.Call.{Call}
use Rattle.sim_tally.specs.declared.tally.Call.TheVariants as call

-- how the logic encodes it
abbrev pub work_code : Coded Work
work_code =
    code_by (ℕ × (ℕ × ℕ)) (coded× coded_ℕ (coded× coded_ℕ coded_ℕ))
    (λ w. (w.turns, (w.copies, w.undos)))
    (λ p. record { turns = p.0; copies = p.1.0; undos = p.1.1 }) (λ _. refl)

-- the work after one more call
abbrev pub counted : Call → Work → Work
counted call.Turn w = turned w
counted call.Copy w = copied w
counted call.Undo w = undone w
