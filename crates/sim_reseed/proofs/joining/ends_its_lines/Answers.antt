use Rattle.std.proofs.Common.{◌-◌, length, sym, ap, ◌∙◌}
use Rattle.std.specs.Prelude.{slice_get}
use Rattle.std.specs.Option.{option_copied}
use Rattle.sim_reseed.proofs.Heads.{ends-last, ends-none}
use Rattle.sim_reseed.proofs.joining.ends_its_lines.Goals as goal

pub returns-in-Some : goal.returns-in-Some
returns-in-Some c =
    sym (ends-last c.args.text.now c.in-Some.last.now
    (ap (λ bs. slice_get bs (length bs - 1)) (sym c.as_bytes.ensures.value) ∙ sym c.last.ensures.value ∙ ap option_copied c.in-Some.is))

pub returns-in-None : goal.returns-in-None
returns-in-None c =
    sym (ends-none c.args.text.now
    (ap (λ bs. slice_get bs (length bs - 1)) (sym c.as_bytes.ensures.value) ∙ sym c.last.ensures.value ∙ ap option_copied c.in-None.is))
