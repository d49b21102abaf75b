use Rattle.std.proofs.Common.{◌≡◌, ◌++◌, codes, false, sym, ap, ◌∙◌, append_assoc}
use Rattle.sim_lines.specs.Cut.{head_of}
use Rattle.sim_reseed.specs.Input.{has_marker, with_line_end}
use Rattle.sim_reseed.proofs.Heads.{head_of-joined, ends-with_line_end}
use Rattle.sim_reseed.proofs.joining.join_input.Goals as goal

pub returns-clause-cut : goal.returns-clause-cut
returns-clause-cut c =
    let text = with_line_end c.args.scenario.now in
    let none : has_marker text ≡ false = sym (ap has_marker (c.as_str.ensures.value ∙ c.in_ok-text.ensures)) ∙ sym c.has_marker.ensures ∙ c.if-has_marker.false in
    ap head_of (
    c.in_ok-push_str-2.ensures.bytes
    ∙ ap (λ bs. bs ++ c.args.script.now) (c.in_ok-push_str.ensures.bytes ∙ ap (λ bs. bs ++ codes "---\n") c.in_ok-text.ensures)
    ∙ append_assoc text (codes "---\n") c.args.script.now
    )
    ∙ head_of-joined text c.args.script.now (ends-with_line_end c.args.scenario.now) none
