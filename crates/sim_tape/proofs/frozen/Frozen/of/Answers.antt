use Rattle.std.proofs.Common.{ℕ, length, take, ap, ◌∙◌, arith}
use Rattle.std.proofs.lemmas.List.{take_all}
use Rattle.sim_tape.proofs.Sharing.{same_kept}
use Rattle.sim_tape.proofs.frozen.Frozen.of.Goals as goal

pub invariant_of-result : goal.invariant_of-result
invariant_of-result g c =
    let old = c.args.log.now in
    let log = c.in_ok-log.log in
    let cs = c.args.checkpoints.now.items in
    let all = c.in_ok-log.ensures.entries ∙ ap (λ (n : ℕ). take n old.entries) c.len-2.ensures.value ∙ take_all (length old.entries) old.entries (omega arith) in
    let marks = c.in_ok-checkpoints.ensures ∙ ap (λ (n : ℕ). take n cs) c.len.ensures ∙ take_all (length cs) cs (omega arith) in
    let kept = same_kept g.N.Node.laws g.N.Node.PROBES old.scenario log.scenario old.entries log.entries _ _ c.in_ok-log.ensures.scenario all marks
    (record { run = c.requires.runs; checkpoints = c.requires.checkpoints }) in
    (kept.run, kept.checkpoints, c.in_ok-list.ensures)
