use Rattle.std.proofs.Common.{◌≡◌, arith, false, get_or}
use Rattle.std.specs.Prelude.{◌==◌}
use Rattle.std.proofs.lemmas.List.Elements.{All-more}
use Rattle.std.proofs.lemmas.Bool.Decides.{nat_tests}
use Rattle.sim_script.proofs.words.word_len.Goals as goal

pub loop-i-preserved : goal.loop-i-preserved
loop-i-preserved c =
    let other : (get_or c.args.text.now c.loop-i.i 0 == 32) ≡ false = grind (arith, nat_tests) in
    All-more (λ b. (b == 32) ≡ false) c.args.text.now c.loop-i.i 0 c.loop-i-test.true c.loop-i.invariant other
