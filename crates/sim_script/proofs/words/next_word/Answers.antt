use Rattle.std.proofs.Common.{◌<◌, length, arith, ◌∙◌, sym}
use Rattle.std.proofs.lemmas.Bool.Decides.{nat_tests}
use Rattle.sim_script.proofs.FirstWords.{first_word_of}
use Rattle.sim_script.proofs.words.next_word.Goals as goal

pub returns : goal.returns
returns c =
    let some : 0 < length c.skip_spaces-text.result.now = grind (arith, nat_tests) in
    sym c.skip_spaces-text.ensures.same
    ∙ first_word_of c.skip_spaces-text.result.now c.split_at.result.0.now c.split_at.result.1.now c.word_len.result c.skip_spaces-text.ensures.front some
    c.word_len.ensures.plain c.word_len.ensures.ends c.split_at.ensures.front c.split_at.ensures.back
