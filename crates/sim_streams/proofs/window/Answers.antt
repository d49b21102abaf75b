use Rattle.std.proofs.Common.{◌≢◌, ◌+◌, ◌<◌, length, length-set, arith, below_more, add_assoc, get_or-set_other, get_or-set_same}
use Rattle.sim_streams.proofs.WordLemmas.{next_is_word}
use Rattle.sim_streams.proofs.window.Goals as goal

pub fill-preserved : goal.fill-preserved
fill-preserved c =
    let next = next_is_word c.args.seed c.args.stream (c.args.start + c.fill.i) c.next_word.result c.fill.rng c.next_word.new.self c.fill.invariant.0 (omega arith) c.next_word.ensures in (
      rw (← add_assoc) next.1,
      below_more _ _
          (λ k h. let ne : k ≢ c.fill.i = omega arith in rw get_or-set_other (c.fill.invariant.1 k h))
          (let lt : c.fill.i < length c.fill.words = omega arith in rw get_or-set_same next.0),
      rw length-set c.fill.invariant.2,
    )
