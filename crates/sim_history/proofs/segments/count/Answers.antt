use Rattle.std.proofs.Common.{◌*◌, ap, arith}
use Rattle.sim_history.specs.Segments.{entries_of}
use Rattle.sim_history.proofs.Joined.{length-all}
use Rattle.sim_history.proofs.segments.count.Goals as goal

pub overflow_mul-result : goal.overflow_mul-result
overflow_mul-result c =
    omega (arith, ap (λ n. n * c.args.interval) c.len.ensures, length-all entries_of c.args.interval c.args.segments.now.items c.args.last.now c.requires.full, c.requires.few)

pub overflow_add-result : goal.overflow_add-result
overflow_add-result c =
    omega (arith, ap (λ n. n * c.args.interval) c.len.ensures, length-all entries_of c.args.interval c.args.segments.now.items c.args.last.now c.requires.full, c.requires.few)

pub returns : goal.returns
returns c = omega (arith, ap (λ n. n * c.args.interval) c.len.ensures, length-all entries_of c.args.interval c.args.segments.now.items c.args.last.now c.requires.full)
