use Rattle.std.specs.Str.Parse.{ParsesUnsigned, ExplainsUnsignedError, HasUnsignedDigitsIfOk}
use Rattle.clap.specs.Words.{found_of}
use Rattle.sim_job.proofs.Asked.{option_read}
use Rattle.sim_job.proofs.line.option_of.Goals as goal

pub returns : goal.returns
returns c =
    rw c.ok.ensures.value
    (option_read (λ bs r. ParsesUnsigned 64 10 bs r × ExplainsUnsignedError 10 bs r × HasUnsignedDigitsIfOk bs r) (λ t x g. g.0)
    (found_of c.args.matches.now) c.args.id.now c.try_get_one.result c.try_get_one.ensures.none c.try_get_one.ensures.value)
