use Rattle.std.proofs.Common.{map}
use Rattle.clap.specs.Words.{app_of}
use Rattle.sim_job.proofs.Asked.{asks_few}
use Rattle.sim_job.proofs.Faults.{entered_is, no_fault, some_fault, request_is, missing, told_is}
use Rattle.sim_job.proofs.line.request.Goals as goal

pub returns-in-Some : goal.returns-in-Some
returns-in-Some g c =
    let words = map g.S.AsStr.text c.args.words.now in
    let found = c.in-Ok-try_get_matches_from in
    let sound = no_fault (app_of c.in-Ok.command) words c.in-Ok.ensures found.ensures.kinds in
    let same = entered_is (app_of c.in-Ok.command) words c.in-Ok.ensures found.matches found.ensures.matches in
    record { answer = request_is words found.matches c.in-Some.asked sound same c.in-Some.ensures; workers = asks_few c.in-Some.ensures.0 c.in-Some.ensures.1 c.in-Some.asked.job c.in-Some.ensures.3 }

pub returns-in-Ok-try_get_matches_from : goal.returns-in-Ok-try_get_matches_from
returns-in-Ok-try_get_matches_from g c =
    let words = map g.S.AsStr.text c.args.words.now in
    let found = c.in-Ok-try_get_matches_from in
    let sound = no_fault (app_of c.in-Ok.command) words c.in-Ok.ensures found.ensures.kinds in
    let same = entered_is (app_of c.in-Ok.command) words c.in-Ok.ensures found.matches found.ensures.matches in
    record { answer = missing words found.matches c.wrong_value.result c.wrong_value.ensures sound same c.in-None.ensures; workers = tt }

pub returns : goal.returns
returns g c =
    let words = map g.S.AsStr.text c.args.words.now in
    record {
      answer = told_is words c.in-Err.error c.words_fault.result (some_fault (app_of c.in-Ok.command) words c.in-Ok.ensures c.in-Err.error c.in-Err.ensures.kinds)
          c.words_fault.ensures.help c.words_fault.ensures.usage;
      workers = tt;
    }
