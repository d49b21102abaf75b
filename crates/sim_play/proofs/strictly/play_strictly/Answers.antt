use Rattle.std.proofs.Common.{Option, subst, ap}
use Rattle.sim_lines.proofs.Counting.{counts_append}
use Rattle.sim_script.specs.Script.{Text}
use Rattle.sim_cli.specs.Play.{Ended}
use Rattle.sim_cli.specs.Strict.{PlayedStrictly}
use Rattle.sim_cli.specs.Subjects.{nodes_by, ports}
use Rattle.sim_cli.proofs.Whole.{given_is, within}
use Rattle.sim_play.proofs.WholeStrictly.{opened_strictly, strict_not_opened}
use Rattle.sim_play.proofs.strictly.play_strictly.Goals as goal

pub returns-in-Ok-clause-played : goal.returns-in-Ok-clause-played
returns-in-Ok-clause-played g c = λ given e.
    let start = given_is c.new-ahead.result.bytes _ given (ap (λ w. w.bytes) c.new-ahead.ensures) e in
    let old = ports c.open.new.ahead (g.R.Read.remaining c.open.new.reader) (g.W.Write.contents c.open.new.writer) in
    let new = ports c.carry_out.new.ahead (g.R.Read.remaining c.carry_out.new.reader) (g.W.Write.contents c.carry_out.new.writer) in
    let played = opened_strictly g.L.Protocols.listed g.L.Subjects.nodes given c.in-Ok.opened old new c.carry_out.result (c.in-Ok.ensures.opened given start) c.carry_out.ensures in
    subst (λ (h : Option Text). Ended h new.held (PlayedStrictly g.L.Protocols.listed (nodes_by g.L.Subjects.nodes) given new.left c.carry_out.result)) c.in-Ok.ensures.same played

pub returns-in-Err-clause-played : goal.returns-in-Err-clause-played
returns-in-Err-clause-played g c = λ given e.
    let start = given_is c.new-ahead.result.bytes _ given (ap (λ w. w.bytes) c.new-ahead.ensures) e in
    strict_not_opened g.L.Protocols.listed (nodes_by g.L.Subjects.nodes) given c.open.new.ahead _ _ _ c.in-Err.status (c.in-Err.ensures.not given start)

pub returns-in-Ok-clause-within : goal.returns-in-Ok-clause-within
returns-in-Ok-clause-within g c =
    within _ _ _ _ c.new-ahead.ensures (counts_append _ _ _ _ _ _ c.open.ensures.counts c.carry_out.ensures.counts)

pub returns-in-Err-clause-within : goal.returns-in-Err-clause-within
returns-in-Err-clause-within g c = within _ _ _ _ c.new-ahead.ensures c.open.ensures.counts
