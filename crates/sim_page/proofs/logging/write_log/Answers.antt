use Rattle.std.proofs.Common.{Option, ap, subst}
use Rattle.std.specs.Io.KnownBytes.{prepend_known}
use Rattle.sim_script.specs.Script.{Text}
use Rattle.sim_cli.specs.Play.{Ended}
use Rattle.sim_cli.specs.Subjects.{nodes_by}
use Rattle.sim_cli.proofs.Whole.{given_is}
use Rattle.sim_export.specs.Exports.{IsExported, Tells, Written}
use Rattle.sim_page.specs.Logs.{log_right}
use Rattle.sim_export.proofs.Opening.{not_opened, opened_told}
use Rattle.sim_page.proofs.logging.write_log.Goals as goal

pub returns-in-Ok : goal.returns-in-Ok
returns-in-Ok g c = λ given e.
    let start = given_is c.new-ahead.result.bytes (g.R.Read.remaining c.args.reader.now) given (ap (λ w. w.bytes) c.new-ahead.ensures) e in
    let o = c.in-Ok.ensures.opened given start in
    let opened = c.in-Ok.opened in
    let holds = g.W.Write.contents c.carry_out.new.writer in
    let nodes = g.L.Subjects.nodes in
    let told = subst (λ (t : Text). Ended (g.W.Write.contents c.open.new.writer) holds
    (Tells (IsExported (log_right c.args.range _ _ (nodes opened.protocol opened.scenario).rules opened.names t o.head.script)) c.carry_out.result))
    c.as_slice-text.ensures.value (c.carry_out.ensures o.head.script o.head.left) in
    subst (λ (h : Option Text). Ended h holds (Written (log_right c.args.range) g.L.Protocols.listed (nodes_by nodes) given c.carry_out.result)) c.in-Ok.ensures.same
    (opened_told (log_right c.args.range) g.L.Protocols.listed nodes given (prepend_known c.open.new.ahead.bytes (g.R.Read.remaining c.open.new.reader)) opened o (g.W.Write.contents c.open.new.writer) holds c.carry_out.result told)

pub returns-in-Err : goal.returns-in-Err
returns-in-Err g c = λ given e.
    let start = given_is c.new-ahead.result.bytes (g.R.Read.remaining c.args.reader.now) given (ap (λ w. w.bytes) c.new-ahead.ensures) e in
    not_opened (log_right c.args.range) g.L.Protocols.listed (nodes_by g.L.Subjects.nodes) given c.open.new.ahead (g.R.Read.remaining c.open.new.reader) (g.W.Write.contents c.args.writer.now) (g.W.Write.contents c.open.new.writer) c.in-Err.status (c.in-Err.ensures.not given start)
