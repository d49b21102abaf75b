use Rattle.std.proofs.Common.{Option, sym, subst, ap, ◌∙◌}
use Rattle.std.specs.Io.KnownBytes.{prepend_known}
use Rattle.sim_script.specs.Script.{Text}
use Rattle.sim_cli.specs.Play.{Ended}
use Rattle.sim_cli.specs.Subjects.{nodes_by}
use Rattle.sim_cli.proofs.Whole.{given_is}
use Rattle.sim_hunt.specs.Outcomes.{Hunted, answered, outcome}
use Rattle.sim_hunt.proofs.Ends.{nothing, not_opened, opened_answer, told_answer}
use Rattle.sim_hunt.proofs.hunts.hunt_scenario.Goals as goal

pub returns-in-Ok-hunt_protocol : goal.returns-in-Ok-hunt_protocol
returns-in-Ok-hunt_protocol g c = λ given e.
    let start = given_is c.new-ahead.result.bytes (g.R.Read.remaining c.args.reader.now) given (ap (λ w. w.bytes) c.new-ahead.ensures) e in
    let area = c.args.hunt.now.area in
    let cond = c.args.hunt.now.cond.now in
    let o = c.in-Ok.ensures.opened given start in
    let read = opened_answer g.L.Protocols.listed g.L.Subjects.nodes c.args.form area cond given (prepend_known c.open.new.ahead.bytes (g.R.Read.remaining c.open.new.reader)) c.in-Ok.opened o in
    let told = told_answer (outcome g.L.Protocols.listed (nodes_by g.L.Subjects.nodes) c.args.form area cond given) c.args.form c.in-Ok-hunt_protocol.answer c.write_answer.result
    (g.W.Write.contents c.open.new.writer) (g.W.Write.contents c.write_answer.new.writer)
    (read ∙ ap (answered c.args.form) (sym (c.in-Ok-hunt_protocol.ensures.answer o.head.script o.head.left))) c.write_answer.ensures in
    subst (λ (h : Option Text). Ended h (g.W.Write.contents c.write_answer.new.writer) (Hunted g.L.Protocols.listed (nodes_by g.L.Subjects.nodes) c.args.form area cond given c.write_answer.result)) c.in-Ok.ensures.same told

pub returns-in-Err : goal.returns-in-Err
returns-in-Err g c = λ given e.
    let start = given_is c.new-ahead.result.bytes (g.R.Read.remaining c.args.reader.now) given (ap (λ w. w.bytes) c.new-ahead.ensures) e in
    not_opened g.L.Protocols.listed (nodes_by g.L.Subjects.nodes) c.args.form c.args.hunt.now.area c.args.hunt.now.cond.now given c.open.new.ahead (g.R.Read.remaining c.open.new.reader) (g.W.Write.contents c.args.writer.now) (g.W.Write.contents c.open.new.writer) c.in-Err.status (c.in-Err.ensures.not given start)

pub returns : goal.returns
returns g c = λ given e.
    let area = c.args.hunt.now.area in
    let cond = c.args.hunt.now.cond.now in
    let held = g.W.Write.contents c.open.new.writer in
    subst (λ (h : Option Text). Ended h held (Hunted g.L.Protocols.listed (nodes_by g.L.Subjects.nodes) c.args.form area cond given c.in-Err-hunt_protocol.status)) c.in-Ok.ensures.same
    (nothing (outcome g.L.Protocols.listed (nodes_by g.L.Subjects.nodes) c.args.form area cond given) c.in-Err-hunt_protocol.status held c.in-Err-hunt_protocol.ensures.stops)
