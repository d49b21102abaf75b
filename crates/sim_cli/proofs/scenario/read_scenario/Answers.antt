use Rattle.std.proofs.Common.{◌≡◌, Err, ◌∙◌, ap}
use Rattle.sim_scenario.specs.Faults.{fault_of}
use Rattle.sim_cli.specs.Play.{read_scenario}
use Rattle.sim_cli.proofs.Readings.{too_long, not_text, is_read, told, is_fault, same_fault}
use Rattle.sim_cli.proofs.scenario.read_scenario.Goals as goal

pub returns-then-bytes-gt-MAX_TEXT-clause-reads : goal.returns-then-bytes-gt-MAX_TEXT-clause-reads
returns-then-bytes-gt-MAX_TEXT-clause-reads g c = told g.P.Protocols.listed _ _ c.tell_fault.result (too_long g.P.Protocols.listed c.args.bytes.now c.if-bytes-gt-MAX_TEXT.true) c.tell_fault.ensures

pub returns-in_default-clause-reads : goal.returns-in_default-clause-reads
returns-in_default-clause-reads g c = told g.P.Protocols.listed _ _ c.tell_fault-in_default.result (not_text g.P.Protocols.listed c.args.bytes.now c.if-bytes-gt-MAX_TEXT.false c.in_default.ensures.cases.0) c.tell_fault-in_default.ensures

pub returns-in-Ok-read-clause-reads : goal.returns-in-Ok-read-clause-reads
returns-in-Ok-read-clause-reads g c =
    is_read g.P.Protocols.listed c.args.bytes.now c.in-Ok.text.now c.if-bytes-gt-MAX_TEXT.false c.in-Ok.ensures.cases.1 c.in-Ok.ensures.cases.0 ∙ c.in-Ok-read.ensures.accepted

pub returns-clause-reads : goal.returns-clause-reads
returns-clause-reads g c =
    let why = fault_of c.in-Err.fault in
    let fault : read_scenario g.P.Protocols.listed c.args.bytes.now ≡ Err why =
    is_read g.P.Protocols.listed c.args.bytes.now c.in-Ok.text.now c.if-bytes-gt-MAX_TEXT.false c.in-Ok.ensures.cases.1 c.in-Ok.ensures.cases.0
    ∙ c.in-Err.ensures.refused (is_fault c.in-Err.fault c.number-number.result c.number-number.ensures c.if-number-eq0.false) in
    told g.P.Protocols.listed _ _ c.tell_fault-else-number-eq0.result (fault ∙ ap (λ f. Err f) (same_fault why c.number-number.result c.key.result.now c.number-number.ensures c.key.ensures))
    c.tell_fault-else-number-eq0.ensures
