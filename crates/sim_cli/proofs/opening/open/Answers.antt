use Rattle.std.proofs.Common.{◌≡◌, Some, Ok, ◌∙◌, sym, ap, refl}
use Rattle.sim_lines.specs.Taken.{HasHead}
use Rattle.sim_scenario.specs.Seen.{seen}
use Rattle.sim_cli.specs.Play.{read_scenario, ReadsHead}
use Rattle.sim_cli.proofs.Whole.{head_is, same_scenario, not_too_long, fault_of_given}
use Rattle.sim_cli.proofs.Front.{always_ok, opened_as, wants_opened, bad_opened}
use Rattle.sim_cli.proofs.opening.open.Goals as goal

pub returns-in-Err-Failed-clause-not : goal.returns-in-Err-Failed-clause-not
returns-in-Err-Failed-clause-not g c = λ given e.
    let none = rw c.in-Err-Failed.field-0-is at c.in-Err-Failed.ensures.spends in
    (rw e at (rw c.in-Err-Failed.field-0-is at c.in-Err-Failed.ensures.takes), none.none, refl)

pub returns-in-Scenario-clause-opened : goal.returns-in-Scenario-clause-opened
returns-in-Scenario-clause-opened g c = λ given e.
    let head : HasHead (Some given) _ c.in-Ok.text.items = rw e at c.in-Ok.ensures.takes in
    let s = seen c.in-Scenario.said in
    let text : read_scenario g.L.Protocols.listed c.in-Ok.text.items ≡ Ok s = ap (read_scenario g.L.Protocols.listed) (sym c.as_slice.ensures.value) ∙ c.in-Scenario.ensures.reads in
    let h = not_too_long g.L.Protocols.listed given c.in-Ok.text.items _ s (head_is given c.in-Ok.text.items _ head) text in
    opened_as g.L.Protocols.listed g.L.Subjects.nodes given c.in-Ok.text.items _ s h text c.ready.result c.ready.ensures.protocol c.ready.ensures.scenario c.ready.ensures.names c.ready.ensures.text

pub returns-in-Scenario-clause-same : goal.returns-in-Scenario-clause-same
returns-in-Scenario-clause-same g c = always_ok c.ready.result refl

pub returns-in-Scenario-clause-not : goal.returns-in-Scenario-clause-not
returns-in-Scenario-clause-not g c = λ given e. wants_opened g.L.Protocols.listed given c.read_head.new.ahead _ _ c.ready.result c.ready.ensures.wants

pub returns-in-Fault-clause-not : goal.returns-in-Fault-clause-not
returns-in-Fault-clause-not g c = λ given e.
    let head : HasHead (Some given) _ c.in-Ok.text.items = rw e at c.in-Ok.ensures.takes in
    let same = same_scenario g.L.Protocols.listed given c.in-Ok.text.items _ (head_is given c.in-Ok.text.items _ head) in
    let fault = fault_of_given g.L.Protocols.listed given c.in-Ok.text.items c.as_slice.result.now _ c.as_slice.ensures.value same c.in-Fault.ensures.reads in
    let read : ReadsHead given (g.R.Read.remaining c.read_head.new.reader) = record { text = c.in-Ok.text.items; block = c.read_head.new.ahead.bytes; few = c.in-Ok.ensures.few; head = head } in
    bad_opened g.L.Protocols.listed given c.read_head.new.ahead _ _ _ _ c.write_fault-status.result fault read (rw c.as_bytes.ensures.value at c.write_fault-status.ensures)
