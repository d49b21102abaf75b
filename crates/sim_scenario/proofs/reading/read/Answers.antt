use Rattle.std.proofs.Common.{◌≤◌, length, sym, subst, arith}
use Rattle.sim_scenario.specs.Faults.{Gives}
use Rattle.sim_scenario.specs.Seen.{seen}
use Rattle.sim_scenario.proofs.Given.{Gives-ok, Gives-err, IfOk-weaker}
use Rattle.sim_scenario.proofs.Limits.{read-limits, read-known}
use Rattle.sim_scenario.proofs.Joining.{read_of_document}
use Rattle.sim_scenario.proofs.reading.read.Goals as goal

pub returns-in-Ok-clause-accepted : goal.returns-in-Ok-clause-accepted
returns-in-Ok-clause-accepted g c =
    let short : length c.args.text.now ≤ 65536 = omega arith in
    let said = subst (λ said. Gives seen c.read_table.result said) (sym (read_of_document g.P.Protocols.listed c.args.text.now _ short c.in-Ok.ensures.ok)) c.read_table.ensures.said in
    Gives-ok seen c.read_table.result _ said

pub returns-in-Ok-clause-refused : goal.returns-in-Ok-clause-refused
returns-in-Ok-clause-refused g c =
    let short : length c.args.text.now ≤ 65536 = omega arith in
    let said = subst (λ said. Gives seen c.read_table.result said) (sym (read_of_document g.P.Protocols.listed c.args.text.now _ short c.in-Ok.ensures.ok)) c.read_table.ensures.said in
    Gives-err seen c.read_table.result _ said

pub returns-in-Ok-clause-within : goal.returns-in-Ok-clause-within
returns-in-Ok-clause-within g c = IfOk-weaker c.read_table.result (λ s. read-limits g.P.Protocols.listed c.args.text.now (seen s)) (returns-in-Ok-clause-accepted g c)

pub returns-in-Ok-clause-known : goal.returns-in-Ok-clause-known
returns-in-Ok-clause-known g c = IfOk-weaker c.read_table.result (λ s. read-known g.P.Protocols.listed c.args.text.now (seen s)) (returns-in-Ok-clause-accepted g c)
