use Rattle.std.proofs.Common.{sym, subst}
use Rattle.sim_scenario.specs.Faults.{Gives}
use Rattle.sim_scenario.specs.Seen.{seen}
use Rattle.sim_scenario.specs.Parts.{scenario_in}
use Rattle.sim_scenario.proofs.Given.{Gives-passed}
use Rattle.sim_scenario.proofs.Joining.{scenario_in-said, given, stopped}
use Rattle.sim_scenario.proofs.reading.read_table.Goals as goal

pub returns-in_err-known_keys-clause-said : goal.returns-in_err-known_keys-clause-said
unfolding scenario_in
returns-in_err-known_keys-clause-said g c =
    Gives-passed _ c.from_residual.result c.in_err-known_keys.field-0.0 _ c.from_residual.ensures.1
    (λ other. (stopped _ (c.in_err-known_keys.ensures other)).same)

pub returns-in_err-format-clause-said : goal.returns-in_err-format-clause-said
unfolding scenario_in
returns-in_err-format-clause-said g c =
    Gives-passed _ c.from_residual-in_err-format.result c.in_err-format.field-0.0 _ c.from_residual-in_err-format.ensures.1
    (λ other. (given _ c.in_ok-known_keys.ensures (stopped _ (c.in_err-format.ensures other))).same)

pub returns-in_err-seed-clause-said : goal.returns-in_err-seed-clause-said
unfolding scenario_in
returns-in_err-seed-clause-said g c =
    Gives-passed _ c.from_residual-in_err-seed.result c.in_err-seed.field-0.0 _ c.from_residual-in_err-seed.ensures.1
    (λ other. (given _ c.in_ok-known_keys.ensures (given _ c.in_ok-format.ensures (stopped _ (c.in_err-seed.ensures other)))).same)

pub returns-in_err-protocol-clause-said : goal.returns-in_err-protocol-clause-said
unfolding scenario_in
returns-in_err-protocol-clause-said g c =
    Gives-passed _ c.from_residual-in_err-protocol.result c.in_err-protocol.field-0.0 _ c.from_residual-in_err-protocol.ensures.1
    (λ other. (given _ c.in_ok-known_keys.ensures (given _ c.in_ok-format.ensures (given _ c.in_ok-seed.ensures (stopped _ (c.in_err-protocol.ensures other))))).same)

pub returns-in_err-tick-clause-said : goal.returns-in_err-tick-clause-said
unfolding scenario_in
returns-in_err-tick-clause-said g c =
    Gives-passed _ c.from_residual-in_err-tick.result c.in_err-tick.field-0.0 _ c.from_residual-in_err-tick.ensures.1
    (λ other. (given _ c.in_ok-known_keys.ensures (given _ c.in_ok-format.ensures (given _ c.in_ok-seed.ensures (given _ c.in_ok-protocol.ensures (stopped _ (c.in_err-tick.ensures other)))))).same)

pub returns-in_err-latency_min-clause-said : goal.returns-in_err-latency_min-clause-said
unfolding scenario_in
returns-in_err-latency_min-clause-said g c =
    Gives-passed _ c.from_residual-in_err-latency_min.result c.in_err-latency_min.field-0.0 _ c.from_residual-in_err-latency_min.ensures.1
    (λ other. (given _ c.in_ok-known_keys.ensures (given _ c.in_ok-format.ensures (given _ c.in_ok-seed.ensures (given _ c.in_ok-protocol.ensures (given _ c.in_ok-tick.ensures (stopped _ (c.in_err-latency_min.ensures other))))))).same)

pub returns-in_err-latency_max-clause-said : goal.returns-in_err-latency_max-clause-said
unfolding scenario_in
returns-in_err-latency_max-clause-said g c =
    Gives-passed _ c.from_residual-in_err-latency_max.result c.in_err-latency_max.field-0.0 _ c.from_residual-in_err-latency_max.ensures.1
    (λ other. (given _ c.in_ok-known_keys.ensures (given _ c.in_ok-format.ensures (given _ c.in_ok-seed.ensures (given _ c.in_ok-protocol.ensures (given _ c.in_ok-tick.ensures (given _ c.in_ok-latency_min.ensures (stopped _ (c.in_err-latency_max.ensures other)))))))).same)

pub returns-in_err-loss-clause-said : goal.returns-in_err-loss-clause-said
unfolding scenario_in
returns-in_err-loss-clause-said g c =
    Gives-passed _ c.from_residual-in_err-loss.result c.in_err-loss.field-0.0 _ c.from_residual-in_err-loss.ensures.1
    (λ other. (given _ c.in_ok-known_keys.ensures (given _ c.in_ok-format.ensures (given _ c.in_ok-seed.ensures (given _ c.in_ok-protocol.ensures (given _ c.in_ok-tick.ensures (given _ c.in_ok-latency_min.ensures (given _ c.in_ok-latency_max.ensures (stopped _ (c.in_err-loss.ensures other))))))))).same)

pub returns-clause-said : goal.returns-clause-said
returns-clause-said g c =
    subst (λ said. Gives seen c.read_hosts.result said)
    (sym (scenario_in-said g.P.Protocols.listed _ _ _ _ _ _ _ c.in_ok-known_keys.ensures c.in_ok-format.ensures c.in_ok-seed.ensures c.in_ok-protocol.ensures c.in_ok-tick.ensures c.in_ok-latency_min.ensures
    c.in_ok-latency_max.ensures c.in_ok-loss.ensures))
    c.read_hosts.ensures.said
