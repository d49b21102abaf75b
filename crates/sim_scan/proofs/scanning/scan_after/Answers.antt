use Rattle.std.proofs.Common.{ap}
use Rattle.sim_tape.specs.Tape.{Tape}
use Rattle.sim_scan.proofs.Scans.{checked_at}
use Rattle.sim_scan.proofs.scanning.scan_after.Goals as goal

pub scan_on-requires-clause-checked : goal.scan_on-requires-clause-checked
scan_on-requires-clause-checked g c =
    checked_at g.N.Node.PROBES c.args.cond.now c.args.frozen.now.scenario c.in_ok-tape.tape (ap (λ (t : Tape). t.scenario) c.in_ok-tape.ensures.tape) c.requires.checked
