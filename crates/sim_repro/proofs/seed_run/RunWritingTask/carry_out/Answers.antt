use Rattle.std.proofs.Common.{refl}
use Rattle.sim_world.specs.Events.{rules}
use Rattle.sim_export.specs.Exports.{IsExported}
use Rattle.sim_repro.specs.SeedRuns.{seed_run_right}
use Rattle.sim_export.proofs.Telling.{told_export}
use Rattle.sim_repro.proofs.seed_run.RunWritingTask.carry_out.Goals as goal

pub returns-in-Ok : goal.returns-in-Ok
returns-in-Ok g c = λ script at.
    let opened = c.args.opened.now in
    let task = c.args.self.now in
    told_export (IsExported (seed_run_right task.run _ _ (rules g.N.Node.laws g.N.Node.PROBES opened.scenario) opened.names task.text.now script))
    c.in-Ok.export _ _ c.write_export.result
    (record { export = c.in-Ok.export; right = c.in-Ok.ensures script; whole = refl; status = refl }) c.write_export.ensures
