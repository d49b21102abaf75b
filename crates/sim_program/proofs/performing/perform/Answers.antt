use Rattle.std.proofs.Common.{◌∙◌, Bool, true, false, [], ap, refl, subst}
use Rattle.sim_lines.proofs.Known.{Appends-none}
use Rattle.sim_cli.specs.declared.status.Status.TheVariants.{BadRequest}
use Rattle.sim_cli.specs.Play.{Ended}
use Rattle.sim_hunt.specs.declared.answer.Form.{Form}
use Rattle.sim_hunt.specs.declared.hunting.Area.{Area}
use Rattle.sim_hunt.specs.Hunts.{area_of, planned_runs}
use Rattle.sim_hunt.specs.Outcomes.{Hunted}
use Rattle.sim_job.specs.declared.wanted.Job.TheVariants as jobs
use Rattle.sim_cli.specs.Subjects.{nodes_by}
use Rattle.sim_program.proofs.Jobs.{as_job}
use Rattle.sim_program.proofs.performing.perform.Goals as goal

pub returns-then-strict-clause-performed : goal.returns-then-strict-clause-performed
returns-then-strict-clause-performed g c = λ given e.
    as_job g.L.Protocols.listed (nodes_by g.L.Subjects.nodes) c.args.job.now (jobs.Play true) given _ _ _ c.play_strictly.result
    (c.in-Play.is ∙ ap (λ (b : Bool). jobs.Play b) c.if-strict.true) (c.play_strictly.ensures.played given e)

pub returns-else-strict-clause-performed : goal.returns-else-strict-clause-performed
returns-else-strict-clause-performed g c = λ given e.
    as_job g.L.Protocols.listed (nodes_by g.L.Subjects.nodes) c.args.job.now (jobs.Play false) given _ _ _ c.play.result
    (c.in-Play.is ∙ ap (λ (b : Bool). jobs.Play b) c.if-strict.false) (c.play.ensures.played given e)

pub returns-in-Search-clause-performed : goal.returns-in-Search-clause-performed
returns-in-Search-clause-performed g c = λ given e.
    as_job g.L.Protocols.listed (nodes_by g.L.Subjects.nodes) c.args.job.now
    (jobs.Search c.in-Search.team c.in-Search.strict c.in-Search.lo c.in-Search.hi c.in-Search.cond) given _ _ _ c.hunt_scenario.result
    c.in-Search.is (c.hunt_scenario.ensures given e)

pub returns-in-Sweep-clause-performed : goal.returns-in-Sweep-clause-performed
returns-in-Sweep-clause-performed g c = λ given e.
    let s = c.in-Sweep in
    let ended = c.hunt_scenario-in-Sweep.result in
    let held = g.W.Write.contents c.args.writer.now in
    let holds = g.W.Write.contents c.hunt_scenario-in-Sweep.new.writer in
    let form = c.form_of-form.result in
    as_job g.L.Protocols.listed (nodes_by g.L.Subjects.nodes) c.args.job.now
    (jobs.Sweep s.team s.plan s.at_end s.script s.strict s.json s.first s.count s.events s.cond) given _ _ _ ended s.is
    (subst (λ (f : Form). Ended held holds (Hunted g.L.Protocols.listed (nodes_by g.L.Subjects.nodes) f
    (area_of (planned_runs s.plan s.at_end s.script s.strict s.first s.count s.events)) s.cond.now given ended)) c.form_of-form.ensures
    (subst (λ (a : Area). Ended held holds (Hunted g.L.Protocols.listed (nodes_by g.L.Subjects.nodes) form a s.cond.now given ended))
    c.area_of-area.ensures (c.hunt_scenario-in-Sweep.ensures given e)))

pub returns-in-Script-clause-performed : goal.returns-in-Script-clause-performed
returns-in-Script-clause-performed g c = λ given e.
    as_job g.L.Protocols.listed (nodes_by g.L.Subjects.nodes) c.args.job.now
    (jobs.Script c.in-Script.plan c.in-Script.seed c.in-Script.events) given _ _ _ c.write_run.result c.in-Script.is
    (c.write_run.ensures given e)

pub returns-in-Shrink-clause-performed : goal.returns-in-Shrink-clause-performed
returns-in-Shrink-clause-performed g c = λ given e.
    as_job g.L.Protocols.listed (nodes_by g.L.Subjects.nodes) c.args.job.now
    (jobs.Shrink c.in-Shrink.progress c.in-Shrink.cond) given _ _ _ c.write_shrunk.result c.in-Shrink.is
    (c.write_shrunk.ensures given e)

pub returns-in-Log-clause-performed : goal.returns-in-Log-clause-performed
returns-in-Log-clause-performed g c = λ given e.
    as_job g.L.Protocols.listed (nodes_by g.L.Subjects.nodes) c.args.job.now
    (jobs.Log c.in-Log.from c.in-Log.to c.in-Log.json) given _ _ _ c.write_log.result c.in-Log.is
    (c.write_log.ensures given e)

pub returns-in-Page-clause-performed : goal.returns-in-Page-clause-performed
returns-in-Page-clause-performed g c = λ given e.
    as_job g.L.Protocols.listed (nodes_by g.L.Subjects.nodes) c.args.job.now
    (jobs.Page c.in-Page.title c.in-Page.watch) given _ _ _ c.write_page.result c.in-Page.is
    (c.write_page.ensures given e)

pub returns-in-Walk-clause-performed : goal.returns-in-Walk-clause-performed
returns-in-Walk-clause-performed g c = λ given e.
    as_job g.L.Protocols.listed (nodes_by g.L.Subjects.nodes) c.args.job.now jobs.Walk given _ _ _ BadRequest c.in-Walk.is
    (record { written = []; appended = Appends-none (g.W.Write.contents c.args.writer.now); is = (refl, refl) })
