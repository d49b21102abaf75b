use Rattle.std.proofs.Common.{None, ap, sym, subst, ◌∙◌}
use Rattle.std.proofs.lemmas.Result.{on_ok_weaker}
use Rattle.sim_streams.specs.Word.{word}
use Rattle.sim_world.specs.inside.Crashing.{disk_crashed}
use Rattle.sim_world.specs.inside.Index.{IsIndex}
use Rattle.sim_world.specs.World.{with_node}
use Rattle.sim_world.proofs.Crashings.{index_crashed}
use Rattle.sim_world.proofs.Plain.{seeded}
use Rattle.sim_world.proofs.Trails.{extends-then}
use Rattle.sim_world.proofs.parts.Parts.crash_running.Goals as goal

pub returns-clause-world : goal.returns-clause-world
returns-clause-world g c =
    let h = c.args.h in
    let torn = c.in_ok-crash_disk.ensures.world
    ∙ ap (λ v. seeded v.seed (disk_crashed (word v.seed) h v.world)) c.in_ok-lose.ensures.world in
    on_ok_weaker c.stop.result (λ e. e ∙ ap (λ v. seeded v.seed (with_node h None v.world)) torn) c.stop.ensures.world

pub returns-clause-index : goal.returns-clause-index
returns-clause-index g c =
    let h = c.args.h in
    let v = c.lose.new.self in
    on_ok_weaker c.stop.result
    (λ e. subst (λ u. IsIndex c.lose.new.index u.world) (sym (e ∙ ap (λ u. seeded u.seed (with_node h None u.world)) c.in_ok-crash_disk.ensures.world))
    (index_crashed (word v.seed) h c.lose.new.index v.world c.in_ok-lose.ensures.index))
    c.stop.ensures.world

pub returns-clause-trail : goal.returns-clause-trail
returns-clause-trail g c =
    on_ok_weaker c.stop.result
    (λ e. extends-then g.N.Node.records (extends-then g.N.Node.records c.in_ok-lose.ensures.trail c.in_ok-crash_disk.ensures.trail) e)
    c.stop.ensures.trail
