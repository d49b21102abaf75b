use Rattle.std.proofs.Common.{◌∙◌}
use Rattle.std.proofs.lemmas.Result.{IfOk-weaker}
use Rattle.sim_cli.proofs.Places.{later_probes}
use Rattle.sim_cli.specs.Subjects.{nodes_with}
use Rattle.sim_cli.proofs.subjects.WithSubjects.probe_names.Goals as goal

pub returns-else-place-eq0-clause-names : goal.returns-else-place-eq0-clause-names
returns-else-place-eq0-clause-names g c =
    IfOk-weaker c.probe_names-else-place-eq0.result _ _
    (λ probes names s. names s ∙ later_probes (nodes_with g.S.Node.Node.laws g.S.Node.Node.PROBES g.S.Subject.probes) g.L.Subjects.nodes c.args.place s c.if-place-eq0.false)
    c.probe_names-else-place-eq0.ensures.names
