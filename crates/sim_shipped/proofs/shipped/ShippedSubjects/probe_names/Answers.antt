use Rattle.std.proofs.Common.{◌∙◌, ℕ, ap, sym}
use Rattle.std.proofs.lemmas.Result.{IfOk-weaker}
use Rattle.sim_shipped.specs.Shipped.{shipped_nodes}
use Rattle.sim_shipped.proofs.shipped.ShippedSubjects.probe_names.Goals as goal

pub returns-in-0-clause-names : goal.returns-in-0-clause-names
returns-in-0-clause-names c =
    IfOk-weaker c.probe_names.result _ _
    (λ probes names s. names s ∙ ap (λ (k : ℕ). (shipped_nodes k s).probes) (sym c.in-0.is)) c.probe_names.ensures.names

pub returns-in-1-clause-names : goal.returns-in-1-clause-names
returns-in-1-clause-names c =
    IfOk-weaker c.probe_names-in-1.result _ _
    (λ probes names s. names s ∙ ap (λ (k : ℕ). (shipped_nodes k s).probes) (sym c.in-1.is)) c.probe_names-in-1.ensures.names

pub returns-in-2-clause-names : goal.returns-in-2-clause-names
returns-in-2-clause-names c =
    IfOk-weaker c.probe_names-in-2.result _ _
    (λ probes names s. names s ∙ ap (λ (k : ℕ). (shipped_nodes k s).probes) (sym c.in-2.is)) c.probe_names-in-2.ensures.names

pub returns-in-3-clause-names : goal.returns-in-3-clause-names
returns-in-3-clause-names c =
    IfOk-weaker c.probe_names-in-3.result _ _
    (λ probes names s. names s ∙ ap (λ (k : ℕ). (shipped_nodes k s).probes) (sym c.in-3.is)) c.probe_names-in-3.ensures.names
