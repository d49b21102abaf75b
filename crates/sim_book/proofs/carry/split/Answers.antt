use Rattle.std.proofs.Common.{ap, ◌∙◌}
use Rattle.sim_tape.specs.Tape.{Tape}
use Rattle.sim_book.specs.Kept.{Kept}
use Rattle.sim_book.proofs.Books.{none_checked}
use Rattle.sim_book.proofs.carry.split.Goals as goal

pub returns-clause-kept : goal.returns-clause-kept
returns-clause-kept g c = λ s k. record {
  scenario = ap (λ (t : Tape). t.scenario) c.in_ok-tape.ensures ∙ (ap (λ (x : Kept). x.tape.scenario) c.kept.view_is ∙ k.scenario);
  checked = none_checked s.setup.hosts g.N.Node.PROBES;
}
