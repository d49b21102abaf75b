use Rattle.std.proofs.Common.{◌∙◌}
use Rattle.sim_scenario.proofs.Numbering.{number_at_place}
use Rattle.sim_scenario.proofs.hosts.host_number.Goals as goal

pub returns : goal.returns
returns c = c.copied.ensures ∙ c.get.ensures.value ∙ number_at_place c.args.hosts.now.entries c.args.name.now c.requires
