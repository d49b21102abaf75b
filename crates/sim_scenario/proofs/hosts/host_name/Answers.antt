use Rattle.std.proofs.Common.{Some, sym, ap, ◌∙◌}
use Rattle.std.specs.Option.{option_map}
use Rattle.std.specs.Prelude.{slice_get}
use Rattle.std.proofs.lemmas.Option.{slice_get-map}
use Rattle.sim_scenario.specs.Hosts.{names_in}
use Rattle.sim_scenario.proofs.Numbering.{name_of}
use Rattle.sim_scenario.proofs.hosts.host_name.Goals as goal

pub returns-in-Some : goal.returns-in-Some
returns-in-Some c =
    let hosts = c.args.hosts.now in
    ap Some c.as_str.ensures.value ∙ ap (option_map name_of) c.in-Some.ensures.entry
    ∙ sym (slice_get-map name_of hosts.entries c.from.result) ∙ ap (slice_get (names_in hosts)) c.from.ensures

pub returns-in-None : goal.returns-in-None
returns-in-None c =
    let hosts = c.args.hosts.now in
    ap (option_map name_of) c.in-None.ensures.entry
    ∙ sym (slice_get-map name_of hosts.entries c.from.result) ∙ ap (slice_get (names_in hosts)) c.from.ensures
