use Rattle.std.proofs.Common.{◌≡◌, ◌∙◌, ap, map, length, string_bytes, Global, sym, subst}
use Rattle.std.proofs.lemmas.List.{length-map}
use Rattle.sim_scenario.specs.Faults.{Gives}
use Rattle.sim_scenario.specs.Links.{link_said}
use Rattle.sim_scenario.specs.Parts.{joined_in}
use Rattle.sim_scenario.specs.Seen.{seen}
use Rattle.sim_scenario.specs.declared.reading.Rest.{Rest}
use Rattle.sim_scenario.proofs.Joining.{hosts_in-said}
use Rattle.sim_scenario.proofs.reading.read_hosts.Goals as goal

pub returns-clause-said : goal.returns-clause-said
returns-clause-said g c =
    let names = c.in_ok-server_names.server_names in
    let hosts = c.in_ok-hosts.hosts in
    let rest : Rest = record { checkpoint = c.in_ok-checkpoint.checkpoint; window = c.in_ok-window.window; disk_latency = c.in_ok-disk_latency.disk_latency } in
    let servers : length (map string_bytes names.items) ≡ c.len-servers.result = length-map names.items (string_bytes {Z = Global}) ∙ sym names.ok.0 ∙ sym c.len-servers.ensures in
    subst (λ said. Gives seen c.joined.result said)
    (sym (hosts_in-said g.P.Protocols.listed c.args.opening _ _ _ _ _ _ _ _ c.in_ok-server_names.ensures c.in_ok-checkpoint.ensures c.in_ok-window.ensures c.in_ok-hosts.ensures.said c.in_ok-disk_latency.ensures c.in_ok-links.ensures
    ∙ ap (λ k. joined_in g.P.Protocols.listed c.args.opening k (map string_bytes hosts.names.items) hosts.operations.items rest (map link_said c.in_ok-links.links.items)) servers
    ∙ ap (λ ts. joined_in g.P.Protocols.listed c.args.opening c.len-servers.result (map string_bytes hosts.names.items) hosts.operations.items rest (map link_said ts)) (sym c.as_slice.ensures.value)))
    c.joined.ensures.said
