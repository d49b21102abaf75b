use Rattle.std.proofs.Common.{◌≡◌, ◌∙◌, ◌++◌, Ok, ap, map, length, replicate, string_bytes, Global, refl, sym, arith}
use Rattle.std.proofs.lemmas.List.{length-map}
use Rattle.sim_scenario.specs.Hosts.{names_in}
use Rattle.sim_scenario.proofs.Linking.{differing_names}
use Rattle.sim_scenario.specs.Parts.{count_of}
use Rattle.sim_scenario.specs.Scenario.{first_32}
use Rattle.sim_scenario.proofs.Given.{Gives-passed}
use Rattle.sim_scenario.proofs.Joining.{joined_in-said, joined_in-count, joined_in-equal, joined_in-astray, said_as}
use Rattle.sim_scenario.proofs.reading.joined.Goals as goal

pub ways-requires-clause-few : goal.ways-requires-clause-few
ways-requires-clause-few g c =
    let names = names_in c.in_ok-names.names in
    let all_names = c.args.hosts.names in
    let given : length names ≡ length (map string_bytes all_names.items) = ap length (sym (differing_names _ _ names c.in_ok-names.ensures.differing)) in
    omega (arith, given, length-map all_names.items (string_bytes {Z = Global}), all_names.ok.0, c.len.ensures, c.in_ok-fitting.ensures.few)

pub returns-in_err-fitting-clause-said : goal.returns-in_err-fitting-clause-said
returns-in_err-fitting-clause-said g c =
    let all_names = c.args.hosts.names in
    let hosts : length (map string_bytes all_names.items) ≡ c.len.result = length-map all_names.items (string_bytes {Z = Global}) ∙ sym all_names.ok.0 ∙ sym c.len.ensures in
    Gives-passed _ c.from_residual.result c.in_err-fitting.field-0.0 _ c.from_residual.ensures.1
    (λ other. joined_in-count g.P.Protocols.listed c.args.opening c.args.servers _ c.args.hosts.operations.items c.args.rest _ _ (ap (count_of g.P.Protocols.listed c.args.opening.protocol c.args.servers) hosts ∙ c.in_err-fitting.ensures.said other))

pub returns-in_err-names-clause-said : goal.returns-in_err-names-clause-said
returns-in_err-names-clause-said g c =
    let all_names = c.args.hosts.names in
    let hosts : length (map string_bytes all_names.items) ≡ c.len.result = length-map all_names.items (string_bytes {Z = Global}) ∙ sym all_names.ok.0 ∙ sym c.len.ensures in
    let fitting : count_of g.P.Protocols.listed c.args.opening.protocol c.args.servers (length (map string_bytes all_names.items)) ≡ Ok tt =
    ap (count_of g.P.Protocols.listed c.args.opening.protocol c.args.servers) hosts ∙ c.in_ok-fitting.ensures.said in
    Gives-passed _ c.from_residual-in_err-names.result c.in_err-names.field-0.0 _ c.from_residual-in_err-names.ensures.1
    (λ other. joined_in-equal g.P.Protocols.listed c.args.opening c.args.servers _ c.args.hosts.operations.items c.args.rest _ _ fitting (c.in_err-names.ensures.differing other))

pub returns-in_err-ways-clause-said : goal.returns-in_err-ways-clause-said
returns-in_err-ways-clause-said g c =
    let all_names = c.args.hosts.names in
    let hosts : length (map string_bytes all_names.items) ≡ c.len.result = length-map all_names.items (string_bytes {Z = Global}) ∙ sym all_names.ok.0 ∙ sym c.len.ensures in
    let fitting : count_of g.P.Protocols.listed c.args.opening.protocol c.args.servers (length (map string_bytes all_names.items)) ≡ Ok tt =
    ap (count_of g.P.Protocols.listed c.args.opening.protocol c.args.servers) hosts ∙ c.in_ok-fitting.ensures.said in
    Gives-passed _ c.from_residual-in_err-ways.result c.in_err-ways.field-0.0 _ c.from_residual-in_err-ways.ensures.1
    (λ other. joined_in-astray g.P.Protocols.listed c.args.opening c.args.servers _ c.args.hosts.operations.items c.args.rest _ _ _ fitting c.in_ok-names.ensures.differing (c.in_err-ways.ensures other))

pub returns-clause-said : goal.returns-clause-said
returns-clause-said g c =
    let all_names = c.args.hosts.names in
    let hosts : length (map string_bytes all_names.items) ≡ c.len.result = length-map all_names.items (string_bytes {Z = Global}) ∙ sym all_names.ok.0 ∙ sym c.len.ensures in
    let fitting : count_of g.P.Protocols.listed c.args.opening.protocol c.args.servers (length (map string_bytes all_names.items)) ≡ Ok tt =
    ap (count_of g.P.Protocols.listed c.args.opening.protocol c.args.servers) hosts ∙ c.in_ok-fitting.ensures.said in
    let ops : first_32 (replicate c.args.servers 0 ++ c.args.hosts.operations.items) ≡ c.host_operations-ops.result =
    ap (λ os. first_32 (replicate c.args.servers 0 ++ os)) (sym c.as_slice.ensures.value) ∙ sym c.host_operations-ops.ensures in
    joined_in-said g.P.Protocols.listed c.args.opening c.args.servers _ c.args.hosts.operations.items c.args.rest _ _ _ fitting c.in_ok-names.ensures.differing c.in_ok-ways.ensures
    ∙ said_as _ _ _ refl ops
