use Rattle.std.proofs.Common.{rules}
use Rattle.std.specs.Prelude.{◌≡◌, IfOk}
use Rattle.indexmap.specs.IndexMap.{keys}
use Rattle.sim_cli.proofs.Readings.{names_of_keys}
use Rattle.sim_cli.proofs.opening.host_names.Goals as goal

pub returns : goal.returns
returns c =
    let all : IfOk c.collect.result (λ v. v.items ≡ keys c.args.hosts) = search rules in
    names_of_keys c.collect.result c.args.hosts all
