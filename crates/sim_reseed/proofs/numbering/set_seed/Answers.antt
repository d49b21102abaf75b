use Rattle.std.proofs.Common.{codes, sym, ap, ◌∙◌}
use Rattle.std.specs.Option.{option_copied_mut}
use Rattle.toml.specs.Data.{string}
use Rattle.toml.specs.View.{table_view, members_view}
use Rattle.toml.specs.declared.value.Value.{String as StringValue}
use Rattle.toml.proofs.Views.{view-String}
use Rattle.hex.specs.Hex.{encode_lower}
use Rattle.sim_reseed.specs.Numbered.{with_value}
use Rattle.sim_reseed.proofs.Values.{with_value-written, with_value-absent}
use Rattle.sim_reseed.proofs.numbering.set_seed.Goals as goal

pub returns-in-Some-clause-set : goal.returns-in-Some-clause-set
returns-in-Some-clause-set c =
    let w = StringValue c.in_ok-digits.digits in
    ap members_view (c.get_mut.follows.holds w).0
    ∙ with_value-written (codes "seed") w c.args.table.now.entries
    ∙ ap (λ d. with_value (codes "seed") d (table_view c.args.table.now)) (view-String c.in_ok-digits.digits ∙ ap string c.in_ok-digits.ensures)

pub returns-in_default-clause-set : goal.returns-in_default-clause-set
returns-in_default-clause-set c =
    ap table_view c.get_mut.follows.holds-at-none
    ∙ sym (with_value-absent (codes "seed") (string (encode_lower c.args.seed)) c.args.table.now.entries (sym c.get_mut.ensures.value ∙ ap option_copied_mut c.in_default.is))
