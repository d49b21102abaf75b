use Rattle.std.proofs.Common.{codes, sym, ap, ◌∙◌, Some}
use Rattle.std.specs.Option.{option_map, option_copied}
use Rattle.toml.specs.Data.{get_member}
use Rattle.toml.specs.View.{view, table_view}
use Rattle.toml.proofs.Views.{table_get}
use Rattle.sim_scenario.proofs.Arrays.{data_of_ref}
use Rattle.sim_scenario.proofs.Seeds.{seed_bad}
use Rattle.sim_reseed.proofs.Seeds.{no_seed, no_digits, bad_digits, seed_digits, text_of}
use Rattle.sim_reseed.proofs.numbering.seed_of.Goals as goal

pub returns-in_err-value-clause-none : goal.returns-in_err-value-clause-none
returns-in_err-value-clause-none c = λ _ h.
    let found = table_get c.get.result (codes "seed") c.args.table.now.entries c.get.ensures.value in
    no_seed (get_member (codes "seed") (table_view c.args.table.now)) (sym found ∙ ap (option_map data_of_ref) c.in_err-value.was) h

pub returns-in_err-digits-clause-none : goal.returns-in_err-digits-clause-none
returns-in_err-digits-clause-none c = λ _ h.
    let found = table_get c.get.result (codes "seed") c.args.table.now.entries c.get.ensures.value in
    no_digits (get_member (codes "seed") (table_view c.args.table.now)) (view c.in_ok-value.value.now)
    (sym found ∙ ap (option_map data_of_ref) c.in_ok-value.was) (sym c.as_str.ensures ∙ ap option_copied c.in_err-digits.was) h

pub returns-in-Ok-clause-found : goal.returns-in-Ok-clause-found
returns-in-Ok-clause-found c =
    let found = table_get c.get.result (codes "seed") c.args.table.now.entries c.get.ensures.value in
    seed_digits (table_view c.args.table.now) (view c.in_ok-value.value.now) c.in_ok-digits.digits.now c.decode_to_slice.new.out c.decode_to_slice.result
    (sym found ∙ ap (option_map data_of_ref) c.in_ok-value.was) (sym c.as_str.ensures ∙ ap option_copied c.in_ok-digits.was)
    c.decode_to_slice.ensures.value c.in-Ok.is

pub returns-in-Err-clause-none : goal.returns-in-Err-clause-none
returns-in-Err-clause-none c = λ _ h.
    let found = table_get c.get.result (codes "seed") c.args.table.now.entries c.get.ensures.value in
    let digits = c.in_ok-digits.digits.now in
    let text = text_of (view c.in_ok-value.value.now) digits (sym c.as_str.ensures ∙ ap option_copied c.in_ok-digits.was) in
    bad_digits (get_member (codes "seed") (table_view c.args.table.now)) digits
    (sym found ∙ ap (option_map data_of_ref) c.in_ok-value.was ∙ ap Some text)
    (seed_bad digits c.decode_to_slice.new.out c.decode_to_slice.result c.in-Err.field-0 c.decode_to_slice.ensures.value c.in-Err.is) h
