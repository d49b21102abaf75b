use Rattle.std.proofs.Common.{◌≡◌, ◌∷◌, [], ◌+◌, map, drop, Some, None, sym, ap, ◌∙◌, string_bytes, arith}
use Rattle.std.specs.Option.{option_copied}
use Rattle.std.proofs.lemmas.List.{map-append}
use Rattle.sim_scenario.specs.Scenario.{all_some}
use Rattle.sim_scenario.proofs.Arrays.{with_rest, with_rest-nil, read_more, read_stop, read_all, text_of}
use Rattle.sim_scenario.proofs.hosts.item_texts.Goals as goal

pub loop-item-init : goal.loop-item-init
loop-item-init c = rw c.new-texts.ensures.items (with_rest-nil text_of (all_some text_of c.args.items.now))

pub loop-item-preserved : goal.loop-item-preserved
loop-item-preserved c =
    let here = c.loop-item.texts.items in
    let read : text_of c.item-item.result ≡ Some (string_bytes c.in_ok-from_str.field-0) = sym c.as_str.ensures ∙ ap option_copied c.in-Some.is ∙ ap Some (sym c.in_ok-from_str.ensures.ok) in
    let pushed = ap (map string_bytes) c.in_ok-push.ensures.items ∙ map-append string_bytes here (c.in_ok-from_str.field-0 ∷ []) in
    c.loop-item.invariant
    ∙ read_more text_of c.args.items.now c.loop-item.item-index c.item-item.result (string_bytes c.in_ok-from_str.field-0) (map string_bytes here) (omega arith) c.item-item.is read
    ∙ ap (λ done. with_rest text_of done (all_some text_of (drop (c.loop-item.item-index + 1) c.args.items.now))) (sym pushed)

pub returns-in_default : goal.returns-in_default
returns-in_default c =
    let read : text_of c.item-item.result ≡ None = sym c.as_str.ensures ∙ ap option_copied c.in_default.is in
    sym (c.loop-item.invariant ∙ read_stop text_of c.args.items.now c.loop-item.item-index c.item-item.result (map string_bytes c.loop-item.texts.items) (omega arith) c.item-item.is read)

pub returns : goal.returns
returns c = sym (c.loop-item.invariant ∙ read_all text_of c.args.items.now c.loop-item.item-index (map string_bytes c.loop-item.texts.items) (omega arith))
