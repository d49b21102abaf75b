use Rattle.std.proofs.Common.{◌≡◌, List, Bor, ℕ, map, true, false, Some, sym, ◌∙◌, ap, string_bytes}
use Rattle.std.specs.List.{list_any}
use Rattle.std.specs.Str.{bytes_eq}
use Rattle.sim_scenario.specs.Scenario.{is_known}
use Rattle.sim_scenario.proofs.Keys.{is_known-refs, known_here, unknown_here}
use Rattle.sim_scenario.proofs.fields.unknown_key.Goals as goal

pub loop-key-preserved : goal.loop-key-preserved
loop-key-preserved c =
    let known = map (λ (k : Bor (List ℕ)). k.now) c.args.known.now in
    let among : is_known known (string_bytes c.in-Some.key.now) ≡ true =
    sym (is_known-refs (string_bytes c.in-Some.key.now) c.args.known.now)
    ∙ ap (λ bytes. list_any (λ (k : Bor (List ℕ)). bytes_eq bytes k.now) c.args.known.now) (sym c.as_str.ensures.value)
    ∙ sym c.is_among.ensures ∙ c.if-not-is_among.false in
    sym (known_here known c.loop-key.key-iterator c.next.new.self _ c.in-Some.ensures.steps among) ∙ c.loop-key.invariant

pub returns-then-not-is_among : goal.returns-then-not-is_among
returns-then-not-is_among c =
    let known = map (λ (k : Bor (List ℕ)). k.now) c.args.known.now in
    let unknown : is_known known (string_bytes c.in-Some.key.now) ≡ false =
    sym (is_known-refs (string_bytes c.in-Some.key.now) c.args.known.now)
    ∙ ap (λ bytes. list_any (λ (k : Bor (List ℕ)). bytes_eq bytes k.now) c.args.known.now) (sym c.as_str.ensures.value)
    ∙ sym c.is_among.ensures ∙ c.if-not-is_among.true in
    ap Some c.as_str-then-not-is_among.ensures.value ∙ sym (unknown_here known c.loop-key.key-iterator c.next.new.self _ c.in-Some.ensures.steps unknown) ∙ c.loop-key.invariant
