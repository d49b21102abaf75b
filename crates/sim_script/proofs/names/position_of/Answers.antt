use Rattle.std.proofs.Common.{◌≡◌, ◌∙◌, sym, ap, string_bytes, true, false}
use Rattle.std.specs.Str.{bytes_eq}
use Rattle.sim_script.proofs.Positions.{at_start, at_other, at_found, at_end}
use Rattle.sim_script.proofs.names.position_of.Goals as goal

pub loop-i-init : goal.loop-i-init
loop-i-init c = at_start string_bytes (bytes_eq c.args.word.now) c.args.names.now

pub returns-then-is_word-clause-is : goal.returns-then-is_word-clause-is
returns-then-is_word-clause-is c =
    let same : bytes_eq c.args.word.now (string_bytes c.index-names-i.result) ≡ true =
    ap (bytes_eq c.args.word.now) (sym c.as_bytes.ensures.value) ∙ sym c.is_word.ensures ∙ c.if-is_word.true in
    at_found string_bytes (bytes_eq c.args.word.now) c.args.names.now c.loop-i.i c.index-names-i.result c.loop-i.invariant c.loop-i-test.true c.index-names-i.is same

pub loop-i-preserved : goal.loop-i-preserved
loop-i-preserved c =
    let other : bytes_eq c.args.word.now (string_bytes c.index-names-i.result) ≡ false =
    ap (bytes_eq c.args.word.now) (sym c.as_bytes.ensures.value) ∙ sym c.is_word.ensures ∙ c.if-is_word.false in
    at_other string_bytes (bytes_eq c.args.word.now) c.args.names.now c.loop-i.i c.index-names-i.result c.loop-i.invariant c.loop-i-test.true c.index-names-i.is other

pub returns-clause-is : goal.returns-clause-is
returns-clause-is c = at_end string_bytes (bytes_eq c.args.word.now) c.args.names.now c.loop-i.i c.loop-i.invariant c.loop-i-test.false
