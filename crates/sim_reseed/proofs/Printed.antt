-- The text of a document ends its last line.
use Rattle.std.proofs.Common.{◌≡◌, ℕ, ◌<◌, List, [], ◌∷◌, ◌++◌, length, Bool, true, false, codes, refl, ◌∙◌, arith, length-append}
use Rattle.toml_writer.specs.Text.{dotted_text}
use Rattle.toml.specs.Data.{Members}
use Rattle.toml.specs.Tables.{Definition, key_value, std_table, array_table, Expression}
use Rattle.toml.specs.Text.{IsLineText, IsLinesText, IsDocumentText, expressions, gap, header_open}
use Rattle.sim_reseed.specs.Input.{ends_its_lines}
use Rattle.sim_reseed.proofs.Heads.{ends-append, ends-both}

-- three parts, and an end that ends a line
ended : (a b c end text : List ℕ) → 0 < length end → ends_its_lines end ≡ true → text ≡ a ++ (b ++ (c ++ end)) → ends_its_lines text ≡ true
ended a b c end text some h e =
    rw e
    (ends-append a (b ++ (c ++ end)) (omega (arith, length-append b (c ++ end), length-append c end))
    ∙ ends-append b (c ++ end) (omega (arith, length-append c end))
    ∙ ends-append c end some
    ∙ h)

line-ends : (pretty started : Bool) (key : List (List ℕ) × List ℕ) (d : Definition) (text : List ℕ) → IsLineText pretty started key d text → ends_its_lines text ≡ true
line-ends pretty started key (key_value d) text h = ended (dotted_text key) (codes " = ") h.0 (10 ∷ []) text (omega arith) refl h.1
line-ends pretty started key std_table text h = ended (gap started) (header_open false) (dotted_text key) (codes "]\n") text (omega arith) refl h
line-ends pretty started key array_table text h = ended (gap started) (header_open true) (dotted_text key) (codes "]]\n") text (omega arith) refl h

lines-end : (pretty started : Bool) (es : List Expression) (text : List ℕ) → IsLinesText pretty started es text → ends_its_lines text ≡ true
lines-end pretty started [] text h = rw h refl
lines-end pretty started (e ∷ es) text h = rw h.2 (ends-both h.0 h.1 (line-ends pretty started e.0 e.1 h.0 h.3) (lines-end pretty true es h.1 h.4))

pub document-ends : (ms : Members) (text : List ℕ) → IsDocumentText false ms text → ends_its_lines text ≡ true
document-ends ms text h = lines-end false false (expressions ms) text h
