-- What is kept of a line asks what the line does.
use Rattle.std.proofs.Common.{◌≡◌, ℕ, ◌<◌, List, [], ◌∷◌, length, sym, ◌∙◌, ap, cond, true, false, arith, inl, inr, slice_get}
use Rattle.std.specs.Prelude.{◌==◌, slice_index, nat_lt}
use Rattle.std.proofs.lemmas.Bool.Decides.{nat_tests}
use Rattle.sim_lines.specs.Cut.{Shows}
use Rattle.sim_script.specs.declared.script.ScriptLine.TheVariants.{Nothing, Bad}
use Rattle.sim_script.specs.Script.{Names, script_line, is_comment, asked, command_of, words}

long : (names : Names) (line : List ℕ) → 256 < length line → script_line names line ≡ cond (is_comment line) Nothing Bad
unfolding script_line
long names line h =
    let some : (length line == 0) ≡ false = grind (arith, nat_tests) in
    let many : nat_lt 256 (length line) ≡ true = grind (arith, nat_tests) in
    ap (λ b. cond (is_comment line) Nothing (cond b Nothing (cond (nat_lt 256 (length line)) Bad (asked (command_of names (words line)))))) some
    ∙ ap (λ b. cond (is_comment line) Nothing (cond b Bad (asked (command_of names (words line))))) many

same_first : (a b : List ℕ) → 0 < length a → 0 < length b → slice_get a 0 ≡ slice_get b 0 → slice_index a 0 ≡ slice_index b 0
same_first [] b p q e = absurd (omega arith)
same_first (x ∷ a) [] p q e = absurd (omega arith)
same_first (x ∷ a) (y ∷ b) p q e = cc

pub shown_asks : (names : Names) (kept line : List ℕ) → Shows kept line → script_line names kept ≡ script_line names line
shown_asks names kept line s = elim s [
  | inl e ↦ ap (script_line names) e
  | inr e ↦
      let first = same_first kept line (omega arith) (omega arith) e.2 in
      long names kept e.0 ∙ ap (λ b. cond (b == 35) Nothing Bad) first ∙ sym (long names line e.1)
]
