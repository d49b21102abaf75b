use Rattle.std.proofs.Common.{◌≡◌, ℕ, List, ◌++◌, take, drop, append_assoc, refl, ◌∙◌, sym, ap, take-append-drop}
use Rattle.sim_lines.proofs.Known.{Appends-append}
use Rattle.sim_lines.proofs.writing.put.Goals as goal

split_more : (text part rest front back : List ℕ) (n : ℕ) → text ≡ part ++ rest → front ≡ take n rest → back ≡ drop n rest → text ≡ (part ++ front) ++ back
split_more text part rest front back n e f b = e ∙ ap (λ l. part ++ l) (sym (take-append-drop n rest)) ∙ sym (rw (f, b) (append_assoc part (take n rest) (drop n rest)))

pub loop-rest-preserved : goal.loop-rest-preserved
loop-rest-preserved g c =
    let kept = c.loop-rest.invariant in
    let n = c.in-Ok.n in
    let rest = c.loop-rest.rest.now in (
      kept.0 ++ take n rest,
      split_more _ kept.0 rest (take n rest) c.split_at.result.1.now n kept.1 refl c.split_at.ensures.back,
      Appends-append _ _ _ kept.0 (take n rest) kept.2 c.in-Ok.ensures.bytes,
    )
