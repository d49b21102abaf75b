use Rattle.std.proofs.Common.{◌≡◌, ℕ, ◌+◌, ◌-◌, ◌<◌, ◌≤◌, None, take, drop, sym, ap, ◌∙◌, arith, ⊎_elim}
use Rattle.std.proofs.lemmas.Bool.{cases_lt}
use Rattle.std.proofs.lemmas.List.{get_or-drop, get_or-take}
use Rattle.sim_queue.specs.inside.Sparse.{index_at}
use Rattle.sim_queue.proofs.link.skip_blocks.Goals as goal

pub loop-at-preserved : goal.loop-at-preserved
loop-at-preserved c =
    let at = c.loop-at.at in
    let links = c.args.links.now in
    let order : c.args.from ≤ at = c.loop-at.invariant.order in
    record {
      order = omega arith;
      within = omega arith;
      none = λ i from below. ⊎_elim
          (λ (before : i < at). c.loop-at.invariant.none i from before)
          (λ (ge : at ≤ i).
          let e : at + (i - at) ≡ i = omega arith in
          let size : at + 16 - at ≡ 16 = omega arith in
          let inside : i - at < 16 = omega arith in
          let block : index_at (take 16 (drop at links)) (i - at) ≡ None = ap (λ (n : ℕ). index_at (take n (drop at links)) (i - at)) (sym size) ∙ c.are_none_of_two.ensures.none c.if-are_none_of_two.true (i - at) inside in
          ap (λ (n : ℕ). index_at links n) (sym e) ∙ sym (get_or-drop at links (i - at) None) ∙ sym (get_or-take 16 (drop at links) (i - at) None inside) ∙ block)
          (cases_lt i at);
    }
