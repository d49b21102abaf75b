use Rattle.std.proofs.Common.{◌≡◌, ◌∙◌, ◌+◌, ◌<◌, ◌++◌, ◌∷◌, [], ap, sym, length, take, arith}
use Rattle.std.proofs.lemmas.List.{take_all, take_more, map-append}
use Rattle.sim_world.specs.inside.Packed.{others_in}
use Rattle.sim_world.proofs.packed_hosts.PackedHosts.others.Goals as goal

pub loop-kept-preserved : goal.loop-kept-preserved
loop-kept-preserved g c =
    let kept = c.deref-kept-items.result.now in
    let i = c.loop-kept.kept-index in
    let k = c.kept-item.result in
    let inside : i < length kept = omega arith in
    let more : take (i + 1) kept ≡ take i kept ++ k ∷ [] = cc (c.kept-item.is, take_more kept i k inside) in
    c.in_ok-push.ensures.items
    ∙ (ap (λ ns. ns ++ k.others ∷ []) c.loop-kept.invariant ∙ sym (ap others_in more ∙ map-append (λ x. x.others) (take i kept) (k ∷ [])))

pub returns : goal.returns
returns g c =
    let all = take_all c.loop-kept.kept-index c.deref-kept-items.result.now c.loop-kept-test.false in
    c.loop-kept.invariant ∙ (ap others_in (all ∙ c.deref-kept-items.ensures.value) ∙ ap (λ p. p.others) c.self.view_is)
