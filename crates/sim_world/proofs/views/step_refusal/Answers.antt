use Rattle.std.proofs.Common.{◌≡◌, [], ◌∷◌, true, false, cond, List, Some, None, length, is_some, refl, sym, ap, ◌∙◌}
use Rattle.sim_queue.specs.declared.Item.{Item}
use Rattle.sim_queue.specs.Pending.{first}
use Rattle.sim_events.specs.declared.Refusal.TheVariants as refusal
use Rattle.sim_world.proofs.views.step_refusal.Goals as goal

none_first : {B : Type 0} (items : List (Item B)) → length items ≡ 0 → is_some (first items) ≡ false
unfolding first
none_first [] e = refl
none_first (x ∷ items) e = cc

some_first : {B : Type 0} (items : List (Item B)) → (length items ≡ 0 → ⊥) → is_some (first items) ≡ true
unfolding first
some_first [] e = absurd (e refl)
some_first (x ∷ items) e = refl

pub returns-then-len-eq0 : goal.returns-then-len-eq0
returns-then-len-eq0 g c = ap (λ b. cond b None (Some refusal.Idle)) (sym (none_first c.args.queue.now.items (sym c.len.ensures.count ∙ c.if-len-eq0.true)))

pub returns : goal.returns
returns g c = ap (λ b. cond b None (Some refusal.Idle)) (sym (some_first c.args.queue.now.items (λ e. c.if-len-eq0.false (c.len.ensures.count ∙ e))))
