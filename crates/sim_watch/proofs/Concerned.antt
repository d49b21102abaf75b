-- A condition of which no term is about a host holds or fails whatever that host does.
use Rattle.std.proofs.Common.{◌≡◌, ◌≢◌, ◌&&◌, ◌||◌, ◌==◌, ℕ, false, not, is_some, List, [], ◌∷◌, Option, refl, sym, ap, ◌∙◌}
use Rattle.std.specs.List.{list_any}
use Rattle.std.proofs.lemmas.Bool.{eq-eqb, or_parts}
use Rattle.std.proofs.lemmas.List.Folds.{list_any-append}
use Rattle.sim_node.specs.Node.{NodeLaws}
use Rattle.sim_world.specs.declared.host.Host.{Host}
use Rattle.sim_world.specs.World.{World, host_at}
use Rattle.sim_watch.specs.declared.Term.{Term}
use Rattle.sim_watch.specs.declared.Term.TheVariants.{Cmp, Count, Any, All, Agree, AgreeBy, Differ, Up, NotUp, Done, NotDone}
use Rattle.sim_watch.specs.declared.Comparison.{Comparison}
use Rattle.sim_watch.specs.declared.Value.{Value}
use Rattle.sim_watch.specs.declared.Value.TheVariants.{Number, Shown}
use Rattle.sim_watch.specs.Condition.{Cond, terms, compares, if_any, value_of, number_of, is_shown_by, term_holds, all_hold, holds, concerns}

apart : (h k : ℕ) → (h == k) ≡ false → k ≢ h
apart h k e same = let t = eq-eqb h k (sym same) in cc

module _ {State Msg : Type 0} (node : NodeLaws State Msg) (h : ℕ) (w v : World State Msg) (others : (k : ℕ) → k ≢ h → host_at k v ≡ host_at k w) where
  number_same : (x : Value) → is_shown_by h x ≡ false → number_of node x v ≡ number_of node x w
  number_same (Number n) e = refl
  number_same (Shown k p) e = ap (λ (x : Host State). value_of node p x) (others k (apart h k e))

  compared_same : (k p : ℕ) (c : Comparison) → (h == k) ≡ false → is_shown_by h c.value ≡ false → term_holds node (Cmp k p c) v ≡ term_holds node (Cmp k p c) w
  compared_same k p c e f =
      ap (λ (x : Host State). if_any (λ n. if_any (λ u. compares c.op u n) (value_of node p x)) (number_of node c.value v)) (others k (apart h k e))
      ∙ ap (λ (o : Option ℕ). if_any (λ n. if_any (λ u. compares c.op u n) (value_of node p (host_at k w))) o) (number_same c.value f)

  term_same : (t : Term) → concerns h t ≡ false → term_holds node t v ≡ term_holds node t w
  term_same (Cmp k p c) e = let parts = or_parts (h == k) (is_shown_by h c.value) e in compared_same k p c parts.0 parts.1
  term_same (Count p c op m) e = cc
  term_same (Any p c) e = cc
  term_same (All p c) e = cc
  term_same (Agree p n) e = cc
  term_same (AgreeBy p by n) e = cc
  term_same (Differ p n) e = cc
  term_same (Up k) e = ap (λ (x : Host State). is_some x.node) (others k (apart h k e))
  term_same (NotUp k) e = ap (λ (x : Host State). not (is_some x.node)) (others k (apart h k e))
  term_same (Done k) e = ap (λ (x : Host State). x.done) (others k (apart h k e))
  term_same (NotDone k) e = ap (λ (x : Host State). not x.done) (others k (apart h k e))

  all_same : (ts : List Term) → list_any (concerns h) ts ≡ false → all_hold node ts v ≡ all_hold node ts w
  all_same [] e = refl
  all_same (t ∷ ts) e =
      let p = or_parts (concerns h t) (list_any (concerns h) ts) e in
      ap (λ b. b && all_hold node ts v) (term_same t p.0) ∙ ap (λ b. term_holds node t w && b) (all_same ts p.1)

  pub holds_same : (c : Cond) → list_any (concerns h) (terms c) ≡ false → holds node c v ≡ holds node c w
  holds_same [] e = refl
  holds_same (ts ∷ c) e =
      let p = or_parts (list_any (concerns h) ts) (list_any (concerns h) (terms c)) (sym (list_any-append (concerns h) ts (terms c)) ∙ e) in
      ap (λ b. b || holds node c v) (all_same ts p.0) ∙ ap (λ b. all_hold node ts w || b) (holds_same c p.1)
