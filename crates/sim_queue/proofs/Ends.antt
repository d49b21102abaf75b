-- Nodes without keys.
use Rattle.std.proofs.Common.{◌≡◌, ℕ, zero, suc, ◌+◌, ◌*◌, ◌/◌, ◌^◌, ◌<◌, ◌≤◌, ◌%◌, List, [], ◌∷◌, ◌++◌, refl, sym, ap, ◌∙◌, subst, arith, length, inl, inr, ⊎_elim}
use Rattle.std.proofs.lemmas.Bool.{cases_lt}
use Rattle.std.proofs.lemmas.Nat.{shl-shr, pow_pos}
use Rattle.std.proofs.Math.Nat.{mul-lt-mul_of_pos_right}
use Rattle.std.proofs.Math.Pow.{pow_mono}
use Rattle.sim_queue.specs.declared.lists.Node.{Node}
use Rattle.sim_queue.specs.inside.Lists.{node, no_node, end_of, list_of, order_of, IsLinked, IsLists, IsSame, HasNoKeys}
use Rattle.sim_queue.proofs.Nodes.{node_past}

-- one more node without a key
pub node_pushed : (nodes : List Node) (i : ℕ) → node (nodes ++ no_node ∷ []) i ≡ node nodes i
node_pushed [] zero = refl
node_pushed [] (suc i) = refl
node_pushed (x ∷ nodes) zero = refl
node_pushed (x ∷ nodes) (suc i) = node_pushed nodes i

module _ (w : ℕ) (old new : List Node) (same : (i : ℕ) → node new i ≡ node old i) (more : length old ≤ length new) (made : 256 ≤ length old) (lists : IsLists w old) where
  linked_old : (i : ℕ) → IsLinked new i → IsLinked old i
  linked_old i (inl e) = inl (e.0, let lt : i < 256 = e.0 in omega arith)
  linked_old i (inr key) = inr (let e : (node new i).serial ≡ (node old i).serial = ap (λ (x : Node). x.serial) (same i) in omega arith)

  pub linked_new : (i : ℕ) → IsLinked old i → IsLinked new i
  linked_new i (inl e) = inl (e.0, let lt : i < 256 = e.0 in omega arith)
  linked_new i (inr key) = inr (let e : (node new i).serial ≡ (node old i).serial = ap (λ (x : Node). x.serial) (same i) in omega arith)

  before : (i : ℕ) → (node new i).before ≡ (node old i).before
  before i = ap (λ (x : Node). x.before) (same i)

  after : (i : ℕ) → (node new i).after ≡ (node old i).after
  after i = ap (λ (x : Node). x.after) (same i)

  list : (i : ℕ) → list_of w (node new i) ≡ list_of w (node old i)
  list i = ap (λ (x : Node). list_of w x) (same i)

  order : (i : ℕ) → order_of (node new i) ≡ order_of (node old i)
  order i = ap (λ (x : Node). order_of x) (same i)

  pub lists_same : IsLists w new
  lists_same = record {
    ends = λ i lt. let e : (node new i).serial ≡ (node old i).serial = ap (λ (x : Node). x.serial) (same i) in let h : 2 ^ 40 ≤ (node old i).serial = lists.ends i lt in omega arith;
    lists = λ i lt within. list i ∙ lists.lists i lt (omega arith);
    behind = λ i linked.
        let x = lists.behind i (linked_old i linked) in record {
          linked = subst (λ (n : ℕ). IsLinked new n) (sym (before i)) (linked_new (node old i).before x.linked);
          back = ap (λ (n : ℕ). (node new n).after) (before i) ∙ after (node old i).before ∙ x.back;
          list = ap (λ (n : ℕ). list_of w (node new n)) (before i) ∙ list (node old i).before ∙ x.list ∙ sym (list i);
          rising = λ from below.
              let e = before i in
              let up : order_of (node old (node old i).before) < order_of (node old i) = x.rising from (omega arith) in
              let eb : order_of (node new (node new i).before) ≡ order_of (node old (node old i).before) = ap (λ (n : ℕ). order_of (node new n)) (before i) ∙ order (node old i).before in
              let ei = order i in
              omega arith;
        };
    ahead = λ i linked.
        let x = lists.ahead i (linked_old i linked) in record {
          linked = subst (λ (n : ℕ). IsLinked new n) (sym (after i)) (linked_new (node old i).after x.linked);
          forth = ap (λ (n : ℕ). (node new n).before) (after i) ∙ before (node old i).after ∙ x.forth;
        };
  }

-- the ends, with free places behind them
end_list : (w i : ℕ) → i < 256 → list_of w (end_of w i) ≡ i
end_list w i lt = let e : i * 2 ^ w / 2 ^ w ≡ i = shl-shr i w in ap (λ (n : ℕ). n % 256) e ∙ omega arith

module _ (w : ℕ) (nodes : List Node) (size : 256 ≤ length nodes) (all : (i : ℕ) → i < 256 → node nodes i ≡ end_of w i) (free : (i : ℕ) → 256 ≤ i → 2 ^ 40 ≤ (node nodes i).serial) where
  end_low : (i : ℕ) → IsLinked nodes i → i < 256
  end_low i (inl e) = e.0
  end_low i (inr key) = ⊎_elim
      (λ (lt : i < 256). lt)
      (λ (ge : 256 ≤ i). let e = free i ge in absurd (omega arith))
      (cases_lt i 256)

  end_linked : (i : ℕ) → i < 256 → IsLinked nodes i
  end_linked i lt = inl (lt, omega arith)

  end_before : (i : ℕ) → i < 256 → (node nodes i).before ≡ i
  end_before i lt = ap (λ (x : Node). x.before) (all i lt)

  end_after : (i : ℕ) → i < 256 → (node nodes i).after ≡ i
  end_after i lt = ap (λ (x : Node). x.after) (all i lt)

  pub no_keys : HasNoKeys nodes
  no_keys i = ⊎_elim
      (λ (lt : i < 256). let e : (node nodes i).serial ≡ 18446744073709551615 = ap (λ (x : Node). x.serial) (all i lt) in omega arith)
      (λ (ge : 256 ≤ i). free i ge)
      (cases_lt i 256)

  pub ends_lists : IsLists w nodes
  ends_lists = record {
    ends = λ i lt. no_keys i;
    lists = λ i lt within. ap (λ (x : Node). list_of w x) (all i lt) ∙ end_list w i lt;
    behind = λ i linked.
        let lt = end_low i linked in record {
          linked = subst (λ (n : ℕ). IsLinked nodes n) (sym (end_before i lt)) linked;
          back = ap (λ (n : ℕ). (node nodes n).after) (end_before i lt) ∙ end_after i lt;
          list = ap (λ (n : ℕ). list_of w (node nodes n)) (end_before i lt);
          rising = λ from below. absurd (omega arith);
        };
    ahead = λ i linked.
        let lt = end_low i linked in record {
          linked = subst (λ (n : ℕ). IsLinked nodes n) (sym (end_after i lt)) linked;
          forth = ap (λ (n : ℕ). (node nodes n).before) (end_after i lt) ∙ end_before i lt;
        };
  }

-- all nodes behind the first 256 are without keys, where there are no others
pub past_same : (old new : List Node) → length old < 256 → length new ≡ 256 → IsSame old new
past_same old new few size i ge = node_past new i (omega arith) ∙ sym (node_past old i (omega arith))

-- a node behind others
node_last : (nodes : List Node) (x : Node) → node (nodes ++ x ∷ []) (length nodes) ≡ x
node_last [] x = refl
node_last (y ∷ nodes) x = node_last nodes x

node_front : (nodes : List Node) (x : Node) (i : ℕ) → i < length nodes → node (nodes ++ x ∷ []) i ≡ node nodes i
node_front [] x i lt = absurd (omega arith)
node_front (y ∷ nodes) x zero lt = refl
node_front (y ∷ nodes) x (suc i) lt = node_front nodes x i (omega arith)

-- no node past the end has a key
pub past_free : (nodes : List Node) (i : ℕ) → length nodes ≤ i → 2 ^ 40 ≤ (node nodes i).serial
past_free nodes i past = let e : (node nodes i).serial ≡ 18446744073709551615 = ap (λ (x : Node). x.serial) (node_past nodes i past) in omega arith

end_fits : (w n : ℕ) → n < 256 → w ≤ 56 → n * 2 ^ w < 18446744073709551616
end_fits w n lt narrow =
    let some : 0 < 2 ^ w = pow_pos w in
    let a : n * 2 ^ w < 256 * 2 ^ w = mul-lt-mul_of_pos_right lt some in
    let b : 2 ^ w ≤ 2 ^ 56 = pow_mono narrow in
    omega arith

-- the next end
pub ends_more : (w n : ℕ) (made new : List Node) → w ≤ 56 → n < 256 → length made ≡ n
    → new ≡ made ++ record { due = n * 2 ^ w % 18446744073709551616; serial = 18446744073709551615; before = n; after = n } ∷ []
    → ((i : ℕ) → i < n → node made i ≡ end_of w i) → (i : ℕ) → i < n + 1 → node new i ≡ end_of w i
ends_more w n made new narrow lt size is all i below = ap (λ (xs : List Node). node xs i) is ∙ ⊎_elim
    (λ (before : i < n). node_front made x i (omega arith) ∙ all i before)
    (λ (not_before : n ≤ i).
    let e : i ≡ n = omega arith in
    let fits = end_fits w n lt narrow in
    let due : n * 2 ^ w % 18446744073709551616 ≡ n * 2 ^ w = omega arith in
    ap (λ (m : ℕ). node (made ++ x ∷ []) m) (e ∙ sym size) ∙ node_last made x ∙ (λ k. record { due = due k; serial = 18446744073709551615; before = n; after = n }) ∙ ap (λ (m : ℕ). end_of w m) (sym e))
    (cases_lt i n)
  where
    x : Node
    x = record { due = n * 2 ^ w % 18446744073709551616; serial = 18446744073709551615; before = n; after = n }
