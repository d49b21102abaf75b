-- A node leaves its list.
use Rattle.std.proofs.Common.{◌≡◌, ◌≢◌, ℕ, ◌^◌, ◌<◌, ◌≤◌, ◌%◌, List, sym, ap, ◌∙◌, subst, arith, length, inl, inr, ⊎_elim}
use Rattle.std.proofs.Math.ListN.{set, length-set}
use Rattle.std.proofs.lemmas.Bool.{cases_eq, cases_lt}
use Rattle.sim_queue.specs.declared.lists.Node.{Node}
use Rattle.sim_queue.specs.inside.Lists.{node, day, list_of, order_of, key_order, HasKey, IsLinked, IsLists, IsBehind, IsAhead, KeepsOthers, IsEmptyList}
use Rattle.sim_queue.proofs.Nodes.{key_from, key_within, linked_within, read_at, node_read_at, node_set, node_other, SetsAfter, SetsBefore, sets_after, sets_before}
use Rattle.sim_queue.proofs.Heads.{no_head}

-- b stands before a, and p has no key
pub record IsLeft (old new : List Node) (p b a : ℕ) : Type 0 where
  pub gone : 2 ^ 40 ≤ (node new p).serial
  pub keys : KeepsOthers p old new
  pub b_after : (node new b).after ≡ a
  pub a_before : (node new a).before ≡ b
  pub other_after : (i : ℕ) → i ≢ p → i ≢ b → (node new i).after ≡ (node old i).after
  pub other_before : (i : ℕ) → i ≢ p → i ≢ a → (node new i).before ≡ (node old i).before
  pub size : length new ≡ length old

-- the neighbours of a node are others
pub apart_before : (w : ℕ) (nodes : List Node) (p : ℕ) → IsLists w nodes → HasKey (node nodes p) → (node nodes p).before ≢ p
apart_before w nodes p lists key q =
    let from : 256 ≤ p = key_from w nodes p lists key in
    let up : order_of (node nodes (node nodes p).before) < order_of (node nodes p) = (lists.behind p (inr key)).rising from (omega arith) in
    let same : order_of (node nodes (node nodes p).before) ≡ order_of (node nodes p) = ap (λ (n : ℕ). order_of (node nodes n)) q in
    omega arith

pub apart_after : (w : ℕ) (nodes : List Node) (p : ℕ) → IsLists w nodes → HasKey (node nodes p) → (node nodes p).after ≢ p
apart_after w nodes p lists key q =
    apart_before w nodes p lists key (ap (λ (n : ℕ). (node nodes n).before) (sym q) ∙ (lists.ahead p (inr key)).forth)

pub left : (old one two new : List Node) (p b a : ℕ) (x : Node) → p < length old → b ≢ p → a ≢ p → SetsAfter old one b a → SetsBefore one two a b → new ≡ set two p x
    → 2 ^ 40 ≤ x.serial → IsLeft old new p b a
left old one two new p b a x within not_b not_a f g is high = record {
  gone = let same : (node new p).serial ≡ x.serial = ap (λ (y : Node). y.serial) here in omega arith;
  keys = λ i ne. (ap (λ (y : Node). y.due) (other i ne) ∙ g.due i ∙ f.due i, ap (λ (y : Node). y.serial) (other i ne) ∙ g.serial i ∙ f.serial i);
  b_after = ap (λ (y : Node). y.after) (other b not_b) ∙ g.after b ∙ f.here;
  a_before = ap (λ (y : Node). y.before) (other a not_a) ∙ g.here;
  other_after = λ i ne apart. ap (λ (y : Node). y.after) (other i ne) ∙ g.after i ∙ ap (λ (y : Node). y.after) (f.others i apart);
  other_before = λ i ne apart. ap (λ (y : Node). y.before) (other i ne) ∙ ap (λ (y : Node). y.before) (g.others i apart) ∙ f.before i;
  size = ap (λ (xs : List Node). length xs) is ∙ length-set two p x ∙ g.size ∙ f.size;
}
  where
    here : node new p ≡ x
    here = let size = g.size ∙ f.size in ap (λ (xs : List Node). node xs p) is ∙ node_set two p x (omega arith)

    other : (i : ℕ) → i ≢ p → node new i ≡ node two i
    other i ne = ap (λ (xs : List Node). node xs i) is ∙ node_other two p i x ne

module _ (w : ℕ) (old new : List Node) (p b a : ℕ) (lists : IsLists w old) (key : HasKey (node old p)) (is_b : b ≡ (node old p).before) (is_a : a ≡ (node old p).after)
    (l : IsLeft old new p b a) where
  -- what is linked was, and is another one
  apart : (i : ℕ) → IsLinked new i → i ≢ p
  apart i (inl e) q = let lt : i < 256 = e.0 in let from = key_from w old p lists key in omega arith
  apart i (inr k) q = let same : (node new i).serial ≡ (node new p).serial = ap (λ (n : ℕ). (node new n).serial) q in let high = l.gone in omega arith

  linked_old : (i : ℕ) → IsLinked new i → IsLinked old i
  linked_old i (inl e) = inl (e.0, let size = l.size in let lt : i < length new = e.1 in omega arith)
  linked_old i (inr k) = let same : (node new i).serial ≡ (node old i).serial = (l.keys i (apart i (inr k))).1 in inr (omega arith)

  linked_new : (i : ℕ) → i ≢ p → IsLinked old i → IsLinked new i
  linked_new i ne (inl e) = inl (e.0, let size = l.size in let lt : i < length old = e.1 in omega arith)
  linked_new i ne (inr k) = let same : (node new i).serial ≡ (node old i).serial = (l.keys i ne).1 in inr (omega arith)

  list_same : (i : ℕ) → i ≢ p → list_of w (node new i) ≡ list_of w (node old i)
  list_same i ne = ap (λ (d : ℕ). day w d % 256) (l.keys i ne).0

  order_same : (i : ℕ) → i ≢ p → order_of (node new i) ≡ order_of (node old i)
  order_same i ne = let k = l.keys i ne in ap (λ (d : ℕ). key_order d (node new i).serial) k.0 ∙ ap (λ (s : ℕ). key_order (node old i).due s) k.1

  xb : IsBehind w old p
  xb = lists.behind p (inr key)

  xa : IsAhead old p
  xa = lists.ahead p (inr key)

  b_linked : IsLinked old b
  b_linked = subst (λ (n : ℕ). IsLinked old n) (sym is_b) xb.linked

  a_linked : IsLinked old a
  a_linked = subst (λ (n : ℕ). IsLinked old n) (sym is_a) xa.linked

  not_b : b ≢ p
  not_b q = apart_before w old p lists key (sym is_b ∙ q)

  not_a : a ≢ p
  not_a q = apart_after w old p lists key (sym is_a ∙ q)

  a_was : (node old a).before ≡ p
  a_was = ap (λ (n : ℕ). (node old n).before) is_a ∙ xa.forth

  b_was : (node old b).after ≡ p
  b_was = ap (λ (n : ℕ). (node old n).after) is_b ∙ xb.back

  b_list : list_of w (node old b) ≡ list_of w (node old p)
  b_list = ap (λ (n : ℕ). list_of w (node old n)) is_b ∙ xb.list

  a_list : list_of w (node old a) ≡ list_of w (node old p)
  a_list = sym (lists.behind a a_linked).list ∙ ap (λ (n : ℕ). list_of w (node old n)) a_was

  a_behind : IsBehind w new a
  a_behind = record {
    linked = subst (λ (n : ℕ). IsLinked new n) (sym l.a_before) (linked_new b not_b b_linked);
    back = ap (λ (n : ℕ). (node new n).after) l.a_before ∙ l.b_after;
    list = ap (λ (n : ℕ). list_of w (node new n)) l.a_before ∙ list_same b not_b ∙ b_list ∙ sym a_list ∙ sym (list_same a not_a);
    rising = λ from below.
        let at_b : (node new a).before ≡ b = l.a_before in
        let from_p : 256 ≤ p = key_from w old p lists key in
        let first : order_of (node old (node old p).before) < order_of (node old p) = xb.rising from_p (let e = is_b in omega arith) in
        let eb : order_of (node old (node old p).before) ≡ order_of (node new (node new a).before) =
        ap (λ (n : ℕ). order_of (node old n)) (sym is_b) ∙ sym (order_same b not_b) ∙ ap (λ (n : ℕ). order_of (node new n)) (sym l.a_before) in
        let second : order_of (node old (node old a).before) < order_of (node old a) = (lists.behind a a_linked).rising from (let e = a_was in omega arith) in
        let ep : order_of (node old (node old a).before) ≡ order_of (node old p) = ap (λ (n : ℕ). order_of (node old n)) a_was in
        let ea = order_same a not_a in
        omega arith;
  }

  other_behind : (i : ℕ) → i ≢ p → i ≢ a → IsBehind w old i → IsBehind w new i
  other_behind i not_p apart_a x = record {
    linked = subst (λ (n : ℕ). IsLinked new n) (sym same) (linked_new (node old i).before k_p x.linked);
    back = ap (λ (n : ℕ). (node new n).after) same ∙ l.other_after (node old i).before k_p k_b ∙ x.back;
    list = ap (λ (n : ℕ). list_of w (node new n)) same ∙ list_same (node old i).before k_p ∙ x.list ∙ sym (list_same i not_p);
    rising = λ from below.
        let e = same in
        let up : order_of (node old (node old i).before) < order_of (node old i) = x.rising from (omega arith) in
        let ek : order_of (node new (node new i).before) ≡ order_of (node old (node old i).before) = ap (λ (n : ℕ). order_of (node new n)) same ∙ order_same (node old i).before k_p in
        let ei = order_same i not_p in
        omega arith;
  }
    where
      same : (node new i).before ≡ (node old i).before
      same = l.other_before i not_p apart_a

      k_p : (node old i).before ≢ p
      k_p q = apart_a (sym x.back ∙ ap (λ (n : ℕ). (node old n).after) q ∙ sym is_a)

      k_b : (node old i).before ≢ b
      k_b q = not_p (sym x.back ∙ ap (λ (n : ℕ). (node old n).after) q ∙ b_was)

  b_ahead : IsAhead new b
  b_ahead = record {
    linked = subst (λ (n : ℕ). IsLinked new n) (sym l.b_after) (linked_new a not_a a_linked);
    forth = ap (λ (n : ℕ). (node new n).before) l.b_after ∙ l.a_before;
  }

  other_ahead : (i : ℕ) → i ≢ p → i ≢ b → IsAhead old i → IsAhead new i
  other_ahead i not_p apart_b x = record {
    linked = subst (λ (n : ℕ). IsLinked new n) (sym same) (linked_new (node old i).after k_p x.linked);
    forth = ap (λ (n : ℕ). (node new n).before) same ∙ l.other_before (node old i).after k_p k_a ∙ x.forth;
  }
    where
      same : (node new i).after ≡ (node old i).after
      same = l.other_after i not_p apart_b

      k_p : (node old i).after ≢ p
      k_p q = apart_b (sym x.forth ∙ ap (λ (n : ℕ). (node old n).before) q ∙ sym is_b)

      k_a : (node old i).after ≢ a
      k_a q = not_p (sym x.forth ∙ ap (λ (n : ℕ). (node old n).before) q ∙ a_was)

  pub left_lists : IsLists w new
  left_lists = record {
    ends = λ i lt.
        let from = key_from w old p lists key in
        let was : 2 ^ 40 ≤ (node old i).serial = lists.ends i lt in
        let same : (node new i).serial ≡ (node old i).serial = (l.keys i (λ q. omega arith)).1 in
        omega arith;
    lists = λ i lt within.
        let from = key_from w old p lists key in
        let size = l.size in
        list_same i (λ q. omega arith) ∙ lists.lists i lt (omega arith);
    behind = λ i linked. ⊎_elim
        (λ (q : i ≡ a). subst (λ (n : ℕ). IsBehind w new n) (sym q) a_behind)
        (λ (apart_a : i ≢ a). other_behind i (apart i linked) apart_a (lists.behind i (linked_old i linked)))
        (cases_eq i a);
    ahead = λ i linked. ⊎_elim
        (λ (q : i ≡ b). subst (λ (n : ℕ). IsAhead new n) (sym q) b_ahead)
        (λ (apart_b : i ≢ b). other_ahead i (apart i linked) apart_b (lists.ahead i (linked_old i linked)))
        (cases_eq i b);
  }

  b_end : b ≡ a → b < 256
  b_end same = ⊎_elim
      (λ (lt : b < 256). lt)
      (λ (ge : 256 ≤ b).
      let from_p : 256 ≤ p = key_from w old p lists key in
      let first : order_of (node old (node old p).before) < order_of (node old p) = xb.rising from_p (let e = is_b in omega arith) in
      let second : order_of (node old (node old a).before) < order_of (node old a) = (lists.behind a a_linked).rising (omega arith) (let e = a_was in omega arith) in
      let ep : order_of (node old (node old a).before) ≡ order_of (node old p) = ap (λ (n : ℕ). order_of (node old n)) a_was in
      let ea : order_of (node old (node old p).before) ≡ order_of (node old a) = ap (λ (n : ℕ). order_of (node old n)) (sym is_b ∙ same) in
      absurd (omega arith))
      (cases_lt b 256)

  -- where p stood alone, its list is empty
  pub left_empty : b ≡ a → IsEmptyList w (list_of w (node old p)) new
  left_empty same =
      let low = b_end same in
      let here : list_of w (node old p) ≡ b = sym b_list ∙ lists.lists b low (linked_within old b b_linked) in
      let after : (node new (list_of w (node old p))).after ≡ a = ap (λ (n : ℕ). (node new n).after) here ∙ l.b_after in
      no_head w new (list_of w (node old p)) left_lists (λ within. omega arith)

-- the nodes of lists that a slice shows, of which p has a key
module _ (w : ℕ) (old seen : List Node) (p : ℕ) (lists : IsLists w old) (key : HasKey (node old p)) (value : seen ≡ old) where
  pub read_is : node old p ≡ read_at seen p
  read_is = node_read_at old seen p (key_within old p key) value

  before_is : (read_at seen p).before ≡ (node old p).before
  before_is = ap (λ (y : Node). y.before) (sym read_is)

  after_is : (read_at seen p).after ≡ (node old p).after
  after_is = ap (λ (y : Node). y.after) (sym read_is)

  pub before_within : (read_at seen p).before < length old
  before_within = subst (λ (n : ℕ). n < length old) (sym before_is) (linked_within old (node old p).before (lists.behind p (inr key)).linked)

  pub after_within : (read_at seen p).after < length old
  after_within = subst (λ (n : ℕ). n < length old) (sym after_is) (linked_within old (node old p).after (lists.ahead p (inr key)).linked)

  -- the three writes by which p leaves its list and becomes free
  module _ (one two new : List Node) (free : ℕ)
      (first : one ≡ set seen (read_at seen p).before (record (node seen (read_at seen p).before) { after = (read_at seen p).after }))
      (second : two ≡ set one (read_at seen p).after (record (node one (read_at seen p).after) { before = (read_at seen p).before }))
      (third : new ≡ set two p (record (node two p) { serial = 18446744073709551615; after = free })) where
    pub left_by : IsLeft old new p (read_at seen p).before (read_at seen p).after
    left_by =
        let b = (read_at seen p).before in
        let a = (read_at seen p).after in
        let within = key_within old p key in
        let a_in = after_within in
        let f = sets_after old one b a before_within (subst (λ (xs : List Node). one ≡ set xs b (record (node xs b) { after = a })) value first) in
        let size = f.size in
        let g = sets_before one two a b (omega arith) second in
        left old one two new p b a (record (node two p) { serial = 18446744073709551615; after = free }) within
        (λ q. apart_before w old p lists key (sym before_is ∙ q)) (λ q. apart_after w old p lists key (sym after_is ∙ q)) f g third (omega arith)

    pub lists_left : IsLists w new
    lists_left = left_lists w old new p (read_at seen p).before (read_at seen p).after lists key before_is after_is left_by

    pub empty_left : (read_at seen p).before ≡ (read_at seen p).after → IsEmptyList w (list_of w (read_at seen p)) new
    empty_left same = subst (λ (y : Node). IsEmptyList w (list_of w y) new) read_is
        (left_empty w old new p (read_at seen p).before (read_at seen p).after lists key before_is after_is left_by same)
