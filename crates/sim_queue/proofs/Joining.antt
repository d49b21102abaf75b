-- A node joins a list.
use Rattle.std.proofs.Common.{◌≡◌, ◌≢◌, ℕ, ◌^◌, ◌<◌, ◌≤◌, ◌%◌, List, sym, ap, ◌∙◌, subst, arith, length, inl, inr, ⊎_elim, refl}
use Rattle.std.proofs.Math.ListN.{set, length-set}
use Rattle.std.proofs.lemmas.Bool.{cases_eq}
use Rattle.sim_queue.specs.declared.lists.Node.{Node}
use Rattle.sim_queue.specs.inside.Lists.{node, day, list_of, order_of, key_order, IsLinked, IsLists, IsBehind, IsAhead, IsFree, IsSpot, KeepsOthers}
use Rattle.sim_queue.proofs.Nodes.{linked_within, read_at, node_read_at, node_set, node_other, SetsAfter, SetsBefore, sets_after, sets_before}

-- the node p stands between b and a
pub record IsJoined (old new : List Node) (p b a d s : ℕ) : Type 0 where
  pub due : (node new p).due ≡ d
  pub serial : (node new p).serial ≡ s
  pub before : (node new p).before ≡ b
  pub after : (node new p).after ≡ a
  pub keys : KeepsOthers p old new
  pub b_after : (node new b).after ≡ p
  pub a_before : (node new a).before ≡ p
  pub other_after : (i : ℕ) → i ≢ p → i ≢ b → (node new i).after ≡ (node old i).after
  pub other_before : (i : ℕ) → i ≢ p → i ≢ a → (node new i).before ≡ (node old i).before
  pub size : length new ≡ length old

-- a linked node is not the free one
pub not_free : (p i : ℕ) (nodes : List Node) → IsFree p nodes → IsLinked nodes i → i ≢ p
not_free p i nodes free (inl e) q = let lt : i < 256 = e.0 in let ge : 256 ≤ p = free.from in omega arith
not_free p i nodes free (inr key) q =
    let same : (node nodes i).serial ≡ (node nodes p).serial = ap (λ (n : ℕ). (node nodes n).serial) q in
    let high : 2 ^ 40 ≤ (node nodes p).serial = free.free in
    omega arith

pub joined : (old one two new : List Node) (p b a due serial : ℕ) → IsFree p old → b ≢ p → a ≢ p
    → one ≡ set old p (record { due = due; serial = serial; before = b; after = a }) → SetsAfter one two b p → SetsBefore two new a p → IsJoined old new p b a due serial
joined old one two new p b a due serial free not_b not_a is f g = record {
  due = g.due p ∙ f.due p ∙ ap (λ (x : Node). x.due) here;
  serial = g.serial p ∙ f.serial p ∙ ap (λ (x : Node). x.serial) here;
  before = ap (λ (x : Node). x.before) (g.others p (λ q. not_a (sym q))) ∙ f.before p ∙ ap (λ (x : Node). x.before) here;
  after = g.after p ∙ ap (λ (x : Node). x.after) (f.others p (λ q. not_b (sym q))) ∙ ap (λ (x : Node). x.after) here;
  keys = λ i ne. (g.due i ∙ f.due i ∙ ap (λ (x : Node). x.due) (other i ne), g.serial i ∙ f.serial i ∙ ap (λ (x : Node). x.serial) (other i ne));
  b_after = g.after b ∙ f.here;
  a_before = g.here;
  other_after = λ i ne not_b. g.after i ∙ ap (λ (x : Node). x.after) (f.others i not_b) ∙ ap (λ (x : Node). x.after) (other i ne);
  other_before = λ i ne not_a. ap (λ (x : Node). x.before) (g.others i not_a) ∙ f.before i ∙ ap (λ (x : Node). x.before) (other i ne);
  size = g.size ∙ f.size ∙ ap (λ (xs : List Node). length xs) is ∙ length-set old p added;
}
  where
    added : Node
    added = record { due = due; serial = serial; before = b; after = a }

    here : node one p ≡ added
    here = ap (λ (xs : List Node). node xs p) is ∙ node_set old p added free.within

    other : (i : ℕ) → i ≢ p → node one i ≡ node old i
    other i ne = ap (λ (xs : List Node). node xs i) is ∙ node_other old p i added ne

pub after_linked : (w : ℕ) (nodes : List Node) (b a : ℕ) → IsLists w nodes → IsLinked nodes b → a ≡ (node nodes b).after → IsLinked nodes a
after_linked w nodes b a lists linked is = subst (λ (n : ℕ). IsLinked nodes n) (sym is) (lists.ahead b linked).linked

module _ (w : ℕ) (old new : List Node) (p b a due serial : ℕ) (lists : IsLists w old) (free : IsFree p old) (small : serial < 2 ^ 40) (spot : IsSpot w due serial b old)
    (is : a ≡ (node old b).after) (j : IsJoined old new p b a due serial) where
  linked_old : (i : ℕ) → i ≢ p → IsLinked new i → IsLinked old i
  linked_old i ne (inl e) = inl (e.0, let size = j.size in let lt : i < length new = e.1 in omega arith)
  linked_old i ne (inr key) = inr (let same : (node new i).serial ≡ (node old i).serial = (j.keys i ne).1 in omega arith)

  linked_new : (i : ℕ) → IsLinked old i → IsLinked new i
  linked_new i (inl e) = inl (e.0, let size = j.size in let lt : i < length old = e.1 in omega arith)
  linked_new i (inr key) =
      let same : (node new i).serial ≡ (node old i).serial = (j.keys i (not_free p i old free (inr key))).1 in
      inr (omega arith)

  linked_p : IsLinked new p
  linked_p = inr (let same : (node new p).serial ≡ serial = j.serial in omega arith)

  list_same : (i : ℕ) → i ≢ p → list_of w (node new i) ≡ list_of w (node old i)
  list_same i ne = ap (λ (d : ℕ). day w d % 256) (j.keys i ne).0

  order_same : (i : ℕ) → i ≢ p → order_of (node new i) ≡ order_of (node old i)
  order_same i ne = let k = j.keys i ne in ap (λ (d : ℕ). key_order d (node new i).serial) k.0 ∙ ap (λ (s : ℕ). key_order (node old i).due s) k.1

  order_p : order_of (node new p) ≡ key_order due serial
  order_p = ap (λ (d : ℕ). key_order d (node new p).serial) j.due ∙ ap (λ (s : ℕ). key_order due s) j.serial

  list_p : list_of w (node new p) ≡ day w due % 256
  list_p = ap (λ (d : ℕ). day w d % 256) j.due

  a_linked : IsLinked old a
  a_linked = subst (λ (n : ℕ). IsLinked old n) (sym is) (lists.ahead b spot.linked).linked

  not_b : b ≢ p
  not_b = not_free p b old free spot.linked

  not_a : a ≢ p
  not_a = not_free p a old free a_linked

  -- the node before a was b
  a_was : (node old a).before ≡ b
  a_was = ap (λ (n : ℕ). (node old n).before) is ∙ (lists.ahead b spot.linked).forth

  p_behind : IsBehind w new p
  p_behind = record {
    linked = subst (λ (n : ℕ). IsLinked new n) (sym j.before) (linked_new b spot.linked);
    back = ap (λ (n : ℕ). (node new n).after) j.before ∙ j.b_after;
    list = ap (λ (n : ℕ). list_of w (node new n)) j.before ∙ list_same b not_b ∙ spot.list ∙ sym list_p;
    rising = λ from below.
        let at_b : (node new p).before ≡ b = j.before in
        let up : order_of (node old b) < key_order due serial = spot.above (omega arith) in
        let eb : order_of (node new (node new p).before) ≡ order_of (node old b) = ap (λ (n : ℕ). order_of (node new n)) j.before ∙ order_same b not_b in
        let ep = order_p in
        omega arith;
  }

  a_behind : IsBehind w new a
  a_behind = record {
    linked = subst (λ (n : ℕ). IsLinked new n) (sym j.a_before) linked_p;
    back = ap (λ (n : ℕ). (node new n).after) j.a_before ∙ j.after;
    list = ap (λ (n : ℕ). list_of w (node new n)) j.a_before ∙ list_p ∙ sym spot.list ∙ ap (λ (n : ℕ). list_of w (node old n)) (sym a_was) ∙ (lists.behind a a_linked).list ∙ sym (list_same a not_a);
    rising = λ from below.
        let at_a : a ≡ (node old b).after = is in
        let up : key_order due serial < order_of (node old (node old b).after) = spot.below (omega arith) in
        let ea : order_of (node old (node old b).after) ≡ order_of (node new a) = ap (λ (n : ℕ). order_of (node old n)) (sym is) ∙ sym (order_same a not_a) in
        let ep : order_of (node new (node new a).before) ≡ key_order due serial = ap (λ (n : ℕ). order_of (node new n)) j.a_before ∙ order_p in
        omega arith;
  }

  other_behind : (i : ℕ) → i ≢ p → i ≢ a → IsBehind w old i → IsBehind w new i
  other_behind i not_p not_a x = record {
    linked = subst (λ (n : ℕ). IsLinked new n) (sym same) (linked_new k x.linked);
    back = ap (λ (n : ℕ). (node new n).after) same ∙ j.other_after k k_p k_b ∙ x.back;
    list = ap (λ (n : ℕ). list_of w (node new n)) same ∙ list_same k k_p ∙ x.list ∙ sym (list_same i not_p);
    rising = λ from below.
        let e = same in
        let up : order_of (node old (node old i).before) < order_of (node old i) = x.rising from (omega arith) in
        let ek : order_of (node new (node new i).before) ≡ order_of (node old (node old i).before) = ap (λ (n : ℕ). order_of (node new n)) same ∙ order_same k k_p in
        let ei = order_same i not_p in
        omega arith;
  }
    where
      k : ℕ
      k = (node old i).before

      same : (node new i).before ≡ (node old i).before
      same = j.other_before i not_p not_a

      k_p : (node old i).before ≢ p
      k_p = not_free p (node old i).before old free x.linked

      k_b : (node old i).before ≢ b
      k_b q = not_a (sym x.back ∙ ap (λ (n : ℕ). (node old n).after) q ∙ sym is)

  p_ahead : IsAhead new p
  p_ahead = record {
    linked = subst (λ (n : ℕ). IsLinked new n) (sym j.after) (linked_new a a_linked);
    forth = ap (λ (n : ℕ). (node new n).before) j.after ∙ j.a_before;
  }

  b_ahead : IsAhead new b
  b_ahead = record {
    linked = subst (λ (n : ℕ). IsLinked new n) (sym j.b_after) linked_p;
    forth = ap (λ (n : ℕ). (node new n).before) j.b_after ∙ j.before;
  }

  other_ahead : (i : ℕ) → i ≢ p → i ≢ b → IsAhead old i → IsAhead new i
  other_ahead i not_p not_b x = record {
    linked = subst (λ (n : ℕ). IsLinked new n) (sym same) (linked_new (node old i).after x.linked);
    forth = ap (λ (n : ℕ). (node new n).before) same ∙ j.other_before (node old i).after k_p k_a ∙ x.forth;
  }
    where
      same : (node new i).after ≡ (node old i).after
      same = j.other_after i not_p not_b

      k_p : (node old i).after ≢ p
      k_p = not_free p (node old i).after old free x.linked

      k_a : (node old i).after ≢ a
      k_a q = not_b (sym x.forth ∙ ap (λ (n : ℕ). (node old n).before) q ∙ a_was)

  pub joined_lists : IsLists w new
  joined_lists = record {
    ends = λ i lt.
        let ge : 256 ≤ p = free.from in
        let was : 2 ^ 40 ≤ (node old i).serial = lists.ends i lt in
        let same : (node new i).serial ≡ (node old i).serial = (j.keys i (λ q. omega arith)).1 in
        omega arith;
    lists = λ i lt within.
        let ge : 256 ≤ p = free.from in
        let size = j.size in
        list_same i (λ q. omega arith) ∙ lists.lists i lt (omega arith);
    behind = λ i linked. ⊎_elim
        (λ (q : i ≡ p). subst (λ (n : ℕ). IsBehind w new n) (sym q) p_behind)
        (λ (not_p : i ≢ p). ⊎_elim
        (λ (q : i ≡ a). subst (λ (n : ℕ). IsBehind w new n) (sym q) a_behind)
        (λ (not_a : i ≢ a). other_behind i not_p not_a (lists.behind i (linked_old i not_p linked)))
        (cases_eq i a))
        (cases_eq i p);
    ahead = λ i linked. ⊎_elim
        (λ (q : i ≡ p). subst (λ (n : ℕ). IsAhead new n) (sym q) p_ahead)
        (λ (not_p : i ≢ p). ⊎_elim
        (λ (q : i ≡ b). subst (λ (n : ℕ). IsAhead new n) (sym q) b_ahead)
        (λ (not_b : i ≢ b). other_ahead i not_p not_b (lists.ahead i (linked_old i not_p linked)))
        (cases_eq i b))
        (cases_eq i p);
  }

-- the key is given to the free node p of the lists that a slice shows, right after the node b
module _ (w : ℕ) (old seen : List Node) (p b due serial : ℕ) (lists : IsLists w old) (free : IsFree p old) (small : serial < 2 ^ 40) (spot : IsSpot w due serial b old) (value : seen ≡ old) where
  spot_within : b < length old
  spot_within = linked_within old b spot.linked

  next_is : (read_at seen b).after ≡ (node old b).after
  next_is = ap (λ (y : Node). y.after) (sym (node_read_at old seen b spot_within value))

  next_linked : IsLinked old (read_at seen b).after
  next_linked = after_linked w old b (read_at seen b).after lists spot.linked next_is

  pub next_within : (read_at seen b).after < length old
  next_within = linked_within old (read_at seen b).after next_linked

  abbrev pub given : Node
  given = record { due = due; serial = serial; before = b; after = (read_at seen b).after }

  -- the three writes
  module _ (two new : List Node)
      (second : two ≡ set (set seen p given) b (record (node (set seen p given) b) { after = p }))
      (third : new ≡ set two (read_at seen b).after (record (node two (read_at seen b).after) { before = p })) where
    pub joined_by : IsJoined old new p b (read_at seen b).after due serial
    joined_by =
        let a = (read_at seen b).after in
        let x = given in
        let one : length (set old p x) ≡ length old = length-set old p x in
        let b_in = spot_within in
        let a_in = next_within in
        let f = sets_after (set old p x) two b p (omega arith) (subst (λ (xs : List Node). two ≡ set (set xs p x) b (record (node (set xs p x) b) { after = p })) value second) in
        let size = f.size in
        let g = sets_before two new a p (omega arith) third in
        joined old (set old p x) two new p b a due serial free (not_free p b old free spot.linked) (not_free p a old free next_linked) refl f g

    pub lists_joined : IsLists w new
    lists_joined = joined_lists w old new p b (read_at seen b).after due serial lists free small spot next_is joined_by
