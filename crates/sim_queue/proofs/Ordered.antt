-- No key of a list comes between another one and the key after it, and no two are equal.
use Rattle.std.proofs.Common.{◌≡◌, ℕ, zero, suc, ◌<◌, ◌≤◌, nat_lt, cond, List, sym, ap, ◌∙◌, subst, arith, length, inl, inr, ◌⊎◌, ⊎_elim}
use Rattle.std.proofs.lemmas.Bool.{cases_eq, cases_lt, lt-ltb, le-ltb}
use Rattle.sim_queue.specs.declared.lists.Node.{Node}
use Rattle.sim_queue.specs.inside.Lists.{node, list_of, order_of, HasKey, IsLinked, IsLists}
use Rattle.sim_queue.proofs.Nodes.{key_from, linked_within, linked_key}
use Rattle.sim_queue.proofs.Heads.{IsLeastIn, head_least}

-- the node i is in the list, and behind the node `at` if that has a key
abbrev pub IsPast : ℕ → List Node → ℕ → ℕ → ℕ → Type 0
IsPast w nodes list at i = (list_of w (node nodes i) ≡ list) × (256 ≤ at → order_of (node nodes at) < order_of (node nodes i))

module _ (w : ℕ) (nodes : List Node) (lists : IsLists w nodes) where
  abbrev order : ℕ → ℕ
  order i = order_of (node nodes i)

  abbrev list : ℕ → ℕ
  list i = list_of w (node nodes i)

  abbrev before : ℕ → ℕ
  before i = (node nodes i).before

  abbrev after : ℕ → ℕ
  after i = (node nodes i).after

  -- the key y comes right before i in its list
  record IsRightBefore (y i : ℕ) : Type 0 where
    key : HasKey (node nodes y)
    list : list_of w (node nodes y) ≡ list_of w (node nodes i)
    less : order_of (node nodes y) < order_of (node nodes i)
    next : (node nodes y).after ≡ i

  right_before : (i : ℕ) → HasKey (node nodes i) → 256 ≤ before i → IsRightBefore (before i) i
  right_before i key ge =
      let x = lists.behind i (inr key) in
      record {
        key = linked_key nodes (before i) x.linked ge;
        list = x.list;
        less = x.rising (key_from w nodes i lists key) ge;
        next = x.back;
      }

  -- a key that no other one comes before is the first of its list
  is_head : (i : ℕ) → HasKey (node nodes i) → before i < 256 → after (list i) ≡ i
  is_head i key lt =
      let x = lists.behind i (inr key) in
      let within : before i < length nodes = linked_within nodes (before i) x.linked in
      let same : list i ≡ before i = sym x.list ∙ lists.lists (before i) lt within in
      ap after same ∙ x.back

  pub head_first : (i j : ℕ) → HasKey (node nodes i) → HasKey (node nodes j) → list i ≡ list j → before i < 256 → order i ≤ order j
  head_first i j key other same lt =
      let h : IsLeastIn w nodes (list j) j = head_least w nodes j lists other in
      let e : after (list j) ≡ i = ap after (sym same) ∙ is_head i key lt in
      subst (λ (n : ℕ). order n ≤ order j) e h.least

  -- of keys i below n: the key after a lesser one is not above i, and an equal one is i
  record AreApart (n : ℕ) : Type 0 where
    ahead : (a i : ℕ) → HasKey (node nodes a) → HasKey (node nodes i) → list a ≡ list i → order a < order i → order i < n → (256 ≤ after a) × (order (after a) ≤ order i)
    same : (a i : ℕ) → HasKey (node nodes a) → HasKey (node nodes i) → list a ≡ list i → order a ≡ order i → order i < n → a ≡ i

  module _ (n : ℕ) (ih : AreApart n) (a i : ℕ) (ka : HasKey (node nodes a)) (ki : HasKey (node nodes i)) (l : list a ≡ list i) where
    ahead_more : (y : ℕ) → IsRightBefore y i → order a < order i → order i < suc n → (256 ≤ after a) × (order (after a) ≤ order i)
    ahead_more y p lt below =
        let from : 256 ≤ i = key_from w nodes i lists ki in
        let less : order y < order i = p.less in
        ⊎_elim
        (λ (up : order a < order y). let h = ih.ahead a y ka p.key (l ∙ sym p.list) up (omega arith) in let g : order (after a) ≤ order y = h.1 in (h.0, omega arith))
        (λ (not_up : order y ≤ order a). ⊎_elim
        (λ (e : order y ≡ order a).
        let one : y ≡ a = ih.same y a p.key ka (p.list ∙ sym l) e (omega arith) in
        let next : after a ≡ i = ap after (sym one) ∙ p.next in
        (subst (λ (m : ℕ). 256 ≤ m) (sym next) from, subst (λ (m : ℕ). order m ≤ order i) (sym next) (omega arith)))
        (λ (ne : order y ≡ order a → ⊥).
        let down : order y < order a = omega arith in
        let h = ih.ahead y a p.key ka (p.list ∙ sym l) down (omega arith) in
        let g : order i ≤ order a = subst (λ (m : ℕ). order m ≤ order a) p.next h.1 in
        absurd (omega arith))
        (cases_eq (order y) (order a)))
        (cases_lt (order a) (order y))

    same_more : (z y : ℕ) → IsRightBefore z a → IsRightBefore y i → order a ≡ order i → order i < suc n → a ≡ i
    same_more z y p q eq below =
        let less_a : order z < order a = p.less in
        let less_i : order y < order i = q.less in
        let lists_same : list z ≡ list y = p.list ∙ l ∙ sym q.list in
        ⊎_elim
        (λ (up : order z < order y).
        let h = ih.ahead z y p.key q.key lists_same up (omega arith) in
        let g : order a ≤ order y = subst (λ (m : ℕ). order m ≤ order y) p.next h.1 in
        absurd (omega arith))
        (λ (not_up : order y ≤ order z). ⊎_elim
        (λ (e : order z ≡ order y). let one : z ≡ y = ih.same z y p.key q.key lists_same e (omega arith) in sym p.next ∙ ap after one ∙ q.next)
        (λ (ne : order z ≡ order y → ⊥).
        let down : order y < order z = omega arith in
        let h = ih.ahead y z q.key p.key (sym lists_same) down (omega arith) in
        let g : order i ≤ order z = subst (λ (m : ℕ). order m ≤ order z) q.next h.1 in
        absurd (omega arith))
        (cases_eq (order z) (order y)))
        (cases_lt (order z) (order y))

    ahead_next : order a < order i → order i < suc n → (256 ≤ after a) × (order (after a) ≤ order i)
    ahead_next lt below = ⊎_elim
        (λ (low : before i < 256). let h : order i ≤ order a = head_first i a ki ka (sym l) low in absurd (omega arith))
        (λ (ge : 256 ≤ before i). ahead_more (before i) (right_before i ki ge) lt below)
        (cases_lt (before i) 256)

    same_next : order a ≡ order i → order i < suc n → a ≡ i
    same_next eq below = ⊎_elim
        (λ (low_i : before i < 256). ⊎_elim
        (λ (low_a : before a < 256). sym (is_head a ka low_a) ∙ ap after l ∙ is_head i ki low_i)
        (λ (ge_a : 256 ≤ before a).
        let p = right_before a ka ge_a in
        let less : order (before a) < order a = p.less in
        let h : order i ≤ order (before a) = head_first i (before a) ki p.key (sym l ∙ sym p.list) low_i in
        absurd (omega arith))
        (cases_lt (before a) 256))
        (λ (ge_i : 256 ≤ before i).
        let q = right_before i ki ge_i in
        let less : order (before i) < order i = q.less in
        ⊎_elim
        (λ (low_a : before a < 256).
        let h : order a ≤ order (before i) = head_first a (before i) ka q.key (l ∙ sym q.list) low_a in
        absurd (omega arith))
        (λ (ge_a : 256 ≤ before a). same_more (before a) (before i) (right_before a ka ge_a) q eq below)
        (cases_lt (before a) 256))
        (cases_lt (before i) 256)

  apart : (n : ℕ) → AreApart n
  apart zero = record { ahead = λ a i ka ki l lt below. absurd (omega arith); same = λ a i ka ki l eq below. absurd (omega arith) }
  apart (suc n) =
      let ih = apart n in
      record {
        ahead = λ a i ka ki l lt below. ahead_next n ih a i ka ki l lt below;
        same = λ a i ka ki l eq below. same_next n ih a i ka ki l eq below;
      }

  -- the key after a lesser one is not above a key
  pub not_between : (a i : ℕ) → HasKey (node nodes a) → HasKey (node nodes i) → list a ≡ list i → order a < order i → (256 ≤ after a) × (order (after a) ≤ order i)
  not_between a i ka ki l lt = (apart (suc (order i))).ahead a i ka ki l lt (omega arith)

  -- keys of a list with equal orders are one
  pub one_key : (a i : ℕ) → HasKey (node nodes a) → HasKey (node nodes i) → list a ≡ list i → order a ≡ order i → a ≡ i
  one_key a i ka ki l eq = (apart (suc (order i))).same a i ka ki l eq (omega arith)

  -- what is not behind a key is the key, or not behind the one before it
  pub earlier : (a i : ℕ) → HasKey (node nodes a) → HasKey (node nodes i) → list i ≡ list a → (256 ≤ before a → order (before a) < order i)
      → (i ≡ a) ⊎ (order a < order i)
  earlier a i ka ki l past = ⊎_elim
      (λ (up : order a < order i). inr up)
      (λ (not_up : order i ≤ order a). ⊎_elim
      (λ (e : order i ≡ order a). inl (one_key i a ki ka l e))
      (λ (ne : order i ≡ order a → ⊥). ⊎_elim
      (λ (low : before a < 256). let h : order a ≤ order i = head_first a i ka ki (sym l) low in absurd (omega arith))
      (λ (ge : 256 ≤ before a).
      let p = right_before a ka ge in
      let h = not_between (before a) i p.key ki (p.list ∙ sym l) (past ge) in
      let g : order a ≤ order i = subst (λ (m : ℕ). order m ≤ order i) p.next h.1 in
      absurd (omega arith))
      (cases_lt (before a) 256))
      (cases_eq (order i) (order a)))
      (cases_lt (order a) (order i))

  -- no key is behind the last one
  pub last_key : (b i : ℕ) → b < 256 → b < length nodes → HasKey (node nodes i) → list i ≡ b → (256 ≤ before b → order (before b) < order i) → ⊥
  last_key b i low within ki l past =
      let x = lists.behind b (inl (low, within)) in
      let own : list b ≡ b = lists.lists b low within in
      ⊎_elim
      (λ (end : before b < 256).
      let end_within : before b < length nodes = linked_within nodes (before b) x.linked in
      let same : before b ≡ b = sym (lists.lists (before b) end end_within) ∙ x.list ∙ own in
      let empty : after b ≡ b = ap after (sym same) ∙ x.back in
      let h : IsLeastIn w nodes (list i) i = head_least w nodes i lists ki in
      let from : 256 ≤ after b = subst (λ (m : ℕ). 256 ≤ after m) l h.from in
      absurd (omega arith))
      (λ (ge : 256 ≤ before b).
      let key = linked_key nodes (before b) x.linked ge in
      let h = not_between (before b) i key ki (x.list ∙ own ∙ sym l) (past ge) in
      let up : 256 ≤ after (before b) = h.0 in
      let back : after (before b) ≡ b = x.back in
      absurd (omega arith))
      (cases_lt (before b) 256)

  -- a search from the end of a list has less before it at each node
  pub passes : (a next : ℕ) → 256 ≤ a → IsLinked nodes a → before a ≡ next → cond (nat_lt next 256) 0 (suc (order next)) < cond (nat_lt a 256) 0 (suc (order a))
  passes a next from linked is =
      rw (le-ltb a 256 from) (⊎_elim
      (λ (lt : next < 256). rw (lt-ltb next 256 lt) (omega arith))
      (λ (ge : 256 ≤ next). rw (le-ltb next 256 ge) (
      let up : order (before a) < order a = (lists.behind a linked).rising from (omega arith) in
      let e : order (before a) ≡ order next = ap (λ (n : ℕ). order n) is in
      omega arith))
      (cases_lt next 256))
