-- Where a key comes in its list.
use Rattle.std.proofs.Common.{◌≡◌, ◌≢◌, ℕ, ◌^◌, ◌<◌, ◌≤◌, ◌%◌, List, sym, ap, ◌∙◌, subst, arith, length, inl, ⊎_elim}
use Rattle.std.proofs.lemmas.Bool.{cases_lt}
use Rattle.sim_queue.specs.declared.lists.Node.{Node}
use Rattle.sim_queue.specs.inside.Lists.{node, day, list_of, order_of, key_order, HasKey, IsLinked, IsLists, IsAhead, IsSpot}
use Rattle.std.proofs.Math.ListN.{get_or}
use Rattle.sim_queue.proofs.Nodes.{linked_key, linked_within, node_read}

module _ (w : ℕ) (nodes : List Node) (due serial l : ℕ) (lists : IsLists w nodes) (here : l ≡ day w due % 256) (lt : l < 256) (within : l < length nodes) where
  l_linked : IsLinked nodes l
  l_linked = inl (lt, within)

  -- the last node of the list
  pub last_linked : IsLinked nodes (node nodes l).before
  last_linked = (lists.behind l l_linked).linked

  pub last_list : list_of w (node nodes (node nodes l).before) ≡ day w due % 256
  last_list = (lists.behind l l_linked).list ∙ lists.lists l lt within ∙ here

  pub last_after : (node nodes (node nodes l).before).after ≡ l
  last_after = (lists.behind l l_linked).back

  -- the key comes behind the last node
  pub spot_last : (256 ≤ (node nodes l).before → order_of (node nodes (node nodes l).before) < key_order due serial) → IsSpot w due serial (node nodes l).before nodes
  spot_last above = record {
    linked = last_linked;
    list = last_list;
    above = above;
    below = λ from. let e = last_after in absurd (omega arith);
  }

  -- the first node of a list that has a key
  pub first_key : 256 ≤ (node nodes l).before → HasKey (node nodes (node nodes l).after)
  first_key some = ⊎_elim
      (λ (low : (node nodes l).after < 256).
      let x = lists.ahead l l_linked in
      let first = (node nodes l).after in
      let y = lists.behind first x.linked in
      let in_list : list_of w (node nodes (node nodes (node nodes l).after).before) ≡ l = ap (λ (n : ℕ). list_of w (node nodes n)) x.forth ∙ lists.lists l lt within in
      let own : list_of w (node nodes (node nodes l).after) ≡ (node nodes l).after = lists.lists first low (first_within x) in
      let same : (node nodes l).after ≡ l = sym own ∙ sym y.list ∙ in_list in
      let ring : (node nodes l).before ≡ l = ap (λ (n : ℕ). (node nodes n).before) (sym same) ∙ x.forth in
      absurd (omega arith))
      (λ (ge : 256 ≤ (node nodes l).after). linked_key nodes (node nodes l).after (lists.ahead l l_linked).linked ge)
      (cases_lt (node nodes l).after 256)
    where
      first_within : IsAhead nodes l → (node nodes l).after < length nodes
      first_within x = linked_within nodes (node nodes l).after x.linked

  -- the key comes before the first node
  pub spot_first : key_order due serial < order_of (node nodes (node nodes l).after) → IsSpot w due serial l nodes
  spot_first below = record {
    linked = l_linked;
    list = lists.lists l lt within ∙ here;
    above = λ from. absurd (omega arith);
    below = λ from. below;
  }

-- a key that is not before another one is behind it
pub behind_other : (nodes : List Node) (due serial i : ℕ) → HasKey (node nodes i) → serial < 2 ^ 40 → (node nodes i).serial ≢ serial → key_order due serial ≤ order_of (node nodes i)
    → key_order due serial < order_of (node nodes i)
behind_other nodes due serial i key small other le = omega arith

-- the same of the end x that is read at l
module _ (w : ℕ) (nodes : List Node) (due serial l : ℕ) (x : Node) (lists : IsLists w nodes) (here : l ≡ day w due % 256) (lt : l < 256) (within : l < length nodes) (read : x ≡ get_or nodes l x) where
  end_is : node nodes l ≡ x
  end_is = node_read nodes l x within read

  before_is : (node nodes l).before ≡ x.before
  before_is = ap (λ (y : Node). y.before) end_is

  after_is : (node nodes l).after ≡ x.after
  after_is = ap (λ (y : Node). y.after) end_is

  pub read_last : IsLinked nodes x.before
  read_last = subst (λ (n : ℕ). IsLinked nodes n) before_is (last_linked w nodes due serial l lists here lt within)

  pub read_last_in : x.before < length nodes
  read_last_in = linked_within nodes x.before read_last

  pub read_last_list : list_of w (node nodes x.before) ≡ day w due % 256
  read_last_list = subst (λ (n : ℕ). list_of w (node nodes n) ≡ day w due % 256) before_is (last_list w nodes due serial l lists here lt within)

  pub read_spot_last : (256 ≤ x.before → order_of (node nodes x.before) < key_order due serial) → IsSpot w due serial x.before nodes
  read_spot_last above =
      subst (λ (n : ℕ). IsSpot w due serial n nodes) before_is
      (spot_last w nodes due serial l lists here lt within (subst (λ (n : ℕ). 256 ≤ n → order_of (node nodes n) < key_order due serial) (sym before_is) above))

  pub read_first_key : 256 ≤ x.before → HasKey (node nodes x.after)
  read_first_key some =
      subst (λ (n : ℕ). HasKey (node nodes n)) after_is (first_key w nodes due serial l lists here lt within (subst (λ (n : ℕ). 256 ≤ n) (sym before_is) some))

  pub read_spot_first : key_order due serial < order_of (node nodes x.after) → IsSpot w due serial l nodes
  read_spot_first below =
      spot_first w nodes due serial l lists here lt within (subst (λ (n : ℕ). key_order due serial < order_of (node nodes n)) (sym after_is) below)
