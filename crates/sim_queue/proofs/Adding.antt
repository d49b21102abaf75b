-- A node with a key comes behind the others, and joins a list.
use Rattle.std.proofs.Common.{◌≡◌, ◌≢◌, ◌⊎◌, ℕ, ◌+◌, ◌-◌, ◌^◌, ◌<◌, ◌≤◌, ◌%◌, List, [], ◌∷◌, ◌++◌, sym, ap, ◌∙◌, arith, length, refl}
use Rattle.std.proofs.Math.ListN.{set}
use Rattle.std.proofs.lemmas.List.{set-append_right, length_push}
use Rattle.sim_queue.specs.declared.lists.Node.{Node}
use Rattle.sim_queue.specs.inside.Lists.{node, no_node, day, list_of, order_of, IsLinked, IsLists, IsFree, IsSpot, KeepsOthers}
use Rattle.sim_queue.specs.inside.Marks.{mark_of, IsMarked}
use Rattle.sim_queue.specs.inside.Wheel.{IsWheel}
use Rattle.sim_queue.proofs.Nodes.{linked_within, node_past, sets_after, sets_before}
use Rattle.sim_queue.proofs.Ends.{node_pushed, lists_same, linked_new}
use Rattle.sim_queue.proofs.Turning.{same_wheel, put_wheel}
use Rattle.sim_queue.proofs.Joining.{IsJoined, not_free, joined, after_linked, joined_lists}

module _ (w : ℕ) (old : List Node) (b due serial : ℕ) (lists : IsLists w old) (made : 256 ≤ length old) (small : serial < 2 ^ 40) (spot : IsSpot w due serial b old) where
  -- as if a free node had come first
  abbrev padded : List Node
  padded = old ++ no_node ∷ []

  size : length padded ≡ length old + 1
  size = length_push old no_node

  padded_lists : IsLists w padded
  padded_lists = lists_same w old padded (λ i. node_pushed old i) (let e = size in omega arith) made lists

  last_free : IsFree (length old) padded
  last_free =
      let e = size in
      let serial : (node padded (length old)).serial ≡ 18446744073709551615 = ap (λ (x : Node). x.serial) (node_pushed old (length old) ∙ node_past old (length old) (omega arith)) in
      record { from = made; within = omega arith; free = omega arith }

  b_after : (node padded b).after ≡ (node old b).after
  b_after = ap (λ (x : Node). x.after) (node_pushed old b)

  padded_linked : (i : ℕ) → IsLinked old i → IsLinked padded i
  padded_linked i linked = linked_new w old padded (λ j. node_pushed old j) (let e = size in omega arith) made lists i linked

  padded_spot : IsSpot w due serial b padded
  padded_spot = record {
    linked = padded_linked b spot.linked;
    list = ap (λ (x : Node). list_of w x) (node_pushed old b) ∙ spot.list;
    above = λ from.
        let up = spot.above from in
        let e : order_of (node padded b) ≡ order_of (node old b) = ap (λ (x : Node). order_of x) (node_pushed old b) in
        omega arith;
    below = λ from.
        let e = b_after in
        let up = spot.below (omega arith) in
        let f : order_of (node padded (node padded b).after) ≡ order_of (node old (node old b).after) = ap (λ (n : ℕ). order_of (node padded n)) e ∙ ap (λ (x : Node). order_of x) (node_pushed old (node old b).after) in
        omega arith;
  }

  abbrev pub added : Node
  added = record { due = due; serial = serial; before = b; after = (node old b).after }

  pushed : old ++ added ∷ [] ≡ set padded (length old) added
  pushed = let e : length old - length old ≡ 0 = omega arith in sym (set-append_right old (no_node ∷ []) (length old) (length old) added refl (omega arith) ∙ ap (λ (n : ℕ). old ++ set (no_node ∷ []) n added) e)

  pub length_added : length (old ++ added ∷ []) ≡ length old + 1
  length_added = length_push old added

  next_linked : IsLinked old (node old b).after
  next_linked = after_linked w old b (node old b).after lists spot.linked refl

  pub spot_within : b < length old
  spot_within = linked_within old b spot.linked

  pub next_within : (node old b).after < length old
  next_within = linked_within old (node old b).after next_linked

  -- the push and the two writes
  module _ (two new : List Node)
      (second : two ≡ set (old ++ added ∷ []) b (record (node (old ++ added ∷ []) b) { after = length old }))
      (third : new ≡ set two (node old b).after (record (node two (node old b).after) { before = length old })) where
    joined_behind : IsJoined padded new (length old) b (node old b).after due serial
    joined_behind =
        let more = length_added in
        let b_in = spot_within in
        let a_in = next_within in
        let f = sets_after (old ++ added ∷ []) two b (length old) (omega arith) second in
        let same = f.size in
        let g = sets_before two new (node old b).after (length old) (omega arith) third in
        let p = length old in
        joined padded (old ++ added ∷ []) two new p b (node old b).after due serial last_free
        (not_free p b padded last_free (padded_linked b spot.linked)) (not_free p (node old b).after padded last_free (padded_linked (node old b).after next_linked)) pushed f g

    pub added_lists : IsLists w new
    added_lists = joined_lists w padded new (length old) b (node old b).after due serial padded_lists last_free small padded_spot (sym b_after) joined_behind

    pub added_size : length new ≡ length old + 1
    added_size = joined_behind.size ∙ size

-- a node with a key comes behind the others of a wheel
module _ (w floor now p due serial : ℕ) (words marks : List ℕ) (old new : List Node) (wheel : IsWheel w old words floor) (made : 256 ≤ length old) (last : p ≡ length old) (few : p < 4294967295)
    (lists : IsLists w new) (size : length new ≡ p + 1) (is_due : (node new p).due ≡ due) (is_serial : (node new p).serial ≡ serial) (small : serial < 2 ^ 40) (fits : due < 2 ^ 64)
    (keeps : KeepsOthers p old new) (set : (d : ℕ) → d % 256 ≡ day w due % 256 → IsMarked marks d) (others : (d : ℕ) → d % 256 ≢ day w due % 256 → mark_of marks d ≡ mark_of words d)
    (lower : now ≤ floor) (least : now ≤ due) (one_of : (now ≡ floor) ⊎ (now ≡ due)) where
  more : length (old ++ no_node ∷ []) ≡ length old + 1
  more = length_push old no_node

  free : IsFree p (old ++ no_node ∷ [])
  free =
      let e = more in
      let serial : (node (old ++ no_node ∷ []) p).serial ≡ 18446744073709551615 = ap (λ (x : Node). x.serial) (node_pushed old p ∙ node_past old p (omega arith)) in
      record { from = omega arith; within = omega arith; free = omega arith }

  with_free : IsWheel w (old ++ no_node ∷ []) words floor
  with_free =
      let e = more in
      same_wheel w floor words old (old ++ no_node ∷ []) (λ i from. node_pushed old i) (lists_same w old (old ++ no_node ∷ []) (λ i. node_pushed old i) (omega arith) made wheel.lists) (omega arith) wheel

  keeps_others : KeepsOthers p (old ++ no_node ∷ []) new
  keeps_others i apart =
      let k = keeps i apart in
      (k.0 ∙ sym (ap (λ (x : Node). x.due) (node_pushed old i)), k.1 ∙ sym (ap (λ (x : Node). x.serial) (node_pushed old i)))

  pub add_wheel : IsWheel w new marks now
  add_wheel = let e = more in
      put_wheel w floor now p due serial words marks (old ++ no_node ∷ []) new free with_free lists (omega arith) is_due is_serial small fits keeps_others set others lower least one_of
