-- What keys there are, where a node gets one or loses it.
use Rattle.std.proofs.Common.{◌≡◌, ◌≢◌, ℕ, ◌+◌, ◌-◌, ◌^◌, ◌<◌, ◌≤◌, ◌%◌, List, Some, None, is_some, nat_lt, Bool, true, false, if◌then◌else◌, refl, sym, ap, ◌∙◌, subst, arith, length, ◌⊎◌, inl, inr, ⊎_elim, min, Result, Ok, Err, OnErr}
use Rattle.std.proofs.Math.ListN.{get_or-map}
use Rattle.std.proofs.lemmas.List.{length-map}
use Rattle.sim_queue.proofs.Marked.{first_due, same_mark}
use Rattle.std.proofs.lemmas.Bool.{cases_eq, cases_lt, lt-ltb, le-ltb}
use Rattle.std.proofs.lemmas.Option.{none-some, same_Some}
use Rattle.std.specs.Bool.{OnFalse}
use Rattle.sim_queue.specs.declared.lists.Node.{Node}
use Rattle.sim_queue.specs.declared.lists.Lists.{Lists}
use Rattle.sim_queue.specs.inside.Lists.{node, no_node, day, list_of, order_of, key_order, HasKey, IsLists, IsEmptyList, KeepsKeys, KeepsOthers, IsFree, IsSame, IsSpot}
use Rattle.sim_queue.specs.inside.Marks.{mark_of, IsMarked}
use Rattle.sim_queue.specs.inside.Wheel.{key_of, keys_of, key_at, HasNone, HasSame, HasSameBut, IsPlace, IsFirst, IsDue, IsFrom, IsFloor, HasMarks, IsWheel}
use Rattle.sim_queue.proofs.Nodes.{key_from, linked_key}
use Rattle.sim_queue.proofs.Heads.{IsLeastIn, head_least, head_there, no_head}

-- the key at a place is that of its node
pub key_there : (nodes : List Node) (k : ℕ) → key_at (keys_of nodes) k ≡ key_of (node nodes (k + 256))
key_there nodes k = get_or-map key_of nodes (k + 256) no_node

pub key_some : (x : Node) → HasKey x → key_of x ≡ Some (x.due, x.serial)
key_some x key = ap (λ b. if b then Some (x.due, x.serial) else None) (lt-ltb x.serial (2 ^ 40) key)

pub key_none : (x : Node) → 2 ^ 40 ≤ x.serial → key_of x ≡ None
key_none x high = ap (λ b. if b then Some (x.due, x.serial) else None) (le-ltb x.serial (2 ^ 40) high)

-- what a key tells of its node
pub record IsKeyed (x : Node) (d s : ℕ) : Type 0 where
  pub key : HasKey x
  pub due : x.due ≡ d
  pub serial : x.serial ≡ s

pub key_is : (x : Node) (d s : ℕ) → key_of x ≡ Some (d, s) → IsKeyed x d s
key_is x d s h = ⊎_elim
    (λ (lt : x.serial < 2 ^ 40).
    let both : (x.due, x.serial) ≡ (d, s) = same_Some (x.due, x.serial) (d, s) (sym (key_some x lt) ∙ h) in
    record { key = lt; due = ap (λ (q : ℕ × ℕ). q.0) both; serial = ap (λ (q : ℕ × ℕ). q.1) both })
    (λ (ge : 2 ^ 40 ≤ x.serial). absurd (none-some (d, s) (sym (key_none x ge) ∙ h)))
    (cases_lt x.serial (2 ^ 40))

pub key_gone : (x : Node) → key_of x ≡ None → 2 ^ 40 ≤ x.serial
key_gone x h = ⊎_elim
    (λ (lt : x.serial < 2 ^ 40). absurd (none-some (x.due, x.serial) (sym h ∙ key_some x lt)))
    (λ (ge : 2 ^ 40 ≤ x.serial). ge)
    (cases_lt x.serial (2 ^ 40))

pub key_is_some : (x : Node) → is_some (key_of x) ≡ true → HasKey x
key_is_some x h = ⊎_elim
    (λ (lt : x.serial < 2 ^ 40). lt)
    (λ (ge : 2 ^ 40 ≤ x.serial). let no : false ≡ true = ap (λ o. is_some o) (sym (key_none x ge)) ∙ h in cc no)
    (cases_lt x.serial (2 ^ 40))

pub on_err : {T E P : Type 0} (r : Result T E) → P → OnErr r P
on_err (Ok x) p = tt
on_err (Err e) p = p

pub lesser_of : (a b m : ℕ) → m ≡ min a b → (m ≡ a) ⊎ (m ≡ b)
lesser_of a b m is = ⊎_elim (λ (lt : a < b). inl (omega arith)) (λ (ge : b ≤ a). inr (omega arith)) (cases_lt a b)

pub on_false : (b : Bool) (P Q : Type 0) → (P → Q) → OnFalse b P → OnFalse b Q
on_false true P Q f h = tt
on_false false P Q f h = f h

-- the key at a place, by its node
pub key_of_some : (nodes : List Node) (k : ℕ) → is_some (key_at (keys_of nodes) k) ≡ true → HasKey (node nodes (k + 256))
key_of_some nodes k h = key_is_some (node nodes (k + 256)) (ap (λ o. is_some o) (sym (key_there nodes k)) ∙ h)

pub key_of_node : (nodes : List Node) (k : ℕ) → HasKey (node nodes (k + 256)) → key_at (keys_of nodes) k ≡ Some ((node nodes (k + 256)).due, (node nodes (k + 256)).serial)
key_of_node nodes k key = key_there nodes k ∙ key_some (node nodes (k + 256)) key

pub key_of_place : (nodes : List Node) (k d s : ℕ) → key_at (keys_of nodes) k ≡ Some (d, s) → IsKeyed (node nodes (k + 256)) d s
key_of_place nodes k d s h = key_is (node nodes (k + 256)) d s (sym (key_there nodes k) ∙ h)

-- equal nodes have equal keys
same_key : (x y : Node) → x.due ≡ y.due → x.serial ≡ y.serial → key_of x ≡ key_of y
same_key x y d s = ap (λ (n : ℕ). if nat_lt x.serial (2 ^ 40) then Some (n, x.serial) else None) d ∙ ap (λ (n : ℕ). if nat_lt n (2 ^ 40) then Some (y.due, n) else None) s

pub kept_keys : (old new : List Node) (k : ℕ) → KeepsOthers (k + 256) old new → HasSameBut k (keys_of old) (keys_of new)
kept_keys old new k keeps j apart =
    let ne : j + 256 ≢ k + 256 = λ q. apart (omega arith) in
    let e = keeps (j + 256) ne in
    key_there new j ∙ same_key (node new (j + 256)) (node old (j + 256)) e.0 e.1 ∙ sym (key_there old j)

pub same_keys : (old new : List Node) → IsSame old new → HasSame (keys_of old) (keys_of new)
same_keys old new same k = key_there new k ∙ ap key_of (same (k + 256) (omega arith)) ∙ sym (key_there old k)

-- a place by its node
pub place_free : (nodes : List Node) (i : ℕ) → IsFree i nodes → IsPlace (i - 256) (keys_of nodes)
place_free nodes i free =
    let from : 256 ≤ i = free.from in
    let e : i - 256 + 256 ≡ i = omega arith in
    let size : length (keys_of nodes) ≡ length nodes = length-map nodes key_of in
    let within : i < length nodes = free.within in
    record {
      within = omega arith;
      free = key_there nodes (i - 256) ∙ ap (λ (n : ℕ). key_of (node nodes n)) e ∙ key_none (node nodes i) free.free;
    }

pub free_place : (nodes : List Node) (k : ℕ) → IsPlace k (keys_of nodes) → IsFree (k + 256) nodes
free_place nodes k place =
    let size : length (keys_of nodes) ≡ length nodes = length-map nodes key_of in
    let within : k + 256 < length (keys_of nodes) = place.within in
    record { from = omega arith; within = omega arith; free = key_gone (node nodes (k + 256)) (sym (key_there nodes k) ∙ place.free) }

-- no node has the serial of a key that is not there
pub fresh_node : (w : ℕ) (nodes : List Node) (serial : ℕ) → IsLists w nodes → ((k d : ℕ) → key_at (keys_of nodes) k ≢ Some (d, serial)) → (i : ℕ) → HasKey (node nodes i)
    → (node nodes i).serial ≢ serial
fresh_node w nodes serial lists fresh i key same =
    let from = key_from w nodes i lists key in
    let e : i - 256 + 256 ≡ i = omega arith in
    let here : key_at (keys_of nodes) (i - 256) ≡ Some ((node nodes i).due, (node nodes i).serial) = key_there nodes (i - 256) ∙ ap (λ (n : ℕ). key_of (node nodes n)) e ∙ key_some (node nodes i) key in
    fresh (i - 256) (node nodes i).due (here ∙ ap (λ (n : ℕ). Some ((node nodes i).due, n)) same)

-- other nodes without keys
pub same_wheel : (w words_floor : ℕ) (words : List ℕ) (old new : List Node) → IsSame old new → IsLists w new → length new ≤ 4294967295 → IsWheel w old words words_floor → IsWheel w new words words_floor
same_wheel w floor words old new same lists small wheel = record {
  narrow = wheel.narrow;
  small = small;
  lists = lists;
  marked = λ i key. subst (λ (x : Node). IsMarked words (day w x.due)) (sym (at i key)) (wheel.marked i (was i key));
  fits = λ i key. subst (λ (x : Node). x.due < 2 ^ 64) (sym (at i key)) (wheel.fits i (was i key));
  least = record {
    from = λ i key. subst (λ (x : Node). floor ≤ x.due) (sym (at i key)) (wheel.least.from i (was i key));
    settled = ⊎_elim
        (λ great. inl great)
        (λ (d : IsDue floor old).
        let e : node new d.place ≡ node old d.place = same d.place (key_from w old d.place wheel.lists d.key) in
        inr (record { place = d.place; key = subst (λ (x : Node). HasKey x) (sym e) d.key; due = ap (λ (x : Node). x.due) e ∙ d.due }))
        wheel.least.settled;
  };
}
  where
    at : (i : ℕ) → HasKey (node new i) → node new i ≡ node old i
    at i key = same i (key_from w new i lists key)

    was : (i : ℕ) → HasKey (node new i) → HasKey (node old i)
    was i key = subst (λ (x : Node). HasKey x) (same i (key_from w new i lists key)) key

-- other lists with the same keys
pub kept_wheel : (old new : Lists) (floor : ℕ) (words : List ℕ) → KeepsKeys old new → IsWheel old.width old.nodes.items words floor → IsWheel new.width new.nodes.items words floor
kept_wheel old new floor words keeps wheel = subst (λ (w : ℕ). IsWheel w new.nodes.items words floor) (sym keeps.width)
    (same_wheel old.width floor words old.nodes.items new.nodes.items keeps.same (subst (λ (w : ℕ). IsLists w new.nodes.items) keeps.width keeps.lists) (keeps.size wheel.small) wheel)

-- a node gets a key
module _ (w floor now p due serial : ℕ) (words marks : List ℕ) (old new : List Node) (free : IsFree p old) (wheel : IsWheel w old words floor) (lists : IsLists w new)
    (size : length new ≡ length old) (is_due : (node new p).due ≡ due) (is_serial : (node new p).serial ≡ serial) (small : serial < 2 ^ 40) (fits : due < 2 ^ 64) (keeps : KeepsOthers p old new)
    (set : (d : ℕ) → d % 256 ≡ day w due % 256 → IsMarked marks d) (others : (d : ℕ) → d % 256 ≢ day w due % 256 → mark_of marks d ≡ mark_of words d)
    (lower : now ≤ floor) (least : now ≤ due) (one_of : (now ≡ floor) ⊎ (now ≡ due)) where
  was : (i : ℕ) → i ≢ p → HasKey (node new i) → HasKey (node old i)
  was i ne key = let e : (node new i).serial ≡ (node old i).serial = (keeps i ne).1 in omega arith

  pub put_wheel : IsWheel w new marks now
  put_wheel = record {
    narrow = wheel.narrow;
    small = let s : length old ≤ 4294967295 = wheel.small in omega arith;
    lists = lists;
    marked = λ i key. ⊎_elim
        (λ (e : i ≡ p). set (day w (node new i).due) (ap (λ (n : ℕ). day w (node new n).due % 256) e ∙ ap (λ (d : ℕ). day w d % 256) is_due))
        (λ (ne : i ≢ p).
        let old_mark : IsMarked words (day w (node new i).due) = subst (λ (d : ℕ). IsMarked words (day w d)) (sym (keeps i ne).0) (wheel.marked i (was i ne key)) in
        ⊎_elim
        (λ (same : day w (node new i).due % 256 ≡ day w due % 256). set (day w (node new i).due) same)
        (λ (apart : day w (node new i).due % 256 ≢ day w due % 256). others (day w (node new i).due) apart ∙ old_mark)
        (cases_eq (day w (node new i).due % 256) (day w due % 256)))
        (cases_eq i p);
    fits = λ i key. ⊎_elim
        (λ (e : i ≡ p). let d : (node new i).due ≡ due = ap (λ (n : ℕ). (node new n).due) e ∙ is_due in omega arith)
        (λ (ne : i ≢ p). let d : (node new i).due ≡ (node old i).due = (keeps i ne).0 in let f : (node old i).due < 2 ^ 64 = wheel.fits i (was i ne key) in omega arith)
        (cases_eq i p);
    least = record {
      from = λ i key. ⊎_elim
          (λ (e : i ≡ p). let d : (node new i).due ≡ due = ap (λ (n : ℕ). (node new n).due) e ∙ is_due in omega arith)
          (λ (ne : i ≢ p). let d : (node new i).due ≡ (node old i).due = (keeps i ne).0 in let f : floor ≤ (node old i).due = wheel.least.from i (was i ne key) in omega arith)
          (cases_eq i p);
      settled = ⊎_elim
          (λ (same : now ≡ floor). ⊎_elim
          (λ (great : 2 ^ 64 ≤ floor + 1). inl (omega arith))
          (λ (d : IsDue floor old).
          let ne : d.place ≢ p = λ q. (let e : (node old d.place).serial ≡ (node old p).serial = ap (λ (n : ℕ). (node old n).serial) q in let k = d.key in let h = free.free in omega arith) in
          let k = keeps d.place ne in
          let kd : (node new d.place).due ≡ (node old d.place).due = k.0 in
          let ks : (node new d.place).serial ≡ (node old d.place).serial = k.1 in
          let had : (node old d.place).serial < 2 ^ 40 = d.key in
          inr (record { place = d.place; key = omega arith; due = kd ∙ d.due ∙ sym same }))
          wheel.least.settled)
          (λ (same : now ≡ due). inr (record { place = p; key = omega arith; due = is_due ∙ sym same }))
          one_of;
    };
  }

-- a node loses its key; the floor is found again
module _ (w floor now p : ℕ) (words marks : List ℕ) (old new : List Node) (key : HasKey (node old p)) (wheel : IsWheel w old words floor) (lists : IsLists w new)
    (size : length new ≡ length old) (gone : 2 ^ 40 ≤ (node new p).serial) (keeps : KeepsOthers p old new) where
  left_apart : (i : ℕ) → HasKey (node new i) → i ≢ p
  left_apart i k q = let e : (node new i).serial ≡ (node new p).serial = ap (λ (n : ℕ). (node new n).serial) q in omega arith

  left_was : (i : ℕ) → HasKey (node new i) → HasKey (node old i)
  left_was i k = let e : (node new i).serial ≡ (node old i).serial = (keeps i (left_apart i k)).1 in omega arith

  pub left_marked : (told : Bool) → (told ≡ true → IsEmptyList w (list_of w (node old p)) new)
      → ((d : ℕ) → d % 256 ≢ day w (node old p).due % 256 → mark_of marks d ≡ mark_of words d) → OnFalse told (marks ≡ words) → HasMarks w marks new
  left_marked true empty others same i k =
      let old_mark : IsMarked words (day w (node new i).due) = subst (λ (d : ℕ). IsMarked words (day w d)) (sym (keeps i (left_apart i k)).0) (wheel.marked i (left_was i k)) in
      others (day w (node new i).due) (empty refl i k) ∙ old_mark
  left_marked false empty others same i k =
      let old_mark : IsMarked words (day w (node new i).due) = subst (λ (d : ℕ). IsMarked words (day w d)) (sym (keeps i (left_apart i k)).0) (wheel.marked i (left_was i k)) in
      subst (λ (ws : List ℕ). IsMarked ws (day w (node new i).due)) (sym same) old_mark

  pub left_from : IsFrom floor new
  left_from i k = let d : (node new i).due ≡ (node old i).due = (keeps i (left_apart i k)).0 in let f : floor ≤ (node old i).due = wheel.least.from i (left_was i k) in omega arith

  -- another one is due at the floor
  pub left_floor : (node old p).due ≢ floor → IsFloor floor new
  left_floor other = record {
    from = left_from;
    settled = ⊎_elim
        (λ great. inl great)
        (λ (d : IsDue floor old).
        let ne : d.place ≢ p = λ q. other (ap (λ (n : ℕ). (node old n).due) (sym q) ∙ d.due) in
        let ks : (node new d.place).serial ≡ (node old d.place).serial = (keeps d.place ne).1 in
        let had : (node old d.place).serial < 2 ^ 40 = d.key in
        inr (record { place = d.place; key = omega arith; due = (keeps d.place ne).0 ∙ d.due }))
        wheel.least.settled;
  }

  pub left_wheel : HasMarks w marks new → IsFloor now new → IsWheel w new marks now
  left_wheel marked least = record {
    narrow = wheel.narrow;
    small = let s : length old ≤ 4294967295 = wheel.small in omega arith;
    lists = lists;
    marked = marked;
    fits = λ i k. let d : (node new i).due ≡ (node old i).due = (keeps i (left_apart i k)).0 in let f : (node old i).due < 2 ^ 64 = wheel.fits i (left_was i k) in omega arith;
    least = least;
  }

-- the first key: the first one of the list of the floor
module _ (w floor : ℕ) (words : List ℕ) (nodes : List Node) (wheel : IsWheel w nodes words floor) where
  at_floor : (i : ℕ) → HasKey (node nodes i) → IsDue floor nodes
  at_floor i key = ⊎_elim
      (λ (great : 2 ^ 64 ≤ floor + 1).
      let f : (node nodes i).due < 2 ^ 64 = wheel.fits i key in
      let g : floor ≤ (node nodes i).due = wheel.least.from i key in
      record { place = i; key = key; due = omega arith })
      (λ (d : IsDue floor nodes). d)
      wheel.least.settled

  floor_list : (d : IsDue floor nodes) → list_of w (node nodes d.place) ≡ day w floor % 256
  floor_list d = ap (λ (n : ℕ). day w n % 256) d.due

  pub none_first : (l : ℕ) → l ≡ day w floor % 256 → (l < length nodes → (node nodes l).after < 256) → HasNone (keys_of nodes)
  none_first l is end k = ⊎_elim
      (λ (lt : (node nodes (k + 256)).serial < 2 ^ 40).
      let d = at_floor (k + 256) lt in
      absurd (no_head w nodes l wheel.lists end d.place d.key (floor_list d ∙ sym is)))
      (λ (ge : 2 ^ 40 ≤ (node nodes (k + 256)).serial). key_there nodes k ∙ key_none (node nodes (k + 256)) ge)
      (cases_lt (node nodes (k + 256)).serial (2 ^ 40))

  pub is_first : (l p : ℕ) → l ≡ day w floor % 256 → l < length nodes → 256 ≤ p → (node nodes l).after ≡ p → IsFirst (p - 256) (keys_of nodes)
  is_first l p is within from head =
      let h = head_there w nodes l p wheel.lists (omega arith) within head from in
      let d = at_floor p h.key in
      let e : p - 256 + 256 ≡ p = omega arith in
      let before : (node nodes p).due ≤ (node nodes d.place).due = first_due w nodes l p wheel.lists head h.key d.place d.key (floor_list d ∙ sym is) in
      let at_least : floor ≤ (node nodes p).due = wheel.least.from p h.key in
      let due : (node nodes p).due ≡ floor = let dd = d.due in omega arith in
      record {
        due = (node nodes p).due;
        serial = (node nodes p).serial;
        there = key_there nodes (p - 256) ∙ ap (λ (n : ℕ). key_of (node nodes n)) e ∙ key_some (node nodes p) h.key;
        least = λ k e s q.
            let x = key_of_place nodes k e s q in
            let ge : floor ≤ (node nodes (k + 256)).due = wheel.least.from (k + 256) x.key in
            let xd = x.due in
            let xs = x.serial in
            ⊎_elim
            (λ (same : floor ≡ (node nodes (k + 256)).due).
            let list : list_of w (node nodes (k + 256)) ≡ l = ap (λ (n : ℕ). day w n % 256) (sym same) ∙ sym is in
            let m : IsLeastIn w nodes l (k + 256) = subst (λ (n : ℕ). IsLeastIn w nodes n (k + 256)) list (head_least w nodes (k + 256) wheel.lists x.key) in
            let order : order_of (node nodes p) ≤ order_of (node nodes (k + 256)) = subst (λ (n : ℕ). order_of (node nodes n) ≤ order_of (node nodes (k + 256))) head m.least in
            inr (omega arith, omega arith))
            (λ (other : floor ≢ (node nodes (k + 256)).due). inl (omega arith))
            (cases_eq floor (node nodes (k + 256)).due);
      }

  -- the first key has a node, and is due at the floor
  pub record IsAtFloor (i : ℕ) : Type 0 where
    pub key : HasKey (node nodes i)
    pub due : (node nodes i).due ≡ floor

  pub first_at_floor : (p : ℕ) → IsFirst p (keys_of nodes) → IsAtFloor (p + 256)
  first_at_floor p first =
      let x = key_of_place nodes p first.due first.serial first.there in
      let xd = x.due in
      let d = at_floor (p + 256) x.key in
      let from = key_from w nodes d.place wheel.lists d.key in
      let e : d.place - 256 + 256 ≡ d.place = omega arith in
      let there : key_at (keys_of nodes) (d.place - 256) ≡ Some ((node nodes d.place).due, (node nodes d.place).serial) =
      key_there nodes (d.place - 256) ∙ ap (λ (n : ℕ). key_of (node nodes n)) e ∙ key_some (node nodes d.place) d.key in
      let due : (node nodes d.place).due ≡ floor = d.due in
      let ge : floor ≤ (node nodes (p + 256)).due = wheel.least.from (p + 256) x.key in
      let le : first.due ≤ (node nodes d.place).due = ⊎_elim
      (λ (lt : first.due < (node nodes d.place).due). omega arith)
      (λ (same : (first.due ≡ (node nodes d.place).due) × (first.serial ≤ (node nodes d.place).serial)). let a = same.0 in omega arith)
      (first.least (d.place - 256) (node nodes d.place).due (node nodes d.place).serial there) in
      record { key = x.key; due = omega arith }

  -- a key that belongs after another one has a marked day, and is not due before the floor
  pub record IsBehindKey (due : ℕ) : Type 0 where
    pub marked : (d : ℕ) → d % 256 ≡ day w due % 256 → IsMarked words d
    pub late : floor ≤ due

  pub behind_key : (due serial b : ℕ) → IsSpot w due serial b nodes → 256 ≤ b → serial < 2 ^ 40 → IsBehindKey due
  behind_key due serial b spot from small =
      let key = linked_key nodes b spot.linked from in
      let mark = wheel.marked b key in
      let above : order_of (node nodes b) < key_order due serial = spot.above from in
      let ge : floor ≤ (node nodes b).due = wheel.least.from b key in
      record {
        marked = λ d same. same_mark words d (day w (node nodes b).due) (same ∙ sym spot.list) ∙ mark;
        late = omega arith;
      }
