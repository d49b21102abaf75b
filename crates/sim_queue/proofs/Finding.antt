-- The least serial of an item whose body passes a test, among some places and among all.
use Rattle.std.proofs.Common.{◌≡◌, ℕ, ◌+◌, ◌-◌, ◌<◌, ◌≤◌, List, Option, Some, None, Bool, true, false, refl, sym, ap, ◌∙◌, subst, arith, ◌⊎◌, inl, inr, ⊎_elim, if◌then◌else◌, nat_lt, min, length, is_some}
use Rattle.std.proofs.Math.ListN.{get_or}
use Rattle.std.specs.Prelude.{MatchOption}
use Rattle.std.specs.Option.{IsSome}
use Rattle.std.proofs.lemmas.List.{get_or_default}
use Rattle.std.proofs.lemmas.Bool.{cases_lt, le-ltb, lt-ltb, false≢true}
use Rattle.std.proofs.lemmas.Option.{none-some, same_Some}
use Rattle.sim_queue.specs.declared.lists.Node.{Node}
use Rattle.sim_queue.specs.inside.Lists.{node, HasKey, IsLists}
use Rattle.sim_queue.specs.inside.Wheel.{key_at, keys_of}
use Rattle.sim_queue.specs.inside.Sparse.{body_at}
use Rattle.sim_queue.specs.inside.Slots.{at, takes}
use Rattle.sim_queue.specs.Pending.{next_taken}
use Rattle.sim_queue.specs.Items.{items_from}
use Rattle.sim_queue.proofs.Views.{that_found}
use Rattle.sim_queue.specs.inside.Sparse.{slots_of, IsSparse}
use Rattle.sim_queue.specs.inside.Taken.{lesser, taken_serial, HasBodies, IsTakenAt, IsLeastAmong, IsLeastTaken}
use Rattle.sim_queue.proofs.Nodes.{key_from}
use Rattle.sim_queue.proofs.Turning.{key_of_place, key_of_node}
use Rattle.sim_queue.proofs.Sparse.{spot_within, found_slot, some_index, got}

-- a spot with something is within
some_within : {X : Type 0} (xs : List (Option X)) (i : ℕ) (o : Option X) → get_or xs i None ≡ o → IsSome o → i < length xs
some_within xs i None is some = absurd (false≢true some)
some_within xs i (Some x) is some = spot_within xs i x is

-- the body that is read at a place
read_body : {B : Type 0} (bodies : List (Option B)) (k : ℕ) (o : Option B) → k < length bodies → o ≡ get_or bodies k o → body_at bodies k ≡ o
read_body bodies k o lt read = get_or_default bodies k None o lt ∙ sym read

-- a node with a key has a body
pub record HasBody {B : Type 0} (bodies : List (Option B)) (k : ℕ) : Type 0 where
  pub within : k < length bodies
  pub read : (o : Option B) → o ≡ get_or bodies k o → body_at bodies k ≡ o
  pub there : (o : Option B) → o ≡ get_or bodies k o → IsSome o

pub body_of_key : {B : Type 0} (w at : ℕ) (nodes : List Node) (bodies : List (Option B)) → IsLists w nodes → HasBodies (keys_of nodes) bodies → HasKey (node nodes at)
    → HasBody bodies (at - 256)
body_of_key w at nodes bodies lists bodied key =
    let from = key_from w nodes at lists key in
    let e : at - 256 + 256 ≡ at = omega arith in
    let some = bodied (at - 256) (ap (λ k. is_some k) (key_of_node nodes (at - 256) (subst (λ (n : ℕ). HasKey (node nodes n)) (sym e) key))) in
    let within = some_within bodies (at - 256) (body_at bodies (at - 256)) refl some in
    record {
      within = within;
      read = λ o read. read_body bodies (at - 256) o within read;
      there = λ o read. ap (λ b. is_some b) (sym (read_body bodies (at - 256) o within read)) ∙ some;
    }

-- one of the two, and neither is less
pub lesser_is : (a b : Option ℕ) (s : ℕ) → lesser a b ≡ Some s → (a ≡ Some s) ⊎ (b ≡ Some s)
lesser_is None b s h = inr h
lesser_is (Some x) None s h = inl h
lesser_is (Some x) (Some y) s h =
    let m : min x y ≡ s = same_Some (min x y) s h in
    ⊎_elim
    (λ (lt : x < y). let e : x ≡ s = omega arith in inl (ap (λ (n : ℕ). Some n) e))
    (λ (ge : y ≤ x). let e : y ≡ s = omega arith in inr (ap (λ (n : ℕ). Some n) e))
    (cases_lt x y)

pub lesser_left : (a b : Option ℕ) (s : ℕ) → MatchOption a ⊥ (λ i. i ≤ s) → MatchOption (lesser a b) ⊥ (λ i. i ≤ s)
lesser_left None b s h = absurd h
lesser_left (Some x) None s h = h
lesser_left (Some x) (Some y) s h = omega arith

pub lesser_after : (a b : Option ℕ) (s : ℕ) → MatchOption b ⊥ (λ i. i ≤ s) → MatchOption (lesser a b) ⊥ (λ i. i ≤ s)
lesser_after None b s h = h
lesser_after (Some x) None s h = absurd h
lesser_after (Some x) (Some y) s h = omega arith

pub lesser_right : (a b : Option ℕ) (s : ℕ) → b ≡ Some s → MatchOption (lesser a b) ⊥ (λ i. i ≤ s)
lesser_right None None s h = absurd (none-some s h)
lesser_right None (Some y) s h = let e : y ≡ s = same_Some y s h in omega arith
lesser_right (Some x) None s h = absurd (none-some s h)
lesser_right (Some x) (Some y) s h = let e : y ≡ s = same_Some y s h in omega arith

either_none : (t : Bool) (o : Option ℕ) → o ≡ None → (if t then None else o) ≡ None
either_none true o h = refl
either_none false o h = h

-- a serial that passed both tests
serial_passed : (from m s : ℕ) (t : Bool) → (if nat_lt m from then None else (if t then Some m else None)) ≡ Some s → (from ≤ m) × (t ≡ true) × (m ≡ s)
serial_passed from m s t h = ⊎_elim
    (λ (lt : m < from). absurd (none-some s (sym (ap (λ c. if c then None else (if t then Some m else None)) (lt-ltb m from lt)) ∙ h)))
    (λ (ge : from ≤ m). go t (sym (ap (λ c. if c then None else (if t then Some m else None)) (le-ltb m from ge)) ∙ h) ge)
    (cases_lt m from)
  where
    go : (b : Bool) → (if b then Some m else None) ≡ Some s → from ≤ m → (from ≤ m) × (b ≡ true) × (m ≡ s)
    go true is ge = (ge, refl, same_Some m s is)
    go false is ge = absurd (none-some s is)

module _ {B : Type 0} (p : B → Bool) where
  pub no_key : (from : ℕ) (key : Option (ℕ × ℕ)) (body : Option B) → key ≡ None → None ≡ taken_serial p from key body
  no_key from key body h = sym (ap (λ k. taken_serial p from k body) h)

  pub no_body : (from : ℕ) (key : Option (ℕ × ℕ)) (body : Option B) → body ≡ None → None ≡ taken_serial p from key body
  no_body from None body h = refl
  no_body from (Some key) body h = sym (ap (λ b. taken_serial p from (Some key) b) h)

  pub not_accepted : (from : ℕ) (key : Option (ℕ × ℕ)) (body : Option B) (b : B) → body ≡ Some b → p b ≡ false → None ≡ taken_serial p from key body
  not_accepted from None body b is test = refl
  not_accepted from (Some key) body b is test =
      sym (ap (λ x. taken_serial p from (Some key) x) is ∙ either_none (nat_lt key.1 from) _ (ap (λ t. if t then Some key.1 else None) test))

  pub too_early : (from d s : ℕ) (key : Option (ℕ × ℕ)) (body : Option B) (b : B) → key ≡ Some (d, s) → s < from → body ≡ Some b → None ≡ taken_serial p from key body
  too_early from d s key body b h low is =
      sym (ap (λ k. taken_serial p from k body) h ∙ ap (λ x. taken_serial p from (Some (d, s)) x) is
      ∙ ap (λ c. if c then None else (if p b then Some s else None)) (lt-ltb s from low))

  pub by_test : (from d s : ℕ) (key : Option (ℕ × ℕ)) (body : Option B) (b : B) (t : Bool) → key ≡ Some (d, s) → from ≤ s → body ≡ Some b → p b ≡ t
      → (if t then Some s else None) ≡ taken_serial p from key body
  by_test from d s key body b t h high is test =
      sym (ap (λ k. taken_serial p from k body) h ∙ ap (λ x. taken_serial p from (Some (d, s)) x) is
      ∙ ap (λ c. if c then None else (if p b then Some s else None)) (le-ltb s from high)
      ∙ ap (λ c. if c then Some s else None) test)

  module _ (nodes : List Node) (bodies : List (Option B)) (from : ℕ) where
    -- what is found at a place has a key
    found_key : (k s : ℕ) → taken_serial p from (key_at (keys_of nodes) k) (body_at bodies k) ≡ Some s → HasKey (node nodes (k + 256))
    found_key k s h = go (key_at (keys_of nodes) k) refl
      where
        go : (key : Option (ℕ × ℕ)) → key_at (keys_of nodes) k ≡ key → HasKey (node nodes (k + 256))
        go None is = absurd (none-some s (no_key from (key_at (keys_of nodes) k) (body_at bodies k) is ∙ h))
        go (Some key) is = (key_of_place nodes k key.0 key.1 is).key

    -- among no keys
    pub least_none : (P : ℕ → Type 0) → ((i : ℕ) → HasKey (node nodes (i + 256)) → P i → ⊥) → IsLeastAmong p P (keys_of nodes) bodies from None
    least_none P none = record { found = λ s h. absurd (none-some s h); least = λ k s here h. absurd (none k (found_key k s h) here) }

    -- at one place
    pub least_here : (k : ℕ) (r : Option ℕ) → r ≡ taken_serial p from (key_at (keys_of nodes) k) (body_at bodies k) → IsLeastAmong p (λ i. i ≡ k) (keys_of nodes) bodies from r
    least_here k r is = record {
      found = λ s h. record { place = k; there = sym is ∙ h };
      least = λ i s here h.
          let e : r ≡ Some s = is ∙ ap (λ (m : ℕ). taken_serial p from (key_at (keys_of nodes) m) (body_at bodies m)) (sym here) ∙ h in
          lesser_right None r s e;
    }

    -- among the places of two sets
    pub least_both : (P Q R : ℕ → Type 0) (a b : Option ℕ) → IsLeastAmong p P (keys_of nodes) bodies from a → IsLeastAmong p Q (keys_of nodes) bodies from b
        → ((k : ℕ) → HasKey (node nodes (k + 256)) → R k → P k ⊎ Q k) → IsLeastAmong p R (keys_of nodes) bodies from (lesser a b)
    least_both P Q R a b one other split = record {
      found = λ s h. ⊎_elim (λ (e : a ≡ Some s). one.found s e) (λ (e : b ≡ Some s). other.found s e) (lesser_is a b s h);
      least = λ k s here h. ⊎_elim
          (λ (x : P k). lesser_left a b s (one.least k s x h))
          (λ (y : Q k). lesser_after a b s (other.least k s y h))
          (split k (found_key k s h) here);
    }

    -- among fewer keys
    pub least_fewer : (P Q : ℕ → Type 0) (r : Option ℕ) → IsLeastAmong p P (keys_of nodes) bodies from r → ((k : ℕ) → HasKey (node nodes (k + 256)) → Q k → P k)
        → IsLeastAmong p Q (keys_of nodes) bodies from r
    least_fewer P Q r of fewer = record { found = of.found; least = λ k s here h. of.least k s (fewer k (found_key k s h) here) h }

    -- among all keys
    pub least_all : (P : ℕ → Type 0) (r : Option ℕ) → IsLeastAmong p P (keys_of nodes) bodies from r → ((k : ℕ) → HasKey (node nodes (k + 256)) → P k)
        → IsLeastTaken p (keys_of nodes) bodies from r
    least_all P r of all = record { found = of.found; least = λ s at. of.least at.place s (all at.place (found_key at.place s at.there)) at.there }

module _ {B : Type 0} (keys : List (Option (ℕ × ℕ))) (bodies : List (Option B)) (places : List (Option ℕ)) (base count : ℕ) (sparse : IsSparse keys bodies places base count) where
  -- each key of the slots has a body
  pub have_bodies : HasBodies keys bodies
  have_bodies k some = go (key_at keys k) refl some
    where
      go : (key : Option (ℕ × ℕ)) → key_at keys k ≡ key → IsSome key → IsSome (body_at bodies k)
      go None is some = absurd (false≢true some)
      go (Some key) is some =
          ap (λ b. is_some b) (sparse.found (key.1 - base) k (sparse.placed k key.0 key.1 is)).there

  module _ (p : B → Bool) where
    -- a serial that is found at a place is that of a slot with such a body
    pub taken_slot : (from s : ℕ) → IsTakenAt p keys bodies from s → (base ≤ s) × (from ≤ s) × (takes p (at (slots_of keys bodies places) (s - base)) ≡ true)
    taken_slot from s found = go (key_at keys found.place) (body_at bodies found.place) refl refl found.there
      where
        go : (key : Option (ℕ × ℕ)) (body : Option B) → key_at keys found.place ≡ key → body_at bodies found.place ≡ body → taken_serial p from key body ≡ Some s
            → (base ≤ s) × (from ≤ s) × (takes p (at (slots_of keys bodies places) (s - base)) ≡ true)
        go None body k b h = absurd (none-some s h)
        go (Some key) None k b h = absurd (none-some s h)
        go (Some key) (Some x) k b h =
            let is = serial_passed from key.1 s (p x) h in
            let low : base ≤ key.1 = sparse.from found.place key.0 key.1 k in
            let high : from ≤ key.1 = is.0 in
            let e : key.1 ≡ s = is.2 in
            let slot = got keys bodies places (key.1 - base) found.place key.0 key.1 x (sparse.placed found.place key.0 key.1 k) k b in
            let here : takes p (at (slots_of keys bodies places) (key.1 - base)) ≡ true = ap (λ o. takes p o) (sym slot) ∙ is.1 in
            (omega arith, omega arith, subst (λ (n : ℕ). takes p (at (slots_of keys bodies places) (n - base)) ≡ true) e here)

    -- a slot with such a body is found at its place
    pub slot_taken : (from j : ℕ) → from ≤ base + j → takes p (at (slots_of keys bodies places) j) ≡ true → IsTakenAt p keys bodies from (base + j)
    slot_taken from j high h = go (at (slots_of keys bodies places) j) refl h
      where
        go : (o : Option (ℕ × B)) → at (slots_of keys bodies places) j ≡ o → takes p o ≡ true → IsTakenAt p keys bodies from (base + j)
        go None is h = absurd (false≢true h)
        go (Some e) is h =
            let k = some_index keys bodies places j e is in
            let x = sparse.found j k.0 k.1 in
            let same : Some (x.due, x.body) ≡ Some e = sym (found_slot keys bodies places j k.0 (base + j) k.1 x) ∙ is in
            let body : x.body ≡ e.1 = ap (λ (q : ℕ × B). q.1) (same_Some (x.due, x.body) e same) in
            record { place = k.0; there = sym (by_test p from x.due (base + j) _ _ x.body true x.key high x.there (ap p body ∙ h)) }

    -- the least serial that is found is that of the first such slot
    untaken : (j : ℕ) (t : Bool) → takes p (at (slots_of keys bodies places) j) ≡ t → (takes p (at (slots_of keys bodies places) j) ≡ true → ⊥) → takes p (at (slots_of keys bodies places) j) ≡ false
    untaken j false h never = h
    untaken j true h never = absurd (never h)

    pub is_next : (from : ℕ) (r : Option ℕ) → IsLeastTaken p keys bodies from r → r ≡ next_taken from p (items_from base (slots_of keys bodies places))
    is_next from None none = that_found p from base (slots_of keys bodies places) None
        (λ j ge lt. untaken j (takes p (at (slots_of keys bodies places) j)) refl (λ h. none.least (base + j) (slot_taken from j (omega arith) h)))
    is_next from (Some s) least =
        let is = taken_slot from s (least.found s refl) in
        let low : base ≤ s = is.0 in
        let high : from ≤ s = is.1 in
        let e : base + (s - base) ≡ s = omega arith in
        ap (λ (n : ℕ). Some n) (sym e) ∙ that_found p from base (slots_of keys bodies places) (Some (s - base)) (
          omega arith,
          is.2,
          λ j ge lt. untaken j (takes p (at (slots_of keys bodies places) j)) refl
              (λ h. let le : s ≤ base + j = least.least (base + j) (slot_taken from j (omega arith) h) in omega arith),
        )
