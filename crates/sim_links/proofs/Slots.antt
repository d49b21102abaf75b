-- The slots of directions, and what they stand for.
use Rattle.std.proofs.Common.{◌≡◌, ◌==◌, ◌⊎◌, ℕ, zero, suc, ◌+◌, ◌<◌, ◌≤◌, List, [], ◌∷◌, ◌++◌, cond, inl, inr, refl, sym, ap, ◌∙◌, subst, max, take, get_or, set, length, map, replicate, vec_capacity, arith}
use Rattle.std.proofs.lemmas.Bool.Decides.{nat_tests}
use Rattle.std.proofs.Math.ListN.{length-set}
use Rattle.std.proofs.Math.Seq.{map-set_same}
use Rattle.std.proofs.lemmas.Bool.{cases_eq}
use Rattle.std.proofs.lemmas.List.{same_lists, get_or-map, length-append, length-map, length-replicate, get_or-replicate, get_or_default, get_or-set_same, get_or-set_other, get_or_past, get_or_read_under, take_all}
use Rattle.std.proofs.lemmas.List.Elements.{All-get_or, All-replicate, All-set, All-weaker}
use Rattle.std.proofs.lemmas.List.Folds.{sum_by-replicate}
use Rattle.std.proofs.lemmas.List.Sums.{sum_by-set}
use Rattle.std.specs.Vec.{with_item}
use Rattle.sim_links.specs.Link.{Link, Links, open_link}
use Rattle.sim_links.specs.Table.{links_in, slot_at, AreSlots, IsSound}
use Rattle.sim_links.specs.declared.table.Table.{Table}

abbrev in_none : ℕ → ℕ
in_none slot = cond (slot == 0) 1 0

-- the slot of a place is one of them
pub below_at : (slots : List ℕ) (n p : ℕ) → AreSlots slots n → p < length slots → get_or slots p 0 < n
below_at slots n p are inside = All-get_or (λ slot. slot < n) slots p 0 inside are.below

-- slots that are all 0
pub slots_new : (n : ℕ) → AreSlots (replicate n 0) 1
slots_new n = record {
  below = All-replicate (λ slot. slot < 1) n 0 (omega arith);
  apart = λ p q p_in q_in own same. absurd (none p (omega (arith, p_in, length-replicate {A = ℕ} n 0)) own);
  free = omega (arith, length-replicate {A = ℕ} n 0, sum_by-replicate in_none n 0);
}
  where
    none : (p : ℕ) → p < n → 0 < get_or (replicate n 0) p 0 → ⊥
    none p inside own = omega (arith, own, get_or-replicate {A = ℕ} n p 0 0 inside)

-- slots in which a place that had none got the next one
pub slots_taken : (slots : List ℕ) (p n : ℕ) → AreSlots slots n → p < length slots → get_or slots p 0 ≡ 0 → AreSlots (set slots p n) (n + 1)
slots_taken slots p n are inside none = record {
  below = All-set (λ slot. slot < n + 1) slots p n (omega arith) (All-weaker (λ slot. slot < n) (λ slot. slot < n + 1) (λ slot less. omega arith) slots are.below);
  apart = λ i j i_in j_in own same. apart i j (rw length-set at i_in) (rw length-set at j_in) own same (cases_eq i p) (cases_eq j p);
  free = omega (arith, are.free, sum_by-set in_none slots p n 0 inside, ap in_none none, length-set slots p n, used n (omega (arith, below_at slots n p are inside)));
}
  where
    used : (slot : ℕ) → 0 < slot → in_none slot ≡ 0
    used slot own = grind (arith, nat_tests)

    new : (i : ℕ) → i ≡ p → get_or (set slots p n) i 0 ≡ n
    new i at = ap (λ k. get_or (set slots p n) k 0) at ∙ get_or-set_same slots p n 0 inside

    old : (i : ℕ) → (i ≡ p → ⊥) → get_or (set slots p n) i 0 ≡ get_or slots i 0
    old i off = get_or-set_other slots p i n 0 off

    apart : (i j : ℕ) → i < length slots → j < length slots → 0 < get_or (set slots p n) i 0 → get_or (set slots p n) i 0 ≡ get_or (set slots p n) j 0
        → (i ≡ p) ⊎ (i ≡ p → ⊥) → (j ≡ p) ⊎ (j ≡ p → ⊥) → i ≡ j
    apart i j i_in j_in own same (inl at) (inl at_too) = at ∙ sym at_too
    apart i j i_in j_in own same (inl at) (inr off) = absurd (omega (arith, same, new i at, old j off, below_at slots n j are j_in))
    apart i j i_in j_in own same (inr off) (inl at) = absurd (omega (arith, same, old i off, new j at, below_at slots n i are i_in))
    apart i j i_in j_in own same (inr off) (inr off_too) =
        are.apart i j i_in j_in (subst (λ k. 0 < k) (old i off) own) (sym (old i off) ∙ same ∙ old j off_too)

module _ {X : Type 0} where
  pub get_or-same : (n i : ℕ) (d : X) → get_or (replicate n d) i d ≡ d
  get_or-same zero i d = refl
  get_or-same (suc n) zero d = refl
  get_or-same (suc n) (suc i) d = get_or-same n i d

  same_map : (f : ℕ → X) (n i : ℕ) → map f (replicate n i) ≡ replicate n (f i)
  same_map f zero i = refl
  same_map f (suc n) i = ap (λ xs. f i ∷ xs) (same_map f n i)

  -- one place stands for x, and each other for what it did
  map_at_one : (f g : ℕ → X) (slots : List ℕ) (p : ℕ) (x : X) → p < length slots → g (get_or slots p 0) ≡ x
      → ((q : ℕ) → q < length slots → (q ≡ p → ⊥) → g (get_or slots q 0) ≡ f (get_or slots q 0)) → map g slots ≡ set (map f slots) p x
  map_at_one f g slots p x inside here others =
      same_lists (map g slots) (set (map f slots) p x) (length-map slots g ∙ sym (length-set (map f slots) p x ∙ length-map slots f))
      (λ q d q_in. let within : q < length slots = rw length-map at q_in in get_or-map g slots q 0 d within ∙ go q d within (cases_eq q p))
    where
      go : (q : ℕ) (d : X) → q < length slots → (q ≡ p) ⊎ (q ≡ p → ⊥) → g (get_or slots q 0) ≡ get_or (set (map f slots) p x) q d
      go q d within (inl same) =
          let wide : p < length (map f slots) = rw length-map inside in
          ap (λ k. g (get_or slots k 0)) same ∙ here ∙ sym (ap (λ k. get_or (set (map f slots) p x) k d) same ∙ get_or-set_same (map f slots) p x d wide)
      go q d within (inr off) = others q within off ∙ sym (get_or-set_other (map f slots) p q x d off ∙ get_or-map f slots q 0 d within)

  -- a write to a direction of its own slot changes that one alone
  pub written : (slots : List ℕ) (touched : List X) (p slot : ℕ) (x d : X) → AreSlots slots (length touched) → p < length slots
      → slot ≡ get_or slots p 0 → 0 < slot
      → map (λ s. get_or (set touched slot x) s d) slots ≡ set (map (λ s. get_or touched s d) slots) p x
  written slots touched p slot x d are inside is own =
      let less = below_at slots (length touched) p are inside in
      let within : slot < length touched = omega arith in
      map_at_one (λ s. get_or touched s d) (λ s. get_or (set touched slot x) s d) slots p x inside
      (ap (λ s. get_or (set touched slot x) s d) (sym is) ∙ get_or-set_same touched slot x d within)
      (λ q q_in off. get_or-set_other touched slot (get_or slots q 0) x d
      (λ same. off (sym (are.apart p q inside q_in (subst (λ k. 0 < k) is own) (sym is ∙ sym same)))))

  -- one more at the end, which is what stands past the end
  get_or-one_more : (xs : List X) (i : ℕ) (d : X) → get_or (xs ++ d ∷ []) i d ≡ get_or xs i d
  get_or-one_more [] zero d = refl
  get_or-one_more [] (suc i) d = refl
  get_or-one_more (x ∷ xs) zero d = refl
  get_or-one_more (x ∷ xs) (suc i) d = get_or-one_more xs i d

  -- a direction that gets a slot stays as it was
  pub taken : (slots : List ℕ) (touched : List X) (p n : ℕ) (d : X) → n ≡ length touched → get_or touched 0 d ≡ d → get_or slots p 0 ≡ 0
      → map (λ s. get_or (touched ++ d ∷ []) s d) (set slots p n) ≡ map (λ s. get_or touched s d) slots
  taken slots touched p n d is first none =
      map-set_same (λ s. get_or (touched ++ d ∷ []) s d) slots p n 0
      (get_or-one_more touched n d ∙ get_or_past touched n d (omega arith)
      ∙ sym (get_or-one_more touched (get_or slots p 0) d ∙ ap (λ s. get_or touched s d) none ∙ first))
      ∙ same slots
    where
      same : (ss : List ℕ) → map (λ s. get_or (touched ++ d ∷ []) s d) ss ≡ map (λ s. get_or touched s d) ss
      same [] = refl
      same (s ∷ ss) = ap (λ x. x ∷ map (λ s. get_or (touched ++ d ∷ []) s d) ss) (get_or-one_more touched s d) ∙ ap (λ xs. get_or touched s d ∷ xs) (same ss)

-- A table after a touch of place i: it is sound and stands for the links, and the direction of that place has this slot of its own.
pub record IsTouched {M : Type 0} (t : Table M) (links : Links M) (i slot : ℕ) : Type 0 where
  pub sound : IsSound t
  pub same : links_in t ≡ links
  pub within : i < 1024
  pub at : slot ≡ slot_at i t
  pub own : 0 < slot

pub record IsCopy {M : Type 0} (t u : Table M) : Type 0 where
  pub same : links_in u ≡ links_in t
  pub sound : IsSound u

module _ {M : Type 0} where
  -- a table of the same slots and directions
  same_parts : (t u : Table M) → u.slots.items ≡ t.slots.items → u.touched.items ≡ t.touched.items → 1024 < vec_capacity u.touched → u.past ≡ t.past
      → IsSound t → IsCopy t u
  same_parts t u slots touched room past sound = record {
    same =
        ap (λ (ss : List ℕ). map (λ s. get_or u.touched.items s open_link) ss) slots
        ∙ ap (λ (ls : List (Link M)). map (λ s. get_or ls s open_link) t.slots.items) touched;
    sound = record {
      whole = ap (λ (ss : List ℕ). length ss) slots ∙ sound.whole;
      slots = rw (slots, touched) sound.slots;
      first = ap (λ (ls : List (Link M)). get_or ls 0 open_link) touched ∙ sound.first;
      room = room;
      end = rw past sound.end;
      rest = λ place from. ap (λ (ss : List ℕ). get_or ss place 0) slots ∙ sound.rest place (rw past at from);
    };
  }

  pub is_touched : (t : Table M) (old links : Links M) (place i slot : ℕ) → IsSound t → links_in t ≡ old → old ≡ links → place < 1024 → place ≡ i
      → slot ≡ slot_at place t → 0 < slot → IsTouched t links i slot
  is_touched t old links place i slot sound same is inside at here own = record {
    sound = sound;
    same = same ∙ is;
    within = subst (λ k. k < 1024) at inside;
    at = here ∙ ap (λ k. slot_at k t) at;
    own = own;
  }

  pub links_new : (slots : List ℕ) (touched : List (Link M)) → slots ≡ replicate 1024 0 → touched ≡ open_link ∷ []
      → map (λ s. get_or touched s open_link) slots ≡ replicate 1024 open_link
  links_new slots touched slots_are touched_are =
      ap (λ (ss : List ℕ). map (λ s. get_or touched s open_link) ss) slots_are
      ∙ ap (λ (ls : List (Link M)). map (λ s. get_or ls s open_link) (replicate 1024 0)) touched_are ∙ same_map (λ s. get_or (open_link ∷ []) s open_link) 1024 0

  -- at first all directions are in slot 0
  pub sound_new : (t : Table M) → t.slots.items ≡ replicate 1024 0 → t.touched.items ≡ open_link ∷ [] → 1024 < vec_capacity t.touched → t.past ≡ 0 → IsSound t
  sound_new t slots touched room past = record {
    whole = ap (λ (ss : List ℕ). length ss) slots;
    slots = rw (slots, touched) (slots_new 1024);
    first = ap (λ (ls : List (Link M)). get_or ls 0 open_link) touched;
    room = room;
    end = omega arith;
    rest = λ place lt. ap (λ (ss : List ℕ). get_or ss place 0) slots ∙ get_or-same 1024 place 0;
  }

  -- the table after a place got the next slot
  pub sound_taken : (t u : Table M) (place n : ℕ) → IsSound t → place < 1024 → slot_at place t ≡ 0 → n ≡ length t.touched.items
      → u.slots.items ≡ set t.slots.items place n → u.touched.items ≡ t.touched.items ++ open_link ∷ []
      → vec_capacity u.touched ≡ vec_capacity t.touched → u.past ≡ max t.past (place + 1) → IsSound u
  sound_taken t u place n sound inside none count slots touched room past = record {
    whole = ap (λ (ss : List ℕ). length ss) slots ∙ length-set t.slots.items place n ∙ sound.whole;
    slots = rw (slots, long) (slots_taken t.slots.items place n (rw (← count) at sound.slots) (omega (arith, inside, sound.whole)) none);
    first = ap (λ (ls : List (Link M)). get_or ls 0 open_link) touched ∙ get_or-one_more t.touched.items 0 open_link ∙ sound.first;
    room = omega (arith, sound.room, room);
    end = omega (arith, past, inside, sound.end);
    rest = λ q from. ap (λ (ss : List ℕ). get_or ss q 0) slots ∙ get_or-set_other t.slots.items place q n 0 (λ at. absurd (omega (arith, past, from, at)))
        ∙ sound.rest q (omega (arith, past, from));
  }
    where
      long : length u.touched.items ≡ n + 1
      long = ap (λ (ls : List (Link M)). length ls) touched ∙ length-append t.touched.items (open_link ∷ []) ∙ sym (ap (λ k. k + 1) count)

  -- the copy of a table of which a view shows the slots, and another the directions
  pub is_copy : (t u : Table M) (slots : List ℕ) (all : List (Link M)) (i : ℕ) → u.slots.items ≡ slots → slots ≡ t.slots.items
      → u.touched.items ≡ take i all → length all ≤ i → all ≡ t.touched.items → 1024 < vec_capacity u.touched → u.past ≡ t.past → IsSound t → IsCopy t u
  is_copy t u slots all i from is taken past touched room end sound = same_parts t u (from ∙ is) (taken ∙ take_all i all past ∙ touched) room end sound

  -- a direction that holds a message has a slot of its own
  own_of_held : (t : Table M) (links : Links M) (place i : ℕ) → IsSound t → links_in t ≡ links → place < 1024 → place ≡ i
      → 0 < length (get_or links i open_link).held → 0 < slot_at place t
  own_of_held t links place i sound same inside at some = go (slot_at place t) here
    where
      here : get_or links i open_link ≡ get_or t.touched.items (slot_at place t) open_link
      here = sym (ap (λ (ls : Links M). get_or ls i open_link) same) ∙ ap (λ k. get_or (links_in t) k open_link) (sym at)
          ∙ get_or-map (λ s. get_or t.touched.items s open_link) t.slots.items place 0 open_link (omega (arith, inside, sound.whole))

      go : (slot : ℕ) → get_or links i open_link ≡ get_or t.touched.items slot open_link → 0 < slot
      go zero e = absurd (omega (arith, some, ap (λ (l : Link M). length l.held) (e ∙ sound.first)))
      go (suc slot) e = omega arith

  pub held_touched : (t : Table M) {links : Links M} {place i slot : ℕ} → IsSound t → links_in t ≡ links → place < 1024 → place ≡ i
      → 0 < length (get_or links i open_link).held → slot ≡ get_or t.slots.items place slot → IsTouched t links i slot
  held_touched t {links = links} {place = place} {i = i} {slot = slot} sound same inside at some is =
      let here = get_or_read_under t.slots.items place 1024 slot 0 is inside (sym sound.whole) in
      is_touched t (links_in t) links place i slot sound refl same inside at here (rw here (own_of_held t links place i sound same inside at some))

  pub inside : {t : Table M} {links : Links M} {i slot : ℕ} → IsTouched t links i slot → i < length links
  inside {t = t} touched = omega (arith, touched.within, touched.sound.whole, length-map t.slots.items (λ s. get_or t.touched.items s open_link), ap (λ (ls : Links M). length ls) touched.same)

  pub whole : (t : Table M) → IsSound t → length (links_in t) ≡ 1024
  whole t sound = length-map t.slots.items (λ s. get_or t.touched.items s open_link) ∙ sound.whole

  pub whole_links : (t : Table M) {links : Links M} → IsSound t → links_in t ≡ links → length links ≡ 1024
  whole_links t sound is = ap (λ (ls : Links M). length ls) (sym is) ∙ whole t sound

  -- a table is as sound with another direction in a slot of its own
  pub sound_with : (t : Table M) (slot : ℕ) (x : Link M) → IsSound t → 0 < slot → IsSound (record t { touched = with_item t.touched slot x })
  sound_with t slot x sound own = record {
    whole = sound.whole;
    slots = subst (AreSlots t.slots.items) (sym (length-set t.touched.items slot x)) sound.slots;
    first = get_or-set_other t.touched.items slot 0 x open_link (λ same. absurd (omega arith)) ∙ sound.first;
    room = sound.room;
    end = sound.end;
    rest = sound.rest;
  }

  -- the direction in the slot is the link of that place
  pub read : {t : Table M} {links : Links M} {i slot : ℕ} (x : Link M) → IsTouched t links i slot → x ≡ get_or t.touched.items slot x → x ≡ get_or links i open_link
  read {t = t} {links = links} {i = i} {slot = slot} x touched at =
      let within : i < length t.slots.items = omega (arith, touched.within, touched.sound.whole) in
      let less = below_at t.slots.items (length t.touched.items) i touched.sound.slots within in
      at ∙ get_or_default t.touched.items slot x open_link (omega (arith, touched.at))
      ∙ ap (λ s. get_or t.touched.items s open_link) touched.at ∙ sym (get_or-map (λ s. get_or t.touched.items s open_link) t.slots.items i 0 open_link within)
      ∙ ap (λ (ls : Links M). get_or ls i open_link) touched.same

  -- and with another direction in that slot, all other links are as they were
  pub wrote : {t : Table M} {links : Links M} {i slot : ℕ} (x : Link M) → IsTouched t links i slot
      → links_in (record t { touched = with_item t.touched slot x }) ≡ set links i x
  wrote {t = t} {i = i} {slot = slot} x touched =
      written t.slots.items t.touched.items i slot x open_link touched.sound.slots (omega (arith, touched.within, touched.sound.whole)) touched.at touched.own
      ∙ ap (λ (ls : Links M). set ls i x) touched.same
