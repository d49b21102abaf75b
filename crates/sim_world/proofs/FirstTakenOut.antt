-- What the first occurrence leaves of the index and of the room, when it is taken out.
use Rattle.std.specs.Prelude.{◌≡◌, ℕ, ◌+◌, ◌-◌, ◌^◌, ◌<◌, ◌≤◌, ◌==◌, ◌&&◌, not, Bool, true, false, cond, List, [], ◌∷◌, length, map, Option, Some, None, slice_index_or, slice_set}
use Rattle.std.specs.List.{filter, count_by}
use Rattle.std.proofs.Common.{refl, sym, ap, subst, ◌∙◌, inl, inr, arith}
use Rattle.std.proofs.lemmas.Bool.{ne_eqb, eq-eqb, and_from}
use Rattle.sim_queue.specs.declared.Item.{Item}
use Rattle.sim_queue.specs.Pending.{Rise, IsQueue, take, without_serial}
use Rattle.sim_queue.proofs.First.{IsIn}
use Rattle.sim_world.specs.declared.index.Index.{Index}
use Rattle.sim_pending.specs.Occurrence.{Body, Occurrence, is_timer_of, is_message}
use Rattle.sim_world.specs.World.{World}
use Rattle.sim_world.specs.inside.Index.{IsIndex, timers_of, listed, flight_without, timers_without, is_other_of, others_of, others_without, IsOtherCounted}
use Rattle.sim_world.specs.Room.{HasRoom}
use Rattle.sim_world.proofs.Rises.{in_rise, without_absent, sum_by-without, rise_filter}
use Rattle.sim_world.proofs.SerialsLeft.{serials, take_only, filter_without}
use Rattle.sim_world.proofs.Indexes.{index-timer, index-other}
use Rattle.sim_world.proofs.Facts.{other_of_one}

module _ {B : Type 0} (p : Item B → Bool) where
  -- one that does not pass takes nothing of those that do
  pub without_other : (x : Item B) (lo : ℕ) (items : List (Item B)) (bound : ℕ) → Rise lo items bound → IsIn x items → p x ≡ false → filter p (without_serial x.serial items) ≡ filter p items
  without_other x lo [] bound r i e = absurd i
  without_other x lo (y ∷ items) bound r (inl same) e =
      let here : (y.serial == x.serial) ≡ true = eq-eqb y.serial x.serial (ap (λ (z : Item B). z.serial) (sym same)) in
      let lt : x.serial < y.serial + 1 = (let q = ap (λ (z : Item B). z.serial) same in omega arith) in
      let out : p y ≡ false = ap p (sym same) ∙ e in
      rw here (ap (filter p) (without_absent x.serial (y.serial + 1) items bound lt r.1) ∙ ap (λ b. cond b (y ∷ filter p items) (filter p items)) (sym out))
  without_other x lo (y ∷ items) bound r (inr i) e =
      let later : y.serial + 1 ≤ x.serial = in_rise x (y.serial + 1) items bound r.1 i in
      let apart : (y.serial == x.serial) ≡ false = ne_eqb y.serial x.serial (λ q. omega arith) in
      rw apart (ap (λ l. cond (p y) (y ∷ l) l) (without_other x (y.serial + 1) items bound r.1 i e))

  -- one that passes is among those that do
  passes : (x : Item B) (items : List (Item B)) → IsIn x items → p x ≡ true → serials p items ≡ [] → ⊥
  passes x [] i e l = absurd i
  passes x (y ∷ items) i e l = go (p y) refl (λ j m. passes x items j e m) i l
    where
      go : (b : Bool) → p y ≡ b → (IsIn x items → serials p items ≡ [] → ⊥) → IsIn x (y ∷ items) → map (λ (z : Item B). z.serial) (cond b (y ∷ filter p items) (filter p items)) ≡ [] → ⊥
      go true is rest j m = cc
      go false is rest (inl same) m = let t : p y ≡ true = ap p (sym same) ∙ e in cc
      go false is rest (inr j) m = rest j m

  -- the only one that passes
  is_only : (x : Item B) (items : List (Item B)) (s : ℕ) → IsIn x items → p x ≡ true → serials p items ≡ s ∷ [] → x.serial ≡ s
  is_only x [] s i e l = absurd i
  is_only x (y ∷ items) s i e l = go (p y) refl (λ j m. is_only x items s j e m) i l
    where
      go : (b : Bool) → p y ≡ b → (IsIn x items → serials p items ≡ s ∷ [] → x.serial ≡ s) → IsIn x (y ∷ items) → map (λ (z : Item B). z.serial) (cond b (y ∷ filter p items) (filter p items)) ≡ s ∷ [] → x.serial ≡ s
      go true is rest (inl same) f = let h : y.serial ≡ s = cc in ap (λ (z : Item B). z.serial) same ∙ h
      go true is rest (inr j) f = let none : serials p items ≡ [] = cc in absurd (passes x items j e none)
      go false is rest (inl same) f = let t : p y ≡ true = ap p (sym same) ∙ e in cc
      go false is rest (inr j) f = rest j f

  pub without_own : (x : Item B) (lo : ℕ) (items : List (Item B)) (bound : ℕ) (t : Option ℕ) → Rise lo items bound → IsIn x items → p x ≡ true → serials p items ≡ listed t
      → serials p (without_serial x.serial items) ≡ []
  without_own x lo items bound None r i e l = absurd (passes x items i e l)
  without_own x lo items bound (Some s) r i e l =
      let same : x.serial ≡ s = is_only x items s i e l in
      let one : serials p items ≡ x.serial ∷ [] = l ∙ ap (λ n. n ∷ []) (sym same) in
      ap (serials p) (take_only p lo items bound x.serial r one) ∙ ap (map (λ (z : Item B). z.serial)) (filter_without p items)

counted_one : (b : Bool) → b ≡ true → (let n : ℕ = cond b 1 0 in n ≡ 1)
counted_one true e = refl
counted_one false e = cc

counted_none : (b : Bool) → b ≡ false → (let n : ℕ = cond b 1 0 in n ≡ 0)
counted_none true e = cc
counted_none false e = refl

-- what does not pass is not counted
pub count_without_other : {B : Type 0} (p : Item B → Bool) (x : Item B) (lo : ℕ) (items : List (Item B)) (bound : ℕ) → Rise lo items bound → IsIn x items → p x ≡ false
    → count_by p (without_serial x.serial items) ≡ count_by p items
count_without_other p x lo items bound rise i e =
    let split : count_by p (without_serial x.serial items) + cond (p x) 1 0 ≡ count_by p items = sum_by-without (λ y. cond (p y) 1 0) x lo items bound rise i in
    let none = counted_none (p x) e in
    omega arith

timer_here : {Msg : Type 0} (k : ℕ) (x : Item (Occurrence Msg)) → x.body.body ≡ Body.Timer → is_timer_of k x ≡ (x.body.host == k)
timer_here k x e = ap (λ b. (x.body.host == k) && (elim b [ Body.Timer ↦ true | _ ↦ false ])) e ∙ and_true (x.body.host == k)
  where
    and_true : (b : Bool) → (b && true) ≡ b
    and_true true = refl
    and_true false = refl

and_none : (b : Bool) → (b && false) ≡ false
and_none true = refl
and_none false = refl

module _ {State Msg : Type 0} (old new : Index) (c : ℕ) (w : World State Msg) (x : Item (Occurrence Msg)) (rise : IsQueue w.queue) (i : IsIn x w.queue.items) where
  -- how many messages are left
  left_messages : count_by is_message (without_serial x.serial w.queue.items) + cond (is_message x) 1 0 ≡ count_by is_message w.queue.items
  left_messages = sum_by-without (λ y. cond (is_message y) 1 0) x 0 w.queue.items w.queue.next_serial rise i

  -- how many messages are in flight then
  pub flight_took : IsIndex old w → count_by is_message (without_serial x.serial w.queue.items) ≡ flight_without x.body.body old.in_flight
  flight_took idx = go x.body.body refl
    where
      plain : is_message x ≡ false → count_by is_message (without_serial x.serial w.queue.items) ≡ old.in_flight
      plain none = let n = counted_none (is_message x) none in let l = left_messages in let f = idx.in_flight in omega arith

      go : (body : Body Msg) → x.body.body ≡ body → count_by is_message (without_serial x.serial w.queue.items) ≡ flight_without x.body.body old.in_flight
      go Body.Start is = plain (ap (λ z. elim z [ Body.Message s m ↦ true | _ ↦ false ]) is) ∙ sym (ap (λ z. flight_without z old.in_flight) is)
      go Body.Timer is = plain (ap (λ z. elim z [ Body.Message s m ↦ true | _ ↦ false ]) is) ∙ sym (ap (λ z. flight_without z old.in_flight) is)
      go (Body.Message sender msg) is =
          let n = counted_one (is_message x) (ap (λ z. elim z [ Body.Message s m ↦ true | _ ↦ false ]) is) in let l = left_messages in let f = idx.in_flight in
          let one : count_by is_message (without_serial x.serial w.queue.items) ≡ old.in_flight - 1 = omega arith in
          one ∙ sym (ap (λ z. flight_without z old.in_flight) is)
      go (Body.Sync count) is = plain (ap (λ z. elim z [ Body.Message s m ↦ true | _ ↦ false ]) is) ∙ sym (ap (λ z. flight_without z old.in_flight) is)

  same_timers : (k : ℕ) → is_timer_of k x ≡ false → timers_of k (without_serial x.serial w.queue.items) ≡ timers_of k w.queue.items
  same_timers k e = ap (map (λ (z : Item (Occurrence Msg)). z.serial)) (without_other (is_timer_of k) x 0 w.queue.items w.queue.next_serial rise i e)

  same_others : (k : ℕ) → is_other_of k x ≡ false → others_of k (without_serial x.serial w.queue.items) ≡ others_of k w.queue.items
  same_others k e = count_without_other (is_other_of k) x 0 w.queue.items w.queue.next_serial rise i e

  -- a start or a sync of a host is one of those that are counted
  pub other_is_counted : IsIndex old w → x.body.host < length w.hosts → is_other_of x.body.host x ≡ true
      → others_of x.body.host (without_serial x.serial w.queue.items) + 1 ≡ slice_index_or old.others.items x.body.host 0
  other_is_counted idx lt e =
      let split : others_of x.body.host (without_serial x.serial w.queue.items) + cond (is_other_of x.body.host x) 1 0 ≡ others_of x.body.host w.queue.items =
      sum_by-without (λ y. cond (is_other_of x.body.host y) 1 0) x 0 w.queue.items w.queue.next_serial rise i in
      let one = counted_one (is_other_of x.body.host x) e in
      let is = idx.others x.body.host lt in
      omega arith

  own : (body : Body Msg) → x.body.body ≡ body → (elim body [ Body.Start ↦ true | Body.Sync count ↦ true | _ ↦ false ]) ≡ true → is_other_of x.body.host x ≡ true
  own body is one =
      let here : (x.body.host == x.body.host) ≡ true = eq-eqb x.body.host x.body.host refl in
      let it : (elim x.body.body [ Body.Start ↦ true | Body.Sync count ↦ true | _ ↦ false ]) ≡ true = ap (λ z. elim z [ Body.Start ↦ true | Body.Sync count ↦ true | _ ↦ false ]) is ∙ one in
      and_from (x.body.host == x.body.host) _ here it

  pub other_counted : IsIndex old w → x.body.host < length w.hosts → IsOtherCounted x.body.body (slice_index_or old.others.items x.body.host 0)
  other_counted idx lt = go x.body.body refl
    where
      number : ℕ
      number = slice_index_or old.others.items x.body.host 0

      some : (body : Body Msg) → x.body.body ≡ body → (elim body [ Body.Start ↦ true | Body.Sync count ↦ true | _ ↦ false ]) ≡ true → 0 < slice_index_or old.others.items x.body.host 0
      some body is one = let n = other_is_counted idx lt (own body is one) in omega arith

      go : (body : Body Msg) → x.body.body ≡ body → IsOtherCounted x.body.body number
      go Body.Start is = subst (λ b. IsOtherCounted b number) (sym is) (some Body.Start is refl)
      go Body.Timer is = subst (λ b. IsOtherCounted b number) (sym is) tt
      go (Body.Message sender msg) is = subst (λ b. IsOtherCounted b number) (sym is) tt
      go (Body.Sync count) is = subst (λ b. IsOtherCounted b number) (sym is) (some (Body.Sync count) is refl)

  index_other : new.in_flight ≡ old.in_flight → new.held ≡ old.held → new.timers.items ≡ old.timers.items
      → new.others.items ≡ slice_set old.others.items x.body.host (slice_index_or old.others.items x.body.host 0 - 1)
      → is_message x ≡ false → ((k : ℕ) → is_timer_of k x ≡ false) → is_other_of x.body.host x ≡ true → x.body.host < length w.hosts
      → IsIndex old w → IsIndex new (record w { clock = c; queue = take x.serial w.queue })
  index_other a b d o no_message no_timer other lt idx =
      index-other old new w (record w { clock = c; queue = take x.serial w.queue }) x.body.host (slice_index_or old.others.items x.body.host 0 - 1) a b d o lt refl
      (let n = counted_none (is_message x) no_message in let l = left_messages in omega arith)
      refl (λ k. same_timers k (no_timer k))
      (let n = other_is_counted idx lt other in omega arith)
      (λ k apart. same_others k (other_of_one x.body.host k x apart refl))
      idx

  index_message : new.in_flight ≡ old.in_flight - 1 → new.held ≡ old.held → new.timers.items ≡ old.timers.items → new.others.items ≡ old.others.items → is_message x ≡ true → ((k : ℕ) → is_timer_of k x ≡ false)
      → ((k : ℕ) → is_other_of k x ≡ false)
      → IsIndex old w → IsIndex new (record w { clock = c; queue = take x.serial w.queue })
  index_message a b d o message no_timer no_other idx = record {
    in_flight = (let n = counted_one (is_message x) message in let l = left_messages in let f = idx.in_flight in omega arith);
    held = b ∙ idx.held;
    few = (let f = idx.few in omega arith);
    hosts = ap length d ∙ idx.hosts;
    timers = λ k lt. same_timers k (no_timer k) ∙ (idx.timers k lt ∙ ap (λ l. listed (slice_index_or l k None)) (sym d));
    counted = ap length o ∙ idx.counted;
    others = λ k lt. same_others k (no_other k) ∙ (idx.others k lt ∙ ap (λ l. slice_index_or l k 0) (sym o));
  }

  index_own_timer : new.in_flight ≡ old.in_flight → new.held ≡ old.held → new.timers.items ≡ slice_set old.timers.items x.body.host None → new.others.items ≡ old.others.items → x.body.body ≡ Body.Timer → is_message x ≡ false → x.body.host < length w.hosts
      → ((k : ℕ) → is_other_of k x ≡ false) → IsIndex old w → IsIndex new (record w { clock = c; queue = take x.serial w.queue })
  index_own_timer a b d o timer no_message lt no_other idx =
      index-timer old new w (record w { clock = c; queue = take x.serial w.queue }) x.body.host None a b d o lt refl
      (let n = counted_none (is_message x) no_message in let l = left_messages in omega arith)
      refl
      (without_own (is_timer_of x.body.host) x 0 w.queue.items w.queue.next_serial (slice_index_or old.timers.items x.body.host None) rise i
      (timer_here x.body.host x timer ∙ eq-eqb x.body.host x.body.host refl) (idx.timers x.body.host lt))
      (λ k apart. same_timers k (timer_here k x timer ∙ ne_eqb x.body.host k (λ e. apart (sym e))))
      (λ k. same_others k (no_other k))
      idx

  pub index_took : new.in_flight ≡ flight_without x.body.body old.in_flight → new.held ≡ old.held → new.timers.items ≡ timers_without x.body.host x.body.body old.timers.items
      → new.others.items ≡ others_without x.body.host x.body.body old.others.items → x.body.host < length w.hosts → IsIndex old w → IsIndex new (record w { clock = c; queue = take x.serial w.queue })
  index_took a b d o lt idx = go x.body.body refl
    where
      no_timer : (body : Body Msg) → x.body.body ≡ body → (elim body [ Body.Timer ↦ true | _ ↦ false ]) ≡ false → (k : ℕ) → is_timer_of k x ≡ false
      no_timer body is none k = ap (λ z. (x.body.host == k) && (elim z [ Body.Timer ↦ true | _ ↦ false ])) is ∙ (ap (λ z. (x.body.host == k) && z) none ∙ and_none (x.body.host == k))

      no_other : (body : Body Msg) → x.body.body ≡ body → (elim body [ Body.Start ↦ true | Body.Sync count ↦ true | _ ↦ false ]) ≡ false → (k : ℕ) → is_other_of k x ≡ false
      no_other body is none k =
          ap (λ z. (x.body.host == k) && (elim z [ Body.Start ↦ true | Body.Sync count ↦ true | _ ↦ false ])) is ∙ (ap (λ z. (x.body.host == k) && z) none ∙ and_none (x.body.host == k))

      message : (body : Body Msg) → x.body.body ≡ body → is_message x ≡ (elim body [ Body.Message sender msg ↦ true | _ ↦ false ])
      message body is = ap (λ z. elim z [ Body.Message sender msg ↦ true | _ ↦ false ]) is

      flight : (body : Body Msg) → x.body.body ≡ body → new.in_flight ≡ flight_without body old.in_flight
      flight body is = a ∙ ap (λ z. flight_without z old.in_flight) is

      serials_left : (body : Body Msg) → x.body.body ≡ body → new.timers.items ≡ timers_without x.body.host body old.timers.items
      serials_left body is = d ∙ ap (λ z. timers_without x.body.host z old.timers.items) is

      numbers_left : (body : Body Msg) → x.body.body ≡ body → new.others.items ≡ others_without x.body.host body old.others.items
      numbers_left body is = o ∙ ap (λ z. others_without x.body.host z old.others.items) is

      go : (body : Body Msg) → x.body.body ≡ body → IsIndex new (record w { clock = c; queue = take x.serial w.queue })
      go Body.Start is =
          index_other (flight Body.Start is) b (serials_left Body.Start is) (numbers_left Body.Start is) (message Body.Start is) (no_timer Body.Start is refl) (own Body.Start is refl) lt idx
      go Body.Timer is =
          index_own_timer (flight Body.Timer is) b (serials_left Body.Timer is) (numbers_left Body.Timer is) is (message Body.Timer is) lt (no_other Body.Timer is refl) idx
      go (Body.Message sender msg) is =
          let m : Body Msg = Body.Message sender msg in
          index_message (flight m is) b (serials_left m is) (numbers_left m is) (message m is) (no_timer m is refl) (no_other m is refl) idx
      go (Body.Sync count) is =
          let m : Body Msg = Body.Sync count in
          index_other (flight m is) b (serials_left m is) (numbers_left m is) (message m is) (no_timer m is refl) (own m is refl) lt idx

module _ {State Msg : Type 0} (w : World State Msg) (x : Item (Occurrence Msg)) where
  pub room_begun : (n : ℕ) → x.due < 2 ^ 40 → HasRoom n w → HasRoom n (record w { clock = x.due; queue = take x.serial w.queue })
  room_begun n due k = record {
    clock = due;
    queue = rise_filter (λ y. not (y.serial == x.serial)) 0 w.queue.items w.queue.next_serial k.queue;
    serials = k.serials;
    places = k.places;
    words = k.words;
    writes = k.writes;
    links = k.links;
    few = k.few;
  }
