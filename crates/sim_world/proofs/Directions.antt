-- A direction is changed: the world after it, what leads back, and the counts.
use Rattle.std.specs.Prelude.{◌≡◌, ℕ, ◌+◌, ◌-◌, ◌^◌, ◌<◌, ◌≤◌, ◌==◌, ◌&&◌, Bool, true, false, List, [], ◌∷◌, length}
use Rattle.std.specs.List.{sum_by}
use Rattle.std.proofs.Common.{refl, sym, ap, ◌∙◌, subst, arith}
use Rattle.sim_node.specs.Node.{NodeRecords}
use Rattle.sim_queue.specs.Pending.{Pending, IsQueue, uninsert_all}
use Rattle.sim_links.specs.declared.Change.{Change}
use Rattle.sim_links.specs.declared.Change.TheVariants as change
use Rattle.sim_links.specs.declared.LinkUndo.{LinkUndo}
use Rattle.sim_links.specs.Link.{Link, Links, link, with_link, changed, let_go, state_after, kept_in, direction}
use Rattle.sim_links.specs.Link as links
use Rattle.std.specs.declared.vec.Vec.{Vec}
use Rattle.sim_world.specs.declared.index.Index.{Index}
use Rattle.sim_world.specs.declared.small.Small.TheVariants as small
use Rattle.sim_pending.specs.Occurrence.{Occurrence}
use Rattle.sim_world.specs.World.{World, one_way, on_release, arrived, in_flight, held_messages, all_arrived}
use Rattle.sim_pending.specs.Recall.{newest_messages, AreNewest}
use Rattle.sim_world.specs.Records.{FitsOne, back_one}
use Rattle.sim_world.specs.inside.Trail.{Changes, Extends, added}
use Rattle.sim_world.specs.inside.Index.{IsIndex, timers_of, others_of}
use Rattle.sim_world.proofs.Trails.{extends-push}
use Rattle.sim_world.proofs.Arrivals.{serial-arrived, uninsert_all-arrived, AreNewest-arrived, newest_messages-arrived, arrived-queue}
use Rattle.sim_world.proofs.SoundEffects.{held-with_link}
use Rattle.sim_world.proofs.SoundFaults.{kept-let_go, in_flight-arrived}
use Rattle.sim_world.proofs.Facts.{timers-insert_other, others-insert_none}

direction-within : (a b : ℕ) → a < 32 → b < 32 → direction a b < 1024
direction-within a b p q = omega arith

-- what is counted is small: where n messages are among the h held beside f in flight, m is that number
pub counted_small : (f h n m : ℕ) → m ≡ n → n ≤ h → f + h ≤ 4096 → m < 2 ^ 32
counted_small f h n m same few all = omega arith

pub flight_small : (f h n m : ℕ) → m ≡ n → n ≤ h → f + h ≤ 4096 → f + m < 2 ^ 32
flight_small f h n m same few all = omega arith

pub serials_small : (s f h n : ℕ) → n ≤ h → f + h ≤ 4096 → s + 4096 < 2 ^ 40 → s + n < 2 ^ 40
serials_small s f h n few all room = omega arith

module _ {State Msg : Type 0} (w : World State Msg) (table : Links Msg) (a b : ℕ) where
  -- a change that drops what leaves the direction
  pub closed_world : (c : Change) → ((ms : List Msg) → on_release c ms ≡ []) → table ≡ with_link a b (changed c (link a b w.links)) w.links
      → record w { links = table } ≡ one_way c a b w
  unfolding one_way
  closed_world c other e =
      ap (λ t. record w { links = t }) e
      ∙ sym (ap (λ ms. arrived a b ms (record w { links = with_link a b (changed c (link a b w.links)) w.links })) (other (let_go c (link a b w.links))))

  -- a release, by which what leaves the direction arrives
  pub released_world : (q : Pending (Occurrence Msg)) (ms : List Msg) → table ≡ with_link a b (changed change.Release (link a b w.links)) w.links
      → ms ≡ let_go change.Release (link a b w.links) → q ≡ all_arrived w.clock a b ms w.queue
      → record w { links = table; queue = q } ≡ one_way change.Release a b w
  unfolding one_way
  released_world q ms e left arr =
      let l : Link Msg = link a b w.links in
      let t : Links Msg = with_link a b (changed change.Release l) w.links in
      ap (λ x. record w { links = x; queue = q }) e
      ∙ (ap (λ x. record w { links = t; queue = x }) (arr ∙ ap (λ x. all_arrived w.clock a b x w.queue) left)
      ∙ sym (arrived-queue a b (let_go change.Release l) (record w { links = t })))

  -- what is held after a change, and what left
  held-changed : (c : Change) → length w.links ≡ 1024 → a < 32 → b < 32 → table ≡ with_link a b (changed c (link a b w.links)) w.links
      → sum_by (λ l. length l.held) table + length (let_go c (link a b w.links)) ≡ held_messages w
  held-changed c long p q e =
      let l : Link Msg = link a b w.links in
      let lt : direction a b < 1024 = direction-within a b p q in
      let one : sum_by (λ (z : Link Msg). length z.held) (with_link a b (changed c l) w.links) + length l.held ≡ held_messages w + length (changed c l).held = held-with_link a b (changed c l) w (omega arith) in
      let two : length (changed c l).held + length (let_go c l) ≡ length l.held = kept-let_go c l in
      let three : sum_by (λ (z : Link Msg). length z.held) table ≡ sum_by (λ (z : Link Msg). length z.held) (with_link a b (changed c l) w.links) = ap (λ t. sum_by (λ (z : Link Msg). length z.held) t) e in
      omega arith

  -- what leaves a direction was held, so it is counted
  pub left_few : (c : Change) (index : Index) (ms : List Msg) → IsIndex index w → length w.links ≡ 1024 → a < 32 → b < 32
      → ms ≡ let_go c (link a b w.links) → table ≡ with_link a b (changed c (link a b w.links)) w.links → length ms ≤ index.held
  left_few c index ms is long p q left e =
      let sums = held-changed c long p q e in let same : length ms ≡ length (let_go c (link a b w.links)) = ap length left in let h = is.held in omega arith

  pub closed_index : (c : Change) (index : Index) (n : ℕ) → IsIndex index w → length w.links ≡ 1024 → a < 32 → b < 32
      → n ≡ length (let_go c (link a b w.links)) → table ≡ with_link a b (changed c (link a b w.links)) w.links
      → IsIndex (record index { held = index.held - n }) (record w { links = table })
  closed_index c index n is long p q gone e =
      let sums = held-changed c long p q e in let h = is.held in let few' = is.few in
      record { in_flight = is.in_flight; held = omega arith; few = omega arith; hosts = is.hosts; timers = is.timers; counted = is.counted; others = is.others }

  timers-arrived : (due h : ℕ) (ms : List Msg) (q : Pending (Occurrence Msg)) → timers_of h (all_arrived due a b ms q).items ≡ timers_of h q.items
  timers-arrived due h [] q = refl
  timers-arrived due h (m ∷ ms) q = timers-arrived due h ms _ ∙ timers-insert_other h q.items _ (no_timer (b == h))
    where
      no_timer : (t : Bool) → (t && false) ≡ false
      no_timer true = refl
      no_timer false = refl

  others-arrived : (due h : ℕ) (ms : List Msg) (q : Pending (Occurrence Msg)) → others_of h (all_arrived due a b ms q).items ≡ others_of h q.items
  others-arrived due h [] q = refl
  others-arrived due h (m ∷ ms) q = others-arrived due h ms _ ∙ others-insert_none h q.items _ (no_other (b == h))
    where
      no_other : (t : Bool) → (t && false) ≡ false
      no_other true = refl
      no_other false = refl

  pub released_index : (index : Index) (q : Pending (Occurrence Msg)) (n : ℕ) (ms : List Msg) → IsIndex index w → length w.links ≡ 1024 → a < 32 → b < 32
      → n ≡ length ms → ms ≡ let_go change.Release (link a b w.links) → table ≡ with_link a b (changed change.Release (link a b w.links)) w.links
      → q ≡ all_arrived w.clock a b ms w.queue
      → IsIndex (record index { held = index.held - n; in_flight = index.in_flight + n }) (record w { links = table; queue = q })
  released_index index q n ms is long p r count left e arr =
      let sums = held-changed change.Release long p r e in
      let same : length ms ≡ length (let_go change.Release (link a b w.links)) = ap length left in
      let h = is.held in let f = is.in_flight in let few' = is.few in
      let flights : in_flight (record w { queue = q }) ≡ in_flight w + length ms = ap (λ x. in_flight (record w { queue = x })) arr ∙ (ap in_flight (sym (arrived-queue a b ms w)) ∙ in_flight-arrived a b ms w) in
      record {
        in_flight = omega arith;
        held = omega arith;
        few = omega arith;
        hosts = is.hosts;
        timers = λ k lt. ap (λ x. timers_of k x.items) arr ∙ (timers-arrived w.clock k ms w.queue ∙ is.timers k lt);
        counted = is.counted;
        others = λ k lt. ap (λ x. others_of k x.items) arr ∙ (others-arrived w.clock k ms w.queue ∙ is.others k lt);
      }

module _ {State Msg Undo : Type 0} (records : NodeRecords State Undo) (w : World State Msg) (table : Links Msg) (undo : LinkUndo) where
  -- what leads back over a change of a direction
  pub record LeadsOver (ms : List Msg) : Type 0 where
    pub from : undo.a < 32
    pub to : undo.b < 32
    pub fits : links.fits undo (link undo.a undo.b table)
    pub none_left : kept_in (state_after undo.change undo.was) ms ≡ []
    pub back : with_link undo.a undo.b (links.back undo ms (link undo.a undo.b table)) table ≡ w.links

  pub leads_over : (a b : ℕ) (ms : List Msg) → undo.a ≡ a → undo.b ≡ b → a < 32 → b < 32 → links.fits undo (link a b table)
      → kept_in (state_after undo.change undo.was) ms ≡ [] → with_link a b (links.back undo ms (link a b table)) table ≡ w.links → LeadsOver ms
  leads_over a b ms ea eb p q f none' bk = record {
    from = subst (λ x. x < 32) (sym ea) p;
    to = subst (λ x. x < 32) (sym eb) q;
    fits = subst (λ x. links.fits undo (link x undo.b table)) (sym ea) (subst (λ y. links.fits undo (link a y table)) (sym eb) f);
    none_left = none';
    back = subst (λ x. with_link x undo.b (links.back undo ms (link x undo.b table)) table ≡ w.links) (sym ea)
        (subst (λ y. with_link a y (links.back undo ms (link a y table)) table ≡ w.links) (sym eb) bk);
  }

  module _ {t t1 : Changes State Msg Undo} where
    pub extends-closed : (left : Vec Msg _) → LeadsOver left.items → t1 ≡ added t (small.Changed undo left ∷ [])
        → Extends records t w t1 (record w { links = table })
    unfolding FitsOne back_one
    extends-closed left l e =
        extends-push records (small.Changed undo left) e (l.from, l.to, l.fits, l.none_left) (ap (λ x. record w { links = x }) l.back)

    pub extends-released : (a b : ℕ) (q : Pending (Occurrence Msg)) (n : ℕ) (ms : List Msg) → undo.a ≡ a → undo.b ≡ b → LeadsOver ms → IsQueue w.queue → n ≡ length ms
        → q ≡ all_arrived w.clock a b ms w.queue → t1 ≡ added t (small.Released undo n ∷ [])
        → Extends records t w t1 (record w { links = table; queue = q })
    unfolding FitsOne back_one
    extends-released a b q n ms ea eb l is count arrive e =
        let due : ℕ = w.clock in
        let arr : q ≡ all_arrived due undo.a undo.b ms w.queue =
        arrive ∙ (ap (λ x. all_arrived due x b ms w.queue) (sym ea) ∙ ap (λ y. all_arrived due undo.a y ms w.queue) (sym eb)) in
        let messages : newest_messages n q [] ≡ ms =
        ap (λ k. newest_messages k q []) count ∙ (ap (λ x. newest_messages (length ms) x []) arr ∙ newest_messages-arrived due undo.a undo.b ms w.queue is) in
        let before : uninsert_all n q ≡ w.queue =
        ap (λ k. uninsert_all k q) count ∙ (ap (λ x. uninsert_all (length ms) x) arr ∙ uninsert_all-arrived due undo.a undo.b ms w.queue is) in
        let newest : AreNewest n undo.a undo.b q =
        subst (λ k. AreNewest k undo.a undo.b q) (sym count) (subst (λ x. AreNewest (length ms) undo.a undo.b x) (sym arr) (AreNewest-arrived due undo.a undo.b ms w.queue is)) in
        extends-push records (small.Released undo n) e
        ((l.from, l.to, l.fits, subst (λ x. kept_in (state_after undo.change undo.was) x ≡ []) (sym messages) l.none_left), newest)
        (ap (λ x. record w { links = with_link undo.a undo.b (links.back undo x (link undo.a undo.b table)) table; queue = uninsert_all n q }) messages
        ∙ (ap (λ x. record w { links = x; queue = uninsert_all n q }) l.back ∙ ap (λ x. record w { queue = x }) before))

module _ {State Msg : Type 0} (w : World State Msg) (table : Links Msg) (a b : ℕ) where
  -- at most 4096 messages get a serial
  pub serials-released : (index : Index) (q : Pending (Occurrence Msg)) (ms : List Msg) → IsIndex index w → length w.links ≡ 1024 → a < 32 → b < 32
      → ms ≡ let_go change.Release (link a b w.links) → table ≡ with_link a b (changed change.Release (link a b w.links)) w.links
      → q ≡ all_arrived w.clock a b ms w.queue → q.next_serial ≤ w.queue.next_serial + 4096
  serials-released index q ms is long p r left e arr =
      let few' : length ms ≤ index.held = left_few w table a b change.Release index ms is long p r left e in
      let held : index.in_flight + index.held ≤ 4096 = is.few in
      let one : q.next_serial ≡ w.queue.next_serial + length ms = ap (λ x. x.next_serial) arr ∙ serial-arrived w.clock a b ms w.queue in
      omega arith
