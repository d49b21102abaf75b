-- What a ledger says of a world stays true as the effects of a reaction are carried out.
use Rattle.std.specs.Prelude.{◌≡◌, ◌≢◌, ℕ, zero, suc, ◌+◌, ◌-◌, ◌^◌, ◌<◌, ◌≤◌, ◌==◌, nat_le, Bool, true, false, not, cond, List, [], ◌∷◌, ◌++◌, length, drop, Some, slice_index, slice_index_or, slice_set}
use Rattle.std.specs.List.{filter, count_by}
use Rattle.std.proofs.Common.{refl, sym, ap, ◌∙◌, subst, arith}
use Rattle.std.proofs.lemmas.Bool.{eq-eqb, ne_eqb}
use Rattle.std.proofs.lemmas.List.{length-set, length_push, length-drop, get_or-set_same}
use Rattle.std.proofs.lemmas.List.Sums.{sum_by_push}
use Rattle.sim_streams.specs.Word.{stream_of}
use Rattle.sim_queue.specs.declared.Item.{Item}
use Rattle.sim_queue.specs.Pending.{IsQueue, first}
use Rattle.sim_links.specs.declared.LinkState.TheVariants as state
use Rattle.sim_links.specs.declared.LinkState.{LinkState}
use Rattle.sim_links.specs.Link.{Link, link, with_link, with_held, direction, open_link}
use Rattle.sim_disk.specs.Disk as disk
use Rattle.sim_pending.specs.Occurrence.{Body, Occurrence, is_message, is_timer_of}
use Rattle.sim_pending.specs.Fate.{latency}
use Rattle.sim_world.specs.declared.host.Host.{Host}
use Rattle.sim_world.specs.World.{World, stopped, host_at, place, drawn, with_host, with_node, with_disk, queued, made_stable, in_flight, held_messages, is_full, held_back, timed, wrote}
use Rattle.sim_world.specs.Events.{Rules, sent, sent_open, sent_over, asked, begun}
use Rattle.sim_world.specs.Room.{HasRoom, IsCovered}
use Rattle.sim_account.specs.declared.fate.Fate.{Fate}
use Rattle.sim_account.specs.declared.fate.Fate.TheVariants as fate
use Rattle.sim_account.specs.declared.ledger.Ledger.{Ledger}
use Rattle.sim_account.specs.Account.{open_fate, fate_over, sent_fate}
use Rattle.sim_account.specs.inside.Ledger.{Follows, HasRoomFor, ledger_of}
use Rattle.sim_world.proofs.Counts.{count_by-filter_le, each-set, sum_by-filter_same}
use Rattle.sim_world.proofs.Indexes.{timer_counts_none, counted}
use Rattle.sim_world.proofs.PartChanges.{cond_true, cond_false}
use Rattle.sim_world.proofs.Rises.{first-in, sum_by-without}
use Rattle.sim_world.proofs.Sends.{sent_full, sent_here, sent_there}
use Rattle.sim_world.proofs.SoundEffects.{held-with_link}

module _ {State Msg : Type 0} (h : ℕ) (base : World State Msg) (l : Ledger) (w : World State Msg) (f : Follows l h base w) where
  pub follows_queued : (due to : ℕ) (m : Msg) → Follows (record l { serial = l.serial + 1; messages = l.messages + 1 }) h base (queued due to (Body.Message h m) w)
  follows_queued due to m =
      let x : Item (Occurrence Msg) = record { due = due; serial = w.queue.next_serial; body = record { host = to; body = Body.Message h m } } in
      let more : in_flight (queued due to (Body.Message h m) w) ≡ in_flight w + 1 = sum_by_push (λ y. cond (is_message y) 1 0) w.queue.items x in
      record {
        clock = f.clock;
        words = f.words;
        serial = ap (λ n. n + 1) f.serial;
        messages = (let e : in_flight w + held_messages w ≡ l.messages = f.messages in omega arith);
        unasked = f.unasked;
        covered = f.covered;
        states = f.states;
        links = f.links;
        places = f.places;
        host = f.host;
      }

  pub follows_held : (to : ℕ) (m : Msg) → direction h to < 1024 → Follows (record l { messages = l.messages + 1 }) h base (held_back h to m w)
  unfolding held_back
  follows_held to m lt =
      let old : Link Msg = link h to w.links in
      let new : Link Msg = with_held m old in
      let e = held-with_link h to new w (let long : length w.links ≡ 1024 = f.links in omega arith) in
      let one : length (old.held ++ m ∷ []) ≡ length old.held + 1 = length_push old.held m in
      let same : (k : ℕ) → (slice_index_or (with_link h to new w.links) k open_link).state ≡ (slice_index_or w.links k open_link).state =
      each-set (λ k x. x.state ≡ (slice_index_or w.links k open_link).state) w.links (direction h to) new open_link refl (λ k. refl) in
      record {
        clock = f.clock;
        words = f.words;
        serial = f.serial;
        messages = (let was : in_flight w + held_messages w ≡ l.messages = f.messages in omega arith);
        unasked = f.unasked;
        covered = f.covered;
        states = λ a b. same (direction a b) ∙ f.states a b;
        links = length-set w.links (direction h to) new ∙ f.links;
        places = f.places;
        host = f.host;
      }

  pub follows_timed : (delay : ℕ) → Follows (record l { serial = l.serial + 1 }) h base (timed h delay w)
  unfolding timed
  follows_timed delay =
      let left : List (Item (Occurrence Msg)) = filter (λ x. not (is_timer_of h x)) w.queue.items in
      let x : Item (Occurrence Msg) = record { due = w.clock + delay; serial = w.queue.next_serial; body = record { host = h; body = Body.Timer } } in
      let more : in_flight (timed h delay w) ≡ count_by is_message left + 0 = sum_by_push (λ y. cond (is_message y) 1 0) left x in
      let same : count_by is_message left ≡ in_flight w =
      sum_by-filter_same (λ y. cond (is_message y) 1 0) (λ y. not (is_timer_of h y)) (λ y e. counted (is_message y) (timer_counts_none h y e)) w.queue.items in
      record {
        clock = f.clock;
        words = f.words;
        serial = ap (λ n. n + 1) f.serial;
        messages = (let was : in_flight w + held_messages w ≡ l.messages = f.messages in omega arith);
        unasked = f.unasked;
        covered = f.covered;
        states = f.states;
        links = f.links;
        places = f.places;
        host = f.host;
      }

  -- a host is written that has another disk
  pub follows_disk : (n : ℕ) (d : disk.Disk) → disk.not_asked d ≡ n → d.asked ≤ length d.writes → Follows (record l { unasked = n }) h base (with_disk h d w)
  follows_disk n d e le =
      let new : Host State = record (host_at h w) { disk = d } in
      let here : host_at h (with_disk h d w) ≡ new = get_or-set_same w.hosts h new stopped f.host in
      record {
        clock = f.clock;
        words = f.words;
        serial = f.serial;
        messages = f.messages;
        unasked = ap (λ (x : Host State). disk.not_asked x.disk) here ∙ e;
        covered = subst (λ (x : Host State). x.disk.asked ≤ length x.disk.writes) (sym here) le;
        states = f.states;
        links = f.links;
        places = f.places;
        host = (let long : length (with_disk h d w).hosts ≡ length w.hosts = length-set w.hosts h new in let there : h < length w.hosts = f.host in omega arith);
      }

  pub follows_added : (offset : ℕ) (bytes : List ℕ) → Follows (record l { unasked = l.unasked + 1 }) h base (with_disk h (disk.written offset bytes (host_at h w).disk) w)
  follows_added offset bytes =
      let d : disk.Disk = (host_at h w).disk in
      let more : length (disk.written offset bytes d).writes ≡ length d.writes + 1 = length_push d.writes (record { offset = offset; bytes = bytes }) in
      let was : length d.writes - d.asked ≡ l.unasked = f.unasked in
      let le : d.asked ≤ length d.writes = f.covered in
      follows_disk (l.unasked + 1) (disk.written offset bytes d) (omega arith) (omega arith)

  pub follows_all_asked : Follows (record l { unasked = 0 }) h base (with_disk h (disk.all_asked (host_at h w).disk) w)
  follows_all_asked = follows_disk 0 (disk.all_asked (host_at h w).disk) (omega arith) (omega arith)

  pub follows_done : Follows l h base (with_host h (record (host_at h w) { done = true }) w)
  follows_done =
      let new : Host State = record (host_at h w) { done = true } in
      let here : host_at h (with_host h new w) ≡ new = get_or-set_same w.hosts h new stopped f.host in
      record {
        clock = f.clock;
        words = f.words;
        serial = f.serial;
        messages = f.messages;
        unasked = ap (λ (x : Host State). disk.not_asked x.disk) here ∙ f.unasked;
        covered = subst (λ (x : Host State). x.disk.asked ≤ length x.disk.writes) (sym here) f.covered;
        states = f.states;
        links = f.links;
        places = f.places;
        host = (let long : length (with_host h new w).hosts ≡ length w.hosts = length-set w.hosts h new in let there : h < length w.hosts = f.host in omega arith);
      }

-- what is queued but no message leaves the rest as it is
pub follows_sync : {State Msg : Type 0} (r : Rules State Msg) (h : ℕ) (base : World State Msg) (l : Ledger) (w : World State Msg) → Follows l h base w
    → Follows (record l { serial = l.serial + 1; unasked = 0 }) h base (asked r h w)
unfolding asked
follows_sync {State} {Msg} r h base l w f =
    let v : World State Msg = with_disk h (disk.all_asked (host_at h w).disk) w in
    let g : Follows (record l { unasked = 0 }) h base v = follows_all_asked h base l w f in
    let body : Body Msg = Body.Sync (disk.not_asked (host_at h w).disk) in
    let x : Item (Occurrence Msg) = record { due = w.clock + r.scenario.disk_latency; serial = w.queue.next_serial; body = record { host = h; body = body } } in
    let more : in_flight (asked r h w) ≡ in_flight w + 0 = sum_by_push (λ y. cond (is_message y) 1 0) w.queue.items x in
    record {
      clock = g.clock;
      words = g.words;
      serial = ap (λ n. n + 1) g.serial;
      messages = (let was : in_flight w + held_messages w ≡ l.messages = f.messages in omega arith);
      unasked = g.unasked;
      covered = g.covered;
      states = g.states;
      links = g.links;
      places = g.places;
      host = g.host;
    }

-- The fate of a message, with what a ledger says once it is sent.
module _ {State Msg : Type 0} (r : Rules State Msg) (h to : ℕ) (base : World State Msg) (l : Ledger) (w : World State Msg) (m : Msg) (f : Follows l h base w) where
  full_by : (b : ℕ) → l.messages ≡ b → is_full w ≡ nat_le 4096 b
  full_by b e = ap (nat_le 4096) (f.messages ∙ e)

  pub told_full : nat_le 4096 l.messages ≡ true → (fate.Full ≡ sent_fate r h to w) × Follows l h base (sent r h to m w)
  told_full e =
      let full : is_full w ≡ true = full_by l.messages refl ∙ e in
      (sym (cond_true _ _ _ full), subst (λ v. Follows l h base v) (sym (sent_full r h to m w full)) f)

  module _ (few : nat_le 4096 l.messages ≡ false) where
    not_full : is_full w ≡ false
    not_full = full_by l.messages refl ∙ few

    pub told_here : h ≡ to
        → (fate.Pending (l.clock + 0) l.serial ≡ sent_fate r h to w)
        × Follows (record l { serial = l.serial + 1; messages = l.messages + 1 }) h base (sent r h to m w)
    told_here e =
        let now : l.clock + 0 ≡ w.clock = omega (arith, f.clock) in (
          ap (λ t. fate.Pending t l.serial) now ∙ ap (λ s. fate.Pending w.clock s) (sym f.serial) ∙ sym (cond_false _ _ _ not_full ∙ cond_true _ _ _ (eq-eqb h to e)),
          subst (λ v. Follows (record l { serial = l.serial + 1; messages = l.messages + 1 }) h base v) (sym (sent_here r h to m w not_full e)) (follows_queued h base l w f w.clock to m),
        )

    module _ (apart : h ≢ to) where
      over : (s : LinkState) → (link h to base.links).state ≡ s → sent_fate r h to w ≡ fate_over r s h to w
      over s e = cond_false _ _ _ not_full ∙ cond_false _ _ _ (ne_eqb h to apart) ∙ ap (λ z. fate_over r z h to w) (f.states h to ∙ e)

      goes : (s : LinkState) → (link h to base.links).state ≡ s → sent r h to m w ≡ sent_over r s h to m w
      goes s e = sent_there r h to m w not_full apart ∙ ap (λ z. sent_over r z h to m w) (f.states h to ∙ e)

      pub told_open : (t : Fate) (after : Ledger) → (link h to base.links).state ≡ state.Through
          → (t ≡ open_fate r h to w) × Follows after h base (sent_open r h to m w)
          → (t ≡ sent_fate r h to w) × Follows after h base (sent r h to m w)
      told_open t after e p = (p.0 ∙ sym (over state.Through e), subst (λ v. Follows after h base v) (sym (goes state.Through e)) p.1)

      pub told_held : (link h to base.links).state ≡ state.Held → direction h to < 1024
          → (fate.Held ≡ sent_fate r h to w) × Follows (record l { messages = l.messages + 1 }) h base (sent r h to m w)
      told_held e lt = (
        sym (over state.Held e),
        subst (λ v. Follows (record l { messages = l.messages + 1 }) h base v) (sym (goes state.Held e)) (follows_held h base l w f to m lt),
      )

      pub told_cut : (link h to base.links).state ≡ state.Cut → (fate.Cut ≡ sent_fate r h to w) × Follows l h base (sent r h to m w)
      told_cut e = (sym (over state.Cut e), subst (λ v. Follows l h base v) (sym (goes state.Cut e)) f)

-- The fates of the other effects.
module _ {State Msg : Type 0} (r : Rules State Msg) (h : ℕ) (base : World State Msg) (l : Ledger) (w : World State Msg) (f : Follows l h base w) where
  pub told_timer : (delay : ℕ)
      → (fate.Pending (l.clock + delay) l.serial ≡ fate.Pending (w.clock + delay) w.queue.next_serial)
      × Follows (record l { serial = l.serial + 1 }) h base (timed h delay w)
  told_timer delay = (
    ap (λ t. fate.Pending (t + delay) l.serial) (sym f.clock) ∙ ap (fate.Pending (w.clock + delay)) (sym f.serial),
    follows_timed h base l w f delay,
  )

  pub told_sync : (latency : ℕ) → latency ≡ r.scenario.disk_latency
      → (fate.Asked (l.clock + latency) l.serial l.unasked
      ≡ fate.Asked (w.clock + r.scenario.disk_latency) w.queue.next_serial (disk.not_asked (host_at h w).disk))
      × Follows (record l { serial = l.serial + 1; unasked = 0 }) h base (asked r h w)
  told_sync latency e = (
    ap (λ d. fate.Asked (l.clock + d) l.serial l.unasked) e
        ∙ ap (λ t. fate.Asked (t + r.scenario.disk_latency) l.serial l.unasked) (sym f.clock)
        ∙ ap (λ s. fate.Asked (w.clock + r.scenario.disk_latency) s l.unasked) (sym f.serial)
        ∙ ap (fate.Asked (w.clock + r.scenario.disk_latency) w.queue.next_serial) (sym f.unasked),
    follows_sync r h base l w f,
  )

  pub told_write : (offset len : ℕ) (bytes : List ℕ) → len ≡ length bytes
      → (cond (nat_le (offset + len) 4096) fate.Added fate.Skipped ≡ cond (nat_le (offset + length bytes) 4096) fate.Added fate.Skipped)
      × Follows (cond (nat_le (offset + len) 4096) (record l { unasked = l.unasked + 1 }) l) h base (wrote h offset bytes w)
  unfolding wrote
  told_write offset len bytes e =
      let fits : ℕ → Bool = λ n. nat_le (offset + n) 4096 in
      let more : World State Msg = with_disk h (disk.written offset bytes (host_at h w).disk) w in (
        ap (λ n. cond (fits n) fate.Added fate.Skipped) e,
        subst (λ n. Follows (cond (fits n) (record l { unasked = l.unasked + 1 }) l) h base (cond (fits (length bytes)) more w)) (sym e)
            (both (fits (length bytes)) more refl),
      )
    where
      both : (b : Bool) (more : World State Msg) → more ≡ with_disk h (disk.written offset bytes (host_at h w).disk) w
          → Follows (cond b (record l { unasked = l.unasked + 1 }) l) h base (cond b more w)
      both true more e = subst (Follows (record l { unasked = l.unasked + 1 }) h base) (sym e) (follows_added h base l w f offset bytes)
      both false more e = f

-- a place further on is written
first_stays : (xs : List ℕ) (i n : ℕ) → 0 < i → slice_index (slice_set xs i n) 0 ≡ slice_index xs 0
first_stays [] i n lt = refl
first_stays (x ∷ xs) zero n lt = absurd (omega arith)
first_stays (x ∷ xs) (suc i) n lt = refl

module _ {State Msg : Type 0} (h : ℕ) (base : World State Msg) (l : Ledger) (w : World State Msg) (f : Follows l h base w) where
  follows_own_word : Follows l h base (drawn 1 (stream_of h) w)
  follows_own_word = record {
    clock = f.clock;
    words = first_stays w.places (stream_of h) (place (stream_of h) w + 1) (omega arith) ∙ f.words;
    serial = f.serial;
    messages = f.messages;
    unasked = f.unasked;
    covered = f.covered;
    states = f.states;
    links = f.links;
    places = length-set w.places (stream_of h) (place (stream_of h) w + 1) ∙ f.places;
    host = f.host;
  }

  follows_node : (s : State) → Follows l h base (with_node h (Some s) w)
  follows_node s =
      let new : Host State = record (host_at h w) { node = Some s } in
      let here : host_at h (with_node h (Some s) w) ≡ new = get_or-set_same w.hosts h new stopped f.host in
      record {
        clock = f.clock;
        words = f.words;
        serial = f.serial;
        messages = f.messages;
        unasked = ap (λ (x : Host State). disk.not_asked x.disk) here ∙ f.unasked;
        covered = subst (λ (x : Host State). x.disk.asked ≤ length x.disk.writes) (sym here) f.covered;
        states = f.states;
        links = f.links;
        places = f.places;
        host = (let long : length (with_node h (Some s) w).hosts ≡ length w.hosts = length-set w.hosts h new in let there : h < length w.hosts = f.host in omega arith);
      }

  -- a sync that comes covers writes that were asked for
  follows_stable : (body : Body Msg) → IsCovered (record { host = h; body = body }) w → Follows l h base (made_stable h body w)
  follows_stable Body.Start covered = f
  follows_stable Body.Timer covered = f
  follows_stable (Body.Message sender msg) covered = f
  follows_stable (Body.Sync count) covered =
      let d : disk.Disk = (host_at h w).disk in
      let few : count ≤ d.asked = covered in
      let asked : d.asked ≤ length d.writes = f.covered in
      let was : length d.writes - d.asked ≡ l.unasked = f.unasked in
      let left : length (drop count d.writes) ≡ length d.writes - count = length-drop count d.writes in
      follows_disk h base l w f l.unasked (disk.synced count d) (omega arith) (omega arith)

-- two ledgers with the same numbers
abbrev numbers : ℕ → ℕ → ℕ → ℕ → ℕ → Ledger
numbers clock words serial messages unasked = record { clock = clock; words = words; serial = serial; messages = messages; unasked = unasked }

pub same_numbers : (clock words : ℕ) {s t m n a b : ℕ} → s ≡ t → m ≡ n → a ≡ b → numbers clock words s m a ≡ numbers clock words t n b
same_numbers clock words {s} {t} {m} {n} {a} {b} serial messages unasked =
    ap (λ k. numbers clock words k m a) serial ∙ ap (λ k. numbers clock words t k a) messages ∙ ap (numbers clock words t n) unasked

-- The ledger at the beginning of the reaction to the first occurrence.
module _ {State Msg : Type 0} (w : World State Msg) (x : Item (Occurrence Msg)) where
  -- the first occurrence is counted until it is taken out
  pub messages_then : first w.queue.items ≡ Some x → IsQueue w.queue → in_flight (begun x w) + cond (is_message x) 1 0 ≡ in_flight w
  messages_then first_is queue = sum_by-without (λ y. cond (is_message y) 1 0) x 0 w.queue.items w.queue.next_serial queue (first-in w.queue.items x first_is)

  -- there is room for the effects of a reaction
  pub room_first : HasRoom 40 w → x.due < 2 ^ 40 → in_flight w + held_messages w ≤ 4096 → HasRoomFor 40 (ledger_of x w)
  room_first room due few =
      let less : in_flight (begun x w) ≤ in_flight w = count_by-filter_le is_message (λ y. not (y.serial == x.serial)) w.queue.items in
      let writes : length (host_at x.body.host w).disk.writes + 40 ≤ 2 ^ 24 = room.writes x.body.host in
      record {
        clock = due;
        words = omega arith;
        serial = room.serials;
        messages = omega arith;
        unasked = omega arith;
      }

  pub follows_first : (s : State) → HasRoom 40 w → x.body.host < length w.hosts → (host_at x.body.host w).disk.asked ≤ length (host_at x.body.host w).disk.writes
      → IsCovered x.body w
      → Follows (ledger_of x w) x.body.host w
      (with_node x.body.host (Some s) (drawn 1 (stream_of x.body.host) (made_stable x.body.host x.body.body (begun x w))))
  follows_first s room lt asked covered =
      let h : ℕ = x.body.host in
      let l : Ledger = ledger_of x w in
      let here : Follows l h w (begun x w) = record {
        clock = refl;
        words = omega arith;
        serial = refl;
        messages = refl;
        unasked = refl;
        covered = asked;
        states = λ a b. refl;
        links = room.links;
        places = room.places;
        host = lt;
      } in
      let v : World State Msg = made_stable h x.body.body (begun x w) in
      let stable : Follows l h w v = follows_stable h w l (begun x w) here x.body.body covered in
      follows_node h w l (drawn 1 (stream_of h) v) (follows_own_word h w l v stable) s
