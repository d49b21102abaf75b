-- Lemmas on runs that grow or are cut, and on their checkpoints.
use Rattle.std.proofs.Common.{◌≡◌, ◌≢◌, ℕ, ◌+◌, ◌-◌, ◌<◌, ◌≤◌, true, false, List, [], ◌∷◌, ◌++◌, length, take, sym, ap, subst, ◌∙◌, ⊎_elim, Option, Some, None, arith, length-append, ◌*◌, ◌/◌, ◌%◌, add-zero, eq-eqb}
use Rattle.std.specs.Option.{IsSome, MatchOption}
use Rattle.std.proofs.lemmas.Bool.{cases_eq, false≢true}
use Rattle.std.proofs.lemmas.Option.{slice_get_within}
use Rattle.std.proofs.Math.Nat.{add-mul, one-mul, mod-lt, div-mul-le_self, div-eq_of_lt-le}
use Rattle.std.proofs.lemmas.Nat.{le-div}
use Rattle.std.proofs.lemmas.List.{length-take-le}
use Rattle.std.proofs.lemmas.Bool.Decides.{nat_tests}
use Rattle.std.specs.declared.sync.Arc.{Arc}
use Rattle.std.specs.Arc.{arc_value}
use Rattle.std.specs.Prelude.{nat_eq}
use Rattle.circular_buffer.proofs.Places.{slice_get-append_left, slice_get-take, slice_get-last}
use Rattle.sim_events.specs.declared.Event.{Event}
use Rattle.sim_world.specs.World.{World}
use Rattle.sim_world.specs.Records.{InHand}
use Rattle.sim_world.specs.Events.{Rules, run}
use Rattle.sim_history.specs.Entry.{Entry}
use Rattle.sim_history.specs.Log.{events_of}
use Rattle.sim_history.proofs.Entries.{events-take, events-length, events-push}
use Rattle.sim_history.proofs.Joined.{quotient, multiple}
use Rattle.sim_moves.specs.Places.{world_at, IsAt}
use Rattle.sim_moves.specs.Walk.{IsRun}
use Rattle.sim_moves.proofs.Placing.{some_same, run-front, at-extended}
use Rattle.sim_moves.proofs.Extending.{at-front, world_at-front, world_at-extended}
use Rattle.sim_tape.specs.Places.{AreCheckpoints}

pub same_quotient : (n k : ℕ) → 0 < k → (n + 1) % k ≢ 0 → (n + 1) / k ≡ n / k
same_quotient n k some part =
    let q : ℕ = (n + 1) / k in
    let is = quotient (n + 1) k in
    let less = mod-lt (n + 1) some in
    let next = add-mul q 1 k in
    let one = one-mul k in
    sym (div-eq_of_lt-le {k = q} k {m = n} (omega (arith, is, part)) (omega (arith, is, less, next, one)))

pub next_quotient : (n k : ℕ) → 0 < k → (n + 1) % k ≡ 0 → (n + 1) / k ≡ n / k + 1
next_quotient n k some whole =
    let q : ℕ = (n + 1) / k in
    let is = quotient (n + 1) k in
    let some_q : q ≢ 0 = λ none. let nothing = ap (λ (m : ℕ). m * k) none in absurd (omega (arith, is, whole, nothing)) in
    let m : ℕ = q - 1 in
    let up : m + 1 ≡ q = omega (arith, some_q) in
    let next = add-mul m 1 k ∙ ap (λ (x : ℕ). m * k + x) (one-mul k) in
    let product = ap (λ (x : ℕ). x * k) up in
    let before : n / k ≡ m = div-eq_of_lt-le {k = m} k {m = n} (omega (arith, is, whole, next, product, some)) (omega (arith, is, whole, next, product)) in
    omega (arith, before, up)

module _ {State Msg : Type 0} (r : Rules State Msg) where
  -- the first events of a run, with their clocks
  pub run-cut : (entries : List Entry) (n : ℕ) → IsRun r entries → n ≤ length entries → IsRun r (take n entries)
  run-cut entries n h le = record {
    limits = h.limits;
    few = (let few = h.few in omega (arith, length-take-le n entries le));
    runs = subst (λ (es : List Event). IsSome (run r es)) (sym (events-take n entries)) (run-front r n (events_of entries) h.runs);
    clocks = record {
      clock = λ i e at.
          let inside : i < length (take n entries) = slice_get_within (take n entries) i e at in
          let below : i < n = omega (arith, inside, length-take-le n entries le) in
          h.clocks.clock i e (sym (slice_get-take n entries i below) ∙ at)
          ∙ ap (λ (w : World State Msg). w.clock) (sym (ap (λ (es : List Event). world_at r (i + 1) es) (events-take n entries) ∙ world_at-front r (events_of entries) n (i + 1) (omega (arith, below))));
      small = λ i e at.
          let inside : i < length (take n entries) = slice_get_within (take n entries) i e at in
          let below : i < n = omega (arith, inside, length-take-le n entries le) in
          h.clocks.small i e (sym (slice_get-take n entries i below) ∙ at);
    };
  }

  -- a run with one more event
  pub run-push : (entries : List Entry) (x : Entry) → IsRun r entries → length entries < 65536 → IsSome (run r (events_of entries ++ x.event ∷ []))
      → x.clock ≡ (world_at r (length entries + 1) (events_of entries ++ x.event ∷ [])).clock → x.clock ≤ 60000 * 65536 → IsRun r (entries ++ x ∷ [])
  run-push entries x h room runs clock small = record {
    limits = h.limits;
    few = omega (arith, length-append entries (x ∷ []));
    runs = subst (λ (es : List Event). IsSome (run r es)) (sym (events-push entries x)) runs;
    clocks = record {
      clock = λ i e at.
          let inside : i < length (entries ++ x ∷ []) = slice_get_within (entries ++ x ∷ []) i e at in
          ⊎_elim
          (λ (is_last : i ≡ length entries).
          let same : x ≡ e = some_same _ x e (slice_get-last entries x i is_last) at in
          ap (λ (y : Entry). y.clock) (sym same) ∙ clock
          ∙ ap (λ (es : List Event). (world_at r (length entries + 1) es).clock) (sym (events-push entries x))
          ∙ ap (λ (k : ℕ). (world_at r (k + 1) (events_of (entries ++ x ∷ []))).clock) (sym is_last))
          (λ (other : i ≢ length entries).
          let below : i < length entries = omega (arith, other, inside, length-append entries (x ∷ [])) in
          h.clocks.clock i e (sym (slice_get-append_left entries (x ∷ []) i below) ∙ at)
          ∙ ap (λ (w : World State Msg). w.clock)
          (sym (ap (λ (es : List Event). world_at r (i + 1) es) (events-push entries x)
          ∙ world_at-extended r (events_of entries) (x.event ∷ []) (i + 1) (omega (arith, below, events-length entries)))))
          (cases_eq i (length entries));
      small = λ i e at.
          let inside : i < length (entries ++ x ∷ []) = slice_get_within (entries ++ x ∷ []) i e at in
          ⊎_elim
          (λ (is_last : i ≡ length entries). subst (λ (y : Entry). y.clock ≤ 60000 * 65536) (some_same _ x e (slice_get-last entries x i is_last) at) small)
          (λ (other : i ≢ length entries).
          let below : i < length entries = omega (arith, other, inside, length-append entries (x ∷ [])) in
          h.clocks.small i e (sym (slice_get-append_left entries (x ∷ []) i below) ∙ at))
          (cases_eq i (length entries));
    };
  }

  -- the checkpoints of the first events
  pub checkpoints-cut : (es : List Event) (cs : List (InHand State Msg)) (n : ℕ) → AreCheckpoints r es cs → 0 < r.scenario.interval → n ≤ length es
      → AreCheckpoints r (take n es) (take (n / r.scenario.interval + 1) cs)
  checkpoints-cut es cs n h some le =
      let k : ℕ = r.scenario.interval in
      let q : ℕ = n / k in
      let count = h.count in
      let less : q ≤ length es / k = le-div q (length es) k some (let low = div-mul-le_self n k in omega (arith, low, le)) in
      let len : length (take (q + 1) cs) ≡ q + 1 = length-take-le (q + 1) cs (omega (arith, count, less)) in
      record {
        count = len ∙ ap (λ (m : ℕ). m / k + 1) (sym (length-take-le n es le));
        worlds = λ i c at.
            let inside : i < length (take (q + 1) cs) = slice_get_within (take (q + 1) cs) i c at in
            let below : i < q + 1 = omega (arith, inside, len) in
            let low : i * k ≤ n = multiple i n k (omega (arith, below)) in
            at-front r es n (i * k) c low (h.worlds i c (sym (slice_get-take (q + 1) cs i below) ∙ at));
      }

  -- one more event, with a checkpoint after it where it ends an interval
  pub checkpoints-more : (es : List Event) (cs : List (InHand State Msg)) (e : Event) → AreCheckpoints r es cs → 0 < r.scenario.interval → (length es + 1) % r.scenario.interval ≢ 0
      → AreCheckpoints r (es ++ e ∷ []) cs
  checkpoints-more es cs e h some part =
      let k : ℕ = r.scenario.interval in
      let len : length (es ++ e ∷ []) ≡ length es + 1 = length-append es (e ∷ []) in
      record {
        count = h.count ∙ ap (λ (m : ℕ). m + 1) (sym (ap (λ (m : ℕ). m / k) len ∙ same_quotient (length es) k some part));
        worlds = λ i c at.
            let inside : i < length cs = slice_get_within cs i c at in
            let count = h.count in
            let low : i * k ≤ length es = multiple i (length es) k (omega (arith, inside, count)) in
            at-extended r es (e ∷ []) (i * k) c low (h.worlds i c at);
      }

  pub checkpoints-push : (es : List Event) (cs : List (InHand State Msg)) (e : Event) (new : InHand State Msg) → AreCheckpoints r es cs → 0 < r.scenario.interval
      → (length es + 1) % r.scenario.interval ≡ 0 → IsAt r (es ++ e ∷ []) (length es + 1) new → AreCheckpoints r (es ++ e ∷ []) (cs ++ new ∷ [])
  checkpoints-push es cs e new h some whole at_end =
      let k : ℕ = r.scenario.interval in
      let len : length (es ++ e ∷ []) ≡ length es + 1 = length-append es (e ∷ []) in
      let next : (length es + 1) / k ≡ length es / k + 1 = next_quotient (length es) k some whole in
      let count = h.count in
      record {
        count = omega (arith, length-append cs (new ∷ []), count, next, ap (λ (m : ℕ). m / k) len);
        worlds = λ i c at.
            let inside : i < length (cs ++ new ∷ []) = slice_get_within (cs ++ new ∷ []) i c at in
            ⊎_elim
            (λ (is_last : i ≡ length cs).
            let same : new ≡ c = some_same _ new c (slice_get-last cs new i is_last) at in
            let place : length es + 1 ≡ i * k =
            (sym (quotient (length es + 1) k) ∙ ap (λ (m : ℕ). (length es + 1) / k * k + m) whole ∙ ap (λ (m : ℕ). m * k + 0) next ∙ add-zero _ ∙ ap (λ (m : ℕ). m * k) (sym count ∙ sym is_last)) in
            subst (λ (p : ℕ). IsAt r (es ++ e ∷ []) p c) place (subst (IsAt r (es ++ e ∷ []) (length es + 1)) same at_end))
            (λ (other : i ≢ length cs).
            let below : i < length cs = omega (arith, other, inside, length-append cs (new ∷ [])) in
            let low : i * k ≤ length es = multiple i (length es) k (omega (arith, below, count)) in
            at-extended r es (e ∷ []) (i * k) c low (h.worlds i c (sym (slice_get-append_left cs (new ∷ []) i below) ∙ at)))
            (cases_eq i (length cs));
      }

is_zero : (n : ℕ) → nat_eq n 0 ≡ true → n ≡ 0
is_zero n h = grind (arith, nat_tests)

-- the checkpoints after an event was added, with one more where the event ends an interval
pub kept_checkpoints : {State Msg Z : Type 0} (r : Rules State Msg) (es : List Event) (e : Event) (cs ds : List (InHand State Msg)) (p k : ℕ) (copy : Option (Arc (InHand State Msg) Z))
    → AreCheckpoints r es cs → 0 < k → k ≡ r.scenario.interval → p ≡ length es
    → MatchOption copy (nat_eq ((p + 1) % k) 0 ≡ false) (λ c. (nat_eq ((p + 1) % k) 0 ≡ true) × IsAt r (es ++ e ∷ []) (p + 1) (arc_value c))
    → MatchOption copy (ds ≡ cs) (λ c. ds ≡ cs ++ arc_value c ∷ []) → AreCheckpoints r (es ++ e ∷ []) ds
kept_checkpoints r es e cs ds p k None h some is at none same =
    let part : (length es + 1) % r.scenario.interval ≢ 0 = λ (z : (length es + 1) % r.scenario.interval ≡ 0).
    let w : (p + 1) % k ≡ 0 = ap (λ (n : ℕ). (n + 1) % k) at ∙ ap (λ (m : ℕ). (length es + 1) % m) is ∙ z in
    false≢true (sym none ∙ eq-eqb ((p + 1) % k) 0 w) in
    subst (λ (xs : List (InHand _ _)). AreCheckpoints r (es ++ e ∷ []) xs) (sym same) (checkpoints-more r es cs e h (omega (arith, some, is)) part)
kept_checkpoints r es e cs ds p k (Some c) h some is at whole same =
    let z : (length es + 1) % r.scenario.interval ≡ 0 =
    ap (λ (m : ℕ). (length es + 1) % m) (sym is) ∙ ap (λ (n : ℕ). (n + 1) % k) (sym at) ∙ is_zero ((p + 1) % k) whole.0 in
    let there = subst (λ (n : ℕ). IsAt r (es ++ e ∷ []) (n + 1) (arc_value c)) at whole.1 in
    subst (λ (xs : List (InHand _ _)). AreCheckpoints r (es ++ e ∷ []) xs) (sym same)
    (checkpoints-push r es cs e (arc_value c) h (omega (arith, some, is)) z there)
