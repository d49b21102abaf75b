-- The work of a rewind past the reach: stretch by stretch.
use Rattle.std.proofs.Common.{◌≡◌, ℕ, suc, ◌+◌, ◌-◌, ◌*◌, ◌/◌, ◌%◌, ◌<◌, ◌≤◌, ◌⊎◌, true, false, nat_lt, List, Option, None, Bool, inl, inr, refl, sym, ap, ◌∙◌, subst, arith}
use Rattle.std.specs.Prelude.{if◌then◌else◌}
use Rattle.std.specs.Ordering.{ord_max, ord_min, nat_cmp}
use Rattle.std.proofs.lemmas.Grind.{common_steps}
use Rattle.std.proofs.Math.Nat.{add-mul, one-mul, mod-lt, div-mul-le_self, mul-mod_left, eq-or-lt_of_le}
use Rattle.std.proofs.lemmas.Nat.{le-div}
use Rattle.std.proofs.lemmas.Bool.Decides.{nat_tests}
use Rattle.sim_node.specs.Node.{NodeLaws}
use Rattle.sim_node.specs.Work.{Work}
use Rattle.sim_events.specs.declared.Event.{Event}
use Rattle.sim_world.specs.Events.{Rules, rules}
use Rattle.sim_history.proofs.Joined.{quotient}
use Rattle.sim_moves.specs.Works.{OnlyTurns, Plays}
use Rattle.sim_tape.specs.Tape.{Tape, with_world, at, is_within_reach, is_near_ahead}
use Rattle.sim_tape.specs.Works.{TakesAtMost, nodes_below}
use Rattle.sim_tape.proofs.Growing.{next_quotient}
use Rattle.sim_tape.proofs.Turning.{not_ahead}
use Rattle.sim_runs.specs.Works.{TakesBack, stretches, nodes_from, Looks}
use Rattle.sim_runs.specs.declared.rewinds.Found.{Found}
use Rattle.sim_runs.specs.Running.{IsLooked, place_found}
use Rattle.sim_runs.proofs.Rewinding.{moved_to}

-- turns, one after the other
pub turned_none : (a : Work) → OnlyTurns 0 a a
turned_none a = record { turns = omega arith; copies = refl; undos = refl }

pub turned_more : (n : ℕ) (a b c : Work) → OnlyTurns n a b → OnlyTurns 1 b c → OnlyTurns (n + 1) a c
turned_more n a b c old new =
    let first = old.turns in
    let last = new.turns in
    record { turns = omega (arith, first, last); copies = new.copies ∙ old.copies; undos = new.undos ∙ old.undos }

-- a larger number has no smaller quotient
pub quotient_on : (m n k : ℕ) → 0 < k → m ≤ n → m / k ≤ n / k
quotient_on m n k some le = let low = div-mul-le_self m k in le-div (m / k) n k some (omega (arith, low, le))

-- a number between two of one interval
quotient_between : (low p high k : ℕ) → 0 < k → low ≤ p → p ≤ high → low / k ≡ high / k → p / k ≡ low / k
quotient_between low p high k some from below same =
    let a = quotient_on low p k some from in
    let b = quotient_on p high k some below in
    omega (arith, a, b, same)

max_one : (a b m : ℕ) → m ≡ ord_max nat_cmp a b → (m ≡ a) ⊎ (m ≡ b)
max_one a b m is = grind (arith, common_steps)

pub min_other : (a b m : ℕ) → m ≡ ord_min nat_cmp a b → (m ≡ a → ⊥) → m ≡ b
min_other a b m is not = grind (arith, common_steps)

-- a stretch that begins past its least place begins at a checkpoint
pub stretch_whole : (to h k low : ℕ) → 0 < k → to ≤ h → low ≡ ord_max nat_cmp to (h - h % k) → to < low → low % k ≡ 0
stretch_whole to h k low some within is past =
    let parts = quotient h k in
    let at : low ≡ h / k * k = elim (max_one to (h - h % k) low is) [
      | inl same ↦ absurd (omega (arith, same, past))
      | inr same ↦ omega (arith, parts, same)
    ] in
    ap (λ (m : ℕ). m % k) at ∙ mul-mod_left (h / k) k

-- a checkpoint begins the interval after that of the place before it
pub interval_next : (high k : ℕ) → 0 < k → 0 < high → high % k ≡ 0 → high / k ≡ (high - 1) / k + 1
interval_next high k some up whole =
    let same : high - 1 + 1 ≡ high = omega (arith, up) in
    subst (λ (m : ℕ). m / k ≡ (high - 1) / k + 1) same
    (next_quotient (high - 1) k some (subst (λ (m : ℕ). m % k ≡ 0) (sym same) whole))

-- the turns of a stretch: to its first place, and on from there to its last
stretch_turns : (low h k : ℕ) → 0 < k → low ≤ h → low / k ≡ h / k → low % k + (h - low) ≤ k - 1
stretch_turns low h k some le same =
    let a = quotient low k in
    let b = quotient h k in
    let less = mod-lt h some in
    let start = ap (λ (m : ℕ). m * k) same in
    omega (arith, a, b, less, start, le)

module _ {State Msg : Type 0} (r : Rules State Msg) where
  -- no stretch lies below a place from that place on
  stretches_none : (p : ℕ) → stretches r p p ≡ 0
  stretches_none p =
      let k : ℕ = r.scenario.interval in
      let no : nat_lt p p ≡ false = grind (arith, nat_tests) in
      ap (λ b. if b then (p - 1) / k - p / k + 1 else 0) no

  stretches_some : (low high : ℕ) → low < high → stretches r low high ≡ (high - 1) / r.scenario.interval - low / r.scenario.interval + 1
  stretches_some low high lt =
      let k : ℕ = r.scenario.interval in
      let yes : nat_lt low high ≡ true = grind (arith, nat_tests) in
      ap (λ b. if b then (high - 1) / k - low / k + 1 else 0) yes

  -- one stretch more
  record OneMore (low high top : ℕ) : Type 0 where
    count : stretches r low top ≡ suc (stretches r high top)
    on : (stretches r high top ≡ 0) ⊎ (high / r.scenario.interval ≡ low / r.scenario.interval + 1)

  stretches_more : (low high top : ℕ) → 0 < r.scenario.interval → low < high → high ≤ top → low / r.scenario.interval ≡ (high - 1) / r.scenario.interval
      → (high < top → high % r.scenario.interval ≡ 0) → OneMore low high top
  stretches_more low high top some below within same whole =
      let k : ℕ = r.scenario.interval in
      elim (eq-or-lt_of_le within) [
        | inl is ↦
            let none : stretches r high top ≡ 0 = ap (λ (p : ℕ). stretches r high p) (sym is) ∙ stretches_none high in
            let one = stretches_some low top (omega (arith, below, is)) in
            let end : (high - 1) / k ≡ (top - 1) / k = ap (λ (p : ℕ). (p - 1) / k) is in
            record { count = omega (arith, none, one, same, end); on = inl none }
        | inr lt ↦
            let next = interval_next high k some (omega (arith, below)) (whole lt) in
            let past = quotient_on high (top - 1) k some (omega (arith, lt)) in
            let old = stretches_some high top lt in
            let new = stretches_some low top (omega (arith, below, lt)) in
            record { count = omega (arith, old, new, same, next, past); on = inr (omega (arith, same, next)) }
      ]

  nodes_more : (low high top : ℕ) (es : List Event) → OneMore low high top
      → nodes_from r (low / r.scenario.interval) (stretches r low top) es ≡ nodes_below r low es + nodes_from r (high / r.scenario.interval) (stretches r high top) es
  nodes_more low high top es h =
      let k : ℕ = r.scenario.interval in
      ap (λ (n : ℕ). nodes_from r (low / k) n es) h.count ∙ ap (λ (m : ℕ). nodes_below r low es + m) (elim h.on [
        | inl none ↦ ap (λ (n : ℕ). nodes_from r (low / k + 1) n es) none ∙ sym (ap (λ (n : ℕ). nodes_from r (high / k) n es) none)
        | inr on ↦ ap (λ (j : ℕ). nodes_from r j (stretches r high top) es) (sym on)
      ])

  turns_more : (low high top : ℕ) → OneMore low high top
      → stretches r low top * (r.scenario.interval - 1) ≡ stretches r high top * (r.scenario.interval - 1) + (r.scenario.interval - 1)
  turns_more low high top h =
      let k : ℕ = r.scenario.interval in
      let n : ℕ = stretches r high top in
      let up : stretches r low top ≡ n + 1 = omega (arith, h.count) in
      ap (λ (m : ℕ). m * (k - 1)) up ∙ add-mul n 1 (k - 1) ∙ ap (λ (m : ℕ). n * (k - 1) + m) (one-mul (k - 1))

  -- nothing was looked at yet
  pub looked_none : (to top : ℕ) (es : List Event) (a : Work) → IsLooked r to top top es a a
  looked_none to top es a = record {
    whole = λ lt. absurd (omega (arith, lt));
    work = record { turns = omega arith; copies = omega arith };
  }

  -- one stretch more was looked at: a jump to its first place, and a walk to its last
  pub looked_more : (to low high top n : ℕ) (es : List Event) (a b c d : Work) → 0 < r.scenario.interval → to < high → low < high → high ≤ top
      → low / r.scenario.interval ≡ (high - 1) / r.scenario.interval → (to < low → low % r.scenario.interval ≡ 0)
      → IsLooked r to high top es a b → TakesAtMost (low % r.scenario.interval) (nodes_below r low es) b c → low + n + 1 ≡ high → OnlyTurns n c d
      → IsLooked r to low top es a d
  looked_more to low high top n es a b c d some more below within same starts h gone ends walked =
      let k : ℕ = r.scenario.interval in
      let one = stretches_more low high top some below within same (λ lt. h.whole lt more) in
      let turns = turns_more low high top one in
      let copies = nodes_more low high top es one in
      let short = stretch_turns low (high - 1) k some (omega (arith, below)) same in
      let before = h.work.turns in
      let jump = gone.turns in
      let walk = walked.turns in
      let made = h.work.copies in
      let copied = gone.copies in
      let same_copies = walked.copies in
      record {
        whole = λ _ past. starts past;
        work = record { turns = omega (arith, turns, short, before, jump, walk, ends); copies = omega (arith, copies, made, copied, same_copies) };
      }

  -- and a jump to a place in the last stretch
  pub looked_to : (to low p high top : ℕ) (t : Tape) (a b c : Work) → 0 < r.scenario.interval → low ≤ p → p < high → high ≤ top → low / r.scenario.interval ≡ (high - 1) / r.scenario.interval
      → IsLooked r to low top t.events a b → TakesAtMost (r.scenario.interval - 1) (nodes_below r p t.events) b c → Looks r p top t a c
  looked_to to low p high top t a b c some from below within same h gone =
      let k : ℕ = r.scenario.interval in
      let inside = quotient_between low p (high - 1) k some from (omega (arith, below)) same in
      let here = stretches_some p top (omega (arith, below, within)) in
      let there = stretches_some low top (omega (arith, from, below, within)) in
      let count : stretches r p top ≡ stretches r low top = omega (arith, here, there, inside) in
      let turned = ap (λ (m : ℕ). m * (k - 1)) count in
      let copied = ap (λ (j : ℕ). nodes_from r j (stretches r p top) t.events) inside ∙ ap (λ (m : ℕ). nodes_from r (low / k) m t.events) count in
      let turns = h.work.turns in
      let copies = h.work.copies in
      let jump = gone.turns in
      let made = gone.copies in
      record { turns = omega (arith, turned, turns, jump); copies = omega (arith, copied, copies, made) }

  pub looked_all : (to top : ℕ) (t : Tape) (a b c : Work) → IsLooked r to to top t.events a b → TakesAtMost (r.scenario.interval - 1) (nodes_below r to t.events) b c → Looks r to top t a c
  looked_all to top t a b c h gone =
      let turns = h.work.turns in
      let copies = h.work.copies in
      let jump = gone.turns in
      let made = gone.copies in
      record { turns = omega (arith, turns, jump); copies = omega (arith, copies, made) }

  -- a jump alone, events that are taken back, and no work are within the bound
  pub looks_jump : (p top : ℕ) (t : Tape) (a b : Work) → TakesAtMost (r.scenario.interval - 1) (nodes_below r p t.events) a b → Looks r p top t a b
  looks_jump p top t a b gone =
      let jump = gone.turns in
      let made = gone.copies in
      record { turns = omega (arith, jump); copies = omega (arith, made) }

  pub looks_back : (p top n q : ℕ) (t : Tape) (a b : Work) → TakesBack r n q t a b → Looks r p top t a b
  looks_back p top n q t a b back =
      let turns : b.turns ≡ a.turns = ap (λ (w : Work). w.turns) back in
      let copies : b.copies ≡ a.copies = ap (λ (w : Work). w.copies) back in
      record { turns = omega (arith, turns); copies = omega (arith, copies) }

  pub moved_looks : (p q top : ℕ) (t : Tape) (a b : Work) → p ≡ q → Looks r q top t a b → Looks r p top t a b
  moved_looks p q top t a b same h = subst (λ (m : ℕ). Looks r m top t a b) (sym same) h

  pub looks_none : (p top : ℕ) (t : Tape) (a : Work) → Looks r p top t a a
  looks_none p top t a = record { turns = omega arith; copies = omega arith }

  -- after events that are taken back
  pub looks_after : (p top n q : ℕ) (t : Tape) (a b c : Work) → TakesBack r n q t a b → Looks r p top t b c → Looks r p top t a c
  looks_after p top n q t a b c back h =
      let turns : b.turns ≡ a.turns = ap (λ (w : Work). w.turns) back in
      let copies : b.copies ≡ a.copies = ap (λ (w : Work). w.copies) back in
      let more = h.turns in
      let made = h.copies in
      record { turns = omega (arith, turns, more); copies = omega (arith, copies, made) }

module _ {State Msg : Type 0} (node : NodeLaws State Msg) (probes : ℕ) where
  -- a jump back, within the reach or past it
  jump_back : (u : Tape) (p n q : ℕ) (a b : Work) → p ≤ u.place
      → (is_within_reach p u ≡ true → TakesBack (rules node probes u.scenario) n q u a b)
      → (is_within_reach p u ≡ false → is_near_ahead p u ≡ false → Plays (p % u.scenario.interval) (nodes_below (rules node probes u.scenario) p u.events) a b)
      → TakesAtMost (p % u.scenario.interval) (nodes_below (rules node probes u.scenario) p u.events) a b
  jump_back u p n q a b le near far =
      let P : Bool → Type 0 = λ v. (v ≡ true → TakesBack (rules node probes u.scenario) n q u a b)
      → (v ≡ false → is_near_ahead p u ≡ false → Plays (p % u.scenario.interval) (nodes_below (rules node probes u.scenario) p u.events) a b)
      → TakesAtMost (p % u.scenario.interval) (nodes_below (rules node probes u.scenario) p u.events) a b in
      elim (is_within_reach p u) as P [
        | true ↦ λ x y.
            let back = x refl in
            let turns : b.turns ≡ a.turns = ap (λ (w : Work). w.turns) back in
            let copies : b.copies ≡ a.copies = ap (λ (w : Work). w.copies) back in
            record { turns = omega (arith, turns); copies = omega (arith, copies) }
        | false ↦ λ x y.
            let played = y refl (not_ahead p u le) in
            let turns = played.turns in
            let copies = played.copies in
            record { turns = turns; copies = omega (arith, copies) }
      ] near far

  -- what is said of a tape is true of the one that it was, at another place
  pub jump_on : (t u : Tape) (q p : ℕ) (a b : Work) → u ≡ with_world true u.reach (at q t)
      → TakesAtMost (u.scenario.interval - 1) (nodes_below (rules node probes u.scenario) p u.events) a b
      → TakesAtMost (t.scenario.interval - 1) (nodes_below (rules node probes t.scenario) p t.events) a b
  jump_on t u q p a b is h = subst (λ (x : Tape). TakesAtMost (x.scenario.interval - 1) (nodes_below (rules node probes x.scenario) p x.events) a b) is h

  -- one stretch more was looked at
  pub stretch_looked : (t u : Tape) (to low high n k q : ℕ) (a b c d : Work) → 1 ≤ k → k ≡ t.scenario.interval → u ≡ with_world true u.reach (at u.place t) → high ≤ u.place → high ≤ t.place
      → to < high → low < high → low / k ≡ (high - 1) / k → (to < low → low % k ≡ 0)
      → IsLooked (rules node probes t.scenario) to high t.place t.events a b
      → (is_within_reach low u ≡ true → TakesBack (rules node probes u.scenario) q low u b c)
      → (is_within_reach low u ≡ false → is_near_ahead low u ≡ false → Plays (low % u.scenario.interval) (nodes_below (rules node probes u.scenario) low u.events) b c)
      → low + n + 1 ≡ high → OnlyTurns n c d → IsLooked (rules node probes t.scenario) to low t.place t.events a d
  stretch_looked t u to low high n k q a b c d some is gone ahead within more below same starts h near far ends walked =
      let jump = jump_back u low q low b c (omega (arith, below, ahead)) near far in
      looked_more (rules node probes t.scenario) to low high t.place n t.events a b c d (omega (arith, some, is)) more below within
      (subst (λ (m : ℕ). low / m ≡ (high - 1) / m) is same)
      (subst (λ (m : ℕ). to < low → low % m ≡ 0) is starts) h
      (subst (λ (x : Tape). TakesAtMost (low % x.scenario.interval) (nodes_below (rules node probes x.scenario) low x.events) b c) gone jump) ends walked

  -- and the jump to what was found in it
  pub found_looked : (t v x y : Tape) (to low high n p k q : ℕ) (a b c : Work) → 1 ≤ k → k ≡ t.scenario.interval → high ≤ t.place → low / k ≡ (high - 1) / k
      → v ≡ with_world true v.reach (at low t) → x ≡ with_world true x.reach (at q v) → y ≡ with_world true y.reach (at p x) → low ≤ p → p < high
      → IsLooked (rules node probes t.scenario) to low t.place t.events a b
      → TakesAtMost (x.scenario.interval - 1) (nodes_below (rules node probes x.scenario) p x.events) b c
      → Looks (rules node probes t.scenario) y.place t.place t a c
  found_looked t v x y to low high n p k q a b c some is within same start walked there from below h gone =
      let place : y.place ≡ p = ap (λ (z : Tape). z.place) there in
      subst (λ (m : ℕ). Looks (rules node probes t.scenario) m t.place t a c) (sym place)
      (looked_to (rules node probes t.scenario) to low p high t.place t a b c (omega (arith, some, is)) from below within (subst (λ (m : ℕ). low / m ≡ (high - 1) / m) is same) h
      (jump_on t x q p b c (moved_to t v x low q start walked) gone))

  -- the work past the reach, after that within it
  pub far_looked : (t u : Tape) (p near : ℕ) (a b c : Work) (o : Option Found) → o ≡ None → u ≡ with_world true u.reach (at (place_found (t.place - near) o) t) → near ≡ t.reach
      → TakesBack (rules node probes t.scenario) (t.place - u.place) u.place t a b
      → Looks (rules node probes u.scenario) p u.place u b c → Looks (rules node probes t.scenario) p (t.place - t.reach) t a c
  far_looked t u p near a b c o none moved same back h =
      let is : u ≡ with_world true u.reach (at (t.place - near) t) = moved ∙ ap (λ (x : Option Found). with_world true u.reach (at (place_found (t.place - near) x) t)) none in
      let place : u.place ≡ t.place - t.reach = ap (λ (x : Tape). x.place) is ∙ ap (λ (n : ℕ). t.place - n) same in
      looks_after (rules node probes t.scenario) p (t.place - t.reach) (t.place - u.place) u.place t a b c back
      (subst (λ (x : Tape). Looks (rules node probes x.scenario) p (t.place - t.reach) x b c) is (subst (λ (q : ℕ). Looks (rules node probes u.scenario) p q u b c) place h))
