-- A rewind goes on by one place, or by one stretch, and stops.
use Rattle.std.proofs.Common.{◌≡◌, ℕ, suc, ◌+◌, ◌-◌, ◌<◌, ◌≤◌, ◌==◌, true, false, ◌||◌, List, Option, Some, None, is_some, refl, sym, ap, ◌∙◌, arith, inl, inr, subst, add-zero}
use Rattle.std.specs.Prelude.{if◌then◌else◌}
use Rattle.std.specs.Option.{unwrap_or, option_map}
use Rattle.std.proofs.Math.Nat.{eq-or-lt_of_le}
use Rattle.std.proofs.lemmas.Bool.Decides.{nat_tests}
use Rattle.sim_node.specs.Node.{NodeLaws}
use Rattle.sim_node.specs.Work.{Work}
use Rattle.sim_world.specs.Events.{Rules, rules}
use Rattle.sim_moves.specs.Places.{acts_at, acting}
use Rattle.sim_moves.specs.Works.{undone_by}
use Rattle.sim_tape.specs.Tape.{Tape, with_world, at, KeepsRun}
use Rattle.sim_tape.specs.Places.{world_of}
use Rattle.sim_watch.specs.Condition.{Cond}
use Rattle.sim_watch.proofs.Firsts.{least_is, side}
use Rattle.sim_runs.specs.declared.Stop.TheVariants as stops
use Rattle.sim_runs.specs.declared.rewinds.Found.{Found}
use Rattle.sim_runs.specs.Works.{TakesBack}
use Rattle.sim_runs.specs.Branch.{Branch}
use Rattle.sim_runs.specs.Watches.{failing_watch}
use Rattle.sim_runs.specs.Branch.{branch_with}
use Rattle.sim_runs.specs.OnTape.{IsElsewhere}
use Rattle.sim_runs.specs.Runs.{failing_at, rewind_move, rewind_len}
use Rattle.sim_runs.specs.Watches.{NoneFrom}
use Rattle.sim_runs.specs.Running.{NoneFails, FailsLast, IsLast, IsRewinding, IsLooking, IsPast, place_found, stop_found, found_at}
use Rattle.sim_runs.proofs.Stopping.{none_fails}

-- one place back from a place
pub moved_back : (t u v : Tape) (k : ℕ) → u ≡ with_world true u.reach (at (t.place - k) t) → v ≡ with_world true v.reach (at (u.place - 1) u)
    → v ≡ with_world true v.reach (at (t.place - (k + 1)) t)
moved_back t u v k is gone =
    let place : t.place - k - 1 ≡ t.place - (k + 1) = omega arith in
    gone ∙ ap (λ (x : Tape). with_world true v.reach (at (x.place - 1) x)) is ∙ ap (λ p. with_world true v.reach (at p t)) place

-- one place on from a place
pub moved_on : (t u v : Tape) (k : ℕ) → u ≡ with_world true u.reach (at (t.place + k) t) → v ≡ with_world true v.reach (at (u.place + 1) u)
    → v ≡ with_world true v.reach (at (t.place + (k + 1)) t)
moved_on t u v k is gone =
    let place : t.place + k + 1 ≡ t.place + (k + 1) = omega arith in
    gone ∙ ap (λ (x : Tape). with_world true v.reach (at (x.place + 1) x)) is ∙ ap (λ p. with_world true v.reach (at p t)) place

-- a place of a tape at a place of another
pub moved_to : (t u v : Tape) (q p : ℕ) → u ≡ with_world true u.reach (at q t) → v ≡ with_world true v.reach (at p u) → v ≡ with_world true v.reach (at p t)
moved_to t u v q p is gone = gone ∙ ap (λ (x : Tape). with_world true v.reach (at p x)) is

-- a call that failed left a tape elsewhere on its run
pub elsewhere : (t u v : Tape) (q : ℕ) → u ≡ with_world true u.reach (at q t) → KeepsRun u v → IsElsewhere t v
elsewhere t u v q is kept = (q, kept ∙ ap (λ (x : Tape). with_world v.warm v.reach x) is)

pub elsewhere_on : (t u v : Tape) (q : ℕ) → u ≡ with_world true u.reach (at q t) → IsElsewhere u v → IsElsewhere t v
elsewhere_on t u v q is left = (left.0, left.1 ∙ ap (λ (x : Tape). with_world v.warm v.reach (at left.0 x)) is)

pub stays : (t : Tape) (p : ℕ) → t.warm ≡ true → p ≡ t.place → t ≡ with_world true t.reach (at p t)
stays t p warm same = ap (λ b. record t { warm = b }) warm ∙ ap (λ (q : ℕ). record t { warm = true; place = q }) (sym same)

-- one place back within the reach
pub reach_back : (t u v : Tape) (k : ℕ) → u ≡ with_world true u.reach (at (t.place - k) t) → u.reach ≡ t.reach - k → (u.warm ≡ true → 1 ≤ u.reach → v.reach ≡ u.reach - 1)
    → k + 1 ≤ t.reach → v.reach ≡ t.reach - (k + 1)
reach_back t u v k is old gone le =
    let warm : u.warm ≡ true = ap (λ x. x.warm) is in
    let lower : v.reach ≡ u.reach - 1 = gone warm (omega (arith, old, le)) in
    omega (arith, old, lower, le)

pub rewound_reach : (t v : Tape) (k : ℕ) → v ≡ with_world true v.reach (at (t.place - k) t) → k ≤ t.place → v.reach ≡ t.reach - k
    → v.reach ≡ t.reach - (t.place - v.place)
rewound_reach t v k is within reach =
    let place : v.place ≡ t.place - k = ap (λ x. x.place) is in
    omega (arith, place, within, reach)

module _ {State Msg : Type 0} (node : NodeLaws State Msg) (probes : ℕ) where
  -- the watch that fails at a tape, which is another at a place
  fails_at : (ws : List (Option Cond)) (t v : Tape) (p : ℕ) → v ≡ with_world true v.reach (at p t)
      → failing_watch (rules node probes v.scenario) ws (world_of (rules node probes v.scenario) v) ≡ failing_at (rules node probes t.scenario) (branch_with ws t) p
  fails_at ws t v p is = ap (λ (x : Tape). failing_watch (rules node probes x.scenario) ws (world_of (rules node probes x.scenario) x)) is

  found_is : (ws : List (Option Cond)) (t v : Tape) (p : ℕ) (f : Option Found) → v ≡ with_world true v.reach (at p t)
      → f ≡ found_at v.place (failing_watch (rules node probes v.scenario) ws (world_of (rules node probes v.scenario) v))
      → f ≡ found_at p (failing_at (rules node probes t.scenario) (branch_with ws t) p)
  found_is ws t v p f is here = here ∙ ap (λ (q : ℕ). found_at q (failing_watch (rules node probes v.scenario) ws (world_of (rules node probes v.scenario) v))) (ap (λ (x : Tape). x.place) is)
      ∙ ap (found_at p) (fails_at ws t v p is)

  -- where nothing is found at a place no watch fails there
  none_of : (p : ℕ) (o : Option ℕ) → None ≡ found_at p o → o ≡ None
  none_of p None e = refl
  none_of p (Some w) e = absurd cc

  some_of : (p : ℕ) (o : Option ℕ) (f : Found) → Some f ≡ found_at p o → (f.place ≡ p) × (o ≡ Some f.watch)
  some_of p None f e = absurd cc
  some_of p (Some w) f e = (cc, cc)

  -- one place more, at which no watch fails, below the others or above them
  none_below : (ws : List (Option Cond)) (t : Tape) (p low high : ℕ) → p + 1 ≡ low → failing_at (rules node probes t.scenario) (branch_with ws t) p ≡ None
      → NoneFails node probes ws t low high → NoneFails node probes ws t p high
  none_below ws t p low high next here none q from below = elim (eq-or-lt_of_le from) [
    | inl same ↦ ap (failing_at (rules node probes t.scenario) (branch_with ws t)) (sym same) ∙ here
    | inr less ↦ none q (omega (arith, less, next)) below
  ]

  none_above : (ws : List (Option Cond)) (t : Tape) (low high : ℕ) → failing_at (rules node probes t.scenario) (branch_with ws t) high ≡ None
      → NoneFails node probes ws t low high → NoneFails node probes ws t low (high + 1)
  none_above ws t low high here none q from below = elim (side q high) [
    | inl less ↦ none q from less
    | inr past ↦ let same : high ≡ q = omega (arith, past, below) in ap (failing_at (rules node probes t.scenario) (branch_with ws t)) (sym same) ∙ here
  ]

  pub none_so : (ws : List (Option Cond)) (t : Tape) (low low' high : ℕ) → low ≡ low' → NoneFails node probes ws t low high → NoneFails node probes ws t low' high
  none_so ws t low low' high same none = subst (λ (n : ℕ). NoneFails node probes ws t n high) same none

  -- a rewind within the reach
  pub rewinding_none : (ws : List (Option Cond)) (t : Tape) → t.warm ≡ true → IsRewinding node probes ws t 0 t
  rewinding_none ws t warm = record {
    new = stays t (t.place - 0) warm (omega arith);
    none = λ p a b. absurd (omega (arith, a, b));
    reach = omega arith;
  }

  pub rewinding_more : (ws : List (Option Cond)) (t u v : Tape) (k : ℕ) (f : Option Found) → IsRewinding node probes ws t k u → k + 1 ≤ t.place
      → v ≡ with_world true v.reach (at (u.place - 1) u) → v.reach ≡ t.reach - (k + 1) → f ≡ None
      → f ≡ found_at v.place (failing_watch (rules node probes v.scenario) ws (world_of (rules node probes v.scenario) v)) → IsRewinding node probes ws t (k + 1) v
  rewinding_more ws t u v k f h lt gone reach none here =
      let is = moved_back t u v k h.new gone in
      let fails = none_of (t.place - (k + 1)) (failing_at (rules node probes t.scenario) (branch_with ws t) (t.place - (k + 1)))
      (sym none ∙ found_is ws t v (t.place - (k + 1)) f is here) in
      record { new = is; none = none_below ws t (t.place - (k + 1)) (t.place - k) t.place (omega (arith, lt)) fails h.none; reach = reach }

  pub rewound_near : (n : ℕ) (ws : List (Option Cond)) (t u v : Tape) (k : ℕ) (f : Found) → IsRewinding node probes ws t k u → k < n → n ≤ t.place
      → v ≡ with_world true v.reach (at (u.place - 1) u)
      → Some f ≡ found_at v.place (failing_watch (rules node probes v.scenario) ws (world_of (rules node probes v.scenario) v))
      → FailsLast node probes ws t (t.place - n) t.place f × (f.place ≡ t.place - (k + 1))
  rewound_near n ws t u v k f h lt within gone here =
      let p : ℕ = t.place - (k + 1) in
      let is = moved_back t u v k h.new gone in
      let both = some_of p (failing_at (rules node probes t.scenario) (branch_with ws t) p) f (found_is ws t v p (Some f) is here) in
      let place : f.place ≡ t.place - (k + 1) = both.0 in (
        record {
          from = omega (arith, place, lt, within);
          below = omega (arith, place, lt, within);
          fails = ap (failing_at (rules node probes t.scenario) (branch_with ws t)) both.0 ∙ both.1;
          after = none_so ws t (t.place - k) (f.place + 1) t.place (omega (arith, place, lt, within)) h.none;
        },
        place,
      )

  -- the work of one place back within the reach, and of a whole rewind
  pub work_back : (t u v : Tape) (k : ℕ) (a b d : Work) → u ≡ with_world true u.reach (at (t.place - k) t) → k < t.place → u.reach ≡ t.reach - k
      → TakesBack (rules node probes t.scenario) k (t.place - k) t a b
      → (u.warm ≡ true → 1 ≤ u.reach → TakesBack (rules node probes u.scenario) 1 (u.place - 1) u b d)
      → k + 1 ≤ t.reach → TakesBack (rules node probes t.scenario) (k + 1) (t.place - (k + 1)) t a d
  work_back t u v k a b d is lt old before gone le =
      let r : Rules State Msg = rules node probes t.scenario in
      let q : ℕ = t.place - (k + 1) in
      let first : d ≡ undone_by (acting r (t.place - k - 1) 1 t.events) b =
      gone (ap (λ x. x.warm) is) (omega (arith, old, le)) ∙ ap (λ (x : Tape). undone_by (acting (rules node probes x.scenario) (x.place - 1) 1 x.events) b) is in
      let same : t.place - k - 1 ≡ q = omega arith in
      let next : q + 1 ≡ t.place - k = omega (arith, lt) in
      let up : k + 1 ≡ suc k = omega arith in
      let sum : acting r q (k + 1) t.events ≡ acts_at r q t.events + acting r (t.place - k) k t.events =
      ap (λ (n : ℕ). acting r q n t.events) up ∙ ap (λ (p : ℕ). acts_at r q t.events + acting r p k t.events) next in
      let one : acting r (t.place - k - 1) 1 t.events ≡ acts_at r q t.events = ap (λ (p : ℕ). acting r p 1 t.events) same ∙ add-zero (acts_at r q t.events) in
      first ∙ ap (undone_by (acting r (t.place - k - 1) 1 t.events)) before ∙ ap (λ (n : ℕ). record a { undos = n }) (omega (arith, one, sum))

  pub rewound_work : (t v : Tape) (k : ℕ) (a d : Work) → v ≡ with_world true v.reach (at (t.place - k) t) → k ≤ t.place
      → TakesBack (rules node probes t.scenario) k (t.place - k) t a d → TakesBack (rules node probes t.scenario) (t.place - v.place) v.place t a d
  rewound_work t v k a d is within h =
      let r : Rules State Msg = rules node probes t.scenario in
      let place : v.place ≡ t.place - k = ap (λ x. x.place) is in
      let back : t.place - v.place ≡ k = omega (arith, place, within) in
      subst (λ (p : ℕ). TakesBack r (t.place - v.place) p t a d) (sym place) (subst (λ (n : ℕ). TakesBack r n (t.place - k) t a d) (sym back) h)

  pub work_none : (t : Tape) (a : Work) → TakesBack (rules node probes t.scenario) 0 (t.place - 0) t a a
  work_none t a = ap (λ (n : ℕ). record a { undos = n }) (sym (add-zero a.undos))

  -- a stretch, of one place and of one place more
  last_of : (ws : List (Option Cond)) (t : Tape) (p : ℕ) (f : Option Found) → f ≡ found_at p (failing_at (rules node probes t.scenario) (branch_with ws t) p)
      → IsLast node probes ws t p (p + 1) f
  last_of ws t p None here =
      let none = none_of p (failing_at (rules node probes t.scenario) (branch_with ws t) p) here in
      λ q from below. (let same : q ≡ p = omega (arith, from, below) in ap (failing_at (rules node probes t.scenario) (branch_with ws t)) same ∙ none)
  last_of ws t p (Some f) here =
      let both = some_of p (failing_at (rules node probes t.scenario) (branch_with ws t) p) f here in
      let place : f.place ≡ p = both.0 in record {
        from = omega (arith, place);
        below = omega (arith, place);
        fails = ap (failing_at (rules node probes t.scenario) (branch_with ws t)) both.0 ∙ both.1;
        after = λ q from below. absurd (omega (arith, place, from, below));
      }

  last_none : (ws : List (Option Cond)) (t : Tape) (low high : ℕ) (f : Option Found) → failing_at (rules node probes t.scenario) (branch_with ws t) high ≡ None
      → IsLast node probes ws t low high f → IsLast node probes ws t low (high + 1) f
  last_none ws t low high None here h = none_above ws t low high here h
  last_none ws t low high (Some f) here h =
      let below : f.place < high = h.below in
      record { from = h.from; below = omega (arith, below); fails = h.fails; after = none_above ws t (f.place + 1) high here h.after }

  pub last_lower : (ws : List (Option Cond)) (t : Tape) (low mid high : ℕ) (f : Option Found) → low ≤ mid → IsLast node probes ws t mid high f → (f ≡ None → ⊥) → IsLast node probes ws t low high f
  last_lower ws t low mid high None le h some = absurd (some refl)
  last_lower ws t low mid high (Some f) le h some =
      let from : mid ≤ f.place = h.from in
      record { from = omega (arith, le, from); below = h.below; fails = h.fails; after = h.after }

  -- what is found below a place, where no watch fails from there on
  pub last_before : (ws : List (Option Cond)) (t : Tape) (low mid high : ℕ) (f : Option Found) → mid ≤ high → NoneFails node probes ws t mid high → IsLast node probes ws t low mid f
      → IsLast node probes ws t low high f
  last_before ws t low mid high None le none h = λ q from below. (elim (side q mid) [
    | inl less ↦ h q from less
    | inr past ↦ none q past below
  ])
  last_before ws t low mid high (Some f) le none h =
      let under : f.place < mid = h.below in record {
        from = h.from;
        below = omega (arith, le, under);
        fails = h.fails;
        after = λ q from below. (elim (side q mid) [
          | inl less ↦ h.after q from less
          | inr past ↦ none q past below
        ]);
      }

  pub looking_none : (ws : List (Option Cond)) (t : Tape) (f : Option Found) → t.warm ≡ true
      → f ≡ found_at t.place (failing_watch (rules node probes t.scenario) ws (world_of (rules node probes t.scenario) t)) → IsLooking node probes ws t 0 f t
  looking_none ws t f warm here =
      let next : t.place + 1 ≡ t.place + 0 + 1 = omega arith in record {
        new = stays t (t.place + 0) warm (omega arith);
        found = subst (λ (n : ℕ). IsLast node probes ws t t.place n f) next (last_of ws t t.place f here);
      }

  looked_at : (ws : List (Option Cond)) (t : Tape) (k : ℕ) (old : Option Found) (f : Option Found) → IsLast node probes ws t t.place (t.place + k + 1) old
      → f ≡ found_at (t.place + (k + 1)) (failing_at (rules node probes t.scenario) (branch_with ws t) (t.place + (k + 1))) → f ≡ None
      → IsLast node probes ws t t.place (t.place + (k + 1) + 1) old
  looked_at ws t k old f h here none =
      let same : t.place + k + 1 ≡ t.place + (k + 1) = omega arith in
      last_none ws t t.place (t.place + (k + 1)) old
      (none_of (t.place + (k + 1)) (failing_at (rules node probes t.scenario) (branch_with ws t) (t.place + (k + 1))) (sym none ∙ here))
      (subst (λ (n : ℕ). IsLast node probes ws t t.place n old) same h)

  pub looking_same : (ws : List (Option Cond)) (t u v : Tape) (k : ℕ) (old f : Option Found) → IsLooking node probes ws t k old u → v ≡ with_world true v.reach (at (u.place + 1) u)
      → f ≡ None → f ≡ found_at v.place (failing_watch (rules node probes v.scenario) ws (world_of (rules node probes v.scenario) v)) → IsLooking node probes ws t (k + 1) old v
  looking_same ws t u v k old f h gone none here =
      let is = moved_on t u v k h.new gone in
      record { new = is; found = looked_at ws t k old f h.found (found_is ws t v (t.place + (k + 1)) f is here) none }

  pub looking_found : (ws : List (Option Cond)) (t u v : Tape) (k : ℕ) (old : Option Found) (f : Found) → IsLooking node probes ws t k old u → v ≡ with_world true v.reach (at (u.place + 1) u)
      → Some f ≡ found_at v.place (failing_watch (rules node probes v.scenario) ws (world_of (rules node probes v.scenario) v)) → IsLooking node probes ws t (k + 1) (Some f) v
  looking_found ws t u v k old f h gone here =
      let is = moved_on t u v k h.new gone in
      let last = last_of ws t (t.place + (k + 1)) (Some f) (found_is ws t v (t.place + (k + 1)) (Some f) is here) in
      record { new = is; found = last_lower ws t t.place (t.place + (k + 1)) (t.place + (k + 1) + 1) (Some f) (omega arith) last (λ e. absurd cc) }

  -- what was found on a tape was found on another, which is the one at another place
  pub last_on : (ws : List (Option Cond)) (t u : Tape) (p low high : ℕ) (f : Option Found) → u ≡ with_world true u.reach (at p t) → IsLast node probes ws u low high f
      → IsLast node probes ws t low high f
  last_on ws t u p low high None is h = λ q from below. (sym (ap (λ (x : Tape). failing_at (rules node probes x.scenario) (branch_with ws x) q) is) ∙ h q from below)
  last_on ws t u p low high (Some f) is h = record {
    from = h.from;
    below = h.below;
    fails = sym (ap (λ (x : Tape). failing_at (rules node probes x.scenario) (branch_with ws x) f.place) is) ∙ h.fails;
    after = λ q from below. (sym (ap (λ (x : Tape). failing_at (rules node probes x.scenario) (branch_with ws x) q) is) ∙ h.after q from below);
  }

  -- stretch after stretch
  pub past_none : (ws : List (Option Cond)) (t : Tape) (low : ℕ) → t.warm ≡ true → low ≤ t.place → IsPast node probes ws t low t.place t
  past_none ws t low warm le = record {
    new = stays t t.place warm refl;
    ahead = omega arith;
    from = le;
    below = omega arith;
    none = λ p a b. absurd (omega (arith, a, b));
  }

  -- a stretch that begins at a place of the tape: what was found in it was found on the tape
  pub stretch_on : (ws : List (Option Cond)) (t u v : Tape) (to low high n : ℕ) (f : Option Found) → IsPast node probes ws t to high u → v ≡ with_world true v.reach (at low u) → low + n + 1 ≡ high
      → IsLast node probes ws v v.place (v.place + n + 1) f → IsLast node probes ws t low t.place f
  stretch_on ws t u v to low high n f h gone ends last =
      let is = moved_to t u v u.place low h.new gone in
      let place : v.place ≡ low = ap (λ (x : Tape). x.place) is in
      let end : v.place + n + 1 ≡ high = omega (arith, place, ends) in
      let here : IsLast node probes ws v low high f = subst (λ (p : ℕ). IsLast node probes ws v p high f) place (subst (λ (e : ℕ). IsLast node probes ws v v.place e f) end last) in
      last_before ws t low high t.place f h.below h.none (last_on ws t v low low high f is here)

  pub past_more : (ws : List (Option Cond)) (t u v x : Tape) (to low high n : ℕ) (f : Option Found) → IsPast node probes ws t to high u → v ≡ with_world true v.reach (at low u) → low + n + 1 ≡ high → to ≤ low
      → IsLast node probes ws v v.place (v.place + n + 1) f → f ≡ None → x ≡ with_world true x.reach (at (v.place + n) v) → IsPast node probes ws t to low x
  past_more ws t u v x to low high n f h gone ends le last none walked =
      let is = moved_to t u v u.place low h.new gone in
      let there = moved_to t v x low (v.place + n) is walked in
      let at_place : x.place ≡ v.place + n = ap (λ (y : Tape). y.place) there in
      let below : high ≤ t.place = h.below in record {
        new = there ∙ ap (λ (p : ℕ). with_world true x.reach (at p t)) (sym at_place);
        ahead = omega (arith, at_place, ap (λ (y : Tape). y.place) is);
        from = le;
        below = omega (arith, ends, below);
        none = subst (IsLast node probes ws t low t.place) none (stretch_on ws t u v to low high n f h gone ends last);
      }

  -- what was found past the reach, where no watch failed within it
  pub far_last : (ws : List (Option Cond)) (t u : Tape) (near low from : ℕ) (f : Option Found) → from ≡ low → (o : Option Found) → o ≡ None
      → u ≡ with_world true u.reach (at (place_found (t.place - near) o) t) → IsLast node probes ws t (t.place - near) t.place o → IsLast node probes ws u from u.place f
      → IsLast node probes ws t low t.place f
  far_last ws t u near low from f same o none moved before h =
      let mid : ℕ = t.place - near in
      let is : u ≡ with_world true u.reach (at mid t) = moved ∙ ap (λ (x : Option Found). with_world true u.reach (at (place_found mid x) t)) none in
      let place : u.place ≡ mid = ap (λ (x : Tape). x.place) is in
      let here : IsLast node probes ws u low mid f = subst (λ (q : ℕ). IsLast node probes ws u low q f) place (subst (λ (q : ℕ). IsLast node probes ws u q u.place f) same h) in
      last_before ws t low mid t.place f (omega arith) (subst (IsLast node probes ws t mid t.place) none before) (last_on ws t u mid low mid f is here)

  -- no watch fails where none is kept
  pub none_kept : (ws : List (Option Cond)) (t : Tape) (low high end : ℕ) → end ≡ 0 → NoneFrom end ws → NoneFails node probes ws t low high
  none_kept ws t low high end is none p from below = sym (none_fails (rules node probes t.scenario) ws _ end is none)

  -- where a rewind goes, and why it stops
  rewinds : (n : ℕ) (ws : List (Option Cond)) (t : Tape) (j : ℕ) → j < n → failing_at (rules node probes t.scenario) (branch_with ws t) (t.place - j) ≡ None
      → (is_some (failing_at (rules node probes t.scenario) (branch_with ws t) (t.place - j)) || (j == n)) ≡ false
  rewinds n ws t j lt e =
      let not_yet : (j == n) ≡ false = grind (arith, nat_tests) in
      ap (λ o. is_some o || (j == n)) e ∙ not_yet

  rewound_by : (n : ℕ) (ws : List (Option Cond)) (t : Tape) (k : ℕ) (o : Option ℕ) → 1 ≤ k → k ≤ n → n ≤ t.place → failing_at (rules node probes t.scenario) (branch_with ws t) (t.place - k) ≡ o
      → (is_some o || (k == n)) ≡ true → NoneFails node probes ws t (t.place - k + 1) t.place
      → rewind_move (rules node probes t.scenario) n (branch_with ws t) ≡ record { place = t.place - k; stop = unwrap_or (option_map stops.Watch o) stops.Asked }
  rewound_by n ws t k o some le within here passes none =
      let r : Rules State Msg = rules node probes t.scenario in
      let x : Branch = branch_with ws t in
      let len : rewind_len r n x ≡ k = ap (λ m. unwrap_or m 0) (least_is (λ j. is_some (failing_at r x (t.place - j)) || (j == n)) 1 n k (omega arith) (omega arith)
      (ap (λ m. is_some m || (k == n)) here ∙ passes) (λ j a b. rewinds n ws t j (omega (arith, b, le)) (none (t.place - j) (omega (arith, a, b, le, within)) (omega (arith, a, b, le, within))))) in
      let not_none : (n == 0) ≡ false = grind (arith, nat_tests) in
      ap (λ m. record { place = t.place - m; stop = if n == 0 then stops.Asked else unwrap_or (option_map stops.Watch (failing_at r x (t.place - m))) stops.Asked }) len
      ∙ ap (λ b. record { place = t.place - k; stop = if b then stops.Asked else unwrap_or (option_map stops.Watch (failing_at r x (t.place - k))) stops.Asked }) not_none
      ∙ ap (λ m. record { place = t.place - k; stop = unwrap_or (option_map stops.Watch m) stops.Asked }) here

  pub rewound : (n : ℕ) (ws : List (Option Cond)) (t : Tape) (f : Option Found) → 1 ≤ n → n ≤ t.place → IsLast node probes ws t (t.place - n) t.place f
      → rewind_move (rules node probes t.scenario) n (branch_with ws t) ≡ record { place = place_found (t.place - n) f; stop = stop_found f }
  rewound n ws t None some within none =
      let at_n : (n == n) ≡ true = grind (arith, nat_tests) in
      rewound_by n ws t n None some (omega arith) within (none (t.place - n) (omega arith) (omega (arith, some, within))) at_n
      (λ p from below. none p (omega (arith, from)) below)
  rewound n ws t (Some f) some within h =
      let from : t.place - n ≤ f.place = h.from in
      let below : f.place < t.place = h.below in
      let k : ℕ = t.place - f.place in
      let place : t.place - k ≡ f.place = omega (arith, below) in
      let next : f.place + 1 ≡ t.place - k + 1 = omega (arith, place) in
      rewound_by n ws t k (Some f.watch) (omega (arith, below)) (omega (arith, from, within, below)) within
      (ap (failing_at (rules node probes t.scenario) (branch_with ws t)) place ∙ h.fails) refl (none_so ws t (f.place + 1) (t.place - k + 1) t.place next h.after)
      ∙ ap (λ (p : ℕ). record { place = p; stop = stops.Watch f.watch }) place
