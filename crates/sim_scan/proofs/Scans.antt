-- A scan goes on by one place, and stops.
use Rattle.std.proofs.Common.{◌≡◌, ◌≢◌, ℕ, ◌+◌, ◌-◌, ◌*◌, ◌/◌, ◌%◌, ◌<◌, ◌≤◌, true, false, not, Bool, List, Option, Some, None, length, take, get_or, replicate, refl, sym, ap, ◌∙◌, subst, arith, inl, inr}
use Rattle.std.specs.Prelude.{IfSome, IsSomeAnd}
use Rattle.std.specs.Option.{IsSome, unwrap_or}
use Rattle.std.specs.List.{list_any}
use Rattle.std.proofs.Math.Nat.{eq-or-lt_of_le}
use Rattle.std.proofs.lemmas.Bool.{cases_order}
use Rattle.std.proofs.lemmas.List.{length-replicate, take-take, take_more, get_or-replicate}
use Rattle.sim_node.specs.Node.{NodeLaws}
use Rattle.sim_node.specs.Work.{Work}
use Rattle.sim_events.specs.declared.Event.{Event}
use Rattle.sim_events.specs.declared.Event.TheVariants as event
use Rattle.sim_events.specs.declared.Refusal.{Refusal}
use Rattle.sim_world.specs.Acts.{turned_by, turned_if}
use Rattle.sim_events.specs.Scenario.{Scenario}
use Rattle.sim_world.specs.World.{World, host_at}
use Rattle.sim_world.specs.Records.{InHand}
use Rattle.sim_world.specs.Events.{Rules, rules, run, start, next, after, refusal_of, unless_refused}
use Rattle.sim_history.proofs.Joined.{quotient}
use Rattle.sim_moves.specs.Places.{IsAt, ChangesOnly}
use Rattle.sim_moves.specs.Works.{OnlyTurns, Plays}
use Rattle.sim_moves.proofs.Placing.{run-snoc, run-front, at-next}
use Rattle.sim_tape.specs.Tape.{Tape, with_world, at}
use Rattle.sim_watch.specs.Condition.{Cond, terms, concerns, holds, fault_of}
use Rattle.sim_watch.proofs.Concerned.{holds_same}
use Rattle.sim_scan.specs.Search.{fails_of, fails_at, first_failing}
use Rattle.sim_scan.specs.Scanning.{IsScanning, IsStepping}
use Rattle.sim_watch.proofs.Firsts.{least_is, least_none}

none_some : {X : Type 0} (o : Option X) → o ≡ None → IsSome o → ⊥
none_some None e h = absurd cc
none_some (Some x) e h = absurd cc

module _ {State Msg : Type 0} (node : NodeLaws State Msg) (probes : ℕ) (c : Cond) where
  -- what is found of the tape's place is said of the run
  pub found_at : (s : Scenario) (events : List Event) (p : ℕ) (t : Tape) (b : Bool) → t ≡ record { scenario = s; events = events; place = p; warm = true; reach = t.reach }
      → b ≡ fails_at (rules node probes t.scenario) c t.events t.place → fails_at (rules node probes s) c events p ≡ b
  found_at s events p t b is e = sym (e ∙ ap (λ (x : Tape). fails_at (rules node probes x.scenario) c x.events x.place) is)

  before_more : (r : Rules State Msg) (events : List Event) (lo p : ℕ) → ((j : ℕ) → lo ≤ j → j < p → fails_at r c events j ≡ false) → fails_at r c events p ≡ false
      → (j : ℕ) → lo ≤ j → j < p + 1 → fails_at r c events j ≡ false
  before_more r events lo p h here j a b =
      let le : j ≤ p = omega arith in
      elim (eq-or-lt_of_le le) [
        | inl same ↦ ap (fails_at r c events) same ∙ here
        | inr less ↦ h j a less
      ]

  -- a warm tape at the first place, where the condition does not fail
  pub scanning_none : (t : Tape) (p : ℕ) (b : Bool) → p ≡ t.place → t.warm ≡ true → b ≡ fails_at (rules node probes t.scenario) c t.events t.place → b ≡ false
      → IsScanning node probes c t.scenario t.events t.place p t
  scanning_none t p b is warm here none = record {
    tape = λ i. record { scenario = t.scenario; events = t.events; place = sym is i; warm = warm i; reach = t.reach };
    none = λ j from to. (let same : j ≡ t.place = omega (arith, is, from, to) in ap (fails_at (rules node probes t.scenario) c t.events) same ∙ sym here ∙ none);
  }

  -- one place more
  pub tape_on : (s : Scenario) (events : List Event) (lo p : ℕ) (t u : Tape) → IsScanning node probes c s events lo p t → u ≡ with_world true u.reach (at (t.place + 1) t)
      → u ≡ record { scenario = s; events = events; place = p + 1; warm = true; reach = u.reach }
  tape_on s events lo p t u h is = is ∙ ap (λ (x : Tape). with_world true u.reach (at (x.place + 1) x)) h.tape

  pub scanning_more : (s : Scenario) (events : List Event) (lo p : ℕ) (t u : Tape) → IsScanning node probes c s events lo p t → u ≡ with_world true u.reach (at (t.place + 1) t)
      → fails_at (rules node probes s) c events (p + 1) ≡ false → IsScanning node probes c s events lo (p + 1) u
  scanning_more s events lo p t u h is none = record {
    tape = tape_on s events lo p t u h is;
    none = λ j from to. before_more (rules node probes s) events lo (p + 1) (λ i a b. h.none i a (omega (arith, b))) none j from (omega (arith, to));
  }

  -- an event of a host that the condition is not about does not make it fail
  fails_not : (r : Rules State Msg) (h : ℕ) (o q : Option (World State Msg)) → (IsSome q → IsSome o)
      → ((k : ℕ) → k ≢ h → host_at k (unwrap_or q (start r)) ≡ host_at k (unwrap_or o (start r))) → list_any (concerns h) (terms c) ≡ false
      → fails_of r c o ≡ false → fails_of r c q ≡ false
  fails_not r h o None front others out none = refl
  fails_not r h None (Some v) front others out none = (let some = front refl in absurd cc)
  fails_not r h (Some w) (Some v) front others out none = ap not (holds_same r.node h w v others c out) ∙ none

  run_before : (r : Rules State Msg) (es : List Event) (p : ℕ) → IsSome (run r (take (p + 1) es)) → IsSome (run r (take p es))
  run_before r es p some = subst (λ (xs : List Event). IsSome (run r xs)) (take-take p (p + 1) es (omega arith)) (run-front r p (take (p + 1) es) some)

  pub still_none : (s : Scenario) (events : List Event) (lo p : ℕ) (t : Tape) (marks : List Bool) (host : Option ℕ) → IsScanning node probes c s events lo p t → lo ≤ p
      → ((k : ℕ) → k < 32 → get_or marks k false ≡ list_any (concerns k) (terms c)) → IfSome host (λ h. ChangesOnly (rules node probes t.scenario) h t.place t.events)
      → IsSomeAnd host (λ h. get_or marks h false ≡ false) → fails_at (rules node probes s) c events (p + 1) ≡ false
  still_none s events lo p t marks None scanning from about only out = absurd out
  still_none s events lo p t marks (Some h) scanning from about only out =
      let r : Rules State Msg = rules node probes s in
      let here : ChangesOnly r h p events = subst (λ (x : Tape). ChangesOnly (rules node probes x.scenario) h x.place x.events) scanning.tape only in
      fails_not r h (run r (take p events)) (run r (take (p + 1) events)) (run_before r events p) here.1 (sym (about h here.0) ∙ out) (scanning.none p from (omega arith))

  -- the first failing place is found, or there is none
  pub found_is : (r : Rules State Msg) (events : List Event) (lo hi p : ℕ) → lo ≤ p → p ≤ hi → ((j : ℕ) → lo ≤ j → j < p → fails_at r c events j ≡ false) → fails_at r c events p ≡ true
      → Some p ≡ first_failing r c events lo hi
  found_is r events lo hi p a b h e = sym (least_is (fails_at r c events) lo hi p a b e h)

  pub found_none : (r : Rules State Msg) (events : List Event) (lo hi : ℕ) → ((j : ℕ) → lo ≤ j → j ≤ hi → fails_at r c events j ≡ false) → None ≡ first_failing r c events lo hi
  found_none r events lo hi h = sym (least_none (fails_at r c events) lo hi h)

  pub all_before : (r : Rules State Msg) (events : List Event) (lo p : ℕ) → ((j : ℕ) → lo ≤ j → j < p → fails_at r c events j ≡ false) → fails_at r c events p ≡ false
      → (j : ℕ) → lo ≤ j → j ≤ p → fails_at r c events j ≡ false
  all_before r events lo p h here j a b = before_more r events lo p h here j a (omega arith)

-- a condition that was checked for a run was checked for a tape of it
pub checked_at : (probes : ℕ) (c : Cond) (s : Scenario) (t : Tape) → t.scenario ≡ s → fault_of s.setup.hosts probes c ≡ None → fault_of t.scenario.setup.hosts probes c ≡ None
checked_at probes c s t same e = ap (λ (x : Scenario). fault_of x.setup.hosts probes c) same ∙ e

-- the work of a walk from a checkpoint, and of some turns more
pub plays_on : (m n l k : ℕ) (a b d : Work) → Plays m k a b → OnlyTurns n b d → m + n ≤ l → Plays l k a d
plays_on m n l k a b d h p le =
    let x = h.turns in
    let y = p.turns in
    record { turns = omega (arith, x, y, le); copies = p.copies ∙ h.copies; undos = p.undos ∙ h.undos }

-- no turns, and one turn more
pub turned_none : (n : ℕ) (a : Work) → OnlyTurns n a a
turned_none n a = record { turns = omega arith; copies = refl; undos = refl }

pub turned_more : (m n : ℕ) (a b d : Work) → OnlyTurns m a b → OnlyTurns 1 b d → m + 1 ≤ n → OnlyTurns n a d
turned_more m n a b d h p le =
    let x = h.turns in
    let y = p.turns in
    record { turns = omega (arith, x, y, le); copies = p.copies ∙ h.copies; undos = p.undos ∙ h.undos }

-- each host is booted at the start of a run
pub turns_begun : (n : ℕ) (a b : Work) → b ≡ turned_by n a → OnlyTurns (n + 0) a b
turns_begun n a b is = record { turns = omega (arith, ap (λ (w : Work). w.turns) is); copies = ap (λ (w : Work). w.copies) is; undos = ap (λ (w : Work). w.undos) is }

-- the turns of one step more
pub turns_more : (m n : ℕ) (acted : Bool) (a b d : Work) → OnlyTurns m a b → d ≡ turned_if acted b → n ≡ m + 1 → OnlyTurns n a d
turns_more m n true a b d h is e =
    let x = h.turns in
    record { turns = omega (arith, x, e, ap (λ (w : Work). w.turns) is); copies = ap (λ (w : Work). w.copies) is ∙ h.copies; undos = ap (λ (w : Work). w.undos) is ∙ h.undos }
turns_more m n false a b d h is e =
    let x = h.turns in
    record { turns = omega (arith, x, e, ap (λ (w : Work). w.turns) is); copies = ap (λ (w : Work). w.copies) is ∙ h.copies; undos = ap (λ (w : Work). w.undos) is ∙ h.undos }

pub turns_within : (m n : ℕ) (a b : Work) → m ≤ n → OnlyTurns m a b → OnlyTurns n a b
turns_within m n a b le h = let x = h.turns in record { turns = omega (arith, x, le); copies = h.copies; undos = h.undos }

-- within one interval a place lies as far past the checkpoint as the walk from another came
pub same_piece : (lo hi p k : ℕ) → lo ≤ p → p ≤ hi → lo / k ≡ hi / k → lo % k + (p - lo) ≤ hi % k
same_piece lo hi p k a b e =
    let x = quotient lo k in
    let y = quotient hi k in
    let z : lo / k * k ≡ hi / k * k = ap (λ (n : ℕ). n * k) e in
    omega (arith, x, y, z)

module _ {State Msg : Type 0} (node : NodeLaws State Msg) (probes : ℕ) (c : Cond) where
  pub fails_here : (s : Scenario) (es : List Event) (p : ℕ) (w : InHand State Msg) → IsAt (rules node probes s) es p w → fails_at (rules node probes s) c es p ≡ not (holds node c w.world)
  fails_here s es p w h = ap (fails_of (rules node probes s) c) h.here

  pub at_start : (s : Scenario) (es : List Event) (w : InHand State Msg) → w ≡ record { world = start (rules node probes s); scenario = s; age = 0 } → IsAt (rules node probes s) es 0 w
  at_start s es w is = record { here = ap (λ (x : InHand State Msg). Some x.world) (sym is); scenario = ap (λ x. x.scenario) is; age = ap (λ x. x.age) is }

  -- the world at the start
  pub stepping_none : (s : Scenario) (n : ℕ) (w : InHand State Msg) → IsAt (rules node probes s) (replicate n event.Step) 0 w → IsStepping node probes c s n 0 w
  stepping_none s n w h = record { here = h; before = λ j lt. absurd (omega arith) }

  -- one step more
  pub stepping_more : (s : Scenario) (n p : ℕ) (w v : InHand State Msg) → p < n → IsStepping node probes c s n p w → next (rules node probes w.scenario) w.world event.Step ≡ Some v.world
      → v.scenario ≡ w.scenario → v.age ≡ w.age + 1 → holds node c w.world ≡ true → IsStepping node probes c s n (p + 1) v
  stepping_more s n p w v lt h is same old fine =
      let r : Rules State Msg = rules node probes s in
      let es : List Event = replicate n event.Step in
      let long : length es ≡ n = length-replicate n event.Step in
      let on : next r w.world (get_or es p event.Step) ≡ Some v.world =
      ap (λ e. next r w.world e) (get_or-replicate n p event.Step event.Step lt) ∙ ap (λ x. next (rules node probes x) w.world event.Step) (sym h.here.scenario) ∙ is in
      let none : fails_at r c es p ≡ false = fails_here s es p w h.here ∙ ap not fine in record {
        here = at-next r es p event.Step w v (omega (arith, long, lt)) h.here on same old;
        before = λ j b. before_more node probes c r es 0 p (λ i x y. h.before i y) none j (omega arith) b;
      }

  -- no place that no step leads to fails
  refused_none : (r : Rules State Msg) (w : World State Msg) (o : Option Refusal) (why : Refusal) → o ≡ Some why → unless_refused r o (after r event.Step w) ≡ None
  refused_none r w o why e = ap (λ x. unless_refused r x (after r event.Step w)) e

  no_world : (r : Rules State Msg) (o : Option (World State Msg)) → (IsSome o → ⊥) → fails_of r c o ≡ false
  no_world r None h = refl
  no_world r (Some w) h = absurd (h refl)

  -- past a world where nothing is pending no place fails
  past_idle : (s : Scenario) (n p : ℕ) (w : InHand State Msg) (why : Refusal) → p < n → IsStepping node probes c s n p w
      → refusal_of (rules node probes w.scenario) event.Step w.world ≡ Some why
      → (j : ℕ) → p < j → fails_at (rules node probes s) c (replicate n event.Step) j ≡ false
  past_idle s n p w why lt h idle j past =
      let r : Rules State Msg = rules node probes s in
      let es : List Event = replicate n event.Step in
      let long : length es ≡ n = length-replicate n event.Step in
      let refused : refusal_of r event.Step w.world ≡ Some why = ap (λ x. refusal_of (rules node probes x) event.Step w.world) (sym h.here.scenario) ∙ idle in
      let stopped : run r (take (p + 1) es) ≡ None =
      ap (run r) (take_more es p event.Step (omega (arith, long, lt))) ∙ run-snoc r (take p es) (get_or es p event.Step) w.world h.here.here
      ∙ ap (λ e. next r w.world e) (get_or-replicate n p event.Step event.Step lt) ∙ refused_none r w.world (refusal_of r event.Step w.world) why refused in
      no_world r (run r (take j es))
      (λ some. none_some (run r (take (p + 1) es)) stopped (subst (λ (xs : List Event). IsSome (run r xs)) (take-take (p + 1) j es (omega arith)) (run-front r (p + 1) (take j es) some)))

  pub idle_none : (s : Scenario) (n p : ℕ) (w : InHand State Msg) (why : Refusal) → p < n → IsStepping node probes c s n p w
      → refusal_of (rules node probes w.scenario) event.Step w.world ≡ Some why → holds node c w.world ≡ true
      → None ≡ first_failing (rules node probes s) c (replicate n event.Step) 0 n
  idle_none s n p w why lt h idle fine =
      let r : Rules State Msg = rules node probes s in
      let es : List Event = replicate n event.Step in
      found_none node probes c r es 0 n (λ j a b. elim (cases_order j p) [
        | inl same ↦ ap (fails_at r c es) same ∙ fails_here s es p w h.here ∙ ap not fine
        | inr (inl before) ↦ h.before j before
        | inr (inr past) ↦ past_idle s n p w why lt h idle j past
      ])

  pub stepped_is : (s : Scenario) (n p : ℕ) (w : InHand State Msg) → p ≤ n → IsStepping node probes c s n p w → holds node c w.world ≡ false
      → Some p ≡ first_failing (rules node probes s) c (replicate n event.Step) 0 n
  stepped_is s n p w le h fails =
      let r : Rules State Msg = rules node probes s in
      let es : List Event = replicate n event.Step in
      found_is node probes c r es 0 n p (omega arith) le (λ j a b. h.before j b) (fails_here s es p w h.here ∙ ap not fails)

  pub stepped_none : (s : Scenario) (n p : ℕ) (w : InHand State Msg) → p ≡ n → IsStepping node probes c s n p w → holds node c w.world ≡ true
      → None ≡ first_failing (rules node probes s) c (replicate n event.Step) 0 n
  stepped_none s n p w e h fine =
      let r : Rules State Msg = rules node probes s in
      let es : List Event = replicate n event.Step in
      found_none node probes c r es 0 n
      (λ j a b. all_before node probes c r es 0 p (λ i x y. h.before i y) (fails_here s es p w h.here ∙ ap not fine) j a (omega (arith, e, b)))
