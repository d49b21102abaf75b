-- The first and the last place of a kind among the first places, with one place more.
use Rattle.std.proofs.Common.{◌≡◌, ℕ, ◌+◌, ◌-◌, ◌<◌, ◌≤◌, true, false, Bool, List, Option, Some, None, sym, ap, ◌∙◌, arith, subst, take, slice_get, inl, inr, Result}
use Rattle.std.specs.Option.{unwrap_or}
use Rattle.std.proofs.Math.Nat.{eq-or-lt_of_le}
use Rattle.sim_events.specs.declared.Event.{Event}
use Rattle.sim_events.specs.Scenario.{Scenario}
use Rattle.sim_node.specs.Node.{NodeLaws}
use Rattle.sim_world.specs.World.{World}
use Rattle.sim_world.specs.Events.{Rules, rules, run}
use Rattle.sim_tape.specs.Tape.{Tape, with_world, at}
use Rattle.sim_watch.specs.Condition.{Cond}
use Rattle.sim_watch.specs.declared.sought.Sought.{Sought}
use Rattle.sim_watch.specs.declared.sought.Sought.TheVariants as sought
use Rattle.sim_inspect.specs.declared.seeking.SeekError.{SeekError}
use Rattle.sim_inspect.specs.declared.seeking.Span.{Span}
use Rattle.sim_inspect.specs.Seeking.{is_met, is_met_in, is_met_at, HasNone, IsLast, OnFirst, OnLast, IsSpan, FindsLastBefore, IsFound}

module _ (test : ℕ → Bool) (n : ℕ) where
  none_more : HasNone test n → test n ≡ false → HasNone test (n + 1)
  none_more none here j below =
      let le : j ≤ n = omega arith in
      elim (eq-or-lt_of_le le) [
        | inl same ↦ ap test same ∙ here
        | inr less ↦ none j less
      ]

  first_more : (o : Option ℕ) → OnFirst test n o → test n ≡ false → OnFirst test (n + 1) o
  first_more None first here = none_more first here
  first_more (Some p) first here =
      let lt = first.below in
      record { below = omega arith; met = first.met; before = first.before }

  first_met : (o : Option ℕ) → OnFirst test n o → test n ≡ true → OnFirst test (n + 1) (Some (unwrap_or o n))
  first_met None first here = record { below = omega arith; met = here; before = first }
  first_met (Some p) first here =
      let lt = first.below in
      record { below = omega arith; met = first.met; before = first.before }

  last_more : (o : Option ℕ) → OnLast test n o → test n ≡ false → OnLast test (n + 1) o
  last_more None last here = none_more last here
  last_more (Some p) last here =
      let lt = last.below in
      record { below = omega arith; met = last.met; behind = behind }
    where
      behind : (j : ℕ) → p < j → j < n + 1 → test j ≡ false
      behind j from below =
          let le : j ≤ n = omega arith in
          elim (eq-or-lt_of_le le) [
            | inl same ↦ ap test same ∙ here
            | inr less ↦ last.behind j from less
          ]

  last_met : test n ≡ true → OnLast test (n + 1) (Some n)
  last_met here = record { below = omega arith; met = here; behind = λ j from below. absurd (omega arith) }

  pub span_more : (span : Span) → IsSpan test n span → test n ≡ false → IsSpan test (n + 1) span
  span_more span is here = record { first = first_more span.first is.first here; last = last_more span.last is.last here }

  pub span_met : (span : Span) → IsSpan test n span → test n ≡ true → IsSpan test (n + 1) (record { first = Some (unwrap_or span.first n); last = Some n })
  span_met span is here = record { first = first_met span.first is.first here; last = last_met here }

pub span_none : (test : ℕ → Bool) → IsSpan test 0 (record { first = None; last = None })
span_none test = record { first = λ j below. absurd (omega arith); last = λ j below. absurd (omega arith) }

-- a warm tape is walked on by one place, or stays
pub moved_on : (p : ℕ) (t u v : Tape) → u ≡ v → v ≡ with_world true v.reach (at (t.place + 1) t) → t.place + 1 ≡ p → u ≡ with_world true u.reach (at p t)
moved_on p t u v same is e = same ∙ is ∙ ap (λ (n : ℕ). with_world true v.reach (at n t)) e ∙ ap (λ (x : Tape). with_world true x.reach (at p t)) (sym same)

pub stayed : (p : ℕ) (t u : Tape) → u ≡ t → t.warm ≡ true → t.place ≡ p → u ≡ with_world true u.reach (at p t)
stayed p t u same warm e =
    let here : t ≡ with_world true t.reach (at p t) = λ i. record { scenario = t.scenario; events = t.events; place = e i; warm = warm i; reach = t.reach } in
    same ∙ here ∙ ap (λ (x : Tape). with_world true x.reach (at p t)) (sym same)

-- a tape at its first place, and one that was walked on
pub opened_at : (s : Scenario) (events : List Event) (p n : ℕ) (t : Tape) → t ≡ record { scenario = s; events = events; place = p; warm = true; reach = n }
    → t ≡ record { scenario = s; events = events; place = p; warm = true; reach = t.reach }
opened_at s events p n t is = is ∙ ap (λ (x : Tape). record { scenario = s; events = events; place = p; warm = true; reach = x.reach }) (sym is)

pub walked_on : (s : Scenario) (events : List Event) (p : ℕ) (t u : Tape) → t ≡ record { scenario = s; events = events; place = p - 1; warm = true; reach = t.reach }
    → u ≡ with_world true u.reach (at p t) → u ≡ record { scenario = s; events = events; place = p + 1 - 1; warm = true; reach = u.reach }
walked_on s events p t u is moved =
    let same : p ≡ p + 1 - 1 = omega arith in
    moved ∙ ap (λ (x : Tape). with_world true u.reach (at p x)) is ∙ ap (λ (n : ℕ). record { scenario = s; events = events; place = n; warm = true; reach = u.reach }) same

module _ {State Msg : Type 0} (node : NodeLaws State Msg) (probes : ℕ) (s : Sought) where
  -- what is found of the tape's world and of its next event is said of the place
  pub met_here : (p : ℕ) (t u : Tape) (scenario : Scenario) (w : World State Msg) (next : Option Event) (met : Bool) → u ≡ with_world true u.reach (at p t)
      → run (rules node probes u.scenario) (take u.place u.events) ≡ Some w → scenario ≡ u.scenario → next ≡ slice_get u.events u.place → met ≡ is_met (rules node probes scenario) s w next
      → is_met_at (rules node probes t.scenario) s t.events p ≡ met
  met_here p t u scenario w next met moved runs same follows is =
      sym (ap (λ (x : Tape). is_met_at (rules node probes x.scenario) s x.events x.place) moved)
      ∙ ap (λ (o : Option (World State Msg)). is_met_in (rules node probes u.scenario) s o (slice_get u.events u.place)) runs
      ∙ ap (λ (n : Option Event). is_met (rules node probes u.scenario) s w n) (sym follows)
      ∙ ap (λ (x : Scenario). is_met (rules node probes x) s w next) (sym same) ∙ sym is

  -- what is found of a tape of a run is said of the run
  pub met_in_run : (scenario : Scenario) (events : List Event) (p q : ℕ) (t : Tape) (met : Bool) → t ≡ record { scenario = scenario; events = events; place = q; warm = true; reach = t.reach }
      → is_met_at (rules node probes t.scenario) s t.events p ≡ met → is_met_at (rules node probes scenario) s events p ≡ met
  met_in_run scenario events p q t met is here = sym (ap (λ (x : Tape). is_met_at (rules node probes x.scenario) s x.events p) is) ∙ here

-- the last place below the end
pub last_there : (test : ℕ → Bool) (end p : ℕ) (o : Option ℕ) → OnLast test end o → o ≡ Some p → IsLast test end p
last_there test end p o on is = subst (λ (x : Option ℕ). OnLast test end x) is on

pub last_absent : (test : ℕ → Bool) (end : ℕ) (o : Option ℕ) → OnLast test end o → o ≡ None → HasNone test end
last_absent test end o on is = subst (λ (x : Option ℕ). OnLast test end x) is on

pub met_last : (test : ℕ → Bool) (here p : ℕ) → IsLast test (here + 1) p → here ≤ p → test here ≡ true
met_last test here p last le =
    let lt = last.below in
    let same : here ≡ p = omega arith in
    ap test same ∙ last.met

-- what is found before a place is what a search for `held` finds
pub found_held : {State Msg : Type 0} (r : Rules State Msg) (events : List Event) (here seen : ℕ) (s : Sought) (c : Cond) (found : Result ℕ SeekError) → s ≡ sought.Held c → seen ≡ here
    → FindsLastBefore (is_met_at r s events) seen found → IsFound r events here s found
found_held r events here seen s c found is same h =
    let at_here : FindsLastBefore (is_met_at r s events) here found = subst (λ (n : ℕ). FindsLastBefore (is_met_at r s events) n found) same h in
    let of_held : FindsLastBefore (is_met_at r (sought.Held c) events) here found = subst (λ (x : Sought). FindsLastBefore (is_met_at r x events) here found) is at_here in
    subst (λ (x : Sought). IsFound r events here x found) (sym is) of_held
