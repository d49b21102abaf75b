use Rattle.std.proofs.Common.{Bool, cond, ◌≡◌, ◌≢◌, ◌≤◌, ℕ, ◌+◌, ◌%◌, ◌<◌, ◌++◌, ◌∷◌, [], None, length, min, refl, sym, ap, ◌∙◌, subst, arith, eq-eqb}
use Rattle.std.specs.Prelude.{nat_eq}
use Rattle.std.proofs.lemmas.Bool.{false≢true}
use Rattle.sim_world.specs.Acts.{running}
use Rattle.sim_moves.specs.Works.{Plays}
use Rattle.sim_tape.specs.Works.{nodes_at_end}
use Rattle.sim_events.specs.Scenario.{Scenario}
use Rattle.sim_world.specs.Clock.{clock_after}
use Rattle.sim_world.specs.Events.{rules, refusal_of}
use Rattle.sim_history.specs.Entry.{Entry}
use Rattle.sim_history.specs.Log.{events_of}
use Rattle.sim_history.proofs.Entries.{events-push, events-length}
use Rattle.sim_moves.specs.Places.{world_at}
use Rattle.sim_moves.specs.Walk.{IsWalk}
use Rattle.sim_tape.specs.Tape.{Tape}
use Rattle.sim_tape.specs.Places.{world_of, AreCheckpoints}
use Rattle.sim_tape.proofs.Growing.{run-push, checkpoints-more}
use Rattle.sim_tape.proofs.Turning.{Inside, same_tape, at_end, many}
use Rattle.sim_tape.proofs.tape.Tape.add_warm.Goals as goal

pub step-requires-clause-can : goal.step-requires-clause-can
step-requires-clause-can g c =
    let i = c.self.inside in
    let P : Tape → Type 0 = λ t. refusal_of (rules g.N.Node.laws g.N.Node.PROBES t.scenario) c.args.event (world_of (rules g.N.Node.laws g.N.Node.PROBES t.scenario) t) ≡ None in
    let r = rules g.N.Node.laws g.N.Node.PROBES i.log.scenario in
    let place : i.place ≡ length i.log.entries = at_end i.log.entries _ _ c.self.view_is refl c.requires.end in
    subst (λ (q : ℕ). refusal_of r c.args.event (world_at r q (events_of i.log.entries)) ≡ None) place (subst P (sym c.self.view_is) c.requires.can)

pub step-requires-clause-walk : goal.step-requires-clause-walk
step-requires-clause-walk g c =
    let i = c.self.inside in
    let r = rules g.N.Node.laws g.N.Node.PROBES i.log.scenario in
    subst (λ (p : ℕ). IsWalk g.N.Node.told g.N.Node.records r (events_of i.log.entries) p i.walk.world i.walk.ring.items)
    (at_end i.log.entries _ _ c.self.view_is refl c.requires.end) c.self.invariant.2

pub step-requires-clause-room : goal.step-requires-clause-room
step-requires-clause-room g c = omega (arith, c.requires.room, many c.self.inside.log.entries _ _ c.self.view_is refl)

pub new-requires : goal.new-requires
new-requires g c =
    let v = c.in_ok-clock.ensures in
    let log = c.self.inside.log in
    let small = v.small in
    record {
      reached = λ to is. sym (v.clock ∙ v.moved ∙ ap {B = ℕ} (λ e. clock_after e (world_at (rules g.N.Node.laws g.N.Node.PROBES log.scenario) (length log.entries) (events_of log.entries))) is);
      small = omega (arith, small);
    }

pub push-requires-clause-few : goal.push-requires-clause-few
push-requires-clause-few g c = omega (arith, c.requires.room, many c.self.inside.log.entries _ _ c.self.view_is refl)

pub invariant_of-self : goal.invariant_of-self
invariant_of-self g c =
    let i = c.self.inside in
    let r = rules g.N.Node.laws g.N.Node.PROBES i.log.scenario in
    let ring = c.step.ensures.ring in
    let window = c.step.ensures.capacity ∙ c.self.invariant.3 in (
      c.self.invariant.0,
      c.self.invariant.1,
      subst (λ (p : ℕ). IsWalk g.N.Node.told g.N.Node.records r (events_of i.log.entries) p c.step.new.self.world c.step.new.self.ring.items)
          (sym (at_end i.log.entries _ _ c.self.view_is refl c.requires.end)) c.in_err-clock.ensures.err,
      window,
      omega (arith, ring, window),
    )

pub invariant_of-self-2 : goal.invariant_of-self-2
invariant_of-self-2 g c =
    let i = c.self.inside in
    let log = i.log in
    let k = log.scenario.interval in
    let r = rules g.N.Node.laws g.N.Node.PROBES log.scenario in
    let x : Entry = record { event = c.args.event; clock = c.in_ok-clock.clock } in
    let v = c.in_ok-clock.ensures in
    let len = events-length log.entries in
    let place = at_end log.entries _ _ c.self.view_is refl c.requires.end in
    let room : length log.entries < 65536 = omega (arith, c.requires.room, many log.entries _ _ c.self.view_is refl) in
    let none = c.if-not-goes_on.ensures.part refl in
    let part : (length (events_of log.entries) + 1) % k ≢ 0 = λ (z : (length (events_of log.entries) + 1) % k ≡ 0).
    false≢true (sym none ∙ eq-eqb ((length log.entries + 1) % k) 0 (ap (λ (n : ℕ). (n + 1) % k) (sym len) ∙ z)) in
    let marks = checkpoints-more r (events_of log.entries) i.checkpoints.items c.args.event c.self.invariant.1 c.self.invariant.0.limits.interval.0 part in
    let up = sym (events-push log.entries x) in
    let all : Inside g.N.Node.told g.N.Node.records g.N.Node.laws g.N.Node.PROBES log.scenario (log.entries ++ x ∷ []) i.checkpoints.items (i.place + 1) c.step.new.self.world c.step.new.self.ring.items =
    record {
      run = run-push r log.entries x c.self.invariant.0 room v.runs v.clock v.small;
      checkpoints = subst (λ es. AreCheckpoints r es i.checkpoints.items) up marks;
      walk = subst (λ (p : ℕ). IsWalk g.N.Node.told g.N.Node.records r (events_of (log.entries ++ x ∷ [])) (p + 1) c.step.new.self.world c.step.new.self.ring.items) (sym place)
          (subst (λ es. IsWalk g.N.Node.told g.N.Node.records r es (length log.entries + 1) c.step.new.self.world c.step.new.self.ring.items) up v.ok);
    } in
    let done = subst (λ (s : Scenario). Inside g.N.Node.told g.N.Node.records g.N.Node.laws g.N.Node.PROBES s c.push.new.self.entries i.checkpoints.items (i.place + 1) c.step.new.self.world c.step.new.self.ring.items)
    (sym c.push.ensures.scenario)
    (subst (λ es. Inside g.N.Node.told g.N.Node.records g.N.Node.laws g.N.Node.PROBES log.scenario es i.checkpoints.items (i.place + 1) c.step.new.self.world c.step.new.self.ring.items)
    (sym (c.push.ensures.entries ∙ ap (λ (y : Entry). log.entries ++ y ∷ []) c.new.ensures)) all) in
    let ring = c.step.ensures.ring in
    let window = c.step.ensures.capacity ∙ c.self.invariant.3 ∙ ap (λ s. s.window) (sym c.push.ensures.scenario) in (
      done.run,
      done.checkpoints,
      done.walk,
      window,
      omega (arith, ring, window),
    )

pub returns-clause-ok : goal.returns-clause-ok
returns-clause-ok g c =
    let i = c.self.inside in
    let x : Entry = record { event = c.args.event; clock = c.in_ok-clock.clock } in
    let v = c.in_ok-clock.ensures in
    same_tape _ _
    (c.push.ensures.scenario ∙ ap (λ t. t.scenario) c.self.view_is)
    (ap events_of (c.push.ensures.entries ∙ ap (λ (y : Entry). i.log.entries ++ y ∷ []) c.new.ensures) ∙ events-push i.log.entries x ∙ ap (λ t. t.events ++ c.args.event ∷ []) c.self.view_is)
    (ap (λ t. t.place + 1) c.self.view_is)
    v.warm
    (v.reach ∙ ap (λ (w : ℕ). min w (length i.walk.ring.items + 1)) c.self.invariant.3 ∙ ap (λ t. min t.scenario.window (t.reach + 1)) c.self.view_is)

pub returns-clause-clock : goal.returns-clause-clock
returns-clause-clock g c =
    let i = c.self.inside in
    let r = rules g.N.Node.laws g.N.Node.PROBES i.log.scenario in
    let place : i.place ≡ length i.log.entries = at_end i.log.entries _ _ c.self.view_is refl c.requires.end in
    let G : ℕ → Type 0 = λ q. (world_at r (q + 1) (events_of i.log.entries ++ c.args.event ∷ [])).clock ≡ clock_after c.args.event (world_at r q (events_of i.log.entries)) in
    let T : Tape → Type 0 = λ t.
    let r = rules g.N.Node.laws g.N.Node.PROBES t.scenario in
    (world_at r (t.place + 1) (t.events ++ c.args.event ∷ [])).clock ≡ clock_after c.args.event (world_of r t) in
    let P : Tape → Type 0 = λ t.
    let r = rules g.N.Node.laws g.N.Node.PROBES c.args.self.now.scenario in
    (world_of r t).clock ≡ clock_after c.args.event (world_of r c.args.self.now) in
    subst P (sym (returns-clause-ok g c)) (subst T c.self.view_is (subst G (sym place) c.in_ok-clock.ensures.moved))

pub returns-clause-on : goal.returns-clause-on
returns-clause-on g c =
    let i = c.self.inside in
    let r = rules g.N.Node.laws g.N.Node.PROBES i.log.scenario in
    let place : i.place ≡ length i.log.entries = at_end i.log.entries _ _ c.self.view_is refl c.requires.end in
    let G : ℕ → Type 0 = λ q. (world_at r q (events_of i.log.entries)).clock ≤ (world_at r (q + 1) (events_of i.log.entries ++ c.args.event ∷ [])).clock in
    let T : Tape → Type 0 = λ t.
    let r = rules g.N.Node.laws g.N.Node.PROBES t.scenario in
    (world_of r t).clock ≤ (world_at r (t.place + 1) (t.events ++ c.args.event ∷ [])).clock in
    let P : Tape → Type 0 = λ t.
    let r = rules g.N.Node.laws g.N.Node.PROBES c.args.self.now.scenario in
    (world_of r c.args.self.now).clock ≤ (world_of r t).clock in
    subst P (sym (returns-clause-ok g c)) (subst T c.self.view_is (subst G (sym place) c.in_ok-clock.ensures.on))

pub returns-clause-work : goal.returns-clause-work
returns-clause-work g c =
    let i = c.self.inside in
    let r = rules g.N.Node.laws g.N.Node.PROBES i.log.scenario in
    let place = at_end i.log.entries _ _ c.self.view_is refl c.requires.end in
    let part = ap {B = Bool} (λ (q : ℕ). nat_eq ((q + 1) % i.log.scenario.interval) 0) place ∙ c.if-not-goes_on.ensures.part refl in
    let nodes =
    ap {B = ℕ} (λ (b : Bool). cond b (running (world_at r (i.place + 1) (events_of i.log.entries ++ c.args.event ∷ []))) 0) (sym part)
    ∙ ap {B = ℕ} (λ (t : Tape). nodes_at_end (rules g.N.Node.laws g.N.Node.PROBES t.scenario) c.args.event t) c.self.view_is in
    subst (λ (n : ℕ). Plays 1 n (g.N.Meter.Meter.work c.args.meter.now) (g.N.Meter.Meter.work c.step.new.meter)) nodes c.in_ok-clock.ensures.work
