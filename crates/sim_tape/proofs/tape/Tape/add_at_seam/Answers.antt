use Rattle.std.proofs.Common.{◌≡◌, ◌≤◌, ℕ, Bool, refl, ◌+◌, ◌%◌, ◌<◌, ◌++◌, ◌∷◌, [], None, cond, length, min, sym, ap, ◌∙◌, subst, arith}
use Rattle.std.specs.Prelude.{nat_eq}
use Rattle.sim_world.specs.Acts.{running}
use Rattle.sim_events.specs.Scenario.{Scenario}
use Rattle.sim_world.specs.Clock.{clock_after}
use Rattle.sim_world.specs.Events.{rules, refusal_of}
use Rattle.sim_history.specs.Entry.{Entry}
use Rattle.sim_history.specs.Log.{events_of}
use Rattle.sim_history.specs.Log.{LogView}
use Rattle.sim_history.proofs.Entries.{events-push, events-length}
use Rattle.sim_moves.specs.Places.{world_at}
use Rattle.sim_moves.specs.Walk.{IsRun, IsWalk}
use Rattle.sim_moves.specs.Works.{Plays}
use Rattle.sim_tape.specs.Tape.{Tape}
use Rattle.sim_tape.specs.Places.{world_of, AreCheckpoints}
use Rattle.sim_tape.specs.Works.{nodes_at_end}
use Rattle.sim_tape.proofs.Growing.{run-push}
use Rattle.sim_tape.proofs.Turning.{Inside, same_tape, at_end, many}
use Rattle.sim_tape.proofs.Growing.{kept_checkpoints}
use Rattle.sim_tape.proofs.tape.Tape.add_at_seam.Goals as goal

pub step-requires-clause-can : goal.step-requires-clause-can
step-requires-clause-can g c =
    let i = c.self.inside in
    let log = c.make_room.new.log in
    let P : Tape → Type 0 = λ t. refusal_of (rules g.N.Node.laws g.N.Node.PROBES t.scenario) c.args.event (world_of (rules g.N.Node.laws g.N.Node.PROBES t.scenario) t) ≡ None in
    let G : LogView → ℕ → Type 0 = λ l q. refusal_of (rules g.N.Node.laws g.N.Node.PROBES l.scenario) c.args.event (world_at (rules g.N.Node.laws g.N.Node.PROBES l.scenario) q (events_of l.entries)) ≡ None in
    let end : i.place ≡ length i.log.entries = at_end i.log.entries _ _ c.self.view_is refl c.requires.end in
    let place : i.place ≡ length log.entries = end ∙ ap (λ l. length l.entries) (sym c.make_room.ensures.same) in
    subst (λ (q : ℕ). G log q) place (subst (λ (l : LogView). G l i.place) (sym c.make_room.ensures.same) (subst P (sym c.self.view_is) c.requires.can))

pub step-requires-clause-walk : goal.step-requires-clause-walk
step-requires-clause-walk g c =
    let i = c.self.inside in
    let G : LogView → ℕ → Type 0 = λ l p. IsWalk g.N.Node.told g.N.Node.records (rules g.N.Node.laws g.N.Node.PROBES l.scenario) (events_of l.entries) p i.walk.world i.walk.ring.items in
    let same = c.make_room.ensures.same in
    let place = at_end i.log.entries _ _ c.self.view_is refl c.requires.end ∙ ap (λ l. length l.entries) (sym same) in
    subst (G c.make_room.new.log) place (subst (λ (l : LogView). G l i.place) (sym same) c.self.invariant.2)

pub step-requires-clause-room : goal.step-requires-clause-room
step-requires-clause-room g c =
    omega (arith, c.requires.room, many c.self.inside.log.entries _ _ c.self.view_is refl, ap (λ l. length l.entries) c.make_room.ensures.same)

pub new-requires : goal.new-requires
new-requires g c =
    let v = c.in_ok-clock.ensures in
    let log = c.make_room.new.log in
    let small = v.small in
    record {
      reached = λ to is. sym (v.clock ∙ v.moved ∙ ap {B = ℕ} (λ e. clock_after e (world_at (rules g.N.Node.laws g.N.Node.PROBES log.scenario) (length log.entries) (events_of log.entries))) is);
      small = omega (arith, small);
    }

pub push-requires-clause-few : goal.push-requires-clause-few
push-requires-clause-few g c =
    omega (arith, c.requires.room, many c.self.inside.log.entries _ _ c.self.view_is refl, ap (λ l. length l.entries) c.make_room.ensures.same)

pub invariant_of-self-in_err-clock : goal.invariant_of-self-in_err-clock
invariant_of-self-in_err-clock g c =
    let i = c.self.inside in
    let same = c.make_room.ensures.same in
    let told = g.N.Node.told in
    let place = at_end i.log.entries _ _ c.self.view_is refl c.requires.end ∙ ap (λ l. length l.entries) (sym same) in
    let ring = c.step.ensures.ring in
    let window = c.step.ensures.capacity ∙ c.self.invariant.3 ∙ ap (λ l. l.scenario.window) (sym same) in (
      subst (λ (l : LogView). IsRun (rules g.N.Node.laws g.N.Node.PROBES l.scenario) l.entries) (sym same) c.self.invariant.0,
      subst (λ xs. AreCheckpoints (rules g.N.Node.laws g.N.Node.PROBES c.make_room.new.log.scenario) (events_of c.make_room.new.log.entries) xs) (sym c.make_room.ensures.items)
          (subst (λ (l : LogView). AreCheckpoints (rules g.N.Node.laws g.N.Node.PROBES l.scenario) (events_of l.entries) i.checkpoints.items) (sym same) c.self.invariant.1),
      subst (λ (p : ℕ). IsWalk told g.N.Node.records (rules g.N.Node.laws g.N.Node.PROBES c.make_room.new.log.scenario) (events_of c.make_room.new.log.entries) p c.step.new.self.world c.step.new.self.ring.items)
          (sym place) c.in_err-clock.ensures.err,
      window,
      omega (arith, ring, window),
    )

pub invariant_of-self-2 : goal.invariant_of-self-2
invariant_of-self-2 g c =
    let i = c.self.inside in
    let log = c.make_room.new.log in
    let same = c.make_room.ensures.same in
    let r = rules g.N.Node.laws g.N.Node.PROBES log.scenario in
    let x : Entry = record { event = c.args.event; clock = c.in_ok-clock.clock } in
    let v = c.in_ok-clock.ensures in
    let end : i.place ≡ length i.log.entries = at_end i.log.entries _ _ c.self.view_is refl c.requires.end in
    let place : i.place ≡ length log.entries = end ∙ ap (λ l. length l.entries) (sym same) in
    let room : length log.entries < 65536 = omega (arith, c.requires.room, many i.log.entries _ _ c.self.view_is refl, ap (λ l. length l.entries) same) in
    let low = c.self.invariant.0.limits.interval.0 in
    let run0 = subst (λ (l : LogView). IsRun (rules g.N.Node.laws g.N.Node.PROBES l.scenario) l.entries) (sym same) c.self.invariant.0 in
    let marks0 = subst (λ (l : LogView). AreCheckpoints (rules g.N.Node.laws g.N.Node.PROBES l.scenario) (events_of l.entries) i.checkpoints.items) (sym same) c.self.invariant.1 in
    let marks1 = subst (λ xs. AreCheckpoints r (events_of log.entries) xs) (sym c.make_room.ensures.items) marks0 in
    let whole = c.in_ok-is_whole.ensures.whole ∙ ap {B = Bool} (λ (l : LogView). nat_eq ((length l.entries + 1) % l.scenario.interval) 0) (sym same) in
    let copy = rw (whole) at v.copy in
    let some = subst (λ (l : LogView). 0 < l.scenario.interval) (sym same) low in
    let marks = kept_checkpoints r (events_of log.entries) c.args.event c.make_room.new.worlds.items c.keep.new.worlds.items (length log.entries) log.scenario.interval c.in_ok-clock.copy
    marks1 some refl (sym (events-length log.entries)) copy c.keep.ensures in
    let up = sym (events-push log.entries x) in
    let all : Inside g.N.Node.told g.N.Node.records g.N.Node.laws g.N.Node.PROBES log.scenario (log.entries ++ x ∷ []) c.keep.new.worlds.items (i.place + 1) c.step.new.self.world c.step.new.self.ring.items =
    record {
      run = run-push r log.entries x run0 room v.runs v.clock v.small;
      checkpoints = subst (λ es. AreCheckpoints r es c.keep.new.worlds.items) up marks;
      walk = subst (λ (p : ℕ). IsWalk g.N.Node.told g.N.Node.records r (events_of (log.entries ++ x ∷ [])) (p + 1) c.step.new.self.world c.step.new.self.ring.items) (sym place)
          (subst (λ es. IsWalk g.N.Node.told g.N.Node.records r es (length log.entries + 1) c.step.new.self.world c.step.new.self.ring.items) up v.ok);
    } in
    let done = subst (λ (s : Scenario). Inside g.N.Node.told g.N.Node.records g.N.Node.laws g.N.Node.PROBES s c.push.new.self.entries c.keep.new.worlds.items (i.place + 1) c.step.new.self.world c.step.new.self.ring.items)
    (sym c.push.ensures.scenario)
    (subst (λ es. Inside g.N.Node.told g.N.Node.records g.N.Node.laws g.N.Node.PROBES log.scenario es c.keep.new.worlds.items (i.place + 1) c.step.new.self.world c.step.new.self.ring.items)
    (sym (c.push.ensures.entries ∙ ap (λ (y : Entry). log.entries ++ y ∷ []) c.new.ensures)) all) in
    let ring = c.step.ensures.ring in
    let window = c.step.ensures.capacity ∙ c.self.invariant.3 ∙ ap (λ l. l.scenario.window) (sym same) ∙ ap (λ s. s.window) (sym c.push.ensures.scenario) in (
      done.run,
      done.checkpoints,
      done.walk,
      window,
      omega (arith, ring, window),
    )

pub returns-clause-ok : goal.returns-clause-ok
returns-clause-ok g c =
    let i = c.self.inside in
    let log = c.make_room.new.log in
    let same = c.make_room.ensures.same in
    let x : Entry = record { event = c.args.event; clock = c.in_ok-clock.clock } in
    let v = c.in_ok-clock.ensures in
    same_tape _ _
    (c.push.ensures.scenario ∙ ap (λ l. l.scenario) same ∙ ap (λ t. t.scenario) c.self.view_is)
    (ap events_of (c.push.ensures.entries ∙ ap (λ (y : Entry). log.entries ++ y ∷ []) c.new.ensures) ∙ events-push log.entries x ∙ ap (λ l. events_of l.entries ++ c.args.event ∷ []) same ∙ ap (λ t. t.events ++ c.args.event ∷ []) c.self.view_is)
    (ap (λ t. t.place + 1) c.self.view_is)
    v.warm
    (v.reach ∙ ap (λ (w : ℕ). min w (length i.walk.ring.items + 1)) c.self.invariant.3 ∙ ap (λ t. min t.scenario.window (t.reach + 1)) c.self.view_is)

pub returns-clause-work : goal.returns-clause-work
returns-clause-work g c =
    let i = c.self.inside in
    let log = c.make_room.new.log in
    let same = c.make_room.ensures.same in
    let end : i.place ≡ length i.log.entries = at_end i.log.entries _ _ c.self.view_is refl c.requires.end in
    let place : i.place ≡ length log.entries = end ∙ ap (λ l. length l.entries) (sym same) in
    let N : ℕ → LogView → ℕ = λ q l. cond (nat_eq ((q + 1) % l.scenario.interval) 0) (running (world_at (rules g.N.Node.laws g.N.Node.PROBES l.scenario) (q + 1) (events_of l.entries ++ c.args.event ∷ []))) 0 in
    let whole = c.in_ok-is_whole.ensures.whole ∙ ap {B = Bool} (λ (l : LogView). nat_eq ((length l.entries + 1) % l.scenario.interval) 0) (sym same) in
    let nodes =
    ap {B = ℕ} (λ (b : Bool). cond b (running (world_at (rules g.N.Node.laws g.N.Node.PROBES log.scenario) (length log.entries + 1) (events_of log.entries ++ c.args.event ∷ []))) 0) whole
    ∙ ap {B = ℕ} (λ (q : ℕ). N q log) (sym place)
    ∙ ap {B = ℕ} (λ (l : LogView). N i.place l) same
    ∙ ap {B = ℕ} (λ (t : Tape). nodes_at_end (rules g.N.Node.laws g.N.Node.PROBES t.scenario) c.args.event t) c.self.view_is in
    subst (λ (n : ℕ). Plays 1 n (g.N.Meter.Meter.work c.args.meter.now) (g.N.Meter.Meter.work c.step.new.meter)) nodes c.in_ok-clock.ensures.work

pub returns-clause-clock : goal.returns-clause-clock
returns-clause-clock g c =
    let i = c.self.inside in
    let log = c.make_room.new.log in
    let same = c.make_room.ensures.same in
    let end : i.place ≡ length i.log.entries = at_end i.log.entries _ _ c.self.view_is refl c.requires.end in
    let place : i.place ≡ length log.entries = end ∙ ap (λ l. length l.entries) (sym same) in
    let G : ℕ → LogView → Type 0 = λ q l.
    let r = rules g.N.Node.laws g.N.Node.PROBES l.scenario in
    (world_at r (q + 1) (events_of l.entries ++ c.args.event ∷ [])).clock ≡ clock_after c.args.event (world_at r q (events_of l.entries)) in
    let T : Tape → Type 0 = λ t.
    let r = rules g.N.Node.laws g.N.Node.PROBES t.scenario in
    (world_at r (t.place + 1) (t.events ++ c.args.event ∷ [])).clock ≡ clock_after c.args.event (world_of r t) in
    let P : Tape → Type 0 = λ t.
    let r = rules g.N.Node.laws g.N.Node.PROBES c.args.self.now.scenario in
    (world_of r t).clock ≡ clock_after c.args.event (world_of r c.args.self.now) in
    subst P (sym (returns-clause-ok g c)) (subst T c.self.view_is (subst (G i.place) same (subst (λ (q : ℕ). G q log) (sym place) c.in_ok-clock.ensures.moved)))

pub returns-clause-on : goal.returns-clause-on
returns-clause-on g c =
    let i = c.self.inside in
    let log = c.make_room.new.log in
    let same = c.make_room.ensures.same in
    let end : i.place ≡ length i.log.entries = at_end i.log.entries _ _ c.self.view_is refl c.requires.end in
    let place : i.place ≡ length log.entries = end ∙ ap (λ l. length l.entries) (sym same) in
    let G : ℕ → LogView → Type 0 = λ q l.
    let r = rules g.N.Node.laws g.N.Node.PROBES l.scenario in
    (world_at r q (events_of l.entries)).clock ≤ (world_at r (q + 1) (events_of l.entries ++ c.args.event ∷ [])).clock in
    let T : Tape → Type 0 = λ t.
    let r = rules g.N.Node.laws g.N.Node.PROBES t.scenario in
    (world_of r t).clock ≤ (world_at r (t.place + 1) (t.events ++ c.args.event ∷ [])).clock in
    let P : Tape → Type 0 = λ t.
    let r = rules g.N.Node.laws g.N.Node.PROBES c.args.self.now.scenario in
    (world_of r c.args.self.now).clock ≤ (world_of r t).clock in
    subst P (sym (returns-clause-ok g c)) (subst T c.self.view_is (subst (G i.place) same (subst (λ (q : ℕ). G q log) (sym place) c.in_ok-clock.ensures.on)))
