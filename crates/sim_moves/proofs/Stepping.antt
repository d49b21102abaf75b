-- Lemmas on a step past the end of a run.
use Rattle.std.proofs.Common.{◌≡◌, ℕ, ◌+◌, ◌≤◌, Bool, true, false, cond, List, [], ◌∷◌, ◌++◌, length, take, refl, sym, ap, subst, ◌∙◌, Option, Some, None, arith, length-append}
use Rattle.std.specs.Option.{IsSome, MatchOption}
use Rattle.std.specs.List.{count_by}
use Rattle.std.specs.declared.sync.Arc.{Arc}
use Rattle.std.specs.Arc.{arc_value}
use Rattle.std.proofs.Math.Seq.{take-length}
use Rattle.circular_buffer.proofs.Places.{slice_get-last}
use Rattle.circular_buffer.specs.Buffer.{keep_last}
use Rattle.sim_node.specs.Node.{NodeLaws, NodeRecords}
use Rattle.sim_node.specs.Work.{Work}
use Rattle.sim_events.specs.declared.Event.{Event}
use Rattle.sim_events.specs.Scenario.{Scenario}
use Rattle.sim_world.specs.World.{World}
use Rattle.sim_world.specs.Acts.{acts, turns_of, running}
use Rattle.sim_world.specs.Records.{EventRecord as Kept, InHand, LeadsBack, AnswersFor}
use Rattle.sim_world.specs.Undone.{is_reaction}
use Rattle.sim_world.specs.Events.{Rules, rules, run}
use Rattle.sim_history.specs.Entry.{Entry}
use Rattle.sim_history.specs.Log.{events_of}
use Rattle.sim_history.proofs.Entries.{events-length, events-push}
use Rattle.sim_moves.specs.Places.{world_at, IsAt, Answers}
use Rattle.sim_moves.specs.Walk.{IsWalk}
use Rattle.sim_moves.specs.Works.{Plays}
use Rattle.sim_moves.proofs.Placing.{at-extended, world_at-is, played_at, played_answers, records-push, turns-more}
use Rattle.sim_moves.proofs.Extending.{records-extended}

-- a turn, and the nodes that are copied after it
pub step_work : {State Msg : Type 0} (a b d : Work) (w : World State Msg) (e : Event) (n : ℕ) → b ≡ record a { turns = a.turns + turns_of w e } → d ≡ record b { copies = b.copies + n } → Plays 1 n a d
step_work a b d w e n turned copied =
    let one = turns-more 0 1 a a b w e (record { turns = omega arith; copies = refl; undos = refl }) turned (omega arith) in
    let turns = one.turns in
    let copies = one.copies in
    record {
      turns = omega (arith, turns, ap (λ (x : Work). x.turns) copied);
      copies = omega (arith, copies, ap (λ (x : Work). x.copies) copied);
      undos = ap (λ (x : Work). x.undos) copied ∙ one.undos;
    }

module _ {State Msg Undo : Type 0} (told : State → ℕ) (records : NodeRecords State Undo) (laws : NodeLaws State Msg) (probes : ℕ) (s : Scenario) where
  -- the world after one more event
  pub stepped_at : (entries : List Entry) (e : Event) (w v : InHand State Msg) (u : Kept State Msg Undo) → IsAt (rules laws probes s) (events_of entries) (length entries) w
      → AnswersFor (rules laws probes w.scenario) records u.changes w.world e v.world → v.scenario ≡ w.scenario → v.age ≡ w.age + 1
      → IsAt (rules laws probes s) (events_of entries ++ e ∷ []) (length entries + 1) v
  stepped_at entries e w v u here answers sc age =
      let x : Entry = record { event = e; clock = 0 } in
      let r = rules laws probes s in
      let up : events_of (entries ++ x ∷ []) ≡ events_of entries ++ e ∷ [] = events-push entries x in
      let le : length entries ≤ length (events_of entries) = omega (arith, events-length entries) in
      subst (λ (es : List Event). IsAt r es (length entries + 1) v) up
      (played_at told records laws probes s (entries ++ x ∷ []) (length entries) x w v u (slice_get-last entries x (length entries) refl)
      (subst (λ (es : List Event). IsAt r es (length entries) w) (sym up) (at-extended r (events_of entries) (e ∷ []) (length entries) w le here)) answers sc age)

  stepped_answers : (entries : List Entry) (e : Event) (w v : InHand State Msg) (u : Kept State Msg Undo) → IsAt (rules laws probes s) (events_of entries) (length entries) w
      → IsAt (rules laws probes s) (events_of entries ++ e ∷ []) (length entries + 1) v → AnswersFor (rules laws probes w.scenario) records u.changes w.world e v.world → LeadsBack told records u v
      → count_by is_reaction u.changes ≡ cond (acts w.world e) 1 0 → Answers told records (rules laws probes s) (events_of entries ++ e ∷ []) (length entries) u
  stepped_answers entries e w v u here after answers leads acted =
      let x : Entry = record { event = e; clock = 0 } in
      let r = rules laws probes s in
      let up : events_of (entries ++ x ∷ []) ≡ events_of entries ++ e ∷ [] = events-push entries x in
      let le : length entries ≤ length (events_of entries) = omega (arith, events-length entries) in
      subst (λ (es : List Event). Answers told records r es (length entries) u) up
      (played_answers told records laws probes s (entries ++ x ∷ []) (length entries) x w v u (slice_get-last entries x (length entries) refl)
      (subst (λ (es : List Event). IsAt r es (length entries) w) (sym up) (at-extended r (events_of entries) (e ∷ []) (length entries) w le here))
      (subst (λ (es : List Event). IsAt r es (length entries + 1) v) (sym up) after) answers leads acted)

  pub stepped_walk : (entries : List Entry) (e : Event) (h : Option (InHand State Msg)) (w v : InHand State Msg) (us : List (Kept State Msg Undo)) (u : Kept State Msg Undo) (cap : ℕ)
      → IsWalk told records (rules laws probes s) (events_of entries) (length entries) h us → IsAt (rules laws probes s) (events_of entries) (length entries) w
      → AnswersFor (rules laws probes w.scenario) records u.changes w.world e v.world → v.scenario ≡ w.scenario → v.age ≡ w.age + 1 → LeadsBack told records u v
      → count_by is_reaction u.changes ≡ cond (acts w.world e) 1 0
      → IsWalk told records (rules laws probes s) (events_of entries ++ e ∷ []) (length entries + 1) (Some v) (keep_last cap (us ++ u ∷ []))
  stepped_walk entries e h w v us u cap walk here answers sc age leads acted =
      let r = rules laws probes s in
      let es : List Event = events_of entries in
      let le : length entries ≤ length es = omega (arith, events-length entries) in
      let after = stepped_at entries e w v u here answers sc age in
      record {
        within = omega (arith, length-append es (e ∷ []), events-length entries);
        here = after;
        answers = records-push told records r (es ++ e ∷ []) us (length entries) cap u (records-extended told records r es (e ∷ []) (length entries) us le walk.answers)
            (stepped_answers entries e w v u here after answers leads acted);
      }

module _ {State Msg : Type 0} (r : Rules State Msg) where
  pub stepped_runs : (entries : List Entry) (e : Event) (v : InHand State Msg) → IsAt r (events_of entries ++ e ∷ []) (length entries + 1) v → IsSome (run r (events_of entries ++ e ∷ []))
  stepped_runs entries e v h =
      let es : List Event = events_of entries ++ e ∷ [] in
      let len : length entries + 1 ≡ length es = omega (arith, length-append (events_of entries) (e ∷ []), events-length entries) in
      let all : take (length entries + 1) es ≡ es = ap (λ (n : ℕ). take n es) len ∙ take-length es in
      subst (λ (o : Option (World State Msg)). IsSome o) (sym (ap (run r) (sym all) ∙ h.here)) refl

  pub stepped_copy : {Z : Type 0} (es : List Event) (p : ℕ) (v : InHand State Msg) (asked : Bool) (copy : Option (Arc (InHand State Msg) Z)) → IsAt r es p v
      → MatchOption copy (asked ≡ false) (λ c. (asked ≡ true) × (arc_value c ≡ v)) → MatchOption copy (asked ≡ false) (λ c. (asked ≡ true) × IsAt r es p (arc_value c))
  stepped_copy es p v asked None at h = h
  stepped_copy es p v asked (Some c) at h = (h.0, subst (IsAt r es p) (sym h.1) at)

  pub stepped_work : (es : List Event) (p : ℕ) (v : InHand State Msg) (asked : Bool) (a b : Work) → IsAt r es p v → Plays 1 (cond asked (running v.world) 0) a b
      → Plays 1 (cond asked (running (world_at r p es)) 0) a b
  stepped_work es p v asked a b at h = subst (λ (w : World State Msg). Plays 1 (cond asked (running w) 0) a b) (sym (world_at-is r es p v at)) h
