-- Lemmas on more events, or fewer, after a place.
use Rattle.std.proofs.Common.{◌≡◌, ℕ, ◌+◌, ◌-◌, ◌<◌, ◌≤◌, cond, List, ◌++◌, length, take, get_or, sym, ap, ◌∙◌, arith}
use Rattle.std.specs.Option.{unwrap_or}
use Rattle.std.proofs.lemmas.Option.{slice_get_within}
use Rattle.std.proofs.lemmas.List.{take-append-le, take-take, get_or_append_left, get_or-take}
use Rattle.sim_node.specs.Node.{NodeRecords}
use Rattle.sim_events.specs.declared.Event.{Event}
use Rattle.sim_events.specs.declared.Event.TheVariants as event
use Rattle.sim_world.specs.World.{World}
use Rattle.sim_world.specs.Acts.{acts}
use Rattle.sim_world.specs.Records.{EventRecord as Kept, InHand}
use Rattle.sim_world.specs.Events.{Rules, start, run}
use Rattle.sim_moves.specs.Places.{world_at, acts_at, IsAt, Answers, AreRecords}
use Rattle.sim_moves.proofs.Placing.{at-extended, at-shortened}

module _ {State Msg : Type 0} (r : Rules State Msg) where
  pub at-front : (es : List Event) (n p : ℕ) (w : InHand State Msg) → p ≤ n → IsAt r es p w → IsAt r (take n es) p w
  at-front es n p w le h = record { here = ap (run r) (take-take p n es le) ∙ h.here; scenario = h.scenario; age = h.age }

  pub at-back : (es : List Event) (n p : ℕ) (w : InHand State Msg) → p ≤ n → IsAt r (take n es) p w → IsAt r es p w
  at-back es n p w le h = record { here = ap (run r) (sym (take-take p n es le)) ∙ h.here; scenario = h.scenario; age = h.age }

  pub world_at-front : (es : List Event) (n p : ℕ) → p ≤ n → world_at r p (take n es) ≡ world_at r p es
  world_at-front es n p le = ap (λ (xs : List Event). unwrap_or (run r xs) (start r)) (take-take p n es le)

  pub acts_at-front : (es : List Event) (n p : ℕ) → p < n → n ≤ length es → acts_at r p (take n es) ≡ acts_at r p es
  acts_at-front es n p lt le =
      ap (λ (w : World State Msg). cond (acts w (get_or (take n es) p event.Step)) 1 0) (world_at-front es n p (omega (arith, lt)))
      ∙ ap (λ (e : Event). cond (acts (world_at r p es) e) 1 0) (get_or-take n es p event.Step lt)

  pub world_at-extended : (es more : List Event) (p : ℕ) → p ≤ length es → world_at r p (es ++ more) ≡ world_at r p es
  world_at-extended es more p le = ap (λ (xs : List Event). unwrap_or (run r xs) (start r)) (take-append-le p es more le)

module _ {State Msg Undo : Type 0} (told : State → ℕ) (records : NodeRecords State Undo) (r : Rules State Msg) where
  acts_at-extended : (es more : List Event) (p : ℕ) → p < length es → acts_at r p (es ++ more) ≡ acts_at r p es
  acts_at-extended es more p lt =
      ap (λ (w : World State Msg). cond (acts w (get_or (es ++ more) p event.Step)) 1 0) (world_at-extended r es more p (omega (arith, lt)))
      ∙ ap (λ (e : Event). cond (acts (world_at r p es) e) 1 0) (get_or_append_left es more event.Step p lt)

  -- what answers for an event does so after more events were added
  answers-extended : (es more : List Event) (p : ℕ) (u : Kept State Msg Undo) → p < length es → Answers told records r es p u → Answers told records r (es ++ more) p u
  answers-extended es more p u lt h = record {
    leads = λ now at. h.leads now (at-shortened r es more (p + 1) now (omega (arith, lt)) at);
    back = λ now at. at-extended r es more p _ (omega (arith, lt)) (h.back now (at-shortened r es more (p + 1) now (omega (arith, lt)) at));
    acted = h.acted ∙ sym (acts_at-extended es more p lt);
  }

  pub records-extended : (es more : List Event) (p : ℕ) (us : List (Kept State Msg Undo)) → p ≤ length es → AreRecords told records r es p us → AreRecords told records r (es ++ more) p us
  records-extended es more p us le h =
      let reach = h.reach in
      record {
        reach = reach;
        answers = λ i u at.
            let inside = slice_get_within us i u at in
            answers-extended es more (p - length us + i) u (omega (arith, inside, reach, le)) (h.answers i u at);
      }

  answers-front : (es : List Event) (n p : ℕ) (u : Kept State Msg Undo) → p < n → n ≤ length es → Answers told records r es p u → Answers told records r (take n es) p u
  answers-front es n p u lt le h = record {
    leads = λ now at. h.leads now (at-back r es n (p + 1) now (omega (arith, lt)) at);
    back = λ now at. at-front r es n p _ (omega (arith, lt)) (h.back now (at-back r es n (p + 1) now (omega (arith, lt)) at));
    acted = h.acted ∙ sym (acts_at-front r es n p lt le);
  }

  -- the records before a place are those of the events before it alone
  pub records-front : (es : List Event) (n p : ℕ) (us : List (Kept State Msg Undo)) → p ≤ n → n ≤ length es → AreRecords told records r es p us → AreRecords told records r (take n es) p us
  records-front es n p us le within h =
      let reach = h.reach in
      record {
        reach = reach;
        answers = λ i u at.
            let inside = slice_get_within us i u at in
            answers-front es n (p - length us + i) u (omega (arith, inside, reach, le)) within (h.answers i u at);
      }
