-- Lemmas on the worlds along a list of events, and on the records that lead back.
use Rattle.std.proofs.Common.{◌≡◌, ◌≢◌, ℕ, suc, ◌+◌, ◌-◌, ◌<◌, ◌≤◌, Bool, true, false, cond, List, [], ◌∷◌, ◌++◌, length, take, drop, get_or, min, refl, sym, ap, subst, ◌∙◌, ⊎_elim, Option, Some, None, arith, length-append, length-drop, length-take}
use Rattle.std.specs.Prelude.{slice_get, IfSome}
use Rattle.std.specs.Option.{IsSome, is_some, unwrap_or}
use Rattle.std.specs.List.{count_by}
use Rattle.std.proofs.lemmas.Bool.{cases_eq, false≢true}
use Rattle.std.proofs.lemmas.Option.{slice_get_within}
use Rattle.std.proofs.lemmas.List.{take-append-drop, take_more, take-append-le, length-map}
use Rattle.circular_buffer.proofs.Places.{slice_get-append_left, slice_get-drop, slice_get-take, slice_get-last}
use Rattle.circular_buffer.specs.Buffer.{keep_last}
use Rattle.sim_node.specs.Node.{NodeLaws, NodeRecords}
use Rattle.sim_node.specs.Work.{Work}
use Rattle.sim_events.specs.declared.Event.{Event}
use Rattle.sim_events.specs.declared.Event.TheVariants as event
use Rattle.sim_events.specs.Scenario.{Scenario}
use Rattle.sim_world.specs.World.{World, host_at}
use Rattle.sim_world.specs.Acts.{acts, turns_of, turned_if, is_bounce}
use Rattle.sim_world.specs.Records.{EventRecord as Kept, InHand, LeadsBack, back, AnswersFor}
use Rattle.sim_world.specs.Undone.{is_reaction, taken_back}
use Rattle.sim_world.specs.declared.small.Small.{Small}
use Rattle.sim_world.specs.Events.{Rules, rules, start, next, run, run_from, then_next}
use Rattle.sim_history.specs.Entry.{Entry}
use Rattle.sim_history.specs.Log.{events_of}
use Rattle.sim_history.proofs.Entries.{event_at}
use Rattle.sim_moves.specs.Places.{world_at, ChangesOnly, acts_at, acting, IsAt, before, Answers, AreRecords}
use Rattle.sim_moves.specs.Works.{undone_by, OnlyTurns}

pub in_hand : {State Msg : Type 0} (v w : InHand State Msg) → v.world ≡ w.world → v.scenario ≡ w.scenario → v.age ≡ w.age → v ≡ w
in_hand v w a b c = λ i. record { world = a i; scenario = b i; age = c i }

pub some_same : {X : Type 0} (o : Option X) (x y : X) → o ≡ Some x → o ≡ Some y → x ≡ y
some_same o x y a b = ap (λ z. unwrap_or z x) (sym a ∙ b)

module _ {State Msg : Type 0} (r : Rules State Msg) where
  run_from-snoc : (w : Option (World State Msg)) (es : List Event) (e : Event) → run_from r w (es ++ e ∷ []) ≡ then_next r (run_from r w es) e
  run_from-snoc w [] e = refl
  run_from-snoc w (x ∷ es) e = run_from-snoc (then_next r w x) es e

  -- a run of one event more
  pub run-snoc : (es : List Event) (e : Event) (w : World State Msg) → run r es ≡ Some w → run r (es ++ e ∷ []) ≡ next r w e
  run-snoc es e w h = run_from-snoc (Some (start r)) es e ∙ ap (λ o. then_next r o e) h

  run_from-none : (es : List Event) → run_from r None es ≡ None
  run_from-none [] = refl
  run_from-none (e ∷ es) = run_from-none es

  run_from-append : (w : Option (World State Msg)) (es fs : List Event) → run_from r w (es ++ fs) ≡ run_from r (run_from r w es) fs
  run_from-append w [] fs = refl
  run_from-append w (e ∷ es) fs = run_from-append (then_next r w e) es fs

  begins : (w : Option (World State Msg)) (es : List Event) → IsSome (run_from r w es) → IsSome w
  begins (Some w) es h = refl
  begins None es h = subst IsSome (run_from-none es) h

  -- the first events of a run are a run
  pub run-front : (i : ℕ) (es : List Event) → IsSome (run r es) → IsSome (run r (take i es))
  run-front i es h =
      begins (run r (take i es)) (drop i es)
      (subst IsSome (ap (run r) (sym (take-append-drop i es)) ∙ run_from-append (Some (start r)) (take i es) (drop i es)) h)

  pub run-more : (es : List Event) (i : ℕ) (d : Event) (w : World State Msg) → i < length es → run r (take i es) ≡ Some w → run r (take (i + 1) es) ≡ next r w (get_or es i d)
  run-more es i d w lt is = ap (run r) (take_more es i d lt) ∙ run-snoc (take i es) (get_or es i d) w is

  pub world_at-is : (es : List Event) (p : ℕ) (w : InHand State Msg) → IsAt r es p w → world_at r p es ≡ w.world
  world_at-is es p w h = ap (λ o. unwrap_or o (start r)) h.here

  -- where no host changes but one, none other does between the two places
  pub changes_only : (es : List Event) (p : ℕ) (w v : InHand State Msg) (o : Option ℕ) → IsAt r es p w → IsAt r es (p + 1) v → IfSome o (λ h. h < 32)
      → IfSome o (λ h. (k : ℕ) → k ≢ h → host_at k v.world ≡ host_at k w.world) → IfSome o (λ h. ChangesOnly r h p es)
  changes_only es p w v None here there small others = tt
  changes_only es p w v (Some h) here there small others = (
    small,
    λ k apart. (ap (λ (x : World State Msg). host_at k x) (world_at-is es (p + 1) v there) ∙ others k apart ∙ sym (ap (λ (x : World State Msg). host_at k x) (world_at-is es p w here))),
  )

  -- there is one world at a place
  pub at-same : (es : List Event) (p : ℕ) (v w : InHand State Msg) → IsAt r es p v → IsAt r es p w → v ≡ w
  at-same es p v w a b =
      in_hand v w (some_same (run r (take p es)) v.world w.world a.here b.here) (a.scenario ∙ sym b.scenario) (a.age ∙ sym b.age)

  -- after the first events of a run the next one can happen
  pub can_go_on : (es : List Event) (i : ℕ) (d : Event) (w : InHand State Msg) → IsSome (run r es) → i < length es → IsAt r es i w → IsSome (next r w.world (get_or es i d))
  can_go_on es i d w h lt at = subst IsSome (run-more es i d w.world lt at.here) (run-front (i + 1) es h)

  -- the world after one more event
  pub at-next : (es : List Event) (i : ℕ) (d : Event) (w v : InHand State Msg) → i < length es → IsAt r es i w → next r w.world (get_or es i d) ≡ Some v.world → v.scenario ≡ w.scenario
      → v.age ≡ w.age + 1 → IsAt r es (i + 1) v
  at-next es i d w v lt at is s a = record {
    here = run-more es i d w.world lt at.here ∙ is;
    scenario = s ∙ at.scenario;
    age = a ∙ ap (λ n. n + 1) at.age;
  }

  -- more events at the end change nothing before
  pub at-extended : (es more : List Event) (p : ℕ) (w : InHand State Msg) → p ≤ length es → IsAt r es p w → IsAt r (es ++ more) p w
  at-extended es more p w within h = record { here = ap (run r) (take-append-le p es more within) ∙ h.here; scenario = h.scenario; age = h.age }

  pub at-shortened : (es more : List Event) (p : ℕ) (w : InHand State Msg) → p ≤ length es → IsAt r (es ++ more) p w → IsAt r es p w
  at-shortened es more p w within h = record { here = ap (run r) (sym (take-append-le p es more within)) ∙ h.here; scenario = h.scenario; age = h.age }

  pub acting-more : (p n q : ℕ) (es : List Event) → q ≡ p + 1 → acting r p (n + 1) es ≡ acts_at r p es + acting r q n es
  acting-more p n q es is =
      let one : n + 1 ≡ suc n = omega arith in
      ap {B = ℕ} (λ (k : ℕ). acting r p k es) one ∙ ap {B = ℕ} (λ (k : ℕ). acts_at r p es + acting r k n es) (sym is)

module _ {State Msg Undo : Type 0} (told : State → ℕ) (records : NodeRecords State Undo) (r : Rules State Msg) where
  -- a record that was made at a place answers there
  pub answers_here : (es : List Event) (p : ℕ) (d : Event) (w v : InHand State Msg) (u : Kept State Msg Undo) → IsAt r es p w → IsAt r es (p + 1) v → LeadsBack told records u v
      → back records u.changes v.world ≡ w.world → count_by is_reaction u.changes ≡ cond (acts w.world (get_or es p event.Step)) 1 0 → Answers told records r es p u
  answers_here es p d w v u at after leads is acted =
      record {
        leads = λ now h. subst (LeadsBack told records u) (at-same r es (p + 1) v now after h) leads;
        back = λ now h.
            let same = at-same r es (p + 1) v now after h in
            let old = leads.old in
            let was : w ≡ before told records r u v = in_hand w (before told records r u v) (sym is) (at.scenario ∙ sym after.scenario) (omega (arith, at.age, after.age)) in
            subst (λ x. IsAt r es p (before told records r u x)) same (subst (IsAt r es p) was at);
        acted = acted ∙ ap (λ x. cond (acts x (get_or es p event.Step)) 1 0) (sym (world_at-is r es p w at));
      }

  pub records-push : (es : List Event) (us : List (Kept State Msg Undo)) (p cap : ℕ) (u : Kept State Msg Undo) → AreRecords told records r es p us → Answers told records r es p u
      → AreRecords told records r es (p + 1) (keep_last cap (us ++ u ∷ []))
  records-push es us p cap u old here =
      let len : length (us ++ u ∷ []) ≡ length us + 1 = length-append us (u ∷ []) in
      let cut : ℕ = length (us ++ u ∷ []) - cap in
      let kept : length (drop cut (us ++ u ∷ [])) ≡ length (us ++ u ∷ []) - cut = length-drop cut (us ++ u ∷ []) in
      let bound : length us ≤ p = old.reach in
      record {
        reach = omega arith;
        answers = λ i x at.
            let moved : slice_get (us ++ u ∷ []) (cut + i) ≡ Some x = sym (slice_get-drop cut (us ++ u ∷ []) i (cut + i) refl) ∙ at in
            let inside : cut + i < length (us ++ u ∷ []) = slice_get_within (us ++ u ∷ []) (cut + i) x moved in
            ⊎_elim
            (λ (is_last : cut + i ≡ length us).
            let same : u ≡ x = some_same _ u x (slice_get-last us u (cut + i) is_last) moved in
            let place : p + 1 - length (drop cut (us ++ u ∷ [])) + i ≡ p = omega arith in
            subst (λ (q : ℕ). Answers told records r es q x) (sym place) (subst (Answers told records r es p) same here))
            (λ (other : cut + i ≢ length us).
            let before : cut + i < length us = omega arith in
            let place : p - length us + (cut + i) ≡ p + 1 - length (drop cut (us ++ u ∷ [])) + i = omega arith in
            subst (λ (q : ℕ). Answers told records r es q x) place (old.answers (cut + i) x (sym (slice_get-append_left us (u ∷ []) (cut + i) before) ∙ moved)))
            (cases_eq (cut + i) (length us));
      }

  pub records-pop : (es : List Event) (us : List (Kept State Msg Undo)) (p n : ℕ) → AreRecords told records r es p us → length us ≡ n + 1
      → AreRecords told records r es (p - 1) (take n us)
  records-pop es us p n old len =
      let taken : length (take n us) ≡ min n (length us) = length-take n us in
      let bound : length us ≤ p = old.reach in
      record {
        reach = omega arith;
        answers = λ i x at.
            let inside : i < length (take n us) = slice_get_within (take n us) i x at in
            let below : i < n = omega arith in
            let place : p - length us + i ≡ p - 1 - length (take n us) + i = omega arith in
            subst (λ (q : ℕ). Answers told records r es q x) place (old.answers i x (sym (slice_get-take n us i below) ∙ at));
      }

  -- the last record answers for the event before the place
  pub last_answers : (es : List Event) (us : List (Kept State Msg Undo)) (p n : ℕ) (u : Kept State Msg Undo) → AreRecords told records r es p us → length us ≡ n + 1
      → slice_get us n ≡ Some u → Answers told records r es (p - 1) u
  last_answers es us p n u old len at =
      let bound : length us ≤ p = old.reach in
      let place : p - length us + n ≡ p - 1 = omega arith in
      subst (λ (q : ℕ). Answers told records r es q u) place (old.answers n u at)

  -- no record is one of no events
  pub no_records : (es : List Event) (p : ℕ) → AreRecords told records r es p []
  no_records es p = record { reach = omega arith; answers = λ i u at. let nil : List (Kept State Msg Undo) = [] in let h = slice_get_within nil i u at in absurd (omega (arith, h)) }

-- how many items a full ring keeps
pub kept_length : {U : Type 0} (cap : ℕ) (us : List U) (u : U) → length us ≤ cap → length (keep_last cap (us ++ u ∷ [])) ≡ min cap (length us + 1)
kept_length cap us u room =
    let len : length (us ++ u ∷ []) ≡ length us + 1 = length-append us (u ∷ []) in
    let cut : length (keep_last cap (us ++ u ∷ [])) ≡ length (us ++ u ∷ []) - (length (us ++ u ∷ []) - cap) = length-drop (length (us ++ u ∷ []) - cap) (us ++ u ∷ []) in
    omega arith

at_most_one : (b : Bool) → cond b 1 0 ≤ 1
at_most_one true = omega arith
at_most_one false = omega arith

-- one event more takes at most one turn more
pub turns-more : {State Msg : Type 0} (n m : ℕ) (a b c : Work) (w : World State Msg) (e : Event) → OnlyTurns n a b → c ≡ record b { turns = b.turns + turns_of w e } → m ≡ n + 1
    → OnlyTurns m a c
turns-more n m a b c w e h is next =
    let turns = ap (λ (x : Work). x.turns) is in
    let most = at_most_one (Rattle.std.specs.Prelude.◌||◌ (acts w e) (is_bounce e)) in
    let before = h.turns in
    record {
      turns = omega (arith, turns, most, before, next);
      copies = ap (λ (x : Work). x.copies) is ∙ h.copies;
      undos = ap (λ (x : Work). x.undos) is ∙ h.undos;
    }

-- one turn at most
pub turned_once : (b : Bool) (a c : Work) → c ≡ turned_if b a → OnlyTurns 1 a c
turned_once true a c is = record { turns = (let t = ap (λ (x : Work). x.turns) is in omega (arith, t)); copies = ap (λ (x : Work). x.copies) is; undos = ap (λ (x : Work). x.undos) is }
turned_once false a c is = record { turns = (let t = ap (λ (x : Work). x.turns) is in omega (arith, t)); copies = ap (λ (x : Work). x.copies) is; undos = ap (λ (x : Work). x.undos) is }

module _ {State Msg Undo : Type 0} (told : State → ℕ) (records : NodeRecords State Undo) (laws : NodeLaws State Msg) (probes : ℕ) (s : Scenario) where
  -- the event of an entry can happen in the world at its place
  pub can_play : (entries : List Entry) (i : ℕ) (e : Entry) (w : InHand State Msg) → IsSome (run (rules laws probes s) (events_of entries)) → slice_get entries i ≡ Some e
      → IsAt (rules laws probes s) (events_of entries) i w → IsSome (next (rules laws probes w.scenario) w.world e.event)
  can_play entries i e w runs at here =
      let lt : i < length (events_of entries) = omega (arith, slice_get_within entries i e at, length-map entries (λ (x : Entry). x.event)) in
      let can = can_go_on (rules laws probes s) (events_of entries) i event.Step w runs lt here in
      subst (λ (z : Scenario). IsSome (next (rules laws probes z) w.world e.event)) (sym here.scenario)
      (subst (λ (x : Event). IsSome (next (rules laws probes s) w.world x)) (event_at entries i e event.Step at) can)

  -- it was played: the world after it is the one at the next place, and its record answers for it
  pub passed_at : (entries : List Entry) (i : ℕ) (e : Entry) (w v : InHand State Msg) → slice_get entries i ≡ Some e
      → IsAt (rules laws probes s) (events_of entries) i w → next (rules laws probes w.scenario) w.world e.event ≡ Some v.world → v.scenario ≡ w.scenario → v.age ≡ w.age + 1
      → IsAt (rules laws probes s) (events_of entries) (i + 1) v
  passed_at entries i e w v at here comes sc age =
      let lt : i < length (events_of entries) = omega (arith, slice_get_within entries i e at, length-map entries (λ (x : Entry). x.event)) in
      let is : next (rules laws probes s) w.world e.event ≡ Some v.world = subst (λ (z : Scenario). next (rules laws probes z) w.world e.event ≡ Some v.world) here.scenario comes in
      at-next (rules laws probes s) (events_of entries) i event.Step w v lt here (ap (λ x. next (rules laws probes s) w.world x) (event_at entries i e event.Step at) ∙ is) sc age

  pub played_at : (entries : List Entry) (i : ℕ) (e : Entry) (w v : InHand State Msg) (u : Kept State Msg Undo) → slice_get entries i ≡ Some e
      → IsAt (rules laws probes s) (events_of entries) i w → AnswersFor (rules laws probes w.scenario) records u.changes w.world e.event v.world → v.scenario ≡ w.scenario → v.age ≡ w.age + 1
      → IsAt (rules laws probes s) (events_of entries) (i + 1) v
  played_at entries i e w v u at here answers sc age = passed_at entries i e w v at here answers.is_next sc age

  pub played_answers : (entries : List Entry) (i : ℕ) (e : Entry) (w v : InHand State Msg) (u : Kept State Msg Undo) → slice_get entries i ≡ Some e
      → IsAt (rules laws probes s) (events_of entries) i w → IsAt (rules laws probes s) (events_of entries) (i + 1) v
      → AnswersFor (rules laws probes w.scenario) records u.changes w.world e.event v.world → LeadsBack told records u v → count_by is_reaction u.changes ≡ cond (acts w.world e.event) 1 0
      → Answers told records (rules laws probes s) (events_of entries) i u
  played_answers entries i e w v u at here after answers leads acted =
      answers_here told records (rules laws probes s) (events_of entries) i event.Step w v u here after leads answers.back
      (acted ∙ ap (λ x. cond (acts w.world x) 1 0) (sym (event_at entries i e event.Step at)))

-- a reaction more that is taken back
pub undone-more : {State Msg Undo : Type 0} (n k m : ℕ) (w a b : Work) (changes : List (Small State Msg Undo)) → a ≡ undone_by n w → b ≡ taken_back changes a
    → count_by is_reaction changes ≡ k → m ≡ k + n → b ≡ undone_by m w
undone-more n k m w a b changes before is count sum =
    let undos = ap (λ (x : Work). x.undos) is in
    let turns = ap (λ (x : Work). x.turns) (is ∙ ap (taken_back changes) before) in
    let copies = ap (λ (x : Work). x.copies) (is ∙ ap (taken_back changes) before) in
    let u : b.undos ≡ w.undos + m = omega (arith, undos, ap (λ (x : Work). x.undos) before, count, sum) in
    λ i. record { turns = turns i; copies = copies i; undos = u i }

module _ {State Msg Undo : Type 0} (told : State → ℕ) (records : NodeRecords State Undo) (r : Rules State Msg) where
  pub record StepsBack (es : List Event) (p : ℕ) (us : List (Kept State Msg Undo)) (u : Kept State Msg Undo) (now : InHand State Msg) : Type 0 where
    pub some : 0 < length us
    pub deep : 0 < p
    pub leads : LeadsBack told records u now
    pub here : IsAt r es (p - 1) (before told records r u now)
    pub rest : AreRecords told records r es (p - 1) (take (length us - 1) us)
    pub acted : count_by is_reaction u.changes ≡ acts_at r (p - 1) es

  -- a step back by the last record
  pub steps_back : (es : List Event) (p : ℕ) (us : List (Kept State Msg Undo)) (u : Kept State Msg Undo) (now : InHand State Msg) → AreRecords told records r es p us
      → slice_get us (length us - 1) ≡ Some u → IsAt r es p now → StepsBack es p us u now
  steps_back es p us u now old at here =
      let some = slice_get_within us (length us - 1) u at in
      let reach = old.reach in
      let len : length us ≡ length us - 1 + 1 = omega (arith, some) in
      let last = last_answers told records r es us p (length us - 1) u old len at in
      let up : p ≡ p - 1 + 1 = omega (arith, some, reach) in
      let there = subst (λ (q : ℕ). IsAt r es q now) up here in
      record {
        some = omega (arith, some);
        deep = omega (arith, some, reach);
        leads = last.leads now there;
        here = last.back now there;
        rest = records-pop told records r es us p (length us - 1) old len;
        acted = last.acted;
      }

pub undone-none : (w : Work) → w ≡ undone_by 0 w
undone-none w = let u : w.undos ≡ w.undos + 0 = omega arith in λ i. record { turns = w.turns; copies = w.copies; undos = u i }

pub none_some : {X : Type 0} (o : Option X) (x : X) → o ≡ None → o ≡ Some x → ⊥
none_some o x none some = false≢true (ap is_some (sym none ∙ some))
