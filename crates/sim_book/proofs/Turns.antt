-- Turns on one branch, from what a tape's calls ensure.
use Rattle.std.proofs.Common.{◌≡◌, ℕ, ◌+◌, ◌-◌, ◌<◌, ◌≤◌, ◌%◌, Bool, true, false, not, ◌||◌, set, List, [], ◌∷◌, ◌++◌, Option, Some, None, length, inl, inr, refl, get_or, get_or-set_same, get_or-set_other, sym, ap, ◌∙◌, subst, arith, is_some, nat_lt, nat_le, min, append-nil, length-append, add-zero}
use Rattle.std.specs.Prelude.{if◌then◌else◌, IfSome}
use Rattle.std.proofs.lemmas.Bool.{cases_order}
use Rattle.sim_runs.specs.Watches.{AreChecked}
use Rattle.std.specs.List.{list_any}
use Rattle.std.proofs.lemmas.Bool.{le-ltb}
use Rattle.std.proofs.lemmas.Bool.Decides.{nat_tests}
use Rattle.sim_node.specs.Node.{NodeLaws}
use Rattle.sim_queue.specs.Pending.{first}
use Rattle.sim_events.specs.declared.Event.{Event}
use Rattle.sim_events.specs.declared.Event.TheVariants as event
use Rattle.sim_events.specs.declared.Fault.{Fault}
use Rattle.sim_events.specs.declared.Query.{Query}
use Rattle.sim_events.specs.declared.View.{View}
use Rattle.sim_events.specs.declared.Refusal.{Refusal as WorldRefusal}
use Rattle.sim_events.specs.declared.Refusal.TheVariants as why
use Rattle.sim_events.specs.Faults.{hosts_of, are_same}
use Rattle.sim_world.specs.Events.{Rules, rules}
use Rattle.sim_world.specs.Events as events
use Rattle.sim_world.specs.Looks.{looked}
use Rattle.sim_moves.specs.Places.{acting}
use Rattle.sim_moves.specs.Works.{undone_by}
use Rattle.sim_tape.specs.Tape.{Tape, at, with_world, first_events, with_event, reach_here}
use Rattle.sim_tape.specs.Places.{world_of}
use Rattle.sim_runs.proofs.Running.{adds_none}
use Rattle.sim_node.specs.Work.{Work}
use Rattle.sim_runs.specs.Works.{Adds, TakesBack, Looks}
use Rattle.sim_runs.specs.Tapes.{lengthened}
use Rattle.sim_watch.specs.Condition.{Cond, fault_of, has_no_host, has_no_probe, is_empty}
use Rattle.sim_watch.specs.declared.BadTerm.TheVariants as bad
use Rattle.std.specs.Option.{unwrap_or}
use Rattle.sim_watch.specs.declared.command.Command.{Command}
use Rattle.sim_watch.specs.declared.command.Command.TheVariants as command
use Rattle.sim_book.specs.declared.Refusal.{Refusal}
use Rattle.sim_book.specs.declared.Refusal.TheVariants as refusal
use Rattle.sim_runs.specs.declared.Stop.{Stop}
use Rattle.sim_runs.specs.declared.Stop.TheVariants as stop
use Rattle.sim_book.specs.declared.Reply.{Reply}
use Rattle.sim_book.specs.declared.Reply.TheVariants as reply
use Rattle.sim_runs.specs.Branch.{Branch}
use Rattle.sim_book.specs.Book.{Book}
use Rattle.sim_book.specs.Answer.{free_watch, branch_after, reply_of, moved, hosts_of_query, asks_no_probe}
use Rattle.sim_runs.specs.Runs.{run_addition, tick_addition, rewind_move, is_idle}
use Rattle.sim_runs.specs.Branch.{branch_with}
use Rattle.sim_book.specs.OnBranch.{IsTurnOn, refusal_on, reply_on, after_on}
use Rattle.sim_runs.specs.Reach.{reach_rewound}
use Rattle.sim_runs.proofs.Reaching.{near_rewound, warm_rewound}

module _ {State Msg : Type 0} (r : Rules State Msg) where
  pub refused_on : (book : Book) (x y : Branch) (c : Command) (why : Refusal) → refusal_on r book x c ≡ Some why → y ≡ x → IsTurnOn r book x c (reply.Refused why) y
  refused_on book x y c why e same = inl (sym (ap (λ o. reply_on r o book x c) e), same ∙ sym (ap (λ o. after_on r o x c) e))

  pub done_on : (book : Book) (x y : Branch) (c : Command) (given : Reply) → refusal_on r book x c ≡ None → given ≡ reply_of r c book x (branch_after r c x) → y ≡ branch_after r c x
      → IsTurnOn r book x c given y
  done_on book x y c given e gives is = inl (gives ∙ sym (ap (λ o. reply_on r o book x c) e), is ∙ sym (ap (λ o. after_on r o x c) e))

-- a step that can't happen, and one that can
can_not : (b : Bool) (x : WorldRefusal) → (if b then None else Some why.Idle) ≡ Some x → not b ≡ true
can_not true x e = cc
can_not false x e = refl

can_so : (b : Bool) → (if b then None else Some why.Idle) ≡ None → not b ≡ false
can_so true e = refl
can_so false e = cc

-- what the fault of a condition says of its tests
fault_unknown : (host probe none : Bool) → (if host then Some bad.UnknownHost else if probe then Some bad.BadProbe else if none then Some bad.Empty else None) ≡ Some bad.UnknownHost → host ≡ true
fault_unknown true probe none e = refl
fault_unknown false true none e = absurd cc
fault_unknown false false true e = absurd cc
fault_unknown false false false e = absurd cc

fault_probe : (host probe none : Bool) → (if host then Some bad.UnknownHost else if probe then Some bad.BadProbe else if none then Some bad.Empty else None) ≡ Some bad.BadProbe → (host ≡ false) × ((none || probe) ≡ true)
fault_probe true probe none e = absurd cc
fault_probe false true true e = (refl, refl)
fault_probe false true false e = (refl, refl)
fault_probe false false true e = absurd cc
fault_probe false false false e = absurd cc

fault_empty : (host probe none : Bool) → (if host then Some bad.UnknownHost else if probe then Some bad.BadProbe else if none then Some bad.Empty else None) ≡ Some bad.Empty → (host ≡ false) × ((none || probe) ≡ true)
fault_empty true probe none e = absurd cc
fault_empty false true none e = absurd cc
fault_empty false false true e = (refl, refl)
fault_empty false false false e = absurd cc

fault_none : (host probe none : Bool) → (if host then Some bad.UnknownHost else if probe then Some bad.BadProbe else if none then Some bad.Empty else None) ≡ None → (host ≡ false) × ((none || probe) ≡ false)
fault_none true probe none e = absurd cc
fault_none false true none e = absurd cc
fault_none false false true e = absurd cc
fault_none false false false e = (refl, refl)

module _ {State Msg : Type 0} (node : NodeLaws State Msg) (probes : ℕ) where
  -- what is said with the rules of one tape is true with those of another tape of its scenario
  world_same : (t u : Tape) → u.scenario ≡ t.scenario → world_of (rules node probes u.scenario) u ≡ world_of (rules node probes t.scenario) u
  world_same t u e = ap (λ s. world_of (rules node probes s) u) e

  pub stopped_on : (t u : Tape) (book : Book) (ws : List (Option Cond)) (c : Command) (given : Reply) (why : Stop)
      → refusal_on (rules node probes t.scenario) book (branch_with ws t) c ≡ None
      → u.scenario ≡ t.scenario
      → branch_with ws u ≡ branch_after (rules node probes t.scenario) c (branch_with ws t)
      → reply_of (rules node probes t.scenario) c book (branch_with ws t) (branch_after (rules node probes t.scenario) c (branch_with ws t)) ≡ moved (rules node probes t.scenario) why (branch_after (rules node probes t.scenario) c (branch_with ws t))
      → given ≡ reply.Moved u.place (world_of (rules node probes u.scenario) u).clock why
      → IsTurnOn (rules node probes t.scenario) book (branch_with ws t) c given (branch_with ws u)
  stopped_on t u book ws c given why free scenario is tells gives =
      done_on (rules node probes t.scenario) book (branch_with ws t) (branch_with ws u) c given free
      (gives ∙ ap (λ w. reply.Moved u.place w.clock why) (world_same t u scenario) ∙ ap (moved (rules node probes t.scenario) why) is ∙ sym tells) is

  moved_on : (t u : Tape) (book : Book) (ws : List (Option Cond)) (c : Command) (given : Reply)
      → refusal_on (rules node probes t.scenario) book (branch_with ws t) c ≡ None
      → u.scenario ≡ t.scenario
      → branch_with ws u ≡ branch_after (rules node probes t.scenario) c (branch_with ws t)
      → reply_of (rules node probes t.scenario) c book (branch_with ws t) (branch_after (rules node probes t.scenario) c (branch_with ws t)) ≡ moved (rules node probes t.scenario) stop.Asked (branch_after (rules node probes t.scenario) c (branch_with ws t))
      → given ≡ reply.Moved u.place (world_of (rules node probes u.scenario) u).clock stop.Asked
      → IsTurnOn (rules node probes t.scenario) book (branch_with ws t) c given (branch_with ws u)
  moved_on t u book ws c given = stopped_on t u book ws c given stop.Asked

  pub goto_on : (t u : Tape) (book : Book) (ws : List (Option Cond)) (b p : ℕ) (given : Reply) → p ≤ length t.events → u ≡ with_world true u.reach (at p t)
      → given ≡ reply.Moved u.place (world_of (rules node probes u.scenario) u).clock stop.Asked
      → IsTurnOn (rules node probes t.scenario) book (branch_with ws t) (command.Goto b p) given (branch_with ws u)
  goto_on t u book ws b p given within is gives =
      moved_on t u book ws (command.Goto b p) given (rw (le-ltb (length t.events) p within) refl) (ap (λ v. v.scenario) is) (ap (branch_with ws) is) refl gives

  pub back_on : (t u : Tape) (book : Book) (ws : List (Option Cond)) (b n p : ℕ) (given : Reply) → n ≤ t.place → p ≡ t.place - n → u ≡ with_world true u.reach (at p t)
      → given ≡ reply.Moved u.place (world_of (rules node probes u.scenario) u).clock stop.Asked
      → IsTurnOn (rules node probes t.scenario) book (branch_with ws t) (command.Back b n) given (branch_with ws u)
  back_on t u book ws b n p given within there is gives =
      moved_on t u book ws (command.Back b n) given (rw (le-ltb t.place n within) refl) (ap (λ v. v.scenario) is) (ap (branch_with ws) is ∙ ap (λ q. branch_with ws (at q t)) there) refl gives

  pub forward_on : (t u : Tape) (book : Book) (ws : List (Option Cond)) (b n p : ℕ) (given : Reply) → t.place + n ≤ length t.events → p ≡ t.place + n → u ≡ with_world true u.reach (at p t)
      → given ≡ reply.Moved u.place (world_of (rules node probes u.scenario) u).clock stop.Asked
      → IsTurnOn (rules node probes t.scenario) book (branch_with ws t) (command.Forward b n) given (branch_with ws u)
  forward_on t u book ws b n p given within there is gives =
      moved_on t u book ws (command.Forward b n) given (rw (le-ltb (length t.events) (t.place + n) within) refl) (ap (λ v. v.scenario) is) (ap (branch_with ws) is ∙ ap (λ q. branch_with ws (at q t)) there) refl gives

  pub cut_on : (t u : Tape) (book : Book) (ws : List (Option Cond)) (b : ℕ) (given : Reply) → u ≡ first_events t.place t
      → given ≡ reply.Moved u.place (world_of (rules node probes u.scenario) u).clock stop.Asked
      → IsTurnOn (rules node probes t.scenario) book (branch_with ws t) (command.Cut b) given (branch_with ws u)
  cut_on t u book ws b given is gives = moved_on t u book ws (command.Cut b) given refl (ap (λ v. v.scenario) is) (ap (branch_with ws) is) refl gives

  pub fault_on : (t u : Tape) (book : Book) (ws : List (Option Cond)) (b : ℕ) (f : Fault) (given : Reply)
      → list_any (λ h. nat_le t.scenario.setup.hosts h) (hosts_of f) ≡ false → are_same (hosts_of f) ≡ false
      → t.place ≡ length t.events → length t.events < 65536 → u ≡ with_world true u.reach (with_event (event.Fault f) t)
      → given ≡ reply.Moved u.place (world_of (rules node probes u.scenario) u).clock stop.Asked
      → IsTurnOn (rules node probes t.scenario) book (branch_with ws t) (command.Fault b f) given (branch_with ws u)
  fault_on t u book ws b f given known differ end room is gives =
      let last : length t.events ≤ t.place = omega arith in
      let at_end : nat_lt t.place (length t.events) ≡ false = le-ltb t.place (length t.events) last in
      let has_room : nat_le 65536 (length t.events) ≡ false = grind (arith, nat_tests) in
      moved_on t u book ws (command.Fault b f) given (rw (known, differ, at_end, has_room) refl) (ap (λ v. v.scenario) is)
      (ap (branch_with ws) is ∙ ap (λ (p : ℕ). record { events = t.events ++ event.Fault f ∷ []; place = p + 1; watches = ws }) end) refl gives

  -- the tape was made warm before a step
  pub step_refused : (t w : Tape) (book : Book) (ws : List (Option Cond)) (b : ℕ) (x : WorldRefusal) → t.place ≡ length t.events → length t.events < 65536 → w ≡ with_world true w.reach t
      → events.refusal_of (rules node probes w.scenario) event.Step (world_of (rules node probes w.scenario) w) ≡ Some x
      → IsTurnOn (rules node probes t.scenario) book (branch_with ws t) (command.Step b) (reply.Refused refusal.Idle) (branch_with ws w)
  step_refused t w book ws b x end room is hindered =
      let r : Rules State Msg = rules node probes t.scenario in
      let last : length t.events ≤ t.place = omega arith in
      let at_end : nat_lt t.place (length t.events) ≡ false = le-ltb t.place (length t.events) last in
      let has_room : nat_le 65536 (length t.events) ≡ false = grind (arith, nat_tests) in
      let idle : is_idle (world_of (rules node probes t.scenario) t) ≡ true =
      can_not (is_some (first (world_of (rules node probes t.scenario) t).queue.items)) x (sym (ap (λ v. events.refusal_of (rules node probes v.scenario) event.Step (world_of (rules node probes v.scenario) v)) is) ∙ hindered) in
      refused_on (rules node probes t.scenario) book (branch_with ws t) (branch_with ws w) (command.Step b) refusal.Idle (rw (at_end, has_room, idle) refl) (ap (branch_with ws) is)

  pub step_on : (t w u : Tape) (book : Book) (ws : List (Option Cond)) (b : ℕ) (given : Reply) → t.place ≡ length t.events → length t.events < 65536 → w ≡ with_world true w.reach t
      → events.refusal_of (rules node probes w.scenario) event.Step (world_of (rules node probes w.scenario) w) ≡ None
      → u ≡ with_world true u.reach (with_event event.Step w)
      → given ≡ reply.Moved u.place (world_of (rules node probes u.scenario) u).clock stop.Asked
      → IsTurnOn (rules node probes t.scenario) book (branch_with ws t) (command.Step b) given (branch_with ws u)
  step_on t w u book ws b given end room is free more gives =
      let last : length t.events ≤ t.place = omega arith in
      let at_end : nat_lt t.place (length t.events) ≡ false = le-ltb t.place (length t.events) last in
      let has_room : nat_le 65536 (length t.events) ≡ false = grind (arith, nat_tests) in
      let busy : is_idle (world_of (rules node probes t.scenario) t) ≡ false =
      can_so (is_some (first (world_of (rules node probes t.scenario) t).queue.items)) (sym (ap (λ v. events.refusal_of (rules node probes v.scenario) event.Step (world_of (rules node probes v.scenario) v)) is) ∙ free) in
      let grown : u ≡ with_world true u.reach (with_event event.Step (with_world true w.reach t)) = more ∙ ap (λ v. with_world true u.reach (with_event event.Step v)) is in
      moved_on t u book ws (command.Step b) given (rw (at_end, has_room, busy) refl) (ap (λ v. v.scenario) grown)
      (ap (branch_with ws) grown ∙ ap (λ (p : ℕ). record { events = t.events ++ event.Step ∷ []; place = p + 1; watches = ws }) end) refl gives

  -- a run that can't go on, one of no steps, and one of some
  pub run_refused : (t w : Tape) (book : Book) (ws : List (Option Cond)) (b n : ℕ) (x : WorldRefusal) → t.place ≡ length t.events → length t.events < 65536 → w ≡ with_world true w.reach t
      → events.refusal_of (rules node probes w.scenario) event.Step (world_of (rules node probes w.scenario) w) ≡ Some x
      → IsTurnOn (rules node probes t.scenario) book (branch_with ws t) (command.Run b n) (reply.Refused refusal.Idle) (branch_with ws w)
  run_refused t w book ws b n x end room is hindered =
      let last : length t.events ≤ t.place = omega arith in
      let at_end : nat_lt t.place (length t.events) ≡ false = le-ltb t.place (length t.events) last in
      let has_room : nat_le 65536 (length t.events) ≡ false = grind (arith, nat_tests) in
      let idle : is_idle (world_of (rules node probes t.scenario) t) ≡ true =
      can_not (is_some (first (world_of (rules node probes t.scenario) t).queue.items)) x (sym (ap (λ v. events.refusal_of (rules node probes v.scenario) event.Step (world_of (rules node probes v.scenario) v)) is) ∙ hindered) in
      refused_on (rules node probes t.scenario) book (branch_with ws t) (branch_with ws w) (command.Run b n) refusal.Idle (rw (at_end, has_room, idle) refl) (ap (branch_with ws) is)

  run_free : (t w : Tape) (book : Book) (ws : List (Option Cond)) (b n : ℕ) → t.place ≡ length t.events → length t.events < 65536 → w ≡ with_world true w.reach t
      → events.refusal_of (rules node probes w.scenario) event.Step (world_of (rules node probes w.scenario) w) ≡ None
      → refusal_on (rules node probes t.scenario) book (branch_with ws t) (command.Run b n) ≡ None
  run_free t w book ws b n end room is free =
      let last : length t.events ≤ t.place = omega arith in
      let at_end : nat_lt t.place (length t.events) ≡ false = le-ltb t.place (length t.events) last in
      let has_room : nat_le 65536 (length t.events) ≡ false = grind (arith, nat_tests) in
      let busy : is_idle (world_of (rules node probes t.scenario) t) ≡ false =
      can_so (is_some (first (world_of (rules node probes t.scenario) t).queue.items)) (sym (ap (λ v. events.refusal_of (rules node probes v.scenario) event.Step (world_of (rules node probes v.scenario) v)) is) ∙ free) in
      rw (at_end, has_room, busy) refl

  pub run_none : (t w : Tape) (book : Book) (ws : List (Option Cond)) (b n : ℕ) (given : Reply) → t.place ≡ length t.events → length t.events < 65536 → w ≡ with_world true w.reach t
      → events.refusal_of (rules node probes w.scenario) event.Step (world_of (rules node probes w.scenario) w) ≡ None → n ≡ 0
      → given ≡ reply.Moved w.place (world_of (rules node probes w.scenario) w).clock stop.Asked
      → IsTurnOn (rules node probes t.scenario) book (branch_with ws t) (command.Run b n) given (branch_with ws w)
  run_none t w book ws b n given end room is free none gives =
      let place : t.place ≡ length t.events + 0 = omega arith in
      subst (λ (m : ℕ). IsTurnOn (rules node probes t.scenario) book (branch_with ws t) (command.Run b m) given (branch_with ws w)) (sym none)
      (moved_on t w book ws (command.Run b 0) given (run_free t w book ws b 0 end room is free) (ap (λ v. v.scenario) is)
      (ap (branch_with ws) is ∙ ap (λ es. record { events = es; place = t.place; watches = ws }) (sym (append-nil t.events)) ∙ ap (λ p. record { events = t.events ++ []; place = p; watches = ws }) place) refl gives)

  pub run_on : (t w u : Tape) (book : Book) (ws : List (Option Cond)) (b n : ℕ) (given : Reply) (why : Stop) → t.place ≡ length t.events → length t.events < 65536 → w ≡ with_world true w.reach t
      → events.refusal_of (rules node probes w.scenario) event.Step (world_of (rules node probes w.scenario) w) ≡ None
      → why ≡ (run_addition (rules node probes w.scenario) n (branch_with ws w)).stop
      → u ≡ with_world true u.reach (lengthened (run_addition (rules node probes w.scenario) n (branch_with ws w)).events w)
      → given ≡ reply.Moved u.place (world_of (rules node probes u.scenario) u).clock why
      → IsTurnOn (rules node probes t.scenario) book (branch_with ws t) (command.Run b n) given (branch_with ws u)
  run_on t w u book ws b n given why end room is free stops more gives =
      let grown = more ∙ ap (λ v. with_world true u.reach (lengthened (run_addition (rules node probes v.scenario) n (branch_with ws v)).events v)) is in
      let stop_is : why ≡ (run_addition (rules node probes t.scenario) n (branch_with ws t)).stop = stops ∙ ap (λ v. (run_addition (rules node probes v.scenario) n (branch_with ws v)).stop) is in
      stopped_on t u book ws (command.Run b n) given why (run_free t w book ws b n end room is free) (ap (λ v. v.scenario) grown) (ap (branch_with ws) grown)
      (ap (λ s. moved (rules node probes t.scenario) s (branch_after (rules node probes t.scenario) (command.Run b n) (branch_with ws t))) (sym stop_is)) gives

  -- a tick
  pub tick_on : (t w u : Tape) (book : Book) (ws : List (Option Cond)) (b : ℕ) (given : Reply) (why : Stop) → t.place ≡ length t.events → length t.events < 65536 → w ≡ with_world true w.reach t
      → why ≡ (tick_addition (rules node probes w.scenario) (branch_with [] w)).stop
      → u ≡ with_world true u.reach (lengthened (tick_addition (rules node probes w.scenario) (branch_with [] w)).events w)
      → given ≡ reply.Moved u.place (world_of (rules node probes u.scenario) u).clock why
      → IsTurnOn (rules node probes t.scenario) book (branch_with ws t) (command.Tick b) given (branch_with ws u)
  tick_on t w u book ws b given why end room is stops more gives =
      let last : length t.events ≤ t.place = omega arith in
      let at_end : nat_lt t.place (length t.events) ≡ false = le-ltb t.place (length t.events) last in
      let has_room : nat_le 65536 (length t.events) ≡ false = grind (arith, nat_tests) in
      let grown : u ≡ with_world true u.reach (lengthened (tick_addition (rules node probes t.scenario) (branch_with [] t)).events t) =
      more ∙ ap (λ v. with_world true u.reach (lengthened (tick_addition (rules node probes v.scenario) (branch_with [] v)).events v)) is in
      let stop_is : why ≡ (tick_addition (rules node probes t.scenario) (branch_with [] t)).stop = stops ∙ ap (λ v. (tick_addition (rules node probes v.scenario) (branch_with [] v)).stop) is in
      stopped_on t u book ws (command.Tick b) given why (rw (at_end, has_room) refl) (ap (λ v. v.scenario) grown) (ap (branch_with ws) grown)
      (ap (λ s. moved (rules node probes t.scenario) s (branch_after (rules node probes t.scenario) (command.Tick b) (branch_with ws t))) (sym stop_is)) gives

  -- a rewind of no events, and one of some
  pub rewind_none : (t w : Tape) (book : Book) (ws : List (Option Cond)) (b n : ℕ) (given : Reply) → n ≤ t.place → w ≡ with_world true w.reach t → n ≡ 0
      → given ≡ reply.Moved w.place (world_of (rules node probes w.scenario) w).clock stop.Asked
      → IsTurnOn (rules node probes t.scenario) book (branch_with ws t) (command.Rewind b n) given (branch_with ws w)
  rewind_none t w book ws b n given within is none gives =
      let place : t.place ≡ t.place - 0 = omega arith in
      let start : nat_lt t.place 0 ≡ false = le-ltb t.place 0 (omega arith) in
      subst (λ (m : ℕ). IsTurnOn (rules node probes t.scenario) book (branch_with ws t) (command.Rewind b m) given (branch_with ws w)) (sym none)
      (moved_on t w book ws (command.Rewind b 0) given (rw start refl) (ap (λ v. v.scenario) is)
      (ap (branch_with ws) is ∙ ap (λ p. record { events = t.events; place = p; watches = ws }) place) refl gives)

  pub rewind_on : (t w u : Tape) (book : Book) (ws : List (Option Cond)) (b n : ℕ) (given : Reply) (why : Stop) → n ≤ t.place → w ≡ with_world true w.reach t
      → why ≡ (rewind_move (rules node probes w.scenario) n (branch_with ws w)).stop
      → u ≡ with_world true u.reach (at (rewind_move (rules node probes w.scenario) n (branch_with ws w)).place w)
      → given ≡ reply.Moved u.place (world_of (rules node probes u.scenario) u).clock why
      → IsTurnOn (rules node probes t.scenario) book (branch_with ws t) (command.Rewind b n) given (branch_with ws u)
  rewind_on t w u book ws b n given why within is stops gone gives =
      let moved_is = gone ∙ ap (λ v. with_world true u.reach (at (rewind_move (rules node probes v.scenario) n (branch_with ws v)).place v)) is in
      let stop_is : why ≡ (rewind_move (rules node probes t.scenario) n (branch_with ws t)).stop = stops ∙ ap (λ v. (rewind_move (rules node probes v.scenario) n (branch_with ws v)).stop) is in
      stopped_on t u book ws (command.Rewind b n) given why (rw (le-ltb t.place n within) refl) (ap (λ v. v.scenario) moved_is) (ap (branch_with ws) moved_is)
      (ap (λ s. moved (rules node probes t.scenario) s (branch_after (rules node probes t.scenario) (command.Rewind b n) (branch_with ws t))) (sym stop_is)) gives

  pub look_on : (t u : Tape) (book : Book) (ws : List (Option Cond)) (b : ℕ) (q : Query) (place : ℕ) (view : View)
      → list_any (λ h. nat_le t.scenario.setup.hosts h) (hosts_of_query q) ≡ false → are_same (hosts_of_query q) ≡ false → asks_no_probe probes q ≡ false
      → u ≡ with_world true u.reach t → place ≡ u.place → view ≡ looked (rules node probes u.scenario) q (world_of (rules node probes u.scenario) u)
      → IsTurnOn (rules node probes t.scenario) book (branch_with ws t) (command.Look b q) (reply.Seen place view) (branch_with ws u)
  look_on t u book ws b q place view known differ asks is at_place sees =
      let here : place ≡ t.place = at_place ∙ ap (λ v. v.place) is in
      let seen : view ≡ looked (rules node probes t.scenario) q (world_of (rules node probes t.scenario) t) =
      sees ∙ ap (λ v. looked (rules node probes v.scenario) q (world_of (rules node probes v.scenario) v)) is in
      done_on (rules node probes t.scenario) book (branch_with ws t) (branch_with ws u) (command.Look b q) (reply.Seen place view) (rw (known, differ, asks) refl)
      (ap (λ p. reply.Seen p view) here ∙ ap (λ v. reply.Seen t.place v) seen) (ap (branch_with ws) is)

  -- a condition that names a host that is not there; one for which there is no number; one that can't be used; one that is kept
  pub watch_unknown : (t : Tape) (book : Book) (ws : List (Option Cond)) (b hosts : ℕ) (c : Cond) → hosts ≡ t.scenario.setup.hosts → fault_of hosts probes c ≡ Some bad.UnknownHost
      → IsTurnOn (rules node probes t.scenario) book (branch_with ws t) (command.Watch b c) (reply.Refused refusal.UnknownHost) (branch_with ws t)
  watch_unknown t book ws b hosts c same e =
      let unknown : has_no_host t.scenario.setup.hosts c ≡ true = fault_unknown (has_no_host t.scenario.setup.hosts c) (has_no_probe probes c) (is_empty c) (subst (λ (n : ℕ). fault_of n probes c ≡ Some bad.UnknownHost) same e) in
      refused_on (rules node probes t.scenario) book (branch_with ws t) (branch_with ws t) (command.Watch b c) refusal.UnknownHost (rw unknown refl) refl

  pub watch_full : (t : Tape) (book : Book) (ws : List (Option Cond)) (b hosts : ℕ) (c : Cond) → hosts ≡ t.scenario.setup.hosts → has_no_host hosts c ≡ false → free_watch ws ≡ None
      → IsTurnOn (rules node probes t.scenario) book (branch_with ws t) (command.Watch b c) (reply.Refused refusal.WatchesFull) (branch_with ws t)
  watch_full t book ws b hosts c same known full =
      let known' : has_no_host t.scenario.setup.hosts c ≡ false = subst (λ (n : ℕ). has_no_host n c ≡ false) same known in
      let none : not (is_some (free_watch ws)) ≡ true = ap (λ o. not (is_some o)) full in
      refused_on (rules node probes t.scenario) book (branch_with ws t) (branch_with ws t) (command.Watch b c) refusal.WatchesFull
      (ap (λ x. if x then Some refusal.UnknownHost else if not (is_some (free_watch ws)) then Some refusal.WatchesFull else if is_empty c || has_no_probe probes c then Some refusal.BadCondition else None) known'
      ∙ ap (λ x. if x then Some refusal.WatchesFull else if is_empty c || has_no_probe probes c then Some refusal.BadCondition else None) none) refl

  pub watch_bad : (t : Tape) (book : Book) (ws : List (Option Cond)) (b hosts i : ℕ) (c : Cond) → hosts ≡ t.scenario.setup.hosts → has_no_host hosts c ≡ false → free_watch ws ≡ Some i
      → (is_empty c || has_no_probe probes c) ≡ true
      → IsTurnOn (rules node probes t.scenario) book (branch_with ws t) (command.Watch b c) (reply.Refused refusal.BadCondition) (branch_with ws t)
  watch_bad t book ws b hosts i c same known room is_bad =
      let known' : has_no_host t.scenario.setup.hosts c ≡ false = subst (λ (n : ℕ). has_no_host n c ≡ false) same known in
      let some : not (is_some (free_watch ws)) ≡ false = ap (λ o. not (is_some o)) room in
      refused_on (rules node probes t.scenario) book (branch_with ws t) (branch_with ws t) (command.Watch b c) refusal.BadCondition
      (ap (λ x. if x then Some refusal.UnknownHost else if not (is_some (free_watch ws)) then Some refusal.WatchesFull else if is_empty c || has_no_probe probes c then Some refusal.BadCondition else None) known'
      ∙ ap (λ x. if x then Some refusal.WatchesFull else if is_empty c || has_no_probe probes c then Some refusal.BadCondition else None) some
      ∙ ap (λ x. if x then Some refusal.BadCondition else None) is_bad) refl

  pub watch_on : (t : Tape) (book : Book) (ws : List (Option Cond)) (b hosts i : ℕ) (c : Cond) → hosts ≡ t.scenario.setup.hosts → has_no_host hosts c ≡ false → free_watch ws ≡ Some i
      → (is_empty c || has_no_probe probes c) ≡ false
      → IsTurnOn (rules node probes t.scenario) book (branch_with ws t) (command.Watch b c) (reply.Made i) (branch_with (set ws i (Some c)) t)
  watch_on t book ws b hosts i c same known room good =
      let known' : has_no_host t.scenario.setup.hosts c ≡ false = subst (λ (n : ℕ). has_no_host n c ≡ false) same known in
      let some : not (is_some (free_watch ws)) ≡ false = ap (λ o. not (is_some o)) room in
      done_on (rules node probes t.scenario) book (branch_with ws t) (branch_with (set ws i (Some c)) t) (command.Watch b c) (reply.Made i)
      (ap (λ x. if x then Some refusal.UnknownHost else if not (is_some (free_watch ws)) then Some refusal.WatchesFull else if is_empty c || has_no_probe probes c then Some refusal.BadCondition else None) known'
      ∙ ap (λ x. if x then Some refusal.WatchesFull else if is_empty c || has_no_probe probes c then Some refusal.BadCondition else None) some
      ∙ ap (λ x. if x then Some refusal.BadCondition else None) good)
      (ap (λ o. reply.Made (unwrap_or o 8)) (sym room)) (ap (λ o. branch_with (set ws (unwrap_or o 8) (Some c)) t) (sym room))

  watch_either : (t : Tape) (book : Book) (ws : List (Option Cond)) (b hosts : ℕ) (c : Cond) (given : Reply) → hosts ≡ t.scenario.setup.hosts
      → (has_no_host hosts c ≡ false) × ((is_empty c || has_no_probe probes c) ≡ true)
      → given ≡ reply.Refused (if is_some (free_watch ws) then refusal.BadCondition else refusal.WatchesFull)
      → IsTurnOn (rules node probes t.scenario) book (branch_with ws t) (command.Watch b c) given (branch_with ws t)
  watch_either t book ws b hosts c given same e gives =
      subst (λ (x : Reply). IsTurnOn (rules node probes t.scenario) book (branch_with ws t) (command.Watch b c) x (branch_with ws t)) (sym gives)
      (elim (free_watch ws) as (λ o. free_watch ws ≡ o → IsTurnOn (rules node probes t.scenario) book (branch_with ws t) (command.Watch b c) (reply.Refused (if is_some o then refusal.BadCondition else refusal.WatchesFull)) (branch_with ws t)) [
        | None ↦ λ full. watch_full t book ws b hosts c same e.0 full
        | Some i ↦ λ room. watch_bad t book ws b hosts i c same e.0 room e.1
      ] refl)

  pub watch_probe : (t : Tape) (book : Book) (ws : List (Option Cond)) (b hosts : ℕ) (c : Cond) (given : Reply) → hosts ≡ t.scenario.setup.hosts → fault_of hosts probes c ≡ Some bad.BadProbe
      → given ≡ reply.Refused (if is_some (free_watch ws) then refusal.BadCondition else refusal.WatchesFull)
      → IsTurnOn (rules node probes t.scenario) book (branch_with ws t) (command.Watch b c) given (branch_with ws t)
  watch_probe t book ws b hosts c given same e gives = watch_either t book ws b hosts c given same (fault_probe (has_no_host hosts c) (has_no_probe probes c) (is_empty c) e) gives

  pub watch_empty : (t : Tape) (book : Book) (ws : List (Option Cond)) (b hosts : ℕ) (c : Cond) (given : Reply) → hosts ≡ t.scenario.setup.hosts → fault_of hosts probes c ≡ Some bad.Empty
      → given ≡ reply.Refused (if is_some (free_watch ws) then refusal.BadCondition else refusal.WatchesFull)
      → IsTurnOn (rules node probes t.scenario) book (branch_with ws t) (command.Watch b c) given (branch_with ws t)
  watch_empty t book ws b hosts c given same e gives = watch_either t book ws b hosts c given same (fault_empty (has_no_host hosts c) (has_no_probe probes c) (is_empty c) e) gives

  pub watch_no_room : (t : Tape) (book : Book) (ws : List (Option Cond)) (b hosts : ℕ) (c : Cond) → hosts ≡ t.scenario.setup.hosts → fault_of hosts probes c ≡ None → free_watch ws ≡ None
      → IsTurnOn (rules node probes t.scenario) book (branch_with ws t) (command.Watch b c) (reply.Refused refusal.WatchesFull) (branch_with ws t)
  watch_no_room t book ws b hosts c same e full = watch_full t book ws b hosts c same (fault_none (has_no_host hosts c) (has_no_probe probes c) (is_empty c) e).0 full

  pub watch_kept : (t : Tape) (book : Book) (ws : List (Option Cond)) (b hosts i : ℕ) (c d : Cond) → hosts ≡ t.scenario.setup.hosts → fault_of hosts probes c ≡ None → free_watch ws ≡ Some i → d ≡ c
      → IsTurnOn (rules node probes t.scenario) book (branch_with ws t) (command.Watch b c) (reply.Made i) (branch_with (set ws i (Some d)) t)
  watch_kept t book ws b hosts i c d same e room copy =
      let good = fault_none (has_no_host hosts c) (has_no_probe probes c) (is_empty c) e in
      subst (λ (x : Cond). IsTurnOn (rules node probes t.scenario) book (branch_with ws t) (command.Watch b c) (reply.Made i) (branch_with (set ws i (Some x)) t)) (sym copy)
      (watch_on t book ws b hosts i c same good.0 room good.1)

  checked_other : (ws : List (Option Cond)) (hosts i k : ℕ) (d : Cond) → AreChecked hosts probes ws → (k ≡ i → ⊥) → IfSome (get_or (set ws i (Some d)) k None) (λ x. fault_of hosts probes x ≡ None)
  checked_other ws hosts i k d h differ = subst (λ (o : Option Cond). IfSome o (λ x. fault_of hosts probes x ≡ None)) (sym (get_or-set_other ws i k (Some d) None differ)) (h k)

  pub checked_more : (ws : List (Option Cond)) (hosts i : ℕ) (c d : Cond) → AreChecked hosts probes ws → fault_of hosts probes c ≡ None → d ≡ c → i < length ws → AreChecked hosts probes (set ws i (Some d))
  checked_more ws hosts i c d h e copy lt k = elim (cases_order k i) [
    | inl same ↦
        let here : get_or (set ws i (Some d)) k None ≡ Some d = ap (λ j. get_or (set ws i (Some d)) j None) same ∙ get_or-set_same ws i (Some d) None lt in
        subst (λ (o : Option Cond). IfSome o (λ x. fault_of hosts probes x ≡ None)) (sym here) (ap (fault_of hosts probes) copy ∙ e)
    | inr (inl before) ↦ checked_other ws hosts i k d h (λ is. absurd (omega arith))
    | inr (inr past) ↦ checked_other ws hosts i k d h (λ is. absurd (omega arith))
  ]

-- the reach of a tape once it holds the world at its place is within the window
pub here_within : (t : Tape) → t.reach ≤ t.scenario.window → reach_here t ≤ t.scenario.window
here_within t few =
    let P : Bool → Type 0 = λ b. (if b then t.reach else min t.scenario.window (t.place % t.scenario.interval)) ≤ t.scenario.window in
    elim t.warm as P [ true ↦ few | false ↦ omega arith ]

-- what a step or a fault does to the reach
pub add_keeps : (t w u : Tape) (here : ℕ) → w ≡ with_world true w.reach t → w.reach ≡ here → u.warm ≡ true → (w.warm ≡ true → u.reach ≡ min w.scenario.window (w.reach + 1))
    → (u.warm ≡ true) × (u.reach ≡ min t.scenario.window (here + 1))
add_keeps t w u here is reached warm more = (
  warm,
  let window : w.scenario.window ≡ t.scenario.window = ap (λ x. x.scenario.window) is in
      let rises = more (ap (λ x. x.warm) is) in
      omega (arith, window, reached, rises),
)

-- what a run does to the reach
pub run_keeps : (t w u : Tape) (new : List Event) (here : ℕ) → w ≡ with_world true w.reach t → w.reach ≡ here → u ≡ with_world true u.reach (lengthened new w)
    → u.reach ≡ min w.scenario.window (w.reach + length new)
    → (u.warm ≡ true) × (u.reach ≡ min t.scenario.window (here + (length u.events - length t.events)))
run_keeps t w u new here is reached more reach = (
  ap (λ x. x.warm) more,
  let window : w.scenario.window ≡ t.scenario.window = ap (λ x. x.scenario.window) is in
      let old : length w.events ≡ length t.events = ap (λ x. length x.events) is in
      let grown : length u.events ≡ length w.events + length new = ap (λ x. length x.events) more ∙ length-append w.events new in
      omega (arith, window, old, grown, reached, reach),
)

pub run_none_keeps : (t w : Tape) (here : ℕ) → w ≡ with_world true w.reach t → w.reach ≡ here → here ≤ t.scenario.window
    → (w.warm ≡ true) × (w.reach ≡ min t.scenario.window (here + (length w.events - length t.events)))
run_none_keeps t w here is reached few = (
  ap (λ x. x.warm) is,
  let old : length w.events ≡ length t.events = ap (λ x. length x.events) is in
      omega (arith, old, reached, few),
)

-- what a rewind does to the reach
pub rewind_keeps : (t w u : Tape) (p n : ℕ) → w ≡ with_world true w.reach t → w.reach ≡ reach_here t → u ≡ with_world true u.reach (at p w)
    → u.reach ≡ reach_rewound (w.place - n) u.place w → (u.warm ≡ true) × (u.reach ≡ reach_rewound (t.place - n) u.place t)
rewind_keeps t w u p n is reached gone reach = (
  ap (λ x. x.warm) gone,
  reach ∙ ap (λ (x : Tape). reach_rewound (x.place - n) u.place w) is ∙ warm_rewound t w (t.place - n) u.place is reached,
)

pub rewind_none_keeps : (t w : Tape) (n : ℕ) → w ≡ with_world true w.reach t → w.reach ≡ reach_here t → (w.warm ≡ true) × (w.reach ≡ reach_rewound (t.place - n) w.place t)
rewind_none_keeps t w n is reached =
    let warm : w.warm ≡ true = ap (λ x. x.warm) is in
    (warm, near_rewound w w (t.place - n) warm (omega arith) (omega arith) ∙ warm_rewound t w (t.place - n) w.place is reached)

module _ {State Msg : Type 0} (node : NodeLaws State Msg) (probes : ℕ) where
  -- something is pending where a step can happen
  pub busy_on : (t w : Tape) → w ≡ with_world true w.reach t → events.refusal_of (rules node probes w.scenario) event.Step (world_of (rules node probes w.scenario) w) ≡ None
      → is_idle (world_of (rules node probes t.scenario) t) ≡ false
  busy_on t w is free =
      can_so (is_some (first (world_of (rules node probes t.scenario) t).queue.items)) (sym (ap (λ v. events.refusal_of (rules node probes v.scenario) event.Step (world_of (rules node probes v.scenario) v)) is) ∙ free)

-- the work of events that are added to a tape whose world is there
pub run_works : {State Msg : Type 0} (node : NodeLaws State Msg) (probes : ℕ) (t w u : Tape) (new : List Event) (b d : Work) → w ≡ with_world true w.reach t → u ≡ with_world true u.reach (lengthened new w)
    → Adds (rules node probes w.scenario) (length new) u.events b d → Adds (rules node probes t.scenario) (length u.events - length t.events) u.events b d
run_works node probes t w u new b d same more h =
    let old : length w.events ≡ length t.events = ap (λ x. length x.events) same in
    let grown : length u.events ≡ length w.events + length new = ap (λ x. length x.events) more ∙ length-append w.events new in
    let count : length new ≡ length u.events - length t.events = omega (arith, old, grown) in
    subst (λ (x : Tape). Adds (rules node probes x.scenario) (length u.events - length t.events) u.events b d) same
    (subst (λ (n : ℕ). Adds (rules node probes w.scenario) n u.events b d) count h)

pub run_none_works : {State Msg : Type 0} (node : NodeLaws State Msg) (probes : ℕ) (t w : Tape) (a : Work) → w ≡ with_world true w.reach t
    → Adds (rules node probes t.scenario) (length w.events - length t.events) w.events a a
run_none_works node probes t w a same =
    let count : length w.events - length t.events ≡ 0 = (let old = ap (λ x. length x.events) same in omega (arith, old)) in
    adds_none (rules node probes t.scenario) (length w.events - length t.events) w.events a count

-- the work of a rewind of a tape whose world is there
pub rewind_works : {State Msg : Type 0} (node : NodeLaws State Msg) (probes : ℕ) (t w u : Tape) (b d : Work) → w ≡ with_world true w.reach t → w.reach ≡ reach_here t
    → (w.place - u.place ≤ w.reach → TakesBack (rules node probes w.scenario) (w.place - u.place) u.place w b d)
    → t.place - u.place ≤ reach_here t → TakesBack (rules node probes t.scenario) (t.place - u.place) u.place t b d
rewind_works node probes t w u b d same reach h near =
    let place = ap (λ (x : Tape). x.place) same in
    subst (λ (x : Tape). TakesBack (rules node probes x.scenario) (x.place - u.place) u.place x b d) same
    (h (omega (arith, place, reach, near)))

pub rewind_none_works : {State Msg : Type 0} (node : NodeLaws State Msg) (probes : ℕ) (t w : Tape) (a : Work) → w ≡ with_world true w.reach t
    → TakesBack (rules node probes t.scenario) (t.place - w.place) w.place t a a
rewind_none_works node probes t w a same =
    let r = rules node probes t.scenario in
    let back : t.place - w.place ≡ 0 = (let place = ap (λ x. x.place) same in omega (arith, place)) in
    ap (λ (n : ℕ). record a { undos = n }) (sym (add-zero a.undos)) ∙ ap (λ (n : ℕ). undone_by (acting r w.place n t.events) a) (sym back)

pub rewind_looks : {State Msg : Type 0} (node : NodeLaws State Msg) (probes : ℕ) (t w u : Tape) (b d : Work) → w ≡ with_world true w.reach t → w.reach ≡ reach_here t
    → Looks (rules node probes w.scenario) u.place (w.place - w.reach) w b d → Looks (rules node probes t.scenario) u.place (t.place - reach_here t) t b d
rewind_looks node probes t w u b d same reach h =
    let top : w.place - w.reach ≡ t.place - reach_here t = ap (λ (n : ℕ). w.place - n) reach ∙ ap (λ (x : Tape). x.place - reach_here t) same in
    subst (λ (x : Tape). Looks (rules node probes x.scenario) u.place (t.place - reach_here t) x b d) same
    (subst (λ (q : ℕ). Looks (rules node probes w.scenario) u.place q w b d) top h)
