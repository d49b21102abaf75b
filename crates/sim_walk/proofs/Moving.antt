-- Where a turn moved a branch: to a place that is one of its own.
use Rattle.std.proofs.Common.{◌≡◌, ◌∙◌, ℕ, ◌<◌, ◌≤◌, [], ◌∷◌, ◌++◌, length, set, Option, Some, None, refl, sym, ap, subst, inl, inr, arith}
use Rattle.std.proofs.lemmas.Bool.{cases_lt}
use Rattle.std.proofs.lemmas.List.{length-set, length-append, length-take-le, get_or_append_left, get_or-set_same, get_or_past}
use Rattle.sim_world.specs.Events.{Rules}
use Rattle.sim_events.specs.declared.Event.TheVariants as event
use Rattle.sim_watch.specs.declared.command.Command.{Command}
use Rattle.sim_watch.specs.declared.command.Command.TheVariants as command
use Rattle.sim_book.specs.declared.Refusal.{Refusal}
use Rattle.sim_book.specs.declared.Refusal.TheVariants as refusal
use Rattle.sim_book.specs.declared.Reply.{Reply}
use Rattle.sim_book.specs.declared.Reply.TheVariants as reply
use Rattle.sim_runs.specs.declared.Stop.{Stop}
use Rattle.sim_runs.specs.Branch.{Branch}
use Rattle.sim_book.specs.Book.{Book, branch, with_branch, empty_branch}
use Rattle.sim_watch.specs.Commands.{branch_of}
use Rattle.sim_runs.specs.Runs.{tick_addition, run_addition}
use Rattle.sim_book.specs.Answer.{refusal_of, branch_after, branches_made, reply_of, answer_by, after_by}
use Rattle.sim_book.specs.History.{IsTurn}
use Rattle.sim_book.specs.Headline.{AreBranches}
use Rattle.sim_book.proofs.Headlines.{inside}
use Rattle.sim_walk.specs.Accounts.{IsWithinBy}

not_refused : (p k : ℕ) (w : Stop) → reply.Moved p k w ≡ reply.Refused refusal.NoMemory → ⊥
not_refused p k w e = cc

module _ {State Msg : Type 0} (r : Rules State Msg) where
  -- a reply that names a place names that of the branch
  named : (c : Command) (book : Book) (x y : Branch) (p k : ℕ) (w : Stop) → reply.Moved p k w ≡ reply_of r c book x y → y.place ≡ p
  named (command.Step b) book x y p k w e = cc
  named (command.Tick b) book x y p k w e = cc
  named (command.Run b n) book x y p k w e = cc
  named (command.Fault b f) book x y p k w e = cc
  named (command.Back b n) book x y p k w e = cc
  named (command.Forward b n) book x y p k w e = cc
  named (command.Goto b n) book x y p k w e = cc
  named (command.Rewind b n) book x y p k w e = cc
  named (command.Cut b) book x y p k w e = cc
  named (command.Branch b n) book x y p k w e = cc
  named (command.Watch b q) book x y p k w e = cc
  named (command.Unwatch b q) book x y p k w e = cc
  named (command.Look b q) book x y p k w e = cc
  named (command.Freeze b) book x y p k w e = cc

  -- the branch of a command after it
  here : (b : ℕ) (y : Branch) (book made : Book) → b < length book → branch b (with_branch b y book ++ made) ≡ y
  here b y book made there =
      let set_here : b < length (set book b y) = omega (arith, there, length-set book b y) in
      get_or_append_left (set book b y) made empty_branch b set_here ∙ get_or-set_same book b y empty_branch there

  -- the same, of a book that grew
  there_still : (b : ℕ) (y : Branch) (book made : Book) → b < length book → b < length (with_branch b y book ++ made)
  there_still b y book made there = omega (arith, there, length-set book b y, length-append (set book b y) made)

  within_by : (o : Option Refusal) (c : Command) (old new : Book) (p k : ℕ) (w : Stop) → refusal_of r c old ≡ o → AreBranches r new
      → reply.Moved p k w ≡ answer_by r o c old → new ≡ after_by r o c old → p ≤ length (branch (branch_of c) new).events
  within_by (Some why) c old new p k w free all e n = absurd cc
  within_by None c old new p k w free all e n =
      let b : ℕ = branch_of c in
      let x : Branch = branch b old in
      let y : Branch = branch_after r c x in
      let there = inside r c old free in
      let made : Book = branches_made r c x in
      let is_new : branch b new ≡ y = ap (branch b) n ∙ here b y old made there in
      let place : (branch b new).place ≡ p = ap (λ (z : Branch). z.place) is_new ∙ named c old x y p k w e in
      let still : b < length new = subst (λ (m : Book). b < length m) (sym n) (there_still b y old made there) in
      let within = (all b empty_branch still).within in
      omega (arith, place, within)

  -- a place that a turn names is one of the branch
  pub moved_within : (c : Command) (old new : Book) (given : Reply) → AreBranches r new → IsTurn r old c given new
      → IsWithinBy given (branch (branch_of c) new).events
  moved_within c old new (reply.Moved p k w) all turn = elim turn [
    | inl a ↦ within_by (refusal_of r c old) c old new p k w refl all a.0 a.1
    | inr m ↦ let wants = m.2 in absurd (not_refused p k w wants)
  ]
  moved_within c old new (reply.Made n) all turn = tt
  moved_within c old new (reply.Dropped n) all turn = tt
  moved_within c old new (reply.Seen place view) all turn = tt
  moved_within c old new (reply.Refused why) all turn = tt
  moved_within c old new (reply.Frozen list) all turn = tt

module _ {State Msg : Type 0} (r : Rules State Msg) where
  -- the place of a branch is one of its own
  pub place_in : (book : Book) (b : ℕ) → AreBranches r book → (branch b book).place ≤ length (branch b book).events
  place_in book b all = elim (cases_lt b (length book)) [
    | inl there ↦ (all b empty_branch there).within
    | inr past ↦ subst (λ (x : Branch). x.place ≤ length x.events) (sym (get_or_past book b empty_branch past)) (omega arith)
  ]

  -- a command keeps the events up to the place of its branch
  keeps_place : (c : Command) (x : Branch) → x.place ≤ length x.events → x.place ≤ length (branch_after r c x).events
  keeps_place (command.Step b) x h = omega (arith, h, length-append x.events (event.Step ∷ []))
  keeps_place (command.Tick b) x h = omega (arith, h, length-append x.events (tick_addition r x).events)
  keeps_place (command.Run b n) x h = omega (arith, h, length-append x.events (run_addition r n x).events)
  keeps_place (command.Fault b f) x h = omega (arith, h, length-append x.events (event.Fault f ∷ []))
  keeps_place (command.Back b n) x h = h
  keeps_place (command.Forward b n) x h = h
  keeps_place (command.Goto b n) x h = h
  keeps_place (command.Rewind b n) x h = h
  keeps_place (command.Cut b) x h = omega (arith, length-take-le x.place x.events h)
  keeps_place (command.Branch b n) x h = h
  keeps_place (command.Watch b q) x h = h
  keeps_place (command.Unwatch b q) x h = h
  keeps_place (command.Look b q) x h = h
  keeps_place (command.Freeze b) x h = h

  keeps_by : (o : Option Refusal) (c : Command) (old new : Book) → refusal_of r c old ≡ o → (branch (branch_of c) old).place ≤ length (branch (branch_of c) old).events
      → new ≡ after_by r o c old → (branch (branch_of c) old).place ≤ length (branch (branch_of c) new).events
  keeps_by (Some why) c old new free h n = subst (λ (m : Book). (branch (branch_of c) old).place ≤ length (branch (branch_of c) m).events) (sym n) h
  keeps_by None c old new free h n =
      let b : ℕ = branch_of c in
      let x : Branch = branch b old in
      let is_new : branch b new ≡ branch_after r c x = ap (branch b) n ∙ here r b (branch_after r c x) old (branches_made r c x) (inside r c old free) in
      subst (λ (y : Branch). x.place ≤ length y.events) (sym is_new) (keeps_place c x h)

  -- so does a turn
  pub stays_within : (c : Command) (old new : Book) (given : Reply) → (branch (branch_of c) old).place ≤ length (branch (branch_of c) old).events → IsTurn r old c given new
      → (branch (branch_of c) old).place ≤ length (branch (branch_of c) new).events
  stays_within c old new given h turn = elim turn [
    | inl a ↦ keeps_by (refusal_of r c old) c old new refl h a.1
    | inr m ↦ subst (λ (m : Book). (branch (branch_of c) old).place ≤ length (branch (branch_of c) m).events) (sym m.3) h
  ]
