-- Where nothing is pending on a warm tape, a step or a run is refused for that.
use Rattle.std.proofs.Common.{◌≡◌, ℕ, ◌<◌, Bool, true, false, List, [], ◌∷◌, Option, Some, None, length, get_or, inl, inr, refl, sym, ap, ◌∙◌, subst, ◌⊎◌}
use Rattle.std.specs.List.{list_all}
use Rattle.std.proofs.lemmas.Bool.{and_parts}
use Rattle.std.proofs.lemmas.List.{get_or-map}
use Rattle.sim_node.specs.Node.{NodeLaws}
use Rattle.sim_events.specs.declared.Event.{Event}
use Rattle.sim_events.specs.Scenario.{Scenario}
use Rattle.sim_world.specs.Events.{Rules, rules}
use Rattle.sim_tape.specs.Places.{world_of}
use Rattle.sim_watch.specs.declared.command.Command.{Command}
use Rattle.sim_watch.specs.declared.command.Command.TheVariants as command
use Rattle.sim_book.specs.declared.Refusal.{Refusal}
use Rattle.sim_book.specs.declared.Refusal.TheVariants as refusal
use Rattle.sim_book.specs.declared.Reply.{Reply}
use Rattle.sim_book.specs.declared.Reply.TheVariants as reply
use Rattle.sim_runs.specs.Branch.{Branch}
use Rattle.sim_book.specs.Book.{Book, branch, empty_branch}
use Rattle.sim_watch.specs.Commands.{branch_of}
use Rattle.sim_runs.specs.Branch as branches
use Rattle.sim_book.specs.Answer.{Check, checks, first_refusal, refusal_of, answer, answer_by, done_reply}
use Rattle.sim_runs.specs.Runs.{is_idle}
use Rattle.sim_book.specs.History.{IsTurn}
use Rattle.sim_book.specs.Kept.{Kept, shown, all_shown}
use Rattle.sim_book.specs.BookOf.{AllKept}
use Rattle.sim_book.specs.Keeps.{Wants, Keeps, KeepsTapes, TellsIdle}

-- a refusal that does not tell that nothing is pending
abbrev is_other : Refusal → Bool
is_other refusal.Idle = false
is_other _ = true

not_other : (why : Refusal) → why ≡ refusal.Idle → is_other why ≡ true → ⊥
not_other why e h = let same : false ≡ true = sym (ap is_other e) ∙ h in absurd cc

none_idle : (ks : List Check) → list_all (λ k. is_other k.1) ks ≡ true → first_refusal ks ≡ Some refusal.Idle → ⊥
none_idle [] e h = absurd cc
none_idle ((true, why) ∷ ks) e h = not_other why (cc) (and_parts _ _ e).0
none_idle ((false, why) ∷ ks) e h = none_idle ks (and_parts _ _ e).1 h

-- of these checks the last alone tells it
idle_last : (a b c d : Bool) → first_refusal ((a, refusal.UnknownBranch) ∷ (b, refusal.NotAtEnd) ∷ (c, refusal.EventsFull) ∷ (d, refusal.Idle) ∷ []) ≡ Some refusal.Idle → d ≡ true
idle_last true b c d e = absurd cc
idle_last false true c d e = absurd cc
idle_last false false true d e = absurd cc
idle_last false false false true e = refl
idle_last false false false false e = absurd cc

module _ {State Msg : Type 0} (r : Rules State Msg) where
  -- a command that is carried out is not answered by a refusal
  never : (c : Command) (m : Book) (why : Refusal) → done_reply r c m ≡ reply.Refused why → ⊥
  never (command.Step b) m why e = absurd cc
  never (command.Tick b) m why e = absurd cc
  never (command.Run b n) m why e = absurd cc
  never (command.Fault b f) m why e = absurd cc
  never (command.Back b n) m why e = absurd cc
  never (command.Forward b n) m why e = absurd cc
  never (command.Goto b p) m why e = absurd cc
  never (command.Rewind b n) m why e = absurd cc
  never (command.Cut b) m why e = absurd cc
  never (command.Branch b p) m why e = absurd cc
  never (command.Watch b x) m why e = absurd cc
  never (command.Unwatch b w) m why e = absurd cc
  never (command.Look b q) m why e = absurd cc
  never (command.Freeze b) m why e = absurd cc

  refused_so : (c : Command) (m : Book) (why : Refusal) → answer r m c ≡ reply.Refused why → refusal_of r c m ≡ Some why
  refused_so c m why h = go (refusal_of r c m) h
    where
      go : (o : Option Refusal) → answer_by r o c m ≡ reply.Refused why → o ≡ Some why
      go None e = absurd (never c m why e)
      go (Some x) e = cc

module _ {State Msg : Type 0} (node : NodeLaws State Msg) (probes : ℕ) (s : Scenario) (ks : List Kept) where
  -- the world of a tape is that of its branch
  pending : (b : ℕ) (d : Kept) → b < length ks → AllKept probes s ks → is_idle (world_of (rules node probes (get_or ks b d).tape.scenario) (get_or ks b d).tape) ≡ false
      → is_idle (branches.world_of (rules node probes s) (branch b (all_shown ks))) ≡ false
  pending b d there all busy =
      ap (λ (x : Branch). is_idle (branches.world_of (rules node probes s) x)) (get_or-map shown ks b d empty_branch there)
      ∙ ap (λ (z : Scenario). is_idle (world_of (rules node probes z) (get_or ks b d).tape)) (sym (all b d there).scenario) ∙ busy

  true_not : (b : Bool) → b ≡ true → b ≡ false → ⊥
  true_not b yes_it no_it = let same : true ≡ false = sym yes_it ∙ no_it in absurd cc

  clash : (c : Command) (d : Kept) → branch_of c < length ks → AllKept probes s ks → (get_or ks (branch_of c) d).tape.warm ≡ true → Wants node probes c (get_or ks (branch_of c) d).tape
      → refusal_of (rules node probes s) c (all_shown ks) ≡ Some refusal.Idle → ⊥
  clash (command.Step b) d there all warm wants e = true_not _ (idle_last _ _ _ _ e) (pending b d there all (wants warm))
  clash (command.Run b n) d there all warm wants e = true_not _ (idle_last _ _ _ _ e) (pending b d there all (wants.0 warm))
  clash (command.Tick b) d there all warm wants e = none_idle (checks (rules node probes s) (all_shown ks) (branch b (all_shown ks)) (command.Tick b)) refl e
  clash (command.Fault b f) d there all warm wants e = none_idle (checks (rules node probes s) (all_shown ks) (branch b (all_shown ks)) (command.Fault b f)) refl e
  clash (command.Back b n) d there all warm wants e = none_idle (checks (rules node probes s) (all_shown ks) (branch b (all_shown ks)) (command.Back b n)) refl e
  clash (command.Forward b n) d there all warm wants e = none_idle (checks (rules node probes s) (all_shown ks) (branch b (all_shown ks)) (command.Forward b n)) refl e
  clash (command.Goto b p) d there all warm wants e = none_idle (checks (rules node probes s) (all_shown ks) (branch b (all_shown ks)) (command.Goto b p)) refl e
  clash (command.Rewind b n) d there all warm wants e = none_idle (checks (rules node probes s) (all_shown ks) (branch b (all_shown ks)) (command.Rewind b n)) refl e
  clash (command.Cut b) d there all warm wants e = none_idle (checks (rules node probes s) (all_shown ks) (branch b (all_shown ks)) (command.Cut b)) refl e
  clash (command.Branch b p) d there all warm wants e = none_idle (checks (rules node probes s) (all_shown ks) (branch b (all_shown ks)) (command.Branch b p)) refl e
  clash (command.Watch b x) d there all warm wants e = none_idle (checks (rules node probes s) (all_shown ks) (branch b (all_shown ks)) (command.Watch b x)) refl e
  clash (command.Unwatch b w) d there all warm wants e = none_idle (checks (rules node probes s) (all_shown ks) (branch b (all_shown ks)) (command.Unwatch b w)) refl e
  clash (command.Look b q) d there all warm wants e = none_idle (checks (rules node probes s) (all_shown ks) (branch b (all_shown ks)) (command.Look b q)) refl e
  clash (command.Freeze b) d there all warm wants e = none_idle (checks (rules node probes s) (all_shown ks) (branch b (all_shown ks)) (command.Freeze b)) refl e

  tells_idle : (ks' : List Kept) (c : Command) (given : Reply) → AllKept probes s ks → IsTurn (rules node probes s) (all_shown ks) c given (all_shown ks') → KeepsTapes node probes c given ks ks'
      → TellsIdle node probes s c given ks
  tells_idle ks' c given all turn keeps d there warm idle = elim turn [
    | inl a ↦ a.0 ∙ idle
    | inr w ↦ absurd (clash c d there all warm
        (subst (λ (x : Reply). Keeps node probes c x (get_or ks (branch_of c) d).tape (get_or ks' (branch_of c) d).tape) w.2 (keeps.own d there))
        (refused_so (rules node probes s) c (all_shown ks) refusal.Idle idle))
  ]

  -- so is its twin
  pub twin_tells : (ks' : List Kept) (c : Command) (given told : Reply) → AllKept probes s ks → IsTurn (rules node probes s) (all_shown ks) c given (all_shown ks') → KeepsTapes node probes c given ks ks'
      → (told ≡ given) ⊎ ((told ≡ reply.Refused refusal.NoMemory) × ((l : List Event) × (given ≡ reply.Frozen l))) → TellsIdle node probes s c told ks
  twin_tells ks' c given told all turn keeps how d there warm idle =
      let known : given ≡ reply.Refused refusal.Idle = tells_idle ks' c given all turn keeps d there warm idle in
      elim how [
        | inl same ↦ same ∙ known
        | inr w ↦ absurd (not_frozen w.1.0 (sym w.1.1 ∙ known))
      ]
    where
      not_frozen : (l : List Event) → reply.Frozen l ≡ reply.Refused refusal.Idle → ⊥
      not_frozen l e = cc
