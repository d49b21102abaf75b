-- Lemmas on a walk, with a world or without one.
use Rattle.std.proofs.Common.{◌≡◌, ℕ, ◌≤◌, List, [], length, refl, sym, subst, Option, Some, None}
use Rattle.std.specs.Option.{MatchOption}
use Rattle.sim_node.specs.Node.{NodeRecords}
use Rattle.sim_events.specs.declared.Event.{Event}
use Rattle.sim_world.specs.Records.{EventRecord as Kept, InHand}
use Rattle.sim_world.specs.Events.{Rules}
use Rattle.sim_moves.specs.Places.{IsAt}
use Rattle.sim_moves.specs.Walk.{IsWalk}
use Rattle.sim_moves.proofs.Placing.{no_records}

module _ {State Msg Undo : Type 0} (told : State → ℕ) (records : NodeRecords State Undo) where
  pub walk_here : (r : Rules State Msg) (es : List Event) (p : ℕ) (h : Option (InHand State Msg)) (us : List (Kept State Msg Undo)) (w : InHand State Msg)
      → IsWalk told records r es p h us → h ≡ Some w → IsAt r es p w
  walk_here r es p h us w walk is =
      let P : Option (InHand State Msg) → Type 0 = λ o. MatchOption o (us ≡ []) (λ now. IsAt r es p now) in subst P is walk.here

  pub walk_cold : (r : Rules State Msg) (es : List Event) (p : ℕ) (h : Option (InHand State Msg)) (us : List (Kept State Msg Undo))
      → IsWalk told records r es p h us → h ≡ None → us ≡ []
  walk_cold r es p h us walk is =
      let P : Option (InHand State Msg) → Type 0 = λ o. MatchOption o (us ≡ []) (λ now. IsAt r es p now) in subst P is walk.here

-- a walk with no world and no records
pub cold_walk : {State Msg Undo : Type 0} (told : State → ℕ) (records : NodeRecords State Undo) (r : Rules State Msg) (es : List Event) (p : ℕ) (hand : Option (InHand State Msg))
    (us : List (Kept State Msg Undo)) → p ≤ length es → hand ≡ None → us ≡ [] → IsWalk told records r es p hand us
cold_walk told records r es p hand us within none empty =
    subst (λ h. IsWalk told records r es p h us) (sym none)
    (subst (λ xs. IsWalk told records r es p None xs) (sym empty) (record { within = within; here = refl; answers = no_records told records r es p }))

-- a walk that has lost its records
pub bare_walk : {State Msg Undo : Type 0} (told : State → ℕ) (records : NodeRecords State Undo) (r : Rules State Msg) (es : List Event) (p : ℕ) (hand old : Option (InHand State Msg))
    (us vs : List (Kept State Msg Undo)) → hand ≡ old → us ≡ [] → IsWalk told records r es p old vs → IsWalk told records r es p hand us
bare_walk {State = State} {Msg = Msg} told records r es p hand old us vs same empty walk =
    subst (λ h. IsWalk told records r es p h us) (sym same)
    (subst (λ xs. IsWalk told records r es p old xs) (sym empty) (bare old walk))
  where
    bare : (hand : Option (InHand State Msg)) → IsWalk told records r es p hand vs → IsWalk told records r es p hand []
    bare None w = record { within = w.within; here = refl; answers = no_records told records r es p }
    bare (Some now) w = record { within = w.within; here = w.here; answers = no_records told records r es p }
