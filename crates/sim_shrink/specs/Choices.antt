-- Choices of which faults of a run stay.
use Rattle.std.specs.Prelude.{ℕ, Bool, true, false, List, [], ◌∷◌, ◌++◌, take, drop, replicate}
use Rattle.std.specs.Prelude.{if◌then◌else◌}
use Rattle.std.specs.List.{count_by}
use Rattle.sim_events.specs.declared.Event.{Event}
use Rattle.sim_events.specs.declared.Event.TheVariants as event

-- The events that a choice keeps. It says for each fault, in order, whether it stays. Other events
-- stay, and a fault past the end of the choice does not.
abbrev pub kept_by : List Bool → List Event → List Event
kept_by choice [] = []
kept_by choice (event.Step ∷ es) = event.Step ∷ kept_by choice es
kept_by choice (event.Advance to ∷ es) = event.Advance to ∷ kept_by choice es
kept_by [] (event.Fault f ∷ es) = kept_by [] es
kept_by (stays ∷ choice) (event.Fault f ∷ es) =
    if stays then event.Fault f ∷ kept_by choice es else kept_by choice es

abbrev pub is_fault : Event → Bool
is_fault event.Step = false
is_fault (event.Advance to) = false
is_fault (event.Fault f) = true

-- the choice without n faults from number `from` on
abbrev pub without : ℕ → ℕ → List Bool → List Bool
without from n choice = take from choice ++ (replicate n false ++ drop n (drop from choice))

-- how many faults stay
abbrev pub count_left : List Bool → ℕ
count_left choice = count_by (λ stays. stays) choice
