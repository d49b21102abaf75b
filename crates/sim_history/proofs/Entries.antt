-- Lemmas on entries, and on their events.
use Rattle.std.proofs.Common.{◌≡◌, ℕ, List, [], ◌∷◌, ◌++◌, length, take, get_or, sym, ap, ◌∙◌, Some}
use Rattle.std.specs.Prelude.{slice_get}
use Rattle.std.proofs.lemmas.Option.{slice_get-map, get_or_from_slice_get}
use Rattle.std.proofs.lemmas.List.{length-map, take-map, map-append}
use Rattle.sim_events.specs.declared.Event.{Event}
use Rattle.sim_history.specs.Entry.{Entry}
use Rattle.sim_history.specs.Log.{events_of}

pub events-push : (entries : List Entry) (x : Entry) → events_of (entries ++ x ∷ []) ≡ events_of entries ++ x.event ∷ []
events-push entries x = map-append (λ (e : Entry). e.event) entries (x ∷ [])

pub events-take : (n : ℕ) (entries : List Entry) → events_of (take n entries) ≡ take n (events_of entries)
events-take n entries = sym (take-map (λ (e : Entry). e.event) n entries)

pub events-length : (entries : List Entry) → length (events_of entries) ≡ length entries
events-length entries = length-map entries (λ (e : Entry). e.event)

pub event_at : (entries : List Entry) (i : ℕ) (e : Entry) (d : Event) → slice_get entries i ≡ Some e → get_or (events_of entries) i d ≡ e.event
event_at entries i e d at =
    get_or_from_slice_get (events_of entries) i e.event d (slice_get-map (λ (x : Entry). x.event) entries i ∙ ap (λ o. Rattle.std.specs.Option.option_map (λ (x : Entry). x.event) o) at)
