-- The answers of a search and a sweep, and their lines.
use Rattle.std.specs.Prelude.{ℕ, codes, List, [], ◌++◌, Option, Some, None, Result, Ok, Err, ◌≡◌}
use Rattle.std.specs.Fmt.{decimal}
use Rattle.serde_json.specs.Data.{Data, null, number, object, member, no_members, unsigned}
use Rattle.serde_json.specs.Written.{compact_text}
use Rattle.sim_search.specs.declared.SearchFault.{SearchFault}
use Rattle.sim_search.specs.declared.SearchFault.TheVariants as fault
use Rattle.sim_cli.specs.declared.status.Status.{Status}
use Rattle.sim_cli.specs.declared.status.Status.TheVariants.{Well, BadRequest}
use Rattle.sim_hunt.specs.declared.answer.Answer.{Answer}
use Rattle.sim_hunt.specs.declared.answer.Form.{Form}
use Rattle.sim_hunt.specs.declared.answer.Form.TheVariants.{Words, Json}
use Rattle.sim_hunt.specs.declared.answer.Swept.{Swept}
use Rattle.sim_hunt.specs.declared.answer.Answer.TheVariants.{Place, Seed, Nowhere, BadRange}
use Rattle.sim_hunt.specs.declared.answer.Answer.TheVariants.{BadCondition, BadScript}

abbrev pub answer_words : Answer → List ℕ
answer_words (Place p) = codes "first " ++ decimal p
answer_words (Seed i p) = codes "seed " ++ decimal i ++ codes " place " ++ decimal p
answer_words Nowhere = codes "none"
answer_words BadRange = codes "bad range"
answer_words BadCondition = codes "bad condition"
answer_words BadScript = codes "bad script"

abbrev pub optional : Option ℕ → Data
optional None = null
optional (Some n) = number (unsigned n)

-- the result of a sweep, with its numbers; the keys are in the order of their names
abbrev pub swept_value : Swept → Option ℕ → Option ℕ → Data
swept_value swept seed place = object
    (member (codes "count") (number (unsigned swept.count))
    (member (codes "events") (number (unsigned swept.events))
    (member (codes "first") (number (unsigned swept.first))
    (member (codes "place") (optional place)
    (member (codes "seed") (optional seed)
    no_members)))))

-- the result of a sweep is in JSON; all else is in words
abbrev pub swept_text : Swept → Answer → List ℕ
swept_text swept (Seed i p) = compact_text (swept_value swept (Some i) (Some p))
swept_text swept Nowhere = compact_text (swept_value swept None None)
swept_text swept a = answer_words a

abbrev pub answer_text : Form → Answer → List ℕ
answer_text Words a = answer_words a
answer_text (Json swept) a = swept_text swept a

-- A line of the script at fault is reported elsewhere.
abbrev pub answer_line : Form → Answer → List ℕ
answer_line form BadScript = []
answer_line form a = answer_text form a ++ codes "\n"

-- the status after an answer: that of a wrong request differs
abbrev pub status_of : Answer → Status
status_of BadRange = BadRequest
status_of BadCondition = BadRequest
status_of BadScript = BadRequest
status_of _ = Well

-- the first place, or nowhere
abbrev pub at_place : Option ℕ → Answer
at_place (Some p) = Place p
at_place None = Nowhere

-- the first seed with its first place, or nowhere
abbrev pub at_seed : Option (ℕ × ℕ) → Answer
at_seed (Some found) = Seed found.0 found.1
at_seed None = Nowhere

-- the answer is the result, or the fault; want of memory is no answer
abbrev pub Tells : {A : Type 0} → (A → Answer) → Result A SearchFault → Answer → Type 0
Tells tell (Ok found) a = a ≡ tell found
Tells tell (Err fault.BadRange) a = a ≡ BadRange
Tells tell (Err fault.BadCondition) a = a ≡ BadCondition
Tells tell (Err fault.NoMemory) a = ⊥
