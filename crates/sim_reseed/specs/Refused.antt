-- The text of a numbered run, and why there is none.
use Rattle.std.specs.Prelude.{◌≡◌, ℕ, ◌<◌, List, length, Some, IsErr, false, true}
use Rattle.toml.specs.Data.{Members}
use Rattle.toml.specs.Parse.{parse_document}
use Rattle.toml.specs.Text.{IsDocumentText}
use Rattle.sim_scenario.specs.Scenario.{Protocol, read}
use Rattle.sim_reseed.specs.Input.{has_marker}
use Rattle.sim_reseed.specs.Numbered.{numbered_seed, with_seed, HasSeed}
use Rattle.sim_reseed.specs.declared.error.ReseedError.{ReseedError}
use Rattle.sim_reseed.specs.declared.error.ReseedError.TheVariants.{NoScenario, TooLong, HasMarker}
use Rattle.sim_reseed.specs.declared.error.ReseedError.TheVariants.{NoMemory}

-- the text is no scenario, for any list of protocols
abbrev pub IsNoScenario : List ℕ → Type 0
IsNoScenario text = (protocols : List Protocol) → IsErr (read protocols text)

-- the text is a document with this seed
pub record IsSeeded (text : List ℕ) (doc : Members) (seed : List ℕ) : Type 0 where
  pub parsed : parse_document text ≡ Some doc
  pub had : HasSeed doc seed

-- `printed` is the text's document with the seed of run number i
pub record IsWritten (i : ℕ) (text printed : List ℕ) : Type 0 where
  pub doc : Members
  pub seed : List ℕ
  pub own : IsSeeded text doc seed
  pub written : IsDocumentText false (with_seed (numbered_seed i seed) doc) printed

-- the document has more than 65,536 bytes when printed
pub record IsLong (doc : Members) : Type 0 where
  pub printed : List ℕ
  pub written : IsDocumentText false doc printed
  pub long : 65536 < length printed

-- why there is no text of run number i
abbrev pub Refuses : ℕ → List ℕ → ReseedError → Type 0
Refuses i text NoScenario = IsNoScenario text
Refuses i text TooLong = (printed : List ℕ) × IsWritten i text printed × (65536 < length printed)
Refuses i text HasMarker = ⊥
Refuses i text NoMemory = Unit {0}

-- why there is no input that begins with that text
abbrev pub RefusesInput : ℕ → List ℕ → ReseedError → Type 0
RefusesInput i text HasMarker =
    (printed : List ℕ) × IsWritten i text printed × (has_marker printed ≡ true)
RefusesInput i text e = Refuses i text e
