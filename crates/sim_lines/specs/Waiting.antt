-- The bytes that were read and not yet taken, and how many may still come.
use Rattle.std.specs.Prelude.{◌≡◌, ℕ, ◌+◌, ◌*◌, ◌^◌, ◌<◌, ◌≤◌, List, [], length, Option, ◌⊎◌}
use Rattle.std.specs.Io.KnownBytes.{Consumes}

-- bytes     the waiting bytes, in order
-- reads     how many reads may still be made
pub record Waiting : Type 0 where
  pub bytes : List ℕ
  pub reads : ℕ

-- nothing was read, and 2^40 reads may be made
abbrev pub unread : Waiting
unread = record { bytes = []; reads = 2 ^ 40 }

-- how many bytes can still be taken: the waiting ones, and at most 4,096 for each read
abbrev pub budget : Waiting → ℕ
budget w = length w.bytes + 4096 * w.reads

-- no byte waits, and a read was made or none was left
pub record IsUsedUp (old new : Waiting) : Type 0 where
  pub none : new.bytes ≡ []
  pub reads : (new.reads ≡ 0) ⊎ (new.reads < old.reads)

-- each read is counted, and took at most 4,096 bytes of what the reader had left
pub record CountsReads (old new : Waiting) (left left' : Option (List ℕ)) : Type 0 where
  pub read : List ℕ
  pub consumed : Consumes left left' read
  pub counted : length read + 4096 * new.reads ≤ 4096 * old.reads
