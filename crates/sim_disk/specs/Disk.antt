-- A disk: stable bytes, and the writes that are not stable yet, in the order in which they were
-- made.
use Rattle.std.specs.Prelude.{◌≡◌, ◌<◌, ◌≤◌, ℕ, zero, suc, ◌+◌, ◌-◌, ◌/◌, ◌%◌, ◌^◌, List, [], ◌∷◌}
use Rattle.std.specs.Prelude.{◌++◌, length, take, drop, replicate}
use Rattle.std.specs.List.{fold}

pub record Write : Type 0 where
  pub offset : ℕ
  pub bytes : List ℕ

-- stable     the bytes that a crash leaves as they are
-- writes     the writes that are not stable yet
-- asked      how many of the writes, from the first on, the syncs in flight cover
pub record Disk : Type 0 where
  pub stable : List ℕ
  pub writes : List Write
  pub asked : ℕ

abbrev pub empty_disk : Disk
empty_disk = record { stable = []; writes = []; asked = 0 }

-- the bytes, extended at least to this place with zeros
abbrev pub filled_to : ℕ → List ℕ → List ℕ
filled_to place bytes = bytes ++ replicate (place - length bytes) 0

-- the bytes with a write laid over them; a write of no bytes changes nothing
abbrev pub laid_at : ℕ → List ℕ → List ℕ → List ℕ
laid_at offset [] over = over
laid_at offset (b ∷ bytes) over =
    take offset (filled_to offset over) ++ (b ∷ bytes) ++ drop (offset + length (b ∷ bytes)) over

abbrev pub laid : List ℕ → Write → List ℕ
laid over w = laid_at w.offset w.bytes over

-- the bytes with the writes laid over them in order
abbrev pub all_laid : List ℕ → List Write → List ℕ
all_laid over writes = fold laid over writes

-- the bytes that the disk will have when all writes are stable
abbrev pub read : Disk → List ℕ
read d = all_laid d.stable d.writes

-- the disk after one more write
abbrev pub written : ℕ → List ℕ → Disk → Disk
written offset bytes d =
    record d { writes = d.writes ++ record { offset = offset; bytes = bytes } ∷ [] }

-- A sync asks for the writes that no sync covers yet: their number, and the disk after it asked.
abbrev pub not_asked : Disk → ℕ
not_asked d = length d.writes - d.asked

abbrev pub all_asked : Disk → Disk
all_asked d = record d { asked = length d.writes }

-- when a sync of the first `count` writes comes, these are stable
abbrev pub synced : ℕ → Disk → Disk
synced count d =
    record {
      stable = all_laid d.stable (take count d.writes);
      writes = drop count d.writes;
      asked = d.asked - count;
    }

-- the number of bytes that a crash keeps of a write: none, all, or a first part, by the word drawn
-- for it
abbrev pub kept_by : ℕ → ℕ → ℕ → ℕ
kept_by zero word len = 0
kept_by (suc zero) word len = len
kept_by (suc (suc _)) word len = (word / 3) % len

abbrev pub kept_len : ℕ → ℕ → ℕ
kept_len word len = kept_by (word % 3) word len

abbrev pub kept : ℕ → Write → Write
kept word w = record w { bytes = take (kept_len word (length w.bytes)) w.bytes }

-- the parts of the writes that a crash keeps, by a word for each
abbrev pub all_kept : List ℕ → List Write → List Write
all_kept (word ∷ words) (w ∷ writes) = kept word w ∷ all_kept words writes
all_kept _ _ = []

-- after a crash the kept parts are stable, and no write is left
abbrev pub crashed : List ℕ → Disk → Disk
crashed words d =
    record { stable = all_laid d.stable (all_kept words d.writes); writes = []; asked = 0 }

-- The invariant of a disk: at most 4096 stable bytes; each write has 1 to 64 bytes and ends within
-- 4096; at most 2 ^ 24 writes; the syncs in flight cover no more writes than there are.
abbrev pub AllFit : List Write → Type 0
AllFit [] = Unit {0}
AllFit (w ∷ writes) =
    (1 ≤ length w.bytes) × (length w.bytes ≤ 64) × (w.offset + length w.bytes ≤ 4096)
    × AllFit writes

pub record IsDisk (d : Disk) : Type 0 where
  pub stable : length d.stable ≤ 4096
  pub writes : AllFit d.writes
  pub few : length d.writes ≤ 2 ^ 24
  pub asked : d.asked ≤ length d.writes

-- The record of a change.
-- Unchanged          nothing changed: a sync that covered no write, or a crash without a write
-- Added              a write was added
-- Asked was          a sync asked, and `was` writes had been asked for before
-- Synced count was   a sync of the first `count` writes came; `was` is the disk before it
-- Crashed was        the disk crashed; `was` is the disk before it
pub data DiskUndo : Type 0 where
  Unchanged : DiskUndo
  Added : DiskUndo
  Asked : (was : ℕ) → DiskUndo
  Synced : (count : ℕ) → (was : Disk) → DiskUndo
  Crashed : (was : Disk) → DiskUndo

-- a record fits a disk that is as the change left it
abbrev pub fits : DiskUndo → Disk → Type 0
fits DiskUndo.Unchanged d = Unit {0}
fits DiskUndo.Added d = d.asked < length d.writes
fits (DiskUndo.Asked was) d = (d.asked ≡ length d.writes) × (was ≤ d.asked)
fits (DiskUndo.Synced count was) d = (count ≤ was.asked) × (d ≡ synced count was)
fits (DiskUndo.Crashed was) d = (d.writes ≡ []) × (d.asked ≡ 0)

-- the disk before the change
abbrev pub back : DiskUndo → Disk → Disk
back DiskUndo.Unchanged d = d
back DiskUndo.Added d = record d { writes = take (length d.writes - 1) d.writes }
back (DiskUndo.Asked was) d = record d { asked = was }
back (DiskUndo.Synced count was) d = was
back (DiskUndo.Crashed was) d = was
