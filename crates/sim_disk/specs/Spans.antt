-- Disks side by side: the bytes of all, the writes of all, and the span of each disk in these.
use Rattle.std.specs.Prelude.{◌≤◌, ℕ, List, length, map}
use Rattle.std.specs.List.{All, slice_range}
use Rattle.sim_disk.specs.Disk.{Disk, Write, IsDisk}
use Rattle.sim_disk.specs.declared.packed.Span.{Span}

-- the disk with the bytes and the writes of a span
abbrev pub disk_at : List ℕ → List Write → Span → Disk
disk_at bytes writes s =
    record {
      stable = slice_range bytes s.from s.to;
      writes = slice_range writes s.first s.last;
      asked = s.asked;
    }

abbrev pub disks_at : List ℕ → List Write → List Span → List Disk
disks_at bytes writes spans = map (disk_at bytes writes) spans

-- the span is within the bytes and the writes, and gives a disk
pub record IsSpan (bytes : List ℕ) (writes : List Write) (s : Span) : Type 0 where
  pub from : s.from ≤ s.to
  pub to : s.to ≤ length bytes
  pub first : s.first ≤ s.last
  pub last : s.last ≤ length writes
  pub disk : IsDisk (disk_at bytes writes s)

abbrev pub AreSpans : List ℕ → List Write → List Span → Type 0
AreSpans bytes writes spans = All (IsSpan bytes writes) spans
