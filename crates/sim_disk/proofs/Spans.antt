-- Disks that are kept side by side stay as they are when more bytes and writes come behind the others.
use Rattle.std.proofs.Common.{◌≡◌, ℕ, ◌+◌, ◌-◌, ◌<◌, ◌≤◌, List, [], ◌∷◌, ◌++◌, get_or, length, take, drop, refl, ap, sym, subst, ◌∙◌, arith, length-append, length-drop}
use Rattle.std.proofs.Math.Seq.{drop-append_seam}
use Rattle.std.proofs.lemmas.List.{take-append-le, drop-append-le, length-map, map-append, take_all}
use Rattle.std.proofs.lemmas.List.Elements.{All-head, All-tail, All-push}
use Rattle.std.proofs.lemmas.Option.{slice_get-map, slice_get_read}
use Rattle.std.specs.Prelude.{Some, option_map, Result, Ok, Err, OnErr}
use Rattle.std.specs.List.{slice_get, slice_range}
use Rattle.sim_disk.specs.Disk.{Disk, Write, IsDisk}
use Rattle.sim_disk.specs.Spans.{disk_at, disks_at, IsSpan, AreSpans}
use Rattle.sim_disk.specs.declared.packed.Span.{Span}

module _ {X : Type 0} where
  -- a part that lies within the first of two lists
  part_left : (xs more : List X) (a b : ℕ) → a ≤ b → b ≤ length xs → slice_range (xs ++ more) a b ≡ slice_range xs a b
  part_left xs more a b order within =
      ap (take (b - a)) (drop-append-le a xs more (omega arith))
      ∙ take-append-le (b - a) (drop a xs) more (omega (arith, length-drop a xs))

  -- the part that is the whole of the second
  part_right : (xs more : List X) (a b : ℕ) → a ≡ length xs → b ≡ length xs + length more → slice_range (xs ++ more) a b ≡ more
  part_right xs more a b from to =
      ap (λ k. take (b - a) (drop k (xs ++ more))) from ∙ ap (take (b - a)) (drop-append_seam xs more) ∙ take_all (b - a) more (omega arith)

disk_grown : (bytes more : List ℕ) (writes others : List Write) (s : Span) → IsSpan bytes writes s
    → disk_at (bytes ++ more) (writes ++ others) s ≡ disk_at bytes writes s
disk_grown bytes more writes others s is =
    rw (part_left bytes more s.from s.to is.from is.to, part_left writes others s.first s.last is.first is.last) refl

span_grown : (bytes more : List ℕ) (writes others : List Write) (s : Span) → IsSpan bytes writes s → IsSpan (bytes ++ more) (writes ++ others) s
span_grown bytes more writes others s is = record {
  from = is.from;
  to = omega (arith, is.to, length-append bytes more);
  first = is.first;
  last = omega (arith, is.last, length-append writes others);
  disk = subst IsDisk (sym (disk_grown bytes more writes others s is)) is.disk;
}

pub spans_grown : (bytes more : List ℕ) (writes others : List Write) (spans : List Span) → AreSpans bytes writes spans
    → AreSpans (bytes ++ more) (writes ++ others) spans
spans_grown bytes more writes others spans are = λ k s inside. span_grown bytes more writes others _ (are k s inside)

pub spans_still : {bytes new_bytes : List ℕ} {writes new_writes : List Write} {spans new_spans : List Span} (more : List ℕ) (others : List Write)
    → new_bytes ≡ bytes ++ more → new_writes ≡ writes ++ others → new_spans ≡ spans → AreSpans bytes writes spans → AreSpans new_bytes new_writes new_spans
spans_still {bytes = bytes} {writes = writes} {spans = spans} more others bytes_are writes_are spans_are are =
    rw (bytes_are, writes_are, spans_are) (spans_grown bytes more writes others spans are)

disks_grown : (bytes more : List ℕ) (writes others : List Write) (spans : List Span) → AreSpans bytes writes spans
    → disks_at (bytes ++ more) (writes ++ others) spans ≡ disks_at bytes writes spans
disks_grown bytes more writes others [] are = refl
disks_grown bytes more writes others (s ∷ spans) are =
    rw (
      disk_grown bytes more writes others s (All-head (IsSpan bytes writes) s spans are),
      disks_grown bytes more writes others spans (All-tail (IsSpan bytes writes) s spans are),
    ) refl

pub disks_still : {bytes new_bytes : List ℕ} {writes new_writes : List Write} {spans new_spans : List Span} (more : List ℕ) (others : List Write)
    → new_bytes ≡ bytes ++ more → new_writes ≡ writes ++ others → new_spans ≡ spans → AreSpans bytes writes spans
    → disks_at new_bytes new_writes new_spans ≡ disks_at bytes writes spans
disks_still {bytes = bytes} {writes = writes} {spans = spans} more others bytes_are writes_are spans_are are =
    rw (bytes_are, writes_are, spans_are) (disks_grown bytes more writes others spans are)

-- what is true at all is true after an error
pub on_err : {T E P : Type 0} (r : Result T E) → P → OnErr r P
on_err (Ok v) p = tt
on_err (Err e) p = p

-- This span marks a disk that comes behind so many bytes and writes.
pub record IsBehind (bytes writes : ℕ) (d : Disk) (s : Span) : Type 0 where
  pub from : s.from ≡ bytes
  pub to : s.to ≡ bytes + length d.stable
  pub first : s.first ≡ writes
  pub last : s.last ≡ writes + length d.writes
  pub asked : s.asked ≡ d.asked

new_disk : (bytes : List ℕ) (writes : List Write) (d : Disk) (s : Span) → IsBehind (length bytes) (length writes) d s
    → disk_at (bytes ++ d.stable) (writes ++ d.writes) s ≡ d
new_disk bytes writes d s is =
    rw (part_right bytes d.stable s.from s.to is.from is.to, part_right writes d.writes s.first s.last is.first is.last, is.asked) refl

pub spans_pushed : (bytes : List ℕ) (writes : List Write) (spans : List Span) (d : Disk) (s : Span)
    → IsBehind (length bytes) (length writes) d s → AreSpans bytes writes spans → IsDisk d
    → AreSpans (bytes ++ d.stable) (writes ++ d.writes) (spans ++ s ∷ [])
spans_pushed bytes writes spans d s is are disk =
    All-push (IsSpan (bytes ++ d.stable) (writes ++ d.writes)) spans s (spans_grown bytes d.stable writes d.writes spans are) (record {
      from = omega (arith, is.from, is.to);
      to = omega (arith, is.to, length-append bytes d.stable);
      first = omega (arith, is.first, is.last);
      last = omega (arith, is.last, length-append writes d.writes);
      disk = subst IsDisk (sym (new_disk bytes writes d s is)) disk;
    })

pub disks_pushed : (bytes : List ℕ) (writes : List Write) (spans : List Span) (d : Disk) (s : Span)
    → IsBehind (length bytes) (length writes) d s → AreSpans bytes writes spans
    → disks_at (bytes ++ d.stable) (writes ++ d.writes) (spans ++ s ∷ []) ≡ disks_at bytes writes spans ++ d ∷ []
disks_pushed bytes writes spans d s is are =
    map-append (disk_at (bytes ++ d.stable) (writes ++ d.writes)) spans (s ∷ [])
    ∙ rw (disks_grown bytes d.stable writes d.writes spans are, new_disk bytes writes d s is) refl

-- the disk at a place is the one that its span marks
pub inside : (bytes : List ℕ) (writes : List Write) (spans : List Span) (place : ℕ) (all : List Disk) → disks_at bytes writes spans ≡ all
    → place < length all → place < length spans
inside bytes writes spans place all are within = omega (arith, within, ap (λ (ds : List Disk). length ds) are, length-map spans (disk_at bytes writes))

pub disk_kept : (bytes : List ℕ) (writes : List Write) (spans : List Span) (place : ℕ) (s : Span) (d : Disk) → AreSpans bytes writes spans
    → place < length spans → s ≡ get_or spans place s → d ≡ disk_at bytes writes s → IsDisk d
disk_kept bytes writes spans place s d are within at is =
    subst IsDisk (sym is) (subst (λ x. IsDisk (disk_at bytes writes x)) (sym at) (are place s within).disk)

pub disk_got : (bytes : List ℕ) (writes : List Write) (spans : List Span) (place : ℕ) (s : Span) (d : Disk) (all : List Disk)
    → disks_at bytes writes spans ≡ all → place < length all → s ≡ get_or spans place s → d ≡ disk_at bytes writes s → slice_get all place ≡ Some d
disk_got bytes writes spans place s d all are within at is =
    ap (λ (ds : List Disk). slice_get ds place) (sym are) ∙ slice_get-map (disk_at bytes writes) spans place
    ∙ ap (option_map (disk_at bytes writes)) (slice_get_read spans (length spans) place s refl (inside bytes writes spans place all are within) at)
    ∙ ap (λ x. Some x) (sym is)
