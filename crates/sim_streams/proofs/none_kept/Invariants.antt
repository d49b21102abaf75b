use Rattle.std.proofs.Common.{◌≡◌, ℕ, ◌<◌, [], length, slice_index_or}
use Rattle.sim_streams.specs.declared.Kept.{Kept}
use Rattle.sim_streams.proofs.none_kept.Given as goal

abbrev pub invariant-loop-stream : goal.invariant-loop-stream
invariant-loop-stream l =
    (length l.kept.items ≡ l._stream)
    × ((s : ℕ) (k : Kept) → s < l._stream → k ≡ slice_index_or l.kept.items s k → k.words.items ≡ [])
