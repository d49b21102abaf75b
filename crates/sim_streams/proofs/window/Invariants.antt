use Rattle.std.proofs.Common.{◌≡◌, ℕ, ◌+◌, ◌<◌, slice_index, length}
use Rattle.rand_chacha.specs.ChaCha.{key_of}
use Rattle.sim_streams.specs.Word.{word}
use Rattle.sim_streams.proofs.window.Given as goal

abbrev pub invariant-fill : goal.invariant-fill
invariant-fill l =
    (l.rng ≡ record { key = key_of l.fn.seed; stream = l.stream; word_pos = l.start + l.i })
    × ((k : ℕ) → k < l.i → slice_index l.words k ≡ word l.fn.seed l.stream (l.start + k))
    × (length l.words ≡ 64)
