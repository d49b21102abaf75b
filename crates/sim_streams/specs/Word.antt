-- The words of a run. Each is named by the seed, the number of a stream and a place in it.
use Rattle.std.specs.Prelude.{ℕ, ◌+◌, List}
use Rattle.rand_chacha.specs.ChaCha.{word_at, key_of}

-- the 32-bit word at a place of a stream: ChaCha20 (20 rounds are 10 double rounds) under the seed
-- as key, with the stream's number as nonce
unfoldable pub word : List ℕ → ℕ → ℕ → ℕ
word seed stream place = word_at 10 (key_of seed) stream place

-- stream 0 is the network's
abbrev pub network : ℕ
network = 0

-- stream 1 is that of torn writes
abbrev pub torn : ℕ
torn = 1

-- and each host has its own stream
abbrev pub stream_of : ℕ → ℕ
stream_of host = 2 + host

-- the streams of one seed: the number of words drawn from each, which is the place of its next word
pub record Places : Type 0 where
  pub seed : List ℕ
  pub places : List ℕ
