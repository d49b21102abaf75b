-- Lemmas on the words of the streams.
use Rattle.std.proofs.Common.{◌≡◌, ℕ, ◌+◌, ◌<◌, List, ap, ◌∙◌}
use Rattle.sim_streams.specs.Word.{word}
use Rattle.std.proofs.Common.{◌%◌, ◌^◌}
use Rattle.std.proofs.Math.Nat.{mod-eq_of_lt}
use Rattle.rand_chacha.specs.ChaCha.{ChaCha, key_of, next_word}

-- what a generator gives next, where it stands at place p of a stream of the seed
pub next_is_word : (seed : List ℕ) (s p w : ℕ) (g h : ChaCha)
    → g ≡ record { key = key_of seed; stream = s; word_pos = p } → p + 1 < 2 ^ 68
    → ◌≡◌ {A = ℕ × ChaCha} (w, h) (next_word 10 g)
    → (w ≡ word seed s p) × (h ≡ record { key = key_of seed; stream = s; word_pos = p + 1 })
unfolding word
next_is_word seed s p w g h at small next =
    let e = next ∙ ap (next_word 10) at in
    let m : (p + 1) % 2 ^ 68 ≡ p + 1 = mod-eq_of_lt small in
    (ap (λ (x : ℕ × ChaCha). x.0) e, ap (λ (x : ℕ × ChaCha). x.1) e ∙ ap (λ (q : ℕ). let r : ChaCha = record { key = key_of seed; stream = s; word_pos = q } in r) m)
