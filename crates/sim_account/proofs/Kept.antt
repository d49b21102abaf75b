-- What a crash keeps of each write, from the first on.
use Rattle.std.specs.Prelude.{◌≡◌, ℕ, zero, suc, ◌+◌, ◌/◌, ◌%◌, ◌<◌, ◌≤◌, List, [], ◌∷◌, ◌++◌, length, map, drop, Some, slice_get}
use Rattle.std.proofs.Common.{refl, sym, ap, ◌∙◌, arith, append_assoc, append-nil}
use Rattle.std.proofs.Math.Nat.{mod-lt}
use Rattle.std.proofs.lemmas.List.{length-take-le, drop_more, drop_all}
use Rattle.std.proofs.lemmas.Option.{slice_get_within, get_or_from_slice_get}
use Rattle.sim_disk.specs.Disk as disk
use Rattle.sim_node.specs.Numbers.{numbers_from}

-- how many bytes are kept of writes, the first by the word at a place
abbrev pub tears_from : (ℕ → ℕ) → ℕ → List disk.Write → List ℕ
tears_from words place [] = []
tears_from words place (x ∷ writes) = disk.kept_len (words place) (length x.bytes) ∷ tears_from words (place + 1) writes

-- no more is kept than there is
kept_le : (rest word len : ℕ) → 1 ≤ len → disk.kept_by rest word len ≤ len
kept_le zero word len some = omega arith
kept_le (suc zero) word len some = omega arith
kept_le (suc (suc n)) word len some = let m = mod-lt (word / 3) {m = len} some in omega arith

kept_length : (word : ℕ) (x : disk.Write) → 1 ≤ length x.bytes → length (disk.kept word x).bytes ≡ disk.kept_len word (length x.bytes)
kept_length word x some = length-take-le (disk.kept_len word (length x.bytes)) x.bytes (kept_le (word % 3) word (length x.bytes) some)

-- what is kept of each write is as long as its tear says
pub tears_are : (words : ℕ → ℕ) (place : ℕ) (writes : List disk.Write) → disk.AllFit writes
    → tears_from words place writes ≡ map (λ x. length x.bytes) (disk.all_kept (map words (numbers_from place (length writes))) writes)
tears_are words place [] fit = refl
tears_are words place (x ∷ writes) fit =
    ap (λ n. n ∷ tears_from words (place + 1) writes) (sym (kept_length (words place) x fit.0))
    ∙ ap (λ ns. length (disk.kept (words place) x).bytes ∷ ns) (tears_are words (place + 1) writes fit.3)

-- one more write
pub tears_more : (words : ℕ → ℕ) (first i : ℕ) (writes : List disk.Write) (x : disk.Write) (before : List ℕ) → slice_get writes i ≡ Some x
    → (before ++ disk.kept_len (words (first + i)) (length x.bytes) ∷ []) ++ tears_from words (first + (i + 1)) (drop (i + 1) writes)
    ≡ before ++ tears_from words (first + i) (drop i writes)
tears_more words first i writes x before there =
    let within : i < length writes = slice_get_within writes i x there in
    let here : drop i writes ≡ x ∷ drop (i + 1) writes =
    drop_more writes i x within ∙ ap (λ y. y ∷ drop (i + 1) writes) (get_or_from_slice_get writes i x x there) in
    let on : first + (i + 1) ≡ first + i + 1 = omega arith in
    append_assoc before (disk.kept_len (words (first + i)) (length x.bytes) ∷ []) (tears_from words (first + (i + 1)) (drop (i + 1) writes))
    ∙ ap (λ (n : ℕ). before ++ (disk.kept_len (words (first + i)) (length x.bytes) ∷ tears_from words n (drop (i + 1) writes))) on
    ∙ ap (λ ws. before ++ tears_from words (first + i) ws) (sym here)

-- no write is left
pub tears_none : (words : ℕ → ℕ) (place i : ℕ) (writes : List disk.Write) (all : List ℕ) → length writes ≤ i
    → all ++ tears_from words place (drop i writes) ≡ all
tears_none words place i writes all past = ap (λ ws. all ++ tears_from words place ws) (drop_all i writes past) ∙ append-nil all
