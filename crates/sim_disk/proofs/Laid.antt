-- How the code lays a write over bytes: it fills them up to the end of the write first.
use Rattle.std.proofs.Common.{◌≡◌, ℕ, zero, suc, ◌+◌, ◌-◌, ◌<◌, ◌≤◌, List, [], ◌∷◌, ◌++◌, get_or, length, take, drop, refl, ap, sym, ◌∙◌, arith, append-nil}
use native.Mathlib.Numerals.{unary_clauses}
use Rattle.std.proofs.lemmas.List.{append_assoc, at_drop_all, at_drop_more, length-replicate, take-replicate, take_more, drop_all}
use Rattle.sim_disk.specs.Disk.{Write, filled_to, laid_at, laid, all_laid, kept_len, kept, all_kept}

-- of bytes that are filled further, the part before a place is the same
pub take-filled : (place more : ℕ) (bytes : List ℕ) → place ≤ more → take place (filled_to more bytes) ≡ take place (filled_to place bytes)
take-filled place more [] h = simp unary_clauses (take-replicate {X = ℕ} place more 0 h ∙ sym (take-replicate {X = ℕ} place place 0 (omega arith)))
take-filled zero more (b ∷ bytes) h = refl
take-filled (suc place) zero (b ∷ bytes) h = absurd (omega arith)
take-filled (suc place) (suc more) (b ∷ bytes) h = simp unary_clauses (ap (λ x. b ∷ x) (take-filled place more bytes (omega arith)))

filled_none : (bytes : List ℕ) → filled_to 0 bytes ≡ bytes
filled_none bytes = let none : 0 - length bytes ≡ 0 = omega arith in rw none (append-nil bytes)

-- what is filled in adds nothing past its end
pub drop-filled : (place : ℕ) (bytes : List ℕ) → drop place (filled_to place bytes) ≡ drop place bytes
drop-filled zero [] = refl
drop-filled (suc place) [] = drop_all (suc place) (filled_to (suc place) []) (simp unary_clauses (omega (arith, length-replicate {A = ℕ} (suc place) 0)))
drop-filled zero (b ∷ bytes) = filled_none (b ∷ bytes)
drop-filled (suc place) (b ∷ bytes) = simp unary_clauses (drop-filled place bytes)

-- a write laid over bytes that are filled up to its end
pub laid_filled : (offset : ℕ) (source over : List ℕ) → 0 < length source
    → take offset (filled_to (offset + length source) over) ++ source ++ drop (offset + length source) (filled_to (offset + length source) over) ≡ laid_at offset source over
laid_filled offset [] over some = absurd (omega arith)
laid_filled offset (b ∷ bytes) over some =
    rw (take-filled offset (offset + length (b ∷ bytes)) over (omega arith), drop-filled (offset + length (b ∷ bytes)) over) refl

-- one more write is laid
pub next_laid : (now more source to : List ℕ) (writes : List Write) (i offset : ℕ) (w : Write) → all_laid now (drop i writes) ≡ to → i < length writes
    → w ≡ get_or writes i w → offset ≡ w.offset → source ≡ w.bytes → more ≡ laid_at offset source now → all_laid more (drop (i + 1) writes) ≡ to
next_laid now more source to writes i offset w rest inside is from bytes new =
    let step : all_laid now (drop i writes) ≡ all_laid (laid now (get_or writes i w)) (drop (i + 1) writes) = at_drop_more (all_laid now) writes i w inside in
    ap (λ over. all_laid over (drop (i + 1) writes)) (new ∙ ap (λ o. laid_at o source now) from ∙ ap (λ s. laid_at w.offset s now) bytes ∙ ap (laid now) is)
    ∙ sym step ∙ rest

pub last_laid : (now to : List ℕ) (writes : List Write) (i : ℕ) → all_laid now (drop i writes) ≡ to → length writes ≤ i → now ≡ to
last_laid now to writes i rest past = sym (at_drop_all (all_laid now) writes i past) ∙ rest

-- what is kept of one more write is laid
pub next_kept : (now more source to words : List ℕ) (writes : List Write) (i offset n : ℕ) (w : Write)
    → all_laid now (all_kept (drop i words) (drop i writes)) ≡ to → i < length words → i < length writes → w ≡ get_or writes i w
    → n ≡ kept_len (get_or words i 0) (length source) → offset ≡ w.offset → source ≡ w.bytes → more ≡ laid_at offset (take n source) now
    → all_laid more (all_kept (drop (i + 1) words) (drop (i + 1) writes)) ≡ to
next_kept now more source to words writes i offset n w rest in_words inside is len from bytes new =
    let word = get_or words i 0 in
    let of_word : all_laid now (all_kept (drop i words) (drop i writes)) ≡ all_laid now (all_kept (word ∷ drop (i + 1) words) (drop i writes)) =
    at_drop_more (λ ks. all_laid now (all_kept ks (drop i writes))) words i 0 in_words in
    let of_write : all_laid now (all_kept (word ∷ drop (i + 1) words) (drop i writes))
    ≡ all_laid (laid now (kept word (get_or writes i w))) (all_kept (drop (i + 1) words) (drop (i + 1) writes)) =
    at_drop_more (λ ws. all_laid now (all_kept (word ∷ drop (i + 1) words) ws)) writes i w inside in
    ap (λ over. all_laid over (all_kept (drop (i + 1) words) (drop (i + 1) writes)))
    (new ∙ ap (λ m. laid_at offset (take m source) now) len ∙ ap (λ o. laid_at o (take (kept_len word (length source)) source) now) from
    ∙ ap (λ s. laid_at w.offset (take (kept_len word (length s)) s) now) bytes ∙ ap (λ x. laid now (kept word x)) is)
    ∙ sym (of_word ∙ of_write) ∙ rest

pub last_kept : (now to words : List ℕ) (writes : List Write) (i : ℕ) → all_laid now (all_kept (drop i words) (drop i writes)) ≡ to
    → length words ≤ i → now ≡ to
last_kept now to words writes i rest past = sym (at_drop_all (λ ks. all_laid now (all_kept ks (drop i writes))) words i past) ∙ rest

-- one more item is copied behind those that were there
pub next_added : {X : Type 0} (start all now more : List X) (i : ℕ) (copy item : X) → now ≡ start ++ take i all → more ≡ now ++ copy ∷ [] → copy ≡ item
    → item ≡ get_or all i item → i < length all → more ≡ start ++ take (i + 1) all
next_added start all now more i copy item before after same is inside =
    after ∙ ap (λ xs. xs ++ copy ∷ []) before ∙ append_assoc start (take i all) (copy ∷ []) ∙ ap (λ x. start ++ (take i all ++ x ∷ [])) (same ∙ is)
    ∙ sym (ap (λ xs. start ++ xs) (take_more all i item inside))
