-- The front of a line, of which some is kept.
use Rattle.std.proofs.Common.{◌≡◌, ◌≢◌, ℕ, ◌+◌, ◌-◌, ◌<◌, ◌≤◌, List, [], ◌∷◌, ◌++◌, length, take, refl, sym, ◌∙◌, ap, arith, cond, Bool, true, false, inl, inr, slice_get, Option, Some, zero, suc, length-take, length-append, append-nil, take_all, lit<}
use Rattle.std.proofs.lemmas.Bool.{cases_lt}
use Rattle.std.proofs.lemmas.Bool.Decides.{nat_tests}
use Rattle.std.proofs.lemmas.Grind.{common_steps}
use Rattle.std.proofs.lemmas.List.{take-append-le}
use Rattle.std.proofs.lemmas.List.Elements.{All-push, All-nil}
use Rattle.std.specs.Prelude.{◌==◌, slice_index}
use Rattle.std.specs.Io.KnownBytes.{Consumes, IsAtEnd}
use Rattle.std.specs.Str.Lines.{strip_carriage_return}
use Rattle.sim_lines.specs.Cut.{HasNoLineEnd, Shows}
use Rattle.sim_lines.specs.Taken.{TakesLine, TakesLast, TakesPart}
use Rattle.sim_lines.proofs.Known.{Consumes-append, Consumes-none}
use Rattle.sim_lines.proofs.Cuts.{whole_line, last_line, whole_lines-last}

-- the bytes of the line so far, and what is kept of them
pub record Front (old now : Option (List ℕ)) (line : List ℕ) : Type 0 where
  pub bytes : List ℕ
  pub consumed : Consumes old now bytes
  pub plain : HasNoLineEnd bytes
  pub kept : line ≡ take 258 bytes

chosen_length : (b : Bool) (xs : List ℕ) → length xs ≤ length (cond b (take (length xs - 1) xs) xs) + 1
chosen_length true xs = omega (arith, length-take (length xs - 1) xs)
chosen_length false xs = omega arith

pub strip_length : (xs : List ℕ) → length xs ≤ length (strip_carriage_return xs) + 1
strip_length xs = chosen_length (slice_index xs (length xs - 1) == 13) xs

front_get : (b : Bool) (m x : ℕ) (xs : List ℕ) → 0 < m → slice_get (cond b (take m (x ∷ xs)) (x ∷ xs)) 0 ≡ Some x
front_get true zero x xs h = absurd (omega arith)
front_get true (suc m) x xs h = refl
front_get false m x xs h = refl

strip_first : (xs : List ℕ) → 1 < length xs → slice_get (strip_carriage_return xs) 0 ≡ slice_get xs 0
strip_first [] h = absurd (omega arith)
strip_first (x ∷ xs) h = front_get (slice_index (x ∷ xs) (length (x ∷ xs) - 1) == 13) (length (x ∷ xs) - 1) x xs (omega arith)

take_first : (n : ℕ) (xs : List ℕ) → 0 < n → slice_get (take n xs) 0 ≡ slice_get xs 0
take_first zero xs h = absurd (omega arith)
take_first (suc n) [] h = refl
take_first (suc n) (x ∷ xs) h = refl

-- what is kept of a line with its carriage return shows the line
pub kept_shows : (n : ℕ) (bytes : List ℕ) → 257 < n → Shows (strip_carriage_return (take n bytes)) (strip_carriage_return bytes)
kept_shows n bytes h = elim (cases_lt n (length bytes)) [
  | inr short ↦ inl (ap strip_carriage_return (take_all n bytes short))
  | inl more ↦
      let kept : n ≤ length (take n bytes) = omega (arith, length-take n bytes) in
      let a : 256 < length (strip_carriage_return (take n bytes)) = omega (arith, strip_length (take n bytes)) in
      let b : 256 < length (strip_carriage_return bytes) = omega (arith, strip_length bytes) in
      inr (a, b, strip_first (take n bytes) (omega arith) ∙ take_first n bytes (omega arith) ∙ sym (strip_first bytes (omega arith)))
]

-- what is kept of a last line shows it
pub kept_shows_last : (n : ℕ) (bytes : List ℕ) → 257 < n → Shows (take n bytes) bytes
kept_shows_last n bytes h = elim (cases_lt n (length bytes)) [
  | inr short ↦ inl (take_all n bytes short)
  | inl more ↦
      let kept : n ≤ length (take n bytes) = omega (arith, length-take n bytes) in
      inr (omega arith, omega arith, take_first n bytes (omega arith))
]

pub at_line_end : (old now new : Option (List ℕ)) (line : List ℕ) → Front old now line → Consumes now new (10 ∷ []) → TakesLine old new (strip_carriage_return line)
at_line_end old now new line f h = record {
  taken = f.bytes ++ 10 ∷ [];
  line = strip_carriage_return f.bytes;
  consumed = Consumes-append old now new f.bytes (10 ∷ []) f.consumed h;
  shown = rw (f.kept) (kept_shows 258 f.bytes (lit< tt));
  ends = whole_line f.bytes f.plain;
}

kept_more : (n : ℕ) (bytes : List ℕ) (b : ℕ) → length (take n bytes) < n → take n bytes ++ b ∷ [] ≡ take n (bytes ++ b ∷ [])
kept_more n bytes b h =
    let short : length bytes < n = omega (arith, length-take n bytes) in
    let fits : length (bytes ++ b ∷ []) ≤ n = omega (arith, length-append bytes (b ∷ [])) in
    ap (λ xs. xs ++ b ∷ []) (take_all n bytes (omega arith)) ∙ sym (take_all n (bytes ++ b ∷ []) fits)

kept_same : (n : ℕ) (bytes : List ℕ) (b : ℕ) → n ≤ length (take n bytes) → take n bytes ≡ take n (bytes ++ b ∷ [])
kept_same n bytes b h = sym (take-append-le n bytes (b ∷ []) (omega (arith, length-take n bytes)))

not_end : (b : ℕ) → b ≢ 10 → (b == 10) ≡ false
not_end b h = grind (arith, nat_tests)

longer : (old now new : Option (List ℕ)) (line line' : List ℕ) (b : ℕ) → (f : Front old now line) → Consumes now new (b ∷ []) → b ≢ 10 → line' ≡ take 258 (f.bytes ++ b ∷ []) → Front old new line'
longer old now new line line' b f h n e = record {
  bytes = f.bytes ++ b ∷ [];
  consumed = Consumes-append old now new f.bytes (b ∷ []) f.consumed h;
  plain = All-push (λ x. (x == 10) ≡ false) f.bytes b f.plain (not_end b n);
  kept = e;
}

-- one more byte, which is kept
pub more_kept : (old now new : Option (List ℕ)) (line line' : List ℕ) (b : ℕ) → Front old now line → Consumes now new (b ∷ []) → b ≢ 10 → length line < 258 → line' ≡ line ++ b ∷ [] → Front old new line'
more_kept old now new line line' b f h n short e =
    longer old now new line line' b f h n
    (e ∙ ap (λ xs. xs ++ b ∷ []) f.kept ∙ kept_more 258 f.bytes b (rw f.kept at short))

-- one more byte, which isn't
pub more_same : (old now new : Option (List ℕ)) (line line' : List ℕ) (b : ℕ) → Front old now line → Consumes now new (b ∷ []) → b ≢ 10 → 258 ≤ length line → line' ≡ line → Front old new line'
more_same old now new line line' b f h n full e =
    longer old now new line line' b f h n (e ∙ f.kept ∙ kept_same 258 f.bytes b (rw f.kept at full))

-- the last line
pub at_last : (old now new : Option (List ℕ)) (line : List ℕ) → Front old now line → Consumes now new [] → IsAtEnd new → 0 < length line → TakesLast old new line
at_last old now new line f h end some = record {
  taken = f.bytes ++ [];
  line = f.bytes;
  consumed = Consumes-append old now new f.bytes [] f.consumed h;
  shown = rw f.kept (kept_shows_last 258 f.bytes (lit< tt));
  end = end;
  ends = rw (append-nil f.bytes) (last_line f.bytes f.plain (omega (arith, length-take 258 f.bytes, ap length f.kept)));
}

-- no line, at the end
pub at_none : (old now new : Option (List ℕ)) (line : List ℕ) → Front old now line → Consumes now new [] → length line ≡ 0 → Consumes old new []
at_none old now new line f h none =
    let empty : f.bytes ≡ [] = grind (arith, common_steps, length-take 258 f.bytes, ap length f.kept) in
    let both = Consumes-append old now new f.bytes [] f.consumed h in
    rw empty at both

-- a failure before the line's end
pub at_failure : (old now new : Option (List ℕ)) (line : List ℕ) → Front old now line → Consumes now new [] → TakesPart old new
at_failure old now new line f h = record {
  taken = f.bytes ++ [];
  consumed = Consumes-append old now new f.bytes [] f.consumed h;
  whole = rw (append-nil f.bytes) (whole_lines-last f.bytes f.plain);
}

pub at_start : (now : Option (List ℕ)) (line : List ℕ) → line ≡ [] → Front now now line
at_start now line e = record { bytes = []; consumed = Consumes-none now; plain = All-nil (λ x. (x == 10) ≡ false); kept = e }
