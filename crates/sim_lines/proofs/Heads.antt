-- The scenario's text, line by line.
use Rattle.std.proofs.Common.{◌≡◌, ◌≢◌, ℕ, ◌+◌, ◌<◌, ◌≤◌, List, [], ◌∷◌, ◌++◌, length, refl, sym, ◌∙◌, ap, append_assoc, append-nil, arith, cond, Bool, true, false, inl, inr, ◌⊎◌, Option, length-append, codes, Result, Ok, Err, OnOk, is_err}
use Rattle.std.specs.Prelude.{◌==◌}
use Rattle.std.specs.List.{join_with_byte}
use Rattle.std.specs.Io.KnownBytes.{Consumes, IsAtEnd}
use Rattle.std.specs.Str.Lines.{strip_carriage_return}
use Rattle.std.proofs.lemmas.List.Splits.{join_with_byte-slice_split}
use Rattle.std.proofs.lemmas.List.Elements.{All-push, All-nil, All-cons, All-append}
use Rattle.std.proofs.lemmas.Bool.Decides.{nat_tests, eqb_tells}
use Rattle.std.proofs.lemmas.Slice.Eq.{bytes_eq-Decides}
use Rattle.sim_lines.proofs.Fronts.{strip_length}
use Rattle.sim_lines.specs.Cut.{HasNoLineEnd, head_of, head_of_parts, is_marker}
use Rattle.sim_lines.specs.Taken.{HasHead, HasNoMarker}
use Rattle.sim_lines.proofs.Known.{Consumes-append, Consumes-none}
use Rattle.sim_lines.proofs.Cuts.{parts_some, parts_first, parts_only}

-- the first line is the marker
pub head_of-marker : (line tail : List ℕ) → HasNoLineEnd line → is_marker (strip_carriage_return line) ≡ true → head_of (line ++ 10 ∷ tail) ≡ ([], tail)
unfolding head_of
head_of-marker line tail h m =
    let s = parts_some tail in
    ap head_of_parts (parts_first line tail h)
    ∙ ap (λ ps. head_of_parts (line ∷ ps)) s.2
    ∙ ap (λ b. cond b ([], join_with_byte 10 (s.0 ∷ s.1)) (line ++ 10 ∷ (head_of_parts (s.0 ∷ s.1)).0, (head_of_parts (s.0 ∷ s.1)).1)) m
    ∙ ap (λ ps. ([], join_with_byte 10 ps)) (sym s.2)
    ∙ ap (λ bs. ([], bs)) (join_with_byte-slice_split 10 tail)

-- the first line isn't
pub head_of-line : (line tail : List ℕ) → HasNoLineEnd line → is_marker (strip_carriage_return line) ≡ false → head_of (line ++ 10 ∷ tail) ≡ (line ++ 10 ∷ (head_of tail).0, (head_of tail).1)
unfolding head_of
head_of-line line tail h m =
    let s = parts_some tail in
    ap head_of_parts (parts_first line tail h)
    ∙ ap (λ ps. head_of_parts (line ∷ ps)) s.2
    ∙ ap (λ b. cond b ([], join_with_byte 10 (s.0 ∷ s.1)) (line ++ 10 ∷ (head_of_parts (s.0 ∷ s.1)).0, (head_of_parts (s.0 ∷ s.1)).1)) m
    ∙ ap (λ ps. (line ++ 10 ∷ (head_of_parts ps).0, (head_of_parts ps).1)) (sym s.2)

-- a line that no line end follows
pub head_of-last : (line : List ℕ) → HasNoLineEnd line → head_of line ≡ cond (is_marker line) ([], []) (line, [])
unfolding head_of
head_of-last line h = ap head_of_parts (parts_only line h)

-- whole lines without a marker among them, and the line that has begun
pub record Head (old now : Option (List ℕ)) (lines line : List ℕ) (count : ℕ) : Type 0 where
  pub consumed : Consumes old now (lines ++ line)
  pub plain : HasNoLineEnd line
  pub skips : (tail : List ℕ) → head_of (lines ++ tail) ≡ (lines ++ (head_of tail).0, (head_of tail).1)
  pub all : length (lines ++ line) ≡ count

pub at_start : (now : Option (List ℕ)) → Head now now [] [] 0
at_start now = record {
  consumed = Consumes-none now;
  plain = All-nil (λ x. (x == 10) ≡ false);
  skips = λ tail. refl;
  all = refl;
}

not_end : (b : ℕ) → b ≢ 10 → (b == 10) ≡ false
not_end b h = grind (arith, nat_tests)

one_more : (xs : List ℕ) (b : ℕ) → length (xs ++ b ∷ []) ≡ length xs + 1
one_more xs b = length-append xs (b ∷ [])

-- one more byte of the line
pub at_byte : (old now new : Option (List ℕ)) (lines line : List ℕ) (count b : ℕ) → Head old now lines line count → Consumes now new (b ∷ []) → b ≢ 10 → Head old new lines (line ++ b ∷ []) (count + 1)
at_byte old now new lines line count b f h n = record {
  consumed = rw (← append_assoc lines line (b ∷ [])) (Consumes-append old now new (lines ++ line) (b ∷ []) f.consumed h);
  plain = All-push (λ x. (x == 10) ≡ false) line b f.plain (not_end b n);
  skips = f.skips;
  all = ap length (sym (append_assoc lines line (b ∷ []))) ∙ one_more (lines ++ line) b ∙ ap (λ k. k + 1) f.all;
}

-- the line ends, and isn't the marker
pub at_line_end : (old now new : Option (List ℕ)) (lines line : List ℕ) (count : ℕ) → Head old now lines line count → Consumes now new (10 ∷ []) → is_marker (strip_carriage_return line) ≡ false → Head old new (lines ++ (line ++ 10 ∷ [])) [] (count + 1)
at_line_end old now new lines line count f h m = record {
  consumed = rw (append-nil (lines ++ (line ++ 10 ∷ []))) (rw (← append_assoc lines line (10 ∷ [])) (Consumes-append old now new (lines ++ line) (10 ∷ []) f.consumed h));
  plain = All-nil (λ x. (x == 10) ≡ false);
  skips = λ tail.
      ap head_of (append_assoc lines (line ++ 10 ∷ []) tail ∙ ap (λ xs. lines ++ xs) (append_assoc line (10 ∷ []) tail))
      ∙ f.skips (line ++ 10 ∷ tail)
      ∙ ap (λ (p : List ℕ × List ℕ). (lines ++ p.0, p.1)) (head_of-line line tail f.plain m)
      ∙ ap (λ xs. (xs, (head_of tail).1)) (sym (append_assoc lines (line ++ 10 ∷ []) (head_of tail).0 ∙ ap (λ xs. lines ++ xs) (append_assoc line (10 ∷ []) (head_of tail).0)));
  all = ap length (append-nil (lines ++ (line ++ 10 ∷ []))) ∙ ap length (sym (append_assoc lines line (10 ∷ []))) ∙ one_more (lines ++ line) 10 ∙ ap (λ k. k + 1) f.all;
}

-- the line ends, and is the marker
pub at_marker : (old now new : Option (List ℕ)) (lines line : List ℕ) (count : ℕ) → Head old now lines line count → count < 65600 → Consumes now new (10 ∷ []) → is_marker (strip_carriage_return line) ≡ true → HasHead old new lines
at_marker old now new lines line count f few h m = record {
  taken = (lines ++ line) ++ 10 ∷ [];
  most = omega (arith, f.all, one_more (lines ++ line) 10);
  consumed = Consumes-append old now new (lines ++ line) (10 ∷ []) f.consumed h;
  ends = inl (λ tail.
      ap head_of (append_assoc (lines ++ line) (10 ∷ []) tail ∙ append_assoc lines line (10 ∷ tail))
      ∙ f.skips (line ++ 10 ∷ tail)
      ∙ ap (λ (p : List ℕ × List ℕ). (lines ++ p.0, p.1)) (head_of-marker line tail f.plain m)
      ∙ ap (λ xs. (xs, tail)) (append-nil lines));
}

last_at : (old now new : Option (List ℕ)) (lines line text : List ℕ) (count : ℕ) → Head old now lines line count → count < 65600 → Consumes now new [] → IsAtEnd new → head_of (lines ++ line) ≡ (text, []) → HasHead old new text
last_at old now new lines line text count f few h end e = record {
  taken = (lines ++ line) ++ [];
  most = omega (arith, f.all, ap length (append-nil (lines ++ line)));
  consumed = Consumes-append old now new (lines ++ line) [] f.consumed h;
  ends = inr (inl (end, ap head_of (append-nil (lines ++ line)) ∙ e));
}

-- the input ends, with the marker and without it
pub at_last_marker : (old now new : Option (List ℕ)) (lines line : List ℕ) (count : ℕ) → Head old now lines line count → count < 65600 → Consumes now new [] → IsAtEnd new → is_marker line ≡ true → HasHead old new lines
at_last_marker old now new lines line count f few h end m =
    last_at old now new lines line lines count f few h end
    (f.skips line ∙ ap (λ (p : List ℕ × List ℕ). (lines ++ p.0, p.1)) (head_of-last line f.plain ∙ ap (λ b. cond b ([], []) (line, [])) m)
    ∙ ap (λ xs. (xs, [])) (append-nil lines))

pub at_last_line : (old now new : Option (List ℕ)) (lines line text : List ℕ) (count : ℕ) → Head old now lines line count → count < 65600 → Consumes now new [] → IsAtEnd new → is_marker line ≡ false → text ≡ lines ++ line → HasHead old new text
at_last_line old now new lines line text count f few h end m e =
    last_at old now new lines line text count f few h end
    (f.skips line ∙ ap (λ (p : List ℕ × List ℕ). (lines ++ p.0, p.1)) (head_of-last line f.plain ∙ ap (λ b. cond b ([], []) (line, [])) m)
    ∙ ap (λ xs. (xs, [])) (sym e))

no_script : (b : Bool) (line : List ℕ) → (cond {A = List ℕ × List ℕ} b ([], []) (line, [])).1 ≡ []
no_script true line = refl
no_script false line = refl

-- the reader failed
pub at_failure : (old now new : Option (List ℕ)) (lines line : List ℕ) (count : ℕ) → Head old now lines line count → count < 65600 → Consumes now new [] → HasNoMarker old new
at_failure old now new lines line count f few h = record {
  taken = (lines ++ line) ++ [];
  most = omega (arith, f.all, ap length (append-nil (lines ++ line)));
  consumed = Consumes-append old now new (lines ++ line) [] f.consumed h;
  none = ap (λ xs. (head_of xs).1) (append-nil (lines ++ line)) ∙ ap (λ (p : List ℕ × List ℕ). p.1) (f.skips line)
      ∙ ap (λ (p : List ℕ × List ℕ). p.1) (head_of-last line f.plain) ∙ no_script (is_marker line) line;
}

-- the bytes up to the first line end, if there is one
first_end : (bytes : List ℕ) → HasNoLineEnd bytes ⊎ ((front : List ℕ) × (rest : List ℕ) × HasNoLineEnd front × (bytes ≡ front ++ 10 ∷ rest))
first_end [] = inl (All-nil (λ x. (x == 10) ≡ false))
first_end (x ∷ xs) = elim (eqb_tells x 10) [
  | inl e ↦ inr ([], xs, All-nil (λ x. (x == 10) ≡ false), ap (λ b. b ∷ xs) e.1)
  | inr n ↦ elim (first_end xs) [
    | inl h ↦ inl (All-cons (λ x. (x == 10) ≡ false) x xs n.0 h)
    | inr r ↦ inr (x ∷ r.0, r.1, All-cons (λ x. (x == 10) ≡ false) x r.0 n.0 r.2, ap (λ bs. x ∷ bs) r.3)
  ]
]

marker_short : (line : List ℕ) → is_marker line ≡ true → length line ≤ 3
marker_short line m =
    let e : line ≡ codes "---" = (bytes_eq-Decides line (codes "---")).0 m in
    omega (arith, ap length e)

marker_line_short : (line : List ℕ) → is_marker (strip_carriage_return line) ≡ true → length line ≤ 4
marker_line_short line m = omega (arith, marker_short (strip_carriage_return line) m, strip_length line)

either : (b : Bool) → (b ≡ true) ⊎ (b ≡ false)
either true = inl refl
either false = inr refl

-- a line that has begun is in the text, unless it is as short as the marker
head_long : (line tail : List ℕ) → HasNoLineEnd line → (length line ≤ 4) ⊎ (length line ≤ length (head_of (line ++ tail)).0)
head_long line tail h = elim (first_end tail) [
  | inl k ↦
      let plain = All-append (λ x. (x == 10) ≡ false) line tail h k in
      let all = head_of-last (line ++ tail) plain in
      elim (either (is_marker (line ++ tail))) [
        | inl m ↦ inl (omega (arith, marker_short (line ++ tail) m, length-append line tail))
        | inr m ↦
            let text : (head_of (line ++ tail)).0 ≡ line ++ tail = ap (λ (p : List ℕ × List ℕ). p.0) all ∙ ap (λ b. (cond {A = List ℕ × List ℕ} b ([], []) (line ++ tail, [])).0) m in
            inr (omega (arith, ap length text, length-append line tail))
      ]
  | inr r ↦
      let whole = line ++ r.0 in
      let plain = All-append (λ x. (x == 10) ≡ false) line r.0 h r.2 in
      let cut : line ++ tail ≡ whole ++ 10 ∷ r.1 = ap (λ xs. line ++ xs) r.3 ∙ sym (append_assoc line r.0 (10 ∷ r.1)) in
      elim (either (is_marker (strip_carriage_return whole))) [
        | inl m ↦ inl (omega (arith, marker_line_short whole m, length-append line r.0))
        | inr m ↦
            let text : (head_of (line ++ tail)).0 ≡ whole ++ 10 ∷ (head_of r.1).0 = ap (λ xs. (head_of xs).0) cut ∙ ap (λ (p : List ℕ × List ℕ). p.0) (head_of-line whole r.1 plain m) in
            inr (omega (arith, ap length text, length-append whole (10 ∷ (head_of r.1).0), length-append line r.0))
      ]
]

-- 65,600 bytes without a marker
pub at_most : (old now : Option (List ℕ)) (lines line text : List ℕ) (count : ℕ) → Head old now lines line count → count ≤ 65600 → 65600 ≤ count → text ≡ lines ++ line → HasHead old now text
at_most old now lines line text count f few many e = record {
  taken = lines ++ line;
  most = omega (arith, f.all);
  consumed = f.consumed;
  ends = inr (inr (record {
    at = omega (arith, f.all);
    read = omega (arith, ap length e, f.all);
    whole = λ tail.
        let text : (head_of ((lines ++ line) ++ tail)).0 ≡ lines ++ (head_of (line ++ tail)).0 =
        ap (λ xs. (head_of xs).0) (append_assoc lines line tail) ∙ ap (λ (p : List ℕ × List ℕ). p.0) (f.skips (line ++ tail)) in
        let count : length (head_of ((lines ++ line) ++ tail)).0 ≡ length lines + length (head_of (line ++ tail)).0 = ap length text ∙ length-append lines (head_of (line ++ tail)).0 in
        elim (head_long line tail f.plain) [
          | inl short ↦ omega (arith, f.all, length-append lines line)
          | inr long ↦ omega (arith, f.all, length-append lines line)
        ];
  }));
}

pub moved : (old new : Option (List ℕ)) (p q : List ℕ × List ℕ) (count : ℕ) → p ≡ q → Head old new q.0 q.1 count → Head old new p.0 p.1 count
moved old new p q count e h = rw e h

-- what holds of a success holds where there was no error
pub on_ok : {T E : Type 0} (r : Result T E) (P : Type 0) → OnOk r P → is_err r ≡ false → P
on_ok (Ok x) P h e = h
on_ok (Err x) P h e = cc
