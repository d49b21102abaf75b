-- Lemmas on lists of shared values, which stand in groups of eight and a last part.
use Rattle.std.proofs.Common.{◌≡◌, ◌≢◌, ⊎_elim, ℕ, ◌+◌, ◌-◌, ◌*◌, ◌/◌, ◌%◌, ◌<◌, ◌≤◌, List, [], ◌∷◌, ◌++◌, length, take, drop, get_or, map, min, Some, refl, sym, ap, subst, ◌∙◌, arith, append_assoc, length-append}
use Rattle.std.specs.Prelude.{slice_get}
use Rattle.std.specs.Option.{option_map}
use Rattle.std.specs.List.{flat_map}
use Rattle.std.specs.declared.sync.Arc.{Arc}
use Rattle.std.specs.declared.vec.Vec.{Vec}
use Rattle.std.specs.Arc.{arc_value}
use Rattle.std.proofs.Math.Nat.{mod-lt}
use Rattle.std.proofs.Math.ListN.{get_or-map}
use Rattle.std.proofs.Math.Seq.{take-length}
use Rattle.std.proofs.lemmas.List.{append-nil, take_all, take_more, take-append-drop, take-append-le, take-map, map-append, length-map, length-take, length-take-le}
use Rattle.std.proofs.lemmas.List.Concat.{flat_map-append}
use Rattle.std.proofs.lemmas.Option.{slice_get-map, slice_get_read}
use Rattle.circular_buffer.proofs.Places.{slice_get-take}
use Rattle.sim_history.specs.Segments.{AreFull, values_of, all_values}
use Rattle.std.proofs.lemmas.Bool.{cases_eq}
use Rattle.sim_history.proofs.Joined.{quotient, length-joined, length-all, length-at, joined-push, at_part, at_last, first_last, cut_part, AreFull-take}

-- an item that was read
pub there : {X : Type 0} (xs : List X) (i : ℕ) (x : X) → i < length xs → x ≡ get_or xs i x → slice_get xs i ≡ Some x
there xs i x lt is = slice_get_read xs (length xs) i x refl lt is

module _ {T Y Z : Type 0} where
  -- a group has eight values
  pub length-group : (gs : List (Arc (Vec (Arc T Z) Y) Z)) (q : ℕ) (g : Arc (Vec (Arc T Z) Y) Z) → AreFull values_of 8 gs → slice_get gs q ≡ Some g → length (arc_value g).items ≡ 8
  length-group gs q g h at = sym (length-map (arc_value g).items (λ (x : Arc T Z). arc_value x)) ∙ length-at values_of 8 gs q g h at

  pub length-values : (gs : List (Arc (Vec (Arc T Z) Y) Z)) (last : List (Arc T Z)) → AreFull values_of 8 gs → length (all_values gs last) ≡ length gs * 8 + length last
  length-values gs last h = omega (arith, length-all values_of 8 gs (map arc_value last) h, length-map last (λ (x : Arc T Z). arc_value x))

  -- a value of a group
  pub group_value : (gs : List (Arc (Vec (Arc T Z) Y) Z)) (last : List (Arc T Z)) (len i : ℕ) (g : Arc (Vec (Arc T Z) Y) Z) (x : Arc T Z) → AreFull values_of 8 gs → i < len
      → slice_get gs (i / 8) ≡ Some g → slice_get (arc_value g).items (i % 8) ≡ Some x → slice_get (take len (all_values gs last)) i ≡ Some (arc_value x)
  group_value gs last len i g x h lt at is =
      let below : i % 8 < 8 = mod-lt i (omega arith) in
      slice_get-take len (all_values gs last) i lt
      ∙ ap (slice_get (all_values gs last)) (sym (quotient i 8))
      ∙ at_part values_of 8 gs (map arc_value last) (i / 8) (i % 8) g h at below
      ∙ slice_get-map arc_value (arc_value g).items (i % 8)
      ∙ ap (option_map arc_value) is

  -- a value of the last part
  pub last_value : (gs : List (Arc (Vec (Arc T Z) Y) Z)) (last : List (Arc T Z)) (len i : ℕ) (x : Arc T Z) → AreFull values_of 8 gs → i < len → length gs * 8 ≤ i
      → slice_get last (i - length gs * 8) ≡ Some x → slice_get (take len (all_values gs last)) i ≡ Some (arc_value x)
  last_value gs last len i x h lt le is =
      slice_get-take len (all_values gs last) i lt
      ∙ at_last values_of 8 gs (map arc_value last) i h le
      ∙ slice_get-map arc_value last (i - length gs * 8)
      ∙ ap (option_map arc_value) is

  -- the last part is that of the group in which the list was cut
  pub reopened : (gs : List (Arc (Vec (Arc T Z) Y) Z)) (last new : List (Arc T Z)) (len : ℕ) (g : Arc (Vec (Arc T Z) Y) Z) → AreFull values_of 8 gs → slice_get gs (len / 8) ≡ Some g
      → map arc_value new ≡ take (len % 8) (values_of g) → all_values (take (len / 8) gs) new ≡ take len (all_values gs last)
  reopened gs last new len g h at is =
      ap (λ xs. flat_map values_of (take (len / 8) gs) ++ xs) is
      ∙ cut_part values_of 8 gs (map arc_value last) len g (omega arith) h at

  -- a full last part is a group
  pub sealed : (gs : List (Arc (Vec (Arc T Z) Y) Z)) (last : List (Arc T Z)) (g : Arc (Vec (Arc T Z) Y) Z) → (arc_value g).items ≡ last → all_values (gs ++ g ∷ []) [] ≡ all_values gs last
  sealed gs last g is =
      append-nil (flat_map values_of (gs ++ g ∷ []))
      ∙ joined-push values_of gs g
      ∙ ap (λ (xs : List (Arc T Z)). flat_map values_of gs ++ map arc_value xs) is

  -- a value more
  pub pushed : (gs : List (Arc (Vec (Arc T Z) Y) Z)) (last : List (Arc T Z)) (len : ℕ) (x : Arc T Z) → len ≡ length (all_values gs last)
      → take (len + 1) (all_values gs (last ++ x ∷ [])) ≡ take len (all_values gs last) ++ arc_value x ∷ []
  pushed gs last len x whole =
      let all : List T = all_values gs last in
      let more : all_values gs (last ++ x ∷ []) ≡ all ++ arc_value x ∷ [] =
      ap (λ xs. flat_map values_of gs ++ xs) (map-append arc_value last (x ∷ [])) ∙ sym (append_assoc (flat_map values_of gs) (map arc_value last) (arc_value x ∷ [])) in
      ap (take (len + 1)) more
      ∙ take_all (len + 1) (all ++ arc_value x ∷ []) (omega (arith, length-append all (arc_value x ∷ []), whole))
      ∙ ap (λ xs. xs ++ arc_value x ∷ []) (sym (take_all len all (omega (arith, whole))))

  -- cut within the groups
  pub cut_groups : (gs : List (Arc (Vec (Arc T Z) Y) Z)) (last : List (Arc T Z)) (count q : ℕ) → AreFull values_of 8 gs → count ≤ q * 8 → q ≤ length gs
      → take count (all_values (take q gs) []) ≡ take count (all_values gs last)
  cut_groups gs last count q h low high =
      let front : List T = flat_map values_of (take q gs) in
      let len : length front ≡ q * 8 = omega (arith, length-joined values_of 8 (take q gs) (AreFull-take values_of 8 q gs h), length-take-le q gs high) in
      let parts : flat_map values_of gs ≡ front ++ flat_map values_of (drop q gs) =
      ap (flat_map values_of) (sym (take-append-drop q gs)) ∙ flat_map-append values_of (take q gs) (drop q gs) in
      let rest : List T = flat_map values_of (drop q gs) ++ map arc_value last in
      ap (take count) (append-nil front)
      ∙ sym (ap (take count) (ap (λ xs. xs ++ map arc_value last) parts ∙ append_assoc front (flat_map values_of (drop q gs)) (map arc_value last))
      ∙ take-append-le count front rest (omega (arith, len, low)))

  -- cut within the last part
  pub cut_last : (gs : List (Arc (Vec (Arc T Z) Y) Z)) (last : List (Arc T Z)) (count : ℕ) → AreFull values_of 8 gs → length gs * 8 ≤ count
      → take count (all_values gs (take (count - length gs * 8) last)) ≡ take count (all_values gs last)
  cut_last gs last count h le =
      let n : ℕ = count - length gs * 8 in
      let cut : List (Arc T Z) = take n last in
      let len = length-values gs cut h in
      let few = length-take n last in
      take_all count (all_values gs cut) (omega (arith, len, few))
      ∙ ap (λ xs. flat_map values_of gs ++ xs) (sym (take-map arc_value n last))
      ∙ sym (first_last values_of 8 gs (map arc_value last) count h le)

  -- groups of equal vectors have equal values
  flat-values : (gs : List (Arc (Vec (Arc T Z) Y) Z)) → flat_map values_of gs ≡ flat_map (λ (v : Vec (Arc T Z) Y). map arc_value v.items) (map arc_value gs)
  flat-values [] = refl
  flat-values (g ∷ gs) = ap (λ xs. values_of g ++ xs) (flat-values gs)

  full-values : (k : ℕ) (gs : List (Arc (Vec (Arc T Z) Y) Z)) → AreFull values_of k gs → AreFull (λ (v : Vec (Arc T Z) Y). map arc_value v.items) k (map arc_value gs)
  full-values k [] h = tt
  full-values k (g ∷ gs) h = (h.0, full-values k gs h.1)

  values-full : (k : ℕ) (gs : List (Arc (Vec (Arc T Z) Y) Z)) → AreFull (λ (v : Vec (Arc T Z) Y). map arc_value v.items) k (map arc_value gs) → AreFull values_of k gs
  values-full k [] h = tt
  values-full k (g ∷ gs) h = (h.0, values-full k gs h.1)

  pub full-same : (k : ℕ) (gs hs : List (Arc (Vec (Arc T Z) Y) Z)) → map arc_value gs ≡ map arc_value hs → AreFull values_of k hs → AreFull values_of k gs
  full-same k gs hs same h =
      values-full k gs (subst (λ (vs : List (Vec (Arc T Z) Y)). AreFull (λ (v : Vec (Arc T Z) Y). map arc_value v.items) k vs) (sym same) (full-values k hs h))

  pub values-same : (gs hs : List (Arc (Vec (Arc T Z) Y) Z)) (xs ys : List (Arc T Z)) → map arc_value gs ≡ map arc_value hs → map arc_value xs ≡ map arc_value ys → all_values gs xs ≡ all_values hs ys
  values-same gs hs xs ys groups last =
      ap (λ zs. zs ++ map arc_value xs) (flat-values gs ∙ ap (flat_map (λ (v : Vec (Arc T Z) Y). map arc_value v.items)) groups ∙ sym (flat-values hs))
      ∙ ap (λ zs. flat_map values_of hs ++ zs) last

  -- the first values, by the groups in which they end and the rest of the last part
  pub first_values : (gs : List (Arc (Vec (Arc T Z) Y) Z)) (last : List (Arc T Z)) (count q r : ℕ) → AreFull values_of 8 gs → q ≡ min (count / 8 + min 1 (count % 8)) (length gs)
      → r ≡ count - length gs * 8 → take count (all_values (take q gs) (take r last)) ≡ take count (all_values gs last)
  first_values gs last count q r h is rest =
      ⊎_elim
      (λ (low : count - length gs * 8 ≡ 0).
      let none : r ≡ 0 = omega (arith, rest, low) in
      ap (λ (n : ℕ). take count (all_values (take q gs) (take n last))) none
      ∙ cut_groups gs last count q h (omega (arith, is, low)) (omega (arith, is)))
      (λ (high : count - length gs * 8 ≢ 0).
      let all : q ≡ length gs = omega (arith, is, high) in
      ap (λ (n : ℕ). take count (all_values (take n gs) (take r last))) all
      ∙ ap (λ xs. take count (all_values xs (take r last))) (take-length gs)
      ∙ ap (λ (n : ℕ). take count (all_values gs (take n last))) rest
      ∙ cut_last gs last count h (omega (arith, high)))
      (cases_eq (count - length gs * 8) 0)

-- one more value that is shared
pub values_more : {X Z : Type 0} (ws shared new : List (Arc X Z)) (i : ℕ) (e f : Arc X Z) → i < length ws → e ≡ get_or ws i e → arc_value f ≡ arc_value e → new ≡ shared ++ f ∷ []
    → map arc_value shared ≡ take i (map arc_value ws) → map arc_value new ≡ take (i + 1) (map arc_value ws)
values_more {X} {Z} ws shared new i e f lt is same pushed before =
    let at : arc_value f ≡ get_or (map arc_value ws) i (arc_value e) =
    same ∙ ap {B = X} (λ (x : Arc X Z). arc_value x) is ∙ sym (get_or-map arc_value ws i e) in
    ap {B = List X} (λ (xs : List (Arc X Z)). map arc_value xs) pushed ∙ map-append arc_value shared (f ∷ [])
    ∙ ap {B = List X} (λ xs. xs ++ arc_value f ∷ []) before
    ∙ ap {B = List X} (λ (x : X). take i (map arc_value ws) ++ x ∷ []) at
    ∙ sym (take_more (map arc_value ws) i (arc_value e) (omega (arith, lt, length-map ws arc_value)))
