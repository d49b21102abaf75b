-- The words of one term, read from the front.
use Rattle.std.proofs.Common.{◌≡◌, ◌∙◌, refl, sym, ap, subst, ℕ, Bool, ◌&&◌, List, [], ◌∷◌, ◌++◌, length, cond, true, false, Option, Some, None, inl, inr, codes, option_and_then, option_map}
use Rattle.std.specs.Prelude.{nat_le}
use Rattle.std.specs.List.{position, list_all}
use Rattle.std.specs.Option.{option_or}
use Rattle.std.specs.Char.{is_ascii_digit}
use Rattle.std.specs.Str.{bytes_eq}
use Rattle.std.proofs.lemmas.Slice.Eq.{bytes_eq-Decides}
use Rattle.sim_watch.specs.declared.Op.{Op}
use Rattle.sim_watch.specs.declared.Op.TheVariants as op
use Rattle.sim_watch.specs.declared.Value.{Value}
use Rattle.sim_watch.specs.declared.Value.TheVariants.{Number, Shown}
use Rattle.sim_watch.specs.declared.Comparison.{Comparison}
use Rattle.sim_watch.specs.declared.Term.{Term}
use Rattle.sim_watch.specs.declared.Term.TheVariants.{Cmp, Count, Any, All, Agree, AgreeBy, Differ, Up, NotUp, Done, NotDone}
use Rattle.sim_script.specs.Words.{Text, Names, host, probe, number, number_from, is_word}
use Rattle.sim_script.specs.Conditions.{op_word, op_of, bound, is_dot, host_and_probe, value, before, comparing, on_host, negation, comparison, with_comparison, on_values, counted, counting, unless_number, on_probe_unless, agreement, compared, term, Read, WritesValue, WritesTerm}
use Rattle.sim_script.proofs.Picking.{of_if, of_map, of_then}
use Rattle.sim_script.proofs.Dotted.{no_keyword, dotted_reads, dotted_is}

pub op_reads : (o : Op) → op_of (op_word o) ≡ Some o
unfolding op_of
op_reads op.Less = refl
op_reads op.LessOrEqual = refl
op_reads op.Equal = refl
op_reads op.NotEqual = refl
op_reads op.GreaterOrEqual = refl
op_reads op.Greater = refl

same_op : (word key : Text) (o p : Op) → bytes_eq word key ≡ true → Some o ≡ Some p → key ≡ op_word o → word ≡ op_word p
same_op word key o p is e k = let same : o ≡ p = cc in (bytes_eq-Decides word key).0 is ∙ k ∙ ap op_word same

pub op_is : (word : Text) (o : Op) → op_of word ≡ Some o → word ≡ op_word o
unfolding op_of
op_is word o e =
    let r6 : Option Op = None in
    let r5 : Option Op = cond (bytes_eq word (codes ">")) (Some op.Greater) r6 in
    let r4 : Option Op = cond (bytes_eq word (codes ">=")) (Some op.GreaterOrEqual) r5 in
    let r3 : Option Op = cond (bytes_eq word (codes "!=")) (Some op.NotEqual) r4 in
    let r2 : Option Op = cond (bytes_eq word (codes "=")) (Some op.Equal) r3 in
    let r1 : Option Op = cond (bytes_eq word (codes "<=")) (Some op.LessOrEqual) r2 in
    elim (of_if (bytes_eq word (codes "<")) (Some op.Less) r1 o e) [
      | inl w ↦ same_op word (codes "<") op.Less o w.0 w.1 refl
      | inr a ↦ elim (of_if (bytes_eq word (codes "<=")) (Some op.LessOrEqual) r2 o a.1) [
        | inl w ↦ same_op word (codes "<=") op.LessOrEqual o w.0 w.1 refl
        | inr b ↦ elim (of_if (bytes_eq word (codes "=")) (Some op.Equal) r3 o b.1) [
          | inl w ↦ same_op word (codes "=") op.Equal o w.0 w.1 refl
          | inr d ↦ elim (of_if (bytes_eq word (codes "!=")) (Some op.NotEqual) r4 o d.1) [
            | inl w ↦ same_op word (codes "!=") op.NotEqual o w.0 w.1 refl
            | inr f ↦ elim (of_if (bytes_eq word (codes ">=")) (Some op.GreaterOrEqual) r5 o f.1) [
              | inl w ↦ same_op word (codes ">=") op.GreaterOrEqual o w.0 w.1 refl
              | inr g ↦ elim (of_if (bytes_eq word (codes ">")) (Some op.Greater) r6 o g.1) [
                | inl w ↦ same_op word (codes ">") op.Greater o w.0 w.1 refl
                | inr h ↦ absurd (let n = h.1 in cc)
              ]
            ]
          ]
        ]
      ]
    ]

-- a word with a dot is no number
and_none : (b : Bool) → (b && false) ≡ false
and_none true = refl
and_none false = refl

no_digits : (x y : Text) → list_all is_ascii_digit (x ++ 46 ∷ y) ≡ false
no_digits [] y = refl
no_digits (c ∷ x) y = ap (λ b. is_ascii_digit c && b) (no_digits x y) ∙ and_none (is_ascii_digit c)

no_number : (x y : Text) → bound (x ++ 46 ∷ y) ≡ None
unfolding number
no_number x y =
    let word = x ++ 46 ∷ y in
    ap (λ b. cond (is_word word && (nat_le (length word) 19 && b)) (Some (number_from word)) None) (no_digits x y)
    ∙ ap (λ b. cond (is_word word && b) (Some (number_from word)) None) (and_none (nat_le (length word) 19))
    ∙ ap (λ b. cond {A = Option ℕ} b (Some (number_from word)) None) (and_none (is_word word))

-- what was read with the rest, and the rest
left_is : {A : Type 0} (a t : A) (more rest : List Text) → ◌≡◌ {A = A × List Text} (a, more) (t, rest) → a ≡ t
left_is {A} a t more rest e = ap (λ (p : A × List Text). p.0) e

right_is : {A : Type 0} (a t : A) (more rest : List Text) → ◌≡◌ {A = A × List Text} (a, more) (t, rest) → more ≡ rest
right_is {A} a t more rest e = ap (λ (p : A × List Text). p.1) e

as_value : (names : Names) (word : Text) (v u : Value) → v ≡ u → WritesValue names word u → WritesValue names word v
as_value names word v u e w = subst (λ x. WritesValue names word x) (sym e) w

by_value : (names : Names) (word : Text) (o : Option ℕ) (v : Value) → bound word ≡ o →
    option_or (option_map Number o) (option_map (λ (p : ℕ × ℕ). Shown p.0 p.1) (host_and_probe names word)) ≡ Some v → WritesValue names word v
by_value names word (Some n) v b e = let same : Number n ≡ v = cc in as_value names word v (Number n) (sym same) b
by_value names word None v b e =
    let p = of_map (λ (p : ℕ × ℕ). Shown p.0 p.1) (host_and_probe names word) v e in
    as_value names word v (Shown p.0.0 p.0.1) (sym p.2) (dotted_is names word p.0 p.1)

value_is : (names : Names) (word : Text) (v : Value) → value names word ≡ Some v → WritesValue names word v
value_is names word v e = by_value names word (bound word) v refl e

value_reads : (names : Names) (word : Text) (v : Value) → WritesValue names word v → value names word ≡ Some v
value_reads names word (Number n) w =
    ap (λ o. option_or (option_map Number o) (option_map (λ (p : ℕ × ℕ). Shown p.0 p.1) (host_and_probe names word))) w
value_reads names word (Shown h k) w =
    let at : Text = w.0 ++ 46 ∷ w.1 in
    ap (value names) w.2
    ∙ ap (λ o. option_or (option_map Number o) (option_map (λ (p : ℕ × ℕ). Shown p.0 p.1) (host_and_probe names at))) (no_number w.0 w.1)
    ∙ ap (option_map (λ (p : ℕ × ℕ). Shown p.0 p.1)) (dotted_reads names w.0 w.1 h k w.3 w.4)

unless_is : (make : ℕ → Term) (given : List Text) (t : Term) (rest : List Text) → unless_number make given ≡ Some (t, rest) →
    (z : Text) × (n : ℕ) × (given ≡ codes "unless" ∷ z ∷ rest) × (bound z ≡ Some n) × (t ≡ make n)
unless_is make [] t rest e = absurd (cc)
unless_is make (u ∷ []) t rest e = absurd (cc)
unless_is make (u ∷ z ∷ more) t rest e =
    let read = option_map make (bound z) in
    let a = of_map (λ (x : Term). (x, more)) (cond (bytes_eq u (codes "unless")) read None) (t, rest) e in
    let left = left_is a.0 t more rest a.2 in
    let right = right_is a.0 t more rest a.2 in
    elim (of_if (bytes_eq u (codes "unless")) read None a.0 a.1) [
      | inl w ↦
          let n = of_map make (bound z) a.0 w.1 in
          let same = (bytes_eq-Decides u (codes "unless")).0 w.0 in
          (z, n.0, ap (λ x. x ∷ z ∷ more) same ∙ ap (λ m. codes "unless" ∷ z ∷ m) right, n.1, sym left ∙ sym n.2)
      | inr w ↦ absurd (let n = w.1 in cc)
    ]

unless_reads : (make : ℕ → Term) (z : Text) (n : ℕ) (rest : List Text) → bound z ≡ Some n →
    unless_number make (codes "unless" ∷ z ∷ rest) ≡ Some (make n, rest)
unless_reads make z n rest e = ap (λ o. before rest (option_map make o)) e

module _ (names : Names) where
  as_term : (front : List Text) (t u : Term) → t ≡ u → WritesTerm names front u → WritesTerm names front t
  as_term front t u e w = subst (λ x. WritesTerm names front x) (sym e) w

  host_is : (make : ℕ → Term) (given : List Text) (t : Term) (rest : List Text) → on_host names make given ≡ Some (t, rest) →
      (x : Text) × (h : ℕ) × (given ≡ x ∷ rest) × (host names x ≡ Some h) × (t ≡ make h)
  host_is make [] t rest e = absurd (cc)
  host_is make (x ∷ more) t rest e =
      let a = of_map (λ (u : Term). (u, more)) (option_map make (host names x)) (t, rest) e in
      let b = of_map make (host names x) a.0 a.1 in
      (x, b.0, ap (λ m. x ∷ m) (right_is a.0 t more rest a.2), b.1, sym (left_is a.0 t more rest a.2) ∙ sym b.2)

  host_reads : (make : ℕ → Term) (x : Text) (h : ℕ) (rest : List Text) → host names x ≡ Some h → on_host names make (x ∷ rest) ≡ Some (make h, rest)
  host_reads make x h rest e = ap (λ o. before rest (option_map make o)) e

  comparison_is : (given : List Text) (c : Comparison) (rest : List Text) → comparison names given ≡ Some (c, rest) →
      (z : Text) × (given ≡ op_word c.op ∷ z ∷ rest) × WritesValue names z c.value
  comparison_is [] c rest e = absurd (cc)
  comparison_is (word ∷ []) c rest e = absurd (cc)
  comparison_is (word ∷ z ∷ more) c rest e =
      let read = λ (o : Op). option_map (comparing o) (value names z) in
      let a = of_map (λ (x : Comparison). (x, more)) (option_and_then read (op_of word)) (c, rest) e in
      let o = of_then read (op_of word) a.0 a.1 in
      let v = of_map (comparing o.0) (value names z) a.0 o.2 in
      let same : comparing o.0 v.0 ≡ c = v.2 ∙ left_is a.0 c more rest a.2 in
      let op_same : o.0 ≡ c.op = ap (λ (x : Comparison). x.op) same in
      let value_same : v.0 ≡ c.value = ap (λ (x : Comparison). x.value) same in (
        z,
        ap (λ w. w ∷ z ∷ more) (op_is word o.0 o.1 ∙ ap op_word op_same) ∙ ap (λ m. op_word c.op ∷ z ∷ m) (right_is a.0 c more rest a.2),
        as_value names z c.value v.0 (sym value_same) (value_is names z v.0 v.1),
      )

  comparison_reads : (c : Comparison) (z : Text) (rest : List Text) → WritesValue names z c.value →
      comparison names (op_word c.op ∷ z ∷ rest) ≡ Some (c, rest)
  comparison_reads c z rest w =
      ap (λ p. before rest (option_and_then (λ (o : Op). option_map (comparing o) (value names z)) p)) (op_reads c.op)
      ∙ ap (λ p. before rest (option_map (comparing c.op) p)) (value_reads names z c.value w)

  with_is : (make : Comparison → Term) (given : List Text) (t : Term) (rest : List Text) → with_comparison names make given ≡ Some (t, rest) →
      (c : Comparison) × (z : Text) × (given ≡ op_word c.op ∷ z ∷ rest) × WritesValue names z c.value × (t ≡ make c)
  with_is make given t rest e =
      let a = of_map (λ (r : Comparison × List Text). (make r.0, r.1)) (comparison names given) (t, rest) e in
      let right : a.0.1 ≡ rest = right_is (make a.0.0) t a.0.1 rest a.2 in
      let g = comparison_is given a.0.0 a.0.1 a.1 in
      (a.0.0, g.0, g.1 ∙ ap (λ m. op_word a.0.0.op ∷ g.0 ∷ m) right, g.2, sym (left_is (make a.0.0) t a.0.1 rest a.2))

  with_reads : (make : Comparison → Term) (c : Comparison) (z : Text) (rest : List Text) → WritesValue names z c.value →
      with_comparison names make (op_word c.op ∷ z ∷ rest) ≡ Some (make c, rest)
  with_reads make c z rest w = ap (option_map (λ (r : Comparison × List Text). (make r.0, r.1))) (comparison_reads c z rest w)

  values_is : (make : ℕ → Comparison → Term) (given : List Text) (t : Term) (rest : List Text) → on_values names make given ≡ Some (t, rest) →
      (y : Text) × (k : ℕ) × (c : Comparison) × (z : Text) × (given ≡ y ∷ op_word c.op ∷ z ∷ rest) × (probe names y ≡ Some k) × WritesValue names z c.value × (t ≡ make k c)
  values_is make [] t rest e = absurd (cc)
  values_is make (y ∷ more) t rest e =
      let p = of_then (λ (k : ℕ). with_comparison names (make k) more) (probe names y) (t, rest) e in
      let g = with_is (make p.0) more t rest p.2 in
      (y, p.0, g.0, g.1, ap (λ m. y ∷ m) g.2, p.1, g.3, g.4)

  values_reads : (make : ℕ → Comparison → Term) (y : Text) (k : ℕ) (c : Comparison) (z : Text) (rest : List Text) → probe names y ≡ Some k →
      WritesValue names z c.value → on_values names make (y ∷ op_word c.op ∷ z ∷ rest) ≡ Some (make k c, rest)
  values_reads make y k c z rest p w =
      ap (λ o. option_and_then (λ (j : ℕ). with_comparison names (make j) (op_word c.op ∷ z ∷ rest)) o) p ∙ with_reads (make k) c z rest w

  counted_is : (k : ℕ) (c : Comparison) (given : List Text) (t : Term) (rest : List Text) → counted k c given ≡ Some (t, rest) →
      (o : Op) × (n : Text) × (m : ℕ) × (given ≡ op_word o ∷ n ∷ rest) × (bound n ≡ Some m) × (t ≡ Count k c o m)
  counted_is k c [] t rest e = absurd (cc)
  counted_is k c (word ∷ []) t rest e = absurd (cc)
  counted_is k c (word ∷ n ∷ more) t rest e =
      let read = λ (o : Op). option_map (Count k c o) (bound n) in
      let a = of_map (λ (u : Term). (u, more)) (option_and_then read (op_of word)) (t, rest) e in
      let o = of_then read (op_of word) a.0 a.1 in
      let m = of_map (Count k c o.0) (bound n) a.0 o.2 in (
        o.0,
        n,
        m.0,
        ap (λ w. w ∷ n ∷ more) (op_is word o.0 o.1) ∙ ap (λ x. op_word o.0 ∷ n ∷ x) (right_is a.0 t more rest a.2),
        m.1,
        sym (left_is a.0 t more rest a.2) ∙ sym m.2,
      )

  counted_reads : (k : ℕ) (c : Comparison) (o : Op) (n : Text) (m : ℕ) (rest : List Text) → bound n ≡ Some m →
      counted k c (op_word o ∷ n ∷ rest) ≡ Some (Count k c o m, rest)
  counted_reads k c o n m rest e =
      ap (λ v. before rest (option_and_then (λ (u : Op). option_map (Count k c u) (bound n)) v)) (op_reads o)
      ∙ ap (λ v. before rest (option_map (Count k c o) v)) e

  counting_is : (given : List Text) (t : Term) (rest : List Text) → counting names given ≡ Some (t, rest) →
      (tail : List Text) × (given ≡ tail ++ rest) × WritesTerm names (codes "count" ∷ tail) t
  counting_is [] t rest e = absurd (cc)
  counting_is (y ∷ more) t rest e =
      let p = of_then (λ (k : ℕ). option_and_then (λ (r : Comparison × List Text). counted k r.0 r.1) (comparison names more)) (probe names y) (t, rest) e in
      let r = of_then (λ (r : Comparison × List Text). counted p.0 r.0 r.1) (comparison names more) (t, rest) p.2 in
      let g = comparison_is more r.0.0 r.0.1 r.1 in
      let d = counted_is p.0 r.0.0 r.0.1 t rest r.2 in
      let tail : List Text = y ∷ op_word r.0.0.op ∷ g.0 ∷ op_word d.0 ∷ d.1 ∷ [] in (
        tail,
        ap (λ m. y ∷ m) (g.1 ∙ ap (λ m. op_word r.0.0.op ∷ g.0 ∷ m) d.3),
        as_term (codes "count" ∷ tail) t (Count p.0 r.0.0 d.0 d.2) d.5 (y, g.0, d.1, refl, p.1, g.2, d.4),
      )

  -- what follows a keyword are the other words of a term, and the rest
  abbrev Tail : Text → List Text → Term → List Text → Type 0
  Tail key given t rest = (tail : List Text) × (given ≡ tail ++ rest) × WritesTerm names (key ∷ tail) t

  abbrev Front : List Text → Term → List Text → Type 0
  Front given t rest = (front : List Text) × (given ≡ front ++ rest) × WritesTerm names front t

  up_is : (given : List Text) (t : Term) (rest : List Text) → on_host names Up given ≡ Some (t, rest) → Tail (codes "up") given t rest
  up_is given t rest e =
      let g = host_is Up given t rest e in
      (g.0 ∷ [], g.2, as_term (codes "up" ∷ g.0 ∷ []) t (Up g.1) g.4 (g.0, refl, g.3))

  done_is : (given : List Text) (t : Term) (rest : List Text) → on_host names Done given ≡ Some (t, rest) → Tail (codes "done") given t rest
  done_is given t rest e =
      let g = host_is Done given t rest e in
      (g.0 ∷ [], g.2, as_term (codes "done" ∷ g.0 ∷ []) t (Done g.1) g.4 (g.0, refl, g.3))

  same_front : (word key : Text) (more tail : List Text) → bytes_eq word key ≡ true → more ≡ tail → word ∷ more ≡ key ∷ tail
  same_front word key more tail is e = ap (λ w. w ∷ more) ((bytes_eq-Decides word key).0 is) ∙ ap (λ m. key ∷ m) e

  negation_is : (given : List Text) (t : Term) (rest : List Text) → negation names given ≡ Some (t, rest) → Tail (codes "not") given t rest
  negation_is [] t rest e = absurd (cc)
  negation_is (word ∷ more) t rest e =
      let r1 = cond (bytes_eq word (codes "done")) (on_host names NotDone more) None in
      elim (of_if (bytes_eq word (codes "up")) (on_host names NotUp more) r1 (t, rest) e) [
        | inl w ↦
            let g = host_is NotUp more t rest w.1 in (
              codes "up" ∷ g.0 ∷ [],
              same_front word (codes "up") more (g.0 ∷ rest) w.0 g.2,
              as_term (codes "not" ∷ codes "up" ∷ g.0 ∷ []) t (NotUp g.1) g.4 (g.0, refl, g.3),
            )
        | inr a ↦ elim (of_if (bytes_eq word (codes "done")) (on_host names NotDone more) None (t, rest) a.1) [
          | inl w ↦
              let g = host_is NotDone more t rest w.1 in (
                codes "done" ∷ g.0 ∷ [],
                same_front word (codes "done") more (g.0 ∷ rest) w.0 g.2,
                as_term (codes "not" ∷ codes "done" ∷ g.0 ∷ []) t (NotDone g.1) g.4 (g.0, refl, g.3),
              )
          | inr w ↦ absurd (let n = w.1 in cc)
        ]
      ]

  probe_unless_is : (make : ℕ → ℕ → Term) (given : List Text) (t : Term) (rest : List Text) → on_probe_unless names make given ≡ Some (t, rest) →
      (y : Text) × (z : Text) × (k : ℕ) × (n : ℕ) × (given ≡ y ∷ codes "unless" ∷ z ∷ rest) × (probe names y ≡ Some k) × (bound z ≡ Some n) × (t ≡ make k n)
  probe_unless_is make [] t rest e = absurd (cc)
  probe_unless_is make (y ∷ more) t rest e =
      let p = of_then (λ (k : ℕ). unless_number (make k) more) (probe names y) (t, rest) e in
      let g = unless_is (make p.0) more t rest p.2 in
      (y, g.0, p.0, g.1, ap (λ m. y ∷ m) g.2, p.1, g.3, g.4)

  probe_unless_reads : (make : ℕ → ℕ → Term) (y z : Text) (k n : ℕ) (rest : List Text) → probe names y ≡ Some k → bound z ≡ Some n →
      on_probe_unless names make (y ∷ codes "unless" ∷ z ∷ rest) ≡ Some (make k n, rest)
  probe_unless_reads make y z k n rest p e =
      ap (option_and_then (λ (j : ℕ). unless_number (make j) (codes "unless" ∷ z ∷ rest))) p ∙ unless_reads (make k) z n rest e

  differ_is : (given : List Text) (t : Term) (rest : List Text) → on_probe_unless names Differ given ≡ Some (t, rest) → Tail (codes "differ") given t rest
  differ_is given t rest e =
      let g = probe_unless_is Differ given t rest e in (
        g.0 ∷ codes "unless" ∷ g.1 ∷ [],
        g.4,
        as_term (codes "differ" ∷ g.0 ∷ codes "unless" ∷ g.1 ∷ []) t (Differ g.2 g.3) g.7 (g.0, g.1, refl, g.5, g.6),
      )

  agreement_is : (given : List Text) (t : Term) (rest : List Text) → agreement names given ≡ Some (t, rest) → Tail (codes "agree") given t rest
  agreement_is [] t rest e = absurd (cc)
  agreement_is (y ∷ []) t rest e = absurd (cc)
  agreement_is (y ∷ word ∷ more) t rest e =
      let read = λ (k : ℕ). cond (bytes_eq word (codes "by")) (on_probe_unless names (AgreeBy k) more) (unless_number (Agree k) (word ∷ more)) in
      let p = of_then read (probe names y) (t, rest) e in
      elim (of_if (bytes_eq word (codes "by")) (on_probe_unless names (AgreeBy p.0) more) (unless_number (Agree p.0) (word ∷ more)) (t, rest) p.2) [
        | inl w ↦
            let g = probe_unless_is (AgreeBy p.0) more t rest w.1 in
            let tail : List Text = y ∷ codes "by" ∷ g.0 ∷ codes "unless" ∷ g.1 ∷ [] in (
              tail,
              ap (λ m. y ∷ m) (same_front word (codes "by") more (g.0 ∷ codes "unless" ∷ g.1 ∷ rest) w.0 g.4),
              as_term (codes "agree" ∷ tail) t (AgreeBy p.0 g.2 g.3) g.7 (y, g.0, g.1, refl, p.1, g.5, g.6),
            )
        | inr w ↦
            let g = unless_is (Agree p.0) (word ∷ more) t rest w.1 in
            let tail : List Text = y ∷ codes "unless" ∷ g.0 ∷ [] in
            (tail, ap (λ m. y ∷ m) g.2, as_term (codes "agree" ∷ tail) t (Agree p.0 g.1) g.4 (y, g.0, refl, p.1, g.3))
      ]

  -- an agreement of one probe, whose second word was read twice
  pub agreed : (whole after given : List Text) (y word : Text) (k : ℕ) (o : Read Term) → whole ≡ y ∷ after → after ≡ word ∷ given → probe names y ≡ Some k →
      bytes_eq word (codes "by") ≡ false → unless_number (Agree k) after ≡ o → agreement names whole ≡ o
  agreed whole after given y word k o first second is apart read =
      ap (agreement names) (first ∙ ap (λ m. y ∷ m) second)
      ∙ ap (λ p. option_and_then (λ (j : ℕ). cond (bytes_eq word (codes "by")) (on_probe_unless names (AgreeBy j) given) (unless_number (Agree j) (word ∷ given))) p) is
      ∙ ap (λ b. cond b (on_probe_unless names (AgreeBy k) given) (unless_number (Agree k) (word ∷ given))) apart
      ∙ ap (unless_number (Agree k)) (sym second)
      ∙ read

  any_is : (given : List Text) (t : Term) (rest : List Text) → on_values names Any given ≡ Some (t, rest) → Tail (codes "any") given t rest
  any_is given t rest e =
      let g = values_is Any given t rest e in
      let tail : List Text = g.0 ∷ op_word g.2.op ∷ g.3 ∷ [] in
      (tail, g.4, as_term (codes "any" ∷ tail) t (Any g.1 g.2) g.7 (g.0, g.3, refl, g.5, g.6))

  all_is : (given : List Text) (t : Term) (rest : List Text) → on_values names All given ≡ Some (t, rest) → Tail (codes "all") given t rest
  all_is given t rest e =
      let g = values_is All given t rest e in
      let tail : List Text = g.0 ∷ op_word g.2.op ∷ g.3 ∷ [] in
      (tail, g.4, as_term (codes "all" ∷ tail) t (All g.1 g.2) g.7 (g.0, g.3, refl, g.5, g.6))

  compared_is : (word : Text) (given : List Text) (t : Term) (rest : List Text) → compared names word given ≡ Some (t, rest) → Front (word ∷ given) t rest
  compared_is word given t rest e =
      let p = of_then (λ (p : ℕ × ℕ). with_comparison names (Cmp p.0 p.1) given) (host_and_probe names word) (t, rest) e in
      let g = with_is (Cmp p.0.0 p.0.1) given t rest p.2 in
      let front : List Text = word ∷ op_word g.0.op ∷ g.1 ∷ [] in (
        front,
        ap (λ m. word ∷ m) g.2,
        as_term front t (Cmp p.0.0 p.0.1 g.0) g.4 (word, g.1, refl, dotted_is names word p.0 p.1, g.3),
      )

  -- a term that begins with a keyword, or another
  either : (word key : Text) (more : List Text) (a b : Read Term) (t : Term) (rest : List Text) → cond (bytes_eq word key) a b ≡ Some (t, rest) →
      (a ≡ Some (t, rest) → Tail key more t rest) → (b ≡ Some (t, rest) → Front (word ∷ more) t rest) → Front (word ∷ more) t rest
  either word key more a b t rest e here later = elim (of_if (bytes_eq word key) a b (t, rest) e) [
    | inl w ↦ let g = here w.1 in (key ∷ g.0, same_front word key more (g.0 ++ rest) w.0 g.1, g.2)
    | inr w ↦ later w.1
  ]

  abbrev count_or : Text → List Text → Read Term
  count_or word more = cond (bytes_eq word (codes "count")) (counting names more) (compared names word more)

  abbrev all_or : Text → List Text → Read Term
  all_or word more = cond (bytes_eq word (codes "all")) (on_values names All more) (count_or word more)

  abbrev any_or : Text → List Text → Read Term
  any_or word more = cond (bytes_eq word (codes "any")) (on_values names Any more) (all_or word more)

  abbrev differ_or : Text → List Text → Read Term
  differ_or word more = cond (bytes_eq word (codes "differ")) (on_probe_unless names Differ more) (any_or word more)

  abbrev agree_or : Text → List Text → Read Term
  agree_or word more = cond (bytes_eq word (codes "agree")) (agreement names more) (differ_or word more)

  abbrev not_or : Text → List Text → Read Term
  not_or word more = cond (bytes_eq word (codes "not")) (negation names more) (agree_or word more)

  abbrev done_or : Text → List Text → Read Term
  done_or word more = cond (bytes_eq word (codes "done")) (on_host names Done more) (not_or word more)

  -- what is read as a term is a term's words, and what follows them
  pub term_is : (given : List Text) (t : Term) (rest : List Text) → term names given ≡ Some (t, rest) → (front : List Text) × (given ≡ front ++ rest) × WritesTerm names front t
  unfolding term
  term_is [] t rest e = absurd (cc)
  term_is (word ∷ more) t rest e =
      either word (codes "up") more (on_host names Up more) (done_or word more) t rest e (up_is more t rest)
      (λ e1. either word (codes "done") more (on_host names Done more) (not_or word more) t rest e1 (done_is more t rest)
      (λ e2. either word (codes "not") more (negation names more) (agree_or word more) t rest e2 (negation_is more t rest)
      (λ e3. either word (codes "agree") more (agreement names more) (differ_or word more) t rest e3 (agreement_is more t rest)
      (λ e4. either word (codes "differ") more (on_probe_unless names Differ more) (any_or word more) t rest e4 (differ_is more t rest)
      (λ e5. either word (codes "any") more (on_values names Any more) (all_or word more) t rest e5 (any_is more t rest)
      (λ e6. either word (codes "all") more (on_values names All more) (count_or word more) t rest e6 (all_is more t rest)
      (λ e7. either word (codes "count") more (counting names more) (compared names word more) t rest e7 (counting_is more t rest)
      (compared_is word more t rest))))))))

  other : (b : Bool) (x y : Read Term) → b ≡ false → cond b x y ≡ y
  other true x y e = absurd cc
  other false x y e = refl

  -- a term's words are read as the term, whatever follows them
  pub term_reads : (front : List Text) (t : Term) (rest : List Text) → WritesTerm names front t → term names (front ++ rest) ≡ Some (t, rest)
  unfolding term
  term_reads front (Up h) rest w = ap (λ f. term names (f ++ rest)) w.1 ∙ host_reads Up w.0 h rest w.2
  term_reads front (NotUp h) rest w = ap (λ f. term names (f ++ rest)) w.1 ∙ host_reads NotUp w.0 h rest w.2
  term_reads front (Done h) rest w = ap (λ f. term names (f ++ rest)) w.1 ∙ host_reads Done w.0 h rest w.2
  term_reads front (NotDone h) rest w = ap (λ f. term names (f ++ rest)) w.1 ∙ host_reads NotDone w.0 h rest w.2
  term_reads front (Agree k n) rest w =
      ap (λ f. term names (f ++ rest)) w.2
      ∙ ap (λ o. option_and_then (λ (j : ℕ). unless_number (Agree j) (codes "unless" ∷ w.1 ∷ rest)) o) w.3
      ∙ unless_reads (Agree k) w.1 n rest w.4
  term_reads front (AgreeBy k by n) rest w =
      ap (λ f. term names (f ++ rest)) w.3
      ∙ ap (λ o. option_and_then (λ (j : ℕ). on_probe_unless names (AgreeBy j) (w.1 ∷ codes "unless" ∷ w.2 ∷ rest)) o) w.4
      ∙ probe_unless_reads (AgreeBy k) w.1 w.2 by n rest w.5 w.6
  term_reads front (Differ k n) rest w = ap (λ f. term names (f ++ rest)) w.2 ∙ probe_unless_reads Differ w.0 w.1 k n rest w.3 w.4
  term_reads front (Any k c) rest w = ap (λ f. term names (f ++ rest)) w.2 ∙ values_reads Any w.0 k c w.1 rest w.3 w.4
  term_reads front (All k c) rest w = ap (λ f. term names (f ++ rest)) w.2 ∙ values_reads All w.0 k c w.1 rest w.3 w.4
  term_reads front (Count k c o m) rest w =
      let after : List Text = op_word o ∷ w.2 ∷ rest in
      ap (λ f. term names (f ++ rest)) w.3
      ∙ ap (λ p. option_and_then (λ (j : ℕ). option_and_then (λ (r : Comparison × List Text). counted j r.0 r.1) (comparison names (op_word c.op ∷ w.1 ∷ after))) p) w.4
      ∙ ap (λ p. option_and_then (λ (r : Comparison × List Text). counted k r.0 r.1) p) (comparison_reads c w.1 after w.5)
      ∙ counted_reads k c o w.2 m rest w.6
  term_reads front (Cmp h k c) rest w =
      let d = w.3 in
      let word : Text = d.0 ++ 46 ∷ d.1 in
      let more : List Text = op_word c.op ∷ w.1 ∷ rest in
      let apart = λ (key : Text) (none : position is_dot key ≡ None). no_keyword names.hosts 65535 d.0 d.1 key h d.3 none in
      ap (λ f. term names (f ++ rest)) (w.2 ∙ ap (λ x. x ∷ op_word c.op ∷ w.1 ∷ []) d.2)
      ∙ other (bytes_eq word (codes "up")) (on_host names Up more) (done_or word more) (apart (codes "up") refl)
      ∙ other (bytes_eq word (codes "done")) (on_host names Done more) (not_or word more) (apart (codes "done") refl)
      ∙ other (bytes_eq word (codes "not")) (negation names more) (agree_or word more) (apart (codes "not") refl)
      ∙ other (bytes_eq word (codes "agree")) (agreement names more) (differ_or word more) (apart (codes "agree") refl)
      ∙ other (bytes_eq word (codes "differ")) (on_probe_unless names Differ more) (any_or word more) (apart (codes "differ") refl)
      ∙ other (bytes_eq word (codes "any")) (on_values names Any more) (all_or word more) (apart (codes "any") refl)
      ∙ other (bytes_eq word (codes "all")) (on_values names All more) (count_or word more) (apart (codes "all") refl)
      ∙ other (bytes_eq word (codes "count")) (counting names more) (compared names word more) (apart (codes "count") refl)
      ∙ ap (option_and_then (λ (p : ℕ × ℕ). with_comparison names (Cmp p.0 p.1) more)) (dotted_reads names d.0 d.1 h k d.3 d.4)
      ∙ with_reads (Cmp h k) c w.1 rest w.4
