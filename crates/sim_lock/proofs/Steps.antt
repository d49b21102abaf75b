-- Each step of the table keeps its rule.
use Rattle.std.proofs.Common.{◌≡◌, ◌≢◌, ℕ, suc, ◌+◌, ◌<◌, ◌≤◌, true, false, true≢false, cond, List, [], ◌∷◌, ◌++◌, length, set, Option, Some, None, refl, sym, ap, ◌∙◌, subst, ⊎_elim, arith, append-nil, eq-eqb, length-set, length-append, get_or-set_same}
use Rattle.std.proofs.lemmas.List.{set-get_or}
use Rattle.std.specs.Prelude.{◌==◌, slice_index, slice_set}
use mathlib.Core.Logic.{dite}
use mathlib.Core.Option.{some, none}
use native.Mathlib.Decide.{dec_le}
use prog.Atomic.{either}
use lib.ListN.{get_elem?}
use Rattle.atomic_table.specs.Table.{State, Me, Step, step, Act, keeps, takes, gives, stepped, Valid, carried_after, Allows, Splits, Joins}
use Rattle.atomic_table.proofs.Lists.{at_set, set_here, set_again, exchanged}
use Rattle.sim_lock.specs.declared.rule.Part.{Part}
use Rattle.sim_lock.specs.Entries.{of_session, Begins, Grows}
use Rattle.sim_lock.specs.Rule.{total, Each, sits, has, Fits, Keeps, session_in, seen_in, holds_in, ScenarioIs, took, gave, first_of, rest_of, Takes, Gives}
use Rattle.sim_lock.proofs.Lists.{total_set, total_append, total_at, total_two, each_map, each_append, held_set, held_more}
use Rattle.sim_lock.proofs.Histories.{begins_self, begins_more, of_append}

module _ {C E : Type 0} where
  sits_self : (p : Part C E) → sits p.session p ≡ 1
  sits_self p = ap (λ b. cond b 1 0) (eq-eqb p.session p.session refl)

  sits_else : (k : ℕ) (p : Part C E) → sits k p ≡ 0 → p.session ≢ k
  sits_else k p zeros is = let one : sits k p ≡ 1 = ap (λ b. cond b 1 0) (eq-eqb p.session k is) in absurd (omega arith)

module _ {C E : Type 0} (whose : E → ℕ) where
  -- a part of another session, once the history grew by entries of the session k, which had the book
  other_fits : (c : C) (log new own : List E) (word word' k : ℕ) → new ≡ log ++ own → ((j : ℕ) → j ≢ k → of_session whose j own ≡ []) → word ≡ suc k
      → (u : List (Part C E)) → total (sits k) u ≡ 0 → Each (Fits whose c log word) u → Each (Fits whose c new word') u
  other_fits c log new own word word' k grew rest is [] zeros h = tt
  other_fits c log new own word word' k grew rest is (q ∷ qs) zeros h =
      let apart = sits_else k q (omega arith) in
      let f = h.0 in (
        (
          f.0,
          ap (of_session whose q.session) grew ∙ (of_append whose q.session log own ∙ (ap (λ l. of_session whose q.session log ++ l) (rest q.session apart) ∙ (append-nil (of_session whose q.session log) ∙ f.1))),
          subst (Begins q.seen) (sym grew) (begins_more q.seen log own f.2),
          λ holds. let w = (f.3 holds).0 in absurd (apart (omega arith)),
        ),
        other_fits c log new own word word' k grew rest is qs (omega arith) h.1,
      )

module _ {B C E : Type 0} (whose : E → ℕ) (scenario : B → C) (entries : B → List E) (c : C) (n : ℕ) where
  abbrev V : Type 0
  V = List (Part C E)

  abbrev R : State (Option B) V → Type 0
  R s = Keeps whose scenario entries c n s

  -- what these plays say of a step doesn't depend on it
  abbrev no_step : Step (Option B)
  no_step = step 0 0 0 0 none

  at_most_one : (s : State (Option B) V) → R s → (k : ℕ) → total (total (sits k)) s.views ≤ 1
  at_most_one s h k = dite (dec_le n k) (λ past. let z = (h.others k past).0 in omega arith) (λ below. let o = h.one k (omega arith) in omega arith)

  same : (s : State (Option B) V) (id : ℕ) (v : V) (out : List (ℕ × Option B)) → R s → get_elem? s.views id ≡ some v → R (stepped s 0 (slice_index s.words 0) id out v keeps)
  same s id v out h at = subst R (λ i. record { words = sym (set-get_or s.words 0 0) i; homes = s.homes; views = sym (set_again s.views id v at) i }) h

  takes_one : (slots id new : ℕ) (p : Part C E) → p.holds ≡ false → new ≡ suc p.session
      → Allows R slots id (p ∷ [], []) 0 (λ x. either (x == 0) new x) (Takes whose scenario entries no_step (p ∷ [], []))
  takes_one slots id new p idle is s h wide at _ =
      let x : ℕ = slice_index s.words 0 in
      let then : ℕ → Me (Option B) V → Type 0 = Takes whose scenario entries no_step (p ∷ [], []) in
      exchanged x 0 new (λ z. (w : V) × (a : Act (Option B)) × Valid s.homes [] a × R (stepped s 0 z id [] w a) × then x (w, carried_after [] a))
      (λ free.
      let t = h.home free in
      let b = t.0 in
      let w : V = took (p ∷ []) (entries b) in
      let f = (h.fits id (p ∷ []) at).0 in
      let now : slice_index (slice_set s.words 0 new) 0 ≡ suc p.session = get_or-set_same s.words 0 new 0 (let l = h.word in omega arith) ∙ is in
      let seen : Begins p.seen (entries b) = subst (Begins p.seen) (sym t.3) f.2 in (
        w,
        takes 0 (Some b),
        t.1,
        record {
          log = h.log;
          word = length-set s.words 0 new ∙ h.word;
          home = λ zero. absurd (omega arith);
          out = λ _. let e = total_set (total has) s.views id (p ∷ []) w at in let z : has p ≡ 0 = ap (λ y. cond y 1 0) idle in omega arith;
          fits = held_set (Each (Fits whose c h.log (slice_index (slice_set s.words 0 new) 0))) s.views id w
              (λ j u _ e. each_map (Fits whose c h.log x) (Fits whose c h.log (slice_index (slice_set s.words 0 new) 0)) u (λ q g. (g.0, g.1, g.2, λ has_it. let l = (g.3 has_it).0 in absurd (omega arith))) (h.fits j u e))
              ((f.0, f.1, subst (Begins (entries b)) t.3 (begins_self (entries b)), λ _. (now, t.3)), tt);
          one = λ k lt. let e = total_set (total (sits k)) s.views id (p ∷ []) w at in let o = h.one k lt in omega arith;
          others = λ k le. let e = total_set (total (sits k)) s.views id (p ∷ []) w at in let o = (h.others k le).0 in (omega arith, (h.others k le).1);
          all = let e = total_set length s.views id (p ∷ []) w at in let o = h.all in omega arith;
        },
        ((λ _. (b, refl, t.2 ∙ sym f.0, ap (of_session whose p.session) t.3 ∙ f.1, seen)), λ away. absurd (away free)),
      ))
      (λ held. (p ∷ [], keeps, tt, same s id (p ∷ []) [] h at, ((λ free. absurd (held free)), λ _. refl)))

  pub takes_it : (slots id new : ℕ) (m : Me (Option B) V) → length m.0 ≡ 1 → holds_in m.0 ≡ false → m.1 ≡ [] → new ≡ suc (session_in m.0)
      → Allows R slots id m 0 (λ x. either (x == 0) new x) (Takes whose scenario entries no_step m)
  takes_it slots id new m one idle bare is = subst (λ (l : List (ℕ × Option B)). Allows R slots id (m.0, l) 0 (λ x. either (x == 0) new x) (Takes whose scenario entries no_step (m.0, l))) (sym bare) (by_view m.0 one idle is)
    where
      by_view : (v : V) → length v ≡ 1 → holds_in v ≡ false → new ≡ suc (session_in v) → Allows R slots id (v, []) 0 (λ x. either (x == 0) new x) (Takes whose scenario entries no_step (v, []))
      by_view [] one' idle' is' = absurd (omega arith)
      by_view (p ∷ []) one' idle' is' = takes_one slots id new p idle' is'
      by_view (p ∷ q ∷ qs) one' idle' is' = absurd (omega arith)

  abbrev head_value : List (ℕ × Option B) → Option B
  head_value [] = None
  head_value (x ∷ xs) = x.1

  abbrev out_of : V → Me (Option B) V
  out_of v = (v, [])

  gives_one : (slots id : ℕ) (p : Part C E) (b : B) → slots ≡ 1 → p.holds ≡ true → scenario b ≡ p.scenario → Grows whose p.session p.seen (entries b)
      → Allows R slots id (p ∷ [], (0, Some b) ∷ []) 0 (λ _. 0) (λ _. Gives whose scenario entries no_step (p ∷ [], (0, Some b) ∷ []) 0)
  gives_one slots id p b one_slot has_it like grew s h wide at _ =
      let x : ℕ = slice_index s.words 0 in
      let new : List E = entries b in
      let w : V = gave whose (p ∷ []) new in
      let word' : ℕ = slice_index (slice_set s.words 0 0) 0 in
      let f = (h.fits id (p ∷ []) at).0 in
      let known = f.3 has_it in
      let now : word' ≡ 0 = get_or-set_same s.words 0 0 0 (let l = h.word in omega arith) in
      let is_more : new ≡ h.log ++ grew.0 = grew.1 ∙ ap (λ l. l ++ grew.0) known.1 in
      let mine : 1 ≤ total (sits p.session) (p ∷ []) = let o = sits_self p in omega arith in
      let below : p.session < n = dite (dec_le n p.session) (λ past. let z = (h.others p.session past).0 in let o = total_at (total (sits p.session)) s.views id (p ∷ []) at in absurd (omega arith)) (λ b. omega arith) in (
        w,
        gives,
        tt,
        record {
          log = new;
          word = length-set s.words 0 0 ∙ h.word;
          home = λ _. (b, set_here s.homes 0 (some (Some b)) (omega arith), like ∙ f.0, refl);
          out = λ away. absurd (away now);
          fits = held_set (Each (Fits whose c new word')) s.views id w
              (λ j u apart e.
              other_fits whose c h.log new grew.0 x word' p.session is_more grew.2 known.0 u
              (let two = total_two (total (sits p.session)) s.views id j (p ∷ []) u apart at e in let o = at_most_one s h p.session in omega arith)
              (h.fits j u e))
              ((f.0, refl, begins_self new, λ no. absurd (true≢false (sym no))), tt);
          one = λ k lt. let e = total_set (total (sits k)) s.views id (p ∷ []) w at in let o = h.one k lt in omega arith;
          others = λ k le.
              let e = total_set (total (sits k)) s.views id (p ∷ []) w at in
              let o = (h.others k le).0 in
              let apart : k ≢ p.session = λ same_one. absurd (omega arith) in
              (omega arith, ap (of_session whose k) is_more ∙ (of_append whose k h.log grew.0 ∙ (ap (λ l. of_session whose k h.log ++ l) (grew.2 k apart) ∙ (append-nil (of_session whose k h.log) ∙ (h.others k le).1))));
          all = let e = total_set length s.views id (p ∷ []) w at in let o = h.all in omega arith;
        },
        λ b' same_book. ap (λ (l : List E). out_of (gave whose (p ∷ []) l)) (same_entries b' same_book),
      )
    where
      same_entries : (b' : B) → ◌≡◌ {A = List (ℕ × Option B)} ((0, Some b) ∷ []) ((0, Some b') ∷ []) → entries b ≡ entries b'
      same_entries b' e = let f : Some b ≡ Some b' = ap head_value e in ap entries (cc (f))

  pub gives_it : (slots id : ℕ) (m : Me (Option B) V) (b : B) → slots ≡ 1 → length m.0 ≡ 1 → holds_in m.0 ≡ true → ◌≡◌ {A = List (ℕ × Option B)} m.1 ((0, Some b) ∷ []) → ScenarioIs (scenario b) m.0
      → Grows whose (session_in m.0) (seen_in m.0) (entries b) → Allows R slots id m 0 (λ _. 0) (λ _. Gives whose scenario entries no_step m 0)
  gives_it slots id m b one_slot one has_it out like grew = subst (λ (l : List (ℕ × Option B)). Allows R slots id (m.0, l) 0 (λ _. 0) (λ _. Gives whose scenario entries no_step (m.0, l) 0)) (sym out) (by_view m.0 one has_it like grew)
    where
      by_view : (v : V) → length v ≡ 1 → holds_in v ≡ true → ScenarioIs (scenario b) v → Grows whose (session_in v) (seen_in v) (entries b)
          → Allows R slots id (v, (0, Some b) ∷ []) 0 (λ _. 0) (λ _. Gives whose scenario entries no_step (v, (0, Some b) ∷ []) 0)
      by_view [] one' has' like' grew' = absurd (omega arith)
      by_view (p ∷ []) one' has' like' grew' = gives_one slots id p b one_slot has' like' grew'
      by_view (p ∷ q ∷ qs) one' has' like' grew' = absurd (omega arith)

  -- any number on the parts, over all views, after a cut
  cut_sum : (f : Part C E → ℕ) (views : List V) (id : ℕ) (v : V) → get_elem? views id ≡ some v → total (total f) (set views id (rest_of v) ++ first_of v ∷ []) ≡ total (total f) views
  cut_sum f views id v at =
      let a = total_append (total f) (set views id (rest_of v)) (first_of v ∷ []) in
      let e = total_set (total f) views id v (rest_of v) at in
      let p = parts v in
      omega arith
    where
      parts : (v : V) → total f v ≡ total f (first_of v) + total f (rest_of v)
      parts [] = refl
      parts (q ∷ qs) = omega arith

  cut_long : (views : List V) (id : ℕ) (v : V) → get_elem? views id ≡ some v → total length (set views id (rest_of v) ++ first_of v ∷ []) ≡ total length views
  cut_long views id v at =
      let a = total_append length (set views id (rest_of v)) (first_of v ∷ []) in
      let e = total_set length views id v (rest_of v) at in
      let p = parts v in
      omega arith
    where
      parts : (v : V) → length v ≡ length (first_of v) + length (rest_of v)
      parts [] = refl
      parts (q ∷ qs) = omega arith

  each_first : (P : Part C E → Type 0) (v : V) → Each P v → Each P (first_of v)
  each_first P [] h = tt
  each_first P (q ∷ qs) h = (h.0, tt)

  each_rest : (P : Part C E → Type 0) (v : V) → Each P v → Each P (rest_of v)
  each_rest P [] h = tt
  each_rest P (q ∷ qs) h = h.1

  pub cuts : (id : ℕ) (v : V) → Splits R id v (rest_of v) (first_of v)
  cuts id v s h at =
      let x : ℕ = slice_index s.words 0 in record {
        log = h.log;
        word = h.word;
        home = h.home;
        out = λ away. let o = h.out away in let e = cut_sum has s.views id v at in omega arith;
        fits = held_more (Each (Fits whose c h.log x)) (set s.views id (rest_of v)) (first_of v)
            (held_set (Each (Fits whose c h.log x)) s.views id (rest_of v) (λ j u _ e. h.fits j u e) (each_rest (Fits whose c h.log x) v (h.fits id v at)))
            (each_first (Fits whose c h.log x) v (h.fits id v at));
        one = λ k lt. cut_sum (sits k) s.views id v at ∙ h.one k lt;
        others = λ k le. (cut_sum (sits k) s.views id v at ∙ (h.others k le).0, (h.others k le).1);
        all = cut_long s.views id v at ∙ h.all;
      }

  was_there : (views : List V) (id other : ℕ) (v w : V) → ¬ (other ≡ id) → get_elem? (set views id v) other ≡ some w → get_elem? views other ≡ some w
  was_there views id other v w apart there = ⊎_elim (λ (t : (other ≡ id) × (v ≡ w)). absurd (apart t.0)) (λ (t : (other ≢ id) × (get_elem? views other ≡ some w)). t.1) (at_set views id other v w there)

  -- any number on the views that adds up, over all views, after a join
  join_sum : (f : V → ℕ) → f [] ≡ 0 → ((v w : V) → f (v ++ w) ≡ f v + f w) → (views : List V) (id other : ℕ) (v w : V) → get_elem? views id ≡ some v → get_elem? (set views id (v ++ w)) other ≡ some w
      → total f (set (set views id (v ++ w)) other []) ≡ total f views
  join_sum f none_is adds views id other v w at there =
      let e = total_set f views id v (v ++ w) at in
      let d = total_set f (set views id (v ++ w)) other w [] there in
      let a = adds v w in
      omega arith

  pub joins : (id : ℕ) (v : V) (other : ℕ) (w : V) → Joins R id v other w (v ++ w) []
  joins id v other w s h at apart there =
      let x : ℕ = slice_index s.words 0 in
      let fit : V → Type 0 = Each (Fits whose c h.log x) in
      let both = each_append (Fits whose c h.log x) v w (h.fits id v at) (h.fits other w (was_there s.views id other (v ++ w) w apart there)) in record {
        log = h.log;
        word = h.word;
        home = h.home;
        out = λ away. let o = h.out away in let e = join_sum (total has) refl (total_append has) s.views id other v w at there in omega arith;
        fits = held_set fit (set s.views id (v ++ w)) other [] (λ j u _ e. held_set fit s.views id (v ++ w) (λ i y _ d. h.fits i y d) both j u e) tt;
        one = λ k lt. join_sum (total (sits k)) refl (total_append (sits k)) s.views id other v w at there ∙ h.one k lt;
        others = λ k le. (join_sum (total (sits k)) refl (total_append (sits k)) s.views id other v w at there ∙ (h.others k le).0, (h.others k le).1);
        all = join_sum length refl (λ a b. length-append a b) s.views id other v w at there ∙ h.all;
      }
