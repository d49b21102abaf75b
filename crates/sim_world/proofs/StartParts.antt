-- What the loops of a start make, and the index at the start.
use Rattle.std.specs.Prelude.{◌≡◌, ℕ, zero, suc, ◌+◌, ◌<◌, ◌≤◌, ◌⊎◌, ◌==◌, ◌&&◌, Bool, true, false, cond, List, [], ◌∷◌, ◌++◌, length, map, replicate, Option, None, slice_index_or}
use Rattle.std.specs.List.{filter, count_by, sum_by}
use Rattle.std.proofs.Common.{refl, sym, ap, ◌∙◌, inl, inr, arith}
use Rattle.std.proofs.lemmas.Bool.{cases_eq, ne_eqb, eq-eqb}
use Rattle.std.proofs.lemmas.List.Sums.{sum_by-cons}
use Rattle.std.proofs.lemmas.List.{length-replicate, length-map, map-append}
use Rattle.sim_queue.specs.declared.Item.{Item}
use Rattle.sim_links.specs.Link.{Link, open_link}
use Rattle.sim_node.specs.Numbers.{numbers_from}
use Rattle.sim_world.specs.declared.index.Index.{Index}
use Rattle.sim_pending.specs.Occurrence.{Occurrence, is_message, is_timer_of}
use Rattle.sim_world.specs.Events.{Rules, start}
use Rattle.sim_world.specs.inside.Index.{IsIndex, listed, timers_of, is_other_of, others_of}
use Rattle.sim_world.proofs.Counts.{one_if, none_if, sum_by-replicate_none, sum_by-map_none, length-numbers_from}
use Rattle.sim_world.proofs.StartIsSound.{starts}

-- one more number in a row
numbers_from-more : (k n : ℕ) → numbers_from k (suc n) ≡ numbers_from k n ++ ((k + n) ∷ [])
numbers_from-more k zero = let e : k ≡ k + 0 = omega arith in ap (λ x. x ∷ []) e
numbers_from-more k (suc n) =
    let e : k + 1 + n ≡ k + suc n = omega arith in
    ap (λ l. k ∷ l) (numbers_from-more (k + 1) n ∙ ap (λ x. numbers_from (k + 1) n ++ x ∷ []) e)

-- and one more element that is made of one
pub made-more : {X : Type 0} (f : ℕ → X) (n : ℕ) → map f (numbers_from 0 (n + 1)) ≡ map f (numbers_from 0 n) ++ f n ∷ []
made-more f n =
    let e : n + 1 ≡ suc n = omega arith in
    let z : 0 + n ≡ n = omega arith in
    ap (λ m. map f (numbers_from 0 m)) e
    ∙ ap (map f) (numbers_from-more 0 n)
    ∙ map-append f (numbers_from 0 n) ((0 + n) ∷ [])
    ∙ ap (λ m. map f (numbers_from 0 n) ++ f m ∷ []) z

-- no timer is pending at the start
no_timers : (Msg : Type 0) (h lo n : ℕ) → timers_of h (map (starts Msg) (numbers_from lo n)) ≡ []
no_timers Msg h lo zero = refl
no_timers Msg h lo (suc n) =
    let none : is_timer_of h (starts Msg lo) ≡ false = never (lo == h) in
    ap (λ b. map (λ (x : Item (Occurrence Msg)). x.serial) (cond b (starts Msg lo ∷ rest) rest)) none ∙ no_timers Msg h (lo + 1) n
  where
    rest : List (Item (Occurrence Msg))
    rest = filter (is_timer_of h) (map (starts Msg) (numbers_from (lo + 1) n))

    never : (b : Bool) → (b && false) ≡ false
    never true = refl
    never false = refl

abbrev no_timer : Option ℕ
no_timer = None

none-replicated : (n h : ℕ) → slice_index_or (replicate n no_timer) h None ≡ None
none-replicated zero h = refl
none-replicated (suc n) zero = refl
none-replicated (suc n) (suc h) = none-replicated n h

-- the start of each host is pending
start_counted : (Msg : Type 0) (h lo : ℕ) → (b : Bool) → (lo == h) ≡ b → is_other_of h (starts Msg lo) ≡ b
start_counted Msg h lo b e = ap (λ a. a && true) e ∙ and_true b
  where
    and_true : (b : Bool) → (b && true) ≡ b
    and_true true = refl
    and_true false = refl

no_start : (Msg : Type 0) (h lo n : ℕ) → h < lo → others_of h (map (starts Msg) (numbers_from lo n)) ≡ 0
no_start Msg h lo zero lt = refl
no_start Msg h lo (suc n) lt =
    let all : others_of h (map (starts Msg) (numbers_from lo (suc n))) ≡ cond (is_other_of h (starts Msg lo)) 1 0 + others_of h (map (starts Msg) (numbers_from (lo + 1) n)) =
    sum_by-cons (λ (y : Item (Occurrence Msg)). cond (is_other_of h y) 1 0) (starts Msg lo) (map (starts Msg) (numbers_from (lo + 1) n)) in
    let here = none_if (is_other_of h (starts Msg lo)) (start_counted Msg h lo false (ne_eqb lo h (λ e. omega arith))) in
    let rest : others_of h (map (starts Msg) (numbers_from (lo + 1) n)) ≡ 0 = no_start Msg h (lo + 1) n (omega arith) in
    omega arith

one_start : (Msg : Type 0) (h lo n : ℕ) → lo ≤ h → h < lo + n → others_of h (map (starts Msg) (numbers_from lo n)) ≡ 1
one_start Msg h lo zero le lt = absurd (omega arith)
one_start Msg h lo (suc n) le lt = go (cases_eq lo h) (λ above. one_start Msg h (lo + 1) n above (omega arith))
  where
    all : others_of h (map (starts Msg) (numbers_from lo (suc n))) ≡ cond (is_other_of h (starts Msg lo)) 1 0 + others_of h (map (starts Msg) (numbers_from (lo + 1) n))
    all = sum_by-cons (λ (y : Item (Occurrence Msg)). cond (is_other_of h y) 1 0) (starts Msg lo) (map (starts Msg) (numbers_from (lo + 1) n))

    go : (lo ≡ h) ⊎ (lo ≡ h → ⊥) → (lo + 1 ≤ h → others_of h (map (starts Msg) (numbers_from (lo + 1) n)) ≡ 1) → others_of h (map (starts Msg) (numbers_from lo (suc n))) ≡ 1
    go (inl same) next =
        let sum = all in
        let here = one_if (is_other_of h (starts Msg lo)) (start_counted Msg h lo true (eq-eqb lo h same)) in
        let rest : others_of h (map (starts Msg) (numbers_from (lo + 1) n)) ≡ 0 = no_start Msg h (lo + 1) n (omega arith) in
        omega arith
    go (inr apart) next =
        let sum = all in
        let here = none_if (is_other_of h (starts Msg lo)) (start_counted Msg h lo false (ne_eqb lo h apart)) in
        let above : lo + 1 ≤ h = omega (arith, apart) in
        let rest : others_of h (map (starts Msg) (numbers_from (lo + 1) n)) ≡ 1 = next above in
        omega arith

one-replicated : (n h : ℕ) → h < n → (let k : ℕ = slice_index_or (replicate n 1) h 0 in k ≡ 1)
one-replicated zero h lt = absurd (omega arith)
one-replicated (suc n) zero lt = refl
one-replicated (suc n) (suc h) lt = one-replicated n h (omega arith)

-- the index at the start
pub start-index : {State Msg : Type 0} (r : Rules State Msg) (index : Index) → index.in_flight ≡ 0 → index.held ≡ 0
    → index.timers.items ≡ replicate r.scenario.setup.hosts None → index.others.items ≡ replicate r.scenario.setup.hosts 1 → IsIndex index (start r)
start-index {State} {Msg} r index flying held timers others =
    let n : ℕ = r.scenario.setup.hosts in
    let none_in_flight : count_by is_message (map (starts Msg) (numbers_from 0 n)) ≡ 0 = sum_by-map_none (λ (x : Item (Occurrence Msg)). cond (is_message x) 1 0) (starts Msg) (λ h. refl) (numbers_from 0 n) in
    let none_held : sum_by (λ (l : Link Msg). length l.held) (replicate 1024 open_link) ≡ 0 = sum_by-replicate_none (λ (l : Link Msg). length l.held) 1024 open_link refl in
    let hosts : length (start r).hosts ≡ n = length-map (numbers_from 0 n) _ ∙ length-numbers_from 0 n in
    record {
      in_flight = flying ∙ sym none_in_flight;
      held = held ∙ sym none_held;
      few = omega arith;
      hosts = ap length timers ∙ length-replicate n no_timer ∙ sym hosts;
      timers = λ h lt. no_timers Msg h 0 n ∙ sym (ap listed (ap (λ l. slice_index_or l h None) timers ∙ none-replicated n h));
      counted = ap length others ∙ length-replicate n 1 ∙ sym hosts;
      others = λ h lt. one_start Msg h 0 n (omega arith) (omega arith) ∙ sym (ap (λ l. slice_index_or l h 0) others ∙ one-replicated n h (omega arith));
    }
