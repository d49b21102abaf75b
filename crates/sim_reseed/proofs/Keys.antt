-- What a look-up finds in members with another value at a key.
use Rattle.std.proofs.Common.{◌≡◌, ℕ, List, Option, Some, true, false, cond, Ordering, Less, Equal, Greater, nat_cmp, is_eq, refl, sym, ap, ◌∙◌, inl, inr}
use Rattle.std.proofs.lemmas.Bool.{cases_Bool}
use Rattle.std.proofs.lemmas.Slice.Eq.{bytes_eq-Decides}
use Rattle.std.specs.Cmp.Lexicographic.{slice_cmp}
use Rattle.std.specs.Ordering.{match_ordering}
use Rattle.toml.specs.Data.{Data, Members, no_members, member, same_key, get_member}
use Rattle.sim_scenario.proofs.Keys.{same_key-bytes_eq}
use Rattle.sim_scenario.specs.Scenario.{unknown_key, is_known}
use Rattle.sim_reseed.specs.Numbered.{with_value}

-- equal keys are the same bytes
pub same : (k l : List ℕ) → same_key k l ≡ true → k ≡ l
same k l h = (bytes_eq-Decides k l).0 (sym (same_key-bytes_eq k l) ∙ h)

found : (o : Ordering) (rest here : Option Data) → is_eq o ≡ true → match_ordering o rest here rest ≡ here
found Less rest here h = cc
found Equal rest here h = refl
found Greater rest here h = cc

passed : (o : Ordering) (rest here : Option Data) → is_eq o ≡ false → match_ordering o rest here rest ≡ rest
passed Less rest here h = refl
passed Equal rest here h = cc
passed Greater rest here h = refl

-- the first member of a table, found and passed by
pub get_member-found : (key k : List ℕ) (d : Data) (rest : Members) → same_key key k ≡ true → get_member key (member k d rest) ≡ Some d
get_member-found key k d rest h = found (slice_cmp nat_cmp key k) (get_member key rest) (Some d) h

pub get_member-passed : (key k : List ℕ) (d : Data) (rest : Members) → same_key key k ≡ false → get_member key (member k d rest) ≡ get_member key rest
get_member-passed key k d rest h = passed (slice_cmp nat_cmp key k) (get_member key rest) (Some d) h

-- at the key itself stands the other value
pub get_member-written : (key : List ℕ) (d old : Data) (ms : Members) → get_member key ms ≡ Some old → get_member key (with_value key d ms) ≡ Some d
get_member-written key d old no_members h = cc
get_member-written key d old (member k e rest) h =
    elim (cases_Bool (same_key key k)) [
      | inl here ↦ rw here (get_member-found key k d rest here)
      | inr other ↦
          rw other
          (get_member-passed key k e (with_value key d rest) other
          ∙ get_member-written key d old rest (sym (get_member-passed key k e rest other) ∙ h))
    ]

-- at another key the same value
pub get_member-other : (key at : List ℕ) (d : Data) (ms : Members) → same_key key at ≡ false → get_member key (with_value at d ms) ≡ get_member key ms
get_member-other key at d no_members h = refl
get_member-other key at d (member k e rest) h =
    elim (cases_Bool (same_key at k)) [
      | inl here ↦
          let past : same_key key k ≡ false = sym (ap (same_key key) (same at k here)) ∙ h in
          rw here (get_member-passed key k d rest past ∙ sym (get_member-passed key k e rest past))
      | inr other ↦ rw other (elim (cases_Bool (same_key key k)) [
        | inl found ↦ get_member-found key k e (with_value at d rest) found ∙ sym (get_member-found key k e rest found)
        | inr past ↦
            get_member-passed key k e (with_value at d rest) past
            ∙ get_member-other key at d rest h
            ∙ sym (get_member-passed key k e rest past)
      ])
    ]

-- the keys are the same
pub unknown_key-with_value : (known : List (List ℕ)) (at : List ℕ) (d : Data) (ms : Members) → unknown_key known (with_value at d ms) ≡ unknown_key known ms
unknown_key-with_value known at d no_members = refl
unknown_key-with_value known at d (member k e rest) =
    elim (cases_Bool (same_key at k)) [
      | inl here ↦ rw here refl
      | inr other ↦ rw other (ap (λ o. cond (is_known known k) o (Some k)) (unknown_key-with_value known at d rest))
    ]
