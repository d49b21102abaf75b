-- A table of the shape of a scenario's is not deep, has no dates, and keeps its shape with another value.
use Rattle.std.proofs.Common.{◌≡◌, ℕ, ◌≤◌, ◌&&◌, List, Bool, true, refl, inl, inr, arith}
use Rattle.std.specs.List.{list_all}
use Rattle.std.proofs.lemmas.Bool.{and_parts, cases_Bool}
use Rattle.toml.specs.Data.{Data, string, integer, float, boolean, datetime, array, table, Items, no_items, item, Members, no_members, member, same_key, depth, items_depth, members_depth, has_valid_dates, items_have_valid_dates, members_have_valid_dates}
use Rattle.sim_scenario.specs.Scenario.{data_of}
use Rattle.sim_reseed.specs.Shape.{is_plain, are_plain, is_element, is_value, is_shallow}
use Rattle.sim_reseed.specs.Numbered.{with_value}

-- at most so deep, and each date is sound
pub record IsFlat (most deep : ℕ) (dates : Bool) : Type 0 where
  pub shallow : deep ≤ most
  pub dated : dates ≡ true

plain-flat : (d : Data) → is_plain d ≡ true → IsFlat 0 (depth d) (has_valid_dates d)
plain-flat (string s) h = record { shallow = omega arith; dated = refl }
plain-flat (integer z) h = record { shallow = omega arith; dated = refl }
plain-flat (float x) h = cc
plain-flat (boolean b) h = cc
plain-flat (datetime dt) h = cc
plain-flat (array ds) h = cc
plain-flat (table ms) h = cc

both : (a b : Bool) → a ≡ true → b ≡ true → (a && b) ≡ true
both a b h k = rw (h, k) refl

members-flat : (ms : Members) → are_plain ms ≡ true → IsFlat 0 (members_depth ms) (members_have_valid_dates ms)
members-flat no_members h = record { shallow = omega arith; dated = refl }
members-flat (member key d rest) h =
    let parts = and_parts (is_plain d) (are_plain rest) h in
    let here = plain-flat d parts.0 in
    let more = members-flat rest parts.1 in
    record { shallow = omega (arith, here.shallow, more.shallow); dated = both _ _ here.dated more.dated }

element-flat : (d : Data) → is_element d ≡ true → IsFlat 1 (depth d) (has_valid_dates d)
element-flat (string s) h = record { shallow = omega arith; dated = refl }
element-flat (integer z) h = record { shallow = omega arith; dated = refl }
element-flat (float x) h = cc
element-flat (boolean b) h = cc
element-flat (datetime dt) h = cc
element-flat (array ds) h = cc
element-flat (table ms) h = let inside = members-flat ms h in record { shallow = omega (arith, inside.shallow); dated = inside.dated }

elements-flat : (ds : Items) → list_all is_element (data_of ds) ≡ true → IsFlat 1 (items_depth ds) (items_have_valid_dates ds)
elements-flat no_items h = record { shallow = omega arith; dated = refl }
elements-flat (item d ds) h =
    let parts = and_parts (is_element d) (list_all is_element (data_of ds)) h in
    let here = element-flat d parts.0 in
    let more = elements-flat ds parts.1 in
    record { shallow = omega (arith, here.shallow, more.shallow); dated = both _ _ here.dated more.dated }

value-flat : (d : Data) → is_value d ≡ true → IsFlat 2 (depth d) (has_valid_dates d)
value-flat (string s) h = record { shallow = omega arith; dated = refl }
value-flat (integer z) h = record { shallow = omega arith; dated = refl }
value-flat (float x) h = cc
value-flat (boolean b) h = cc
value-flat (datetime dt) h = cc
value-flat (array ds) h = let inside = elements-flat ds h in record { shallow = omega (arith, inside.shallow); dated = inside.dated }
value-flat (table ms) h = cc

pub shallow-flat : (ms : Members) → is_shallow ms ≡ true → IsFlat 2 (members_depth ms) (members_have_valid_dates ms)
shallow-flat no_members h = record { shallow = omega arith; dated = refl }
shallow-flat (member key d rest) h =
    let parts = and_parts (is_value d) (is_shallow rest) h in
    let here = value-flat d parts.0 in
    let more = shallow-flat rest parts.1 in
    record { shallow = omega (arith, here.shallow, more.shallow); dated = both _ _ here.dated more.dated }

-- another value of the shape leaves the shape
pub shallow-with_value : (key : List ℕ) (d : Data) (ms : Members) → is_value d ≡ true → is_shallow ms ≡ true → is_shallow (with_value key d ms) ≡ true
shallow-with_value key d no_members good h = refl
shallow-with_value key d (member k e rest) good h =
    let parts = and_parts (is_value e) (is_shallow rest) h in
    elim (cases_Bool (same_key key k)) [
      | inl here ↦ rw here (both _ _ good parts.1)
      | inr other ↦ rw other (both _ _ parts.0 (shallow-with_value key d rest good parts.1))
    ]
