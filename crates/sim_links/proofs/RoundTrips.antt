-- A change of one direction, and what takes it back.
use Rattle.std.proofs.Common.{◌≡◌, ℕ, ◌-◌, ◌<◌, List, [], ◌∷◌, ◌++◌, ap, refl, ◌∙◌, set, get_or, length, take, arith}
use Rattle.std.proofs.Math.Seq.{take-append_seam}
use Rattle.std.proofs.lemmas.List.{set-set, set-get_or, get_or-set_same, append-nil, length-append}
use Rattle.sim_links.specs.declared.LinkState.{LinkState}
use Rattle.sim_links.specs.declared.LinkState.TheVariants.{Through, Held, Cut}
use Rattle.sim_links.specs.declared.Change.{Change}
use Rattle.sim_links.specs.declared.LinkUndo.{LinkUndo}
use Rattle.sim_links.specs.Link.{Link, Links, open_link, changed, let_go, let_go_in, kept_in, state_after, fits, back, with_held, without_newest}

module _ {X : Type 0} where
  -- a place that is written, and written again as it was
  set_back : (f : X → X) (xs : List X) (i : ℕ) (old new d : X) → i < length xs → old ≡ get_or xs i d → f new ≡ old
      → set (set xs i new) i (f (get_or (set xs i new) i d)) ≡ xs
  set_back f xs i old new d inside is leads =
      ap (λ y. set (set xs i new) i (f y)) (get_or-set_same xs i new d inside) ∙ set-set xs i new (f new) ∙ ap (set xs i) (leads ∙ is)
      ∙ set-get_or xs i d

-- The links before and after a change of the direction at place i, with the record of the change and the messages that left.
pub record IsChanged {M : Type 0} (links now : Links M) (i : ℕ) (undo : LinkUndo) (gone : List M) : Type 0 where
  pub after : now ≡ set links i (changed undo.change (get_or links i open_link))
  pub left : gone ≡ let_go undo.change (get_or links i open_link)
  pub was : undo.was ≡ (get_or links i open_link).state
  pub fits : fits undo (get_or now i open_link)
  pub none_left : kept_in (state_after undo.change undo.was) gone ≡ []
  pub back : set now i (back undo gone (get_or now i open_link)) ≡ links

module _ {M : Type 0} where
  parts : (s : LinkState) (held : List M) → let_go_in s held ++ kept_in s held ≡ held
  parts Through held = append-nil held
  parts Held held = refl
  parts Cut held = append-nil held

  -- the messages that left a direction and those that stayed are those that it held
  back_changed : (a b : ℕ) (c : Change) (link : Link M)
      → back (record { a = a; b = b; change = c; was = link.state }) (let_go c link) (changed c link) ≡ link
  back_changed a b c link = ap (λ (held : List M). record { state = link.state; held = held }) (parts (state_after c link.state) link.held)

  newest_gone : (m : M) (link : Link M) → without_newest (with_held m link) ≡ link
  newest_gone m link =
      let count : length (link.held ++ m ∷ []) - 1 ≡ length link.held = omega (arith, length-append link.held (m ∷ [])) in
      ap (λ n. record { state = link.state; held = take n (link.held ++ m ∷ []) }) count
      ∙ ap (λ (held : List M). record { state = link.state; held = held }) (take-append_seam link.held (m ∷ []))

  none_gone : (s : LinkState) (held : List M) → let_go_in s (kept_in s held) ≡ []
  none_gone Through held = refl
  none_gone Held held = refl
  none_gone Cut held = refl

  none_kept : (s : LinkState) (held : List M) → kept_in s (let_go_in s held) ≡ []
  none_kept Through held = refl
  none_kept Held held = refl
  none_kept Cut held = refl

  -- one that was kept is held
  pub some_held : (m : M) (old new : Link M) → new ≡ with_held m old → 0 < length new.held
  some_held m old new is = omega (arith, ap (λ (link : Link M). length link.held) is, length-append old.held (m ∷ []))

  pub is_changed : (links now : Links M) (i : ℕ) (undo : LinkUndo) (left : List M) (old new : Link M)
      → i < length links → old ≡ get_or links i open_link → undo.was ≡ old.state → new ≡ changed undo.change old → left ≡ let_go undo.change old
      → now ≡ set links i new → IsChanged links now i undo left
  is_changed links now i undo left old new inside is was_is new_is left_is now_is =
      let read : get_or now i open_link ≡ new = ap (λ (ls : Links M). get_or ls i open_link) now_is ∙ get_or-set_same links i new open_link inside in
      record {
        after = now_is ∙ ap (set links i) (new_is ∙ ap (changed undo.change) is);
        left = left_is ∙ ap (let_go undo.change) is;
        was = was_is ∙ ap (λ (link : Link M). link.state) is;
        fits = rw (read, new_is, was_is) (refl, none_gone (state_after undo.change old.state) old.held);
        none_left = rw (left_is, was_is) (none_kept (state_after undo.change old.state) old.held);
        back = rw now_is (set_back (back undo left) links i old new open_link inside is (rw (new_is, left_is, was_is) (back_changed undo.a undo.b undo.change old)));
      }

  pub unkept : (links : Links M) (i : ℕ) (m : M) (old new : Link M) → i < length links → old ≡ get_or links i open_link → new ≡ with_held m old
      → set (set links i new) i (without_newest (get_or (set links i new) i open_link)) ≡ links
  unkept links i m old new inside is new_is =
      set_back without_newest links i old new open_link inside is (rw new_is (newest_gone m old))
