-- How links are packed, place after place, and what those are that were never touched.
use Rattle.std.proofs.Common.{◌≡◌, ℕ, suc, ◌+◌, ◌-◌, ◌<◌, List, [], ◌∷◌, ◌++◌, sym, ap, ◌∙◌, get_or, set, length, take, drop, replicate, arith}
use Rattle.std.proofs.lemmas.List.{append_assoc, at_drop_more, ext_get_or, get_or-drop, get_or-map, length-drop, length-replicate, length-take-le, set_at, take-append-drop, take_more}
use Rattle.std.specs.List.{fold}
use Rattle.sim_links.specs.Link.{Link, Links, open_link}
use Rattle.sim_links.specs.Places.{with_kept, links_of}
use Rattle.sim_links.specs.Table.{links_in, IsSound}
use Rattle.sim_links.specs.declared.kept.Kept.{Kept}
use Rattle.sim_links.specs.declared.table.Table.{Table}
use Rattle.sim_links.proofs.Slots.{get_or-same, whole}

module _ {X : Type 0} where
  -- a list up to a place and d from there on, of which the next place gets what it has in the list
  pub one_more : (xs ys zs : List X) (i n : ℕ) (x d : X) → length xs ≡ n → i < n → ys ≡ take i xs ++ replicate (n - i) d → x ≡ get_or xs i d
      → zs ≡ set ys i x → zs ≡ take (i + 1) xs ++ replicate (n - (i + 1)) d
  one_more xs ys zs i n x d whole inside before is after =
      let left : n - i ≡ suc (n - (i + 1)) = omega arith in
      after ∙ ap (λ ls. set ls i x) (before ∙ ap (λ k. take i xs ++ replicate k d) left)
      ∙ set_at (take i xs) d (replicate (n - (i + 1)) d) x i (length-take-le i xs (omega arith))
      ∙ sym (ap (λ ls. ls ++ replicate (n - (i + 1)) d) (take_more xs i d (omega arith) ∙ ap (λ y. take i xs ++ y ∷ []) (sym is))
      ∙ append_assoc (take i xs) (x ∷ []) (replicate (n - (i + 1)) d))

module _ {M : Type 0} where
  -- from a place on all are open
  pub rest_open : (t : Table M) → IsSound t → take t.past (links_in t) ++ replicate (1024 - t.past) open_link ≡ links_in t
  rest_open t sound =
      ap (λ ls. take t.past (links_in t) ++ ls) (sym (ext_get_or open_link (drop t.past (links_in t)) (replicate (1024 - t.past) open_link)
      (length-drop t.past (links_in t) ∙ ap (λ n. n - t.past) (whole t sound) ∙ sym (length-replicate {A = Link M} (1024 - t.past) open_link)) at))
      ∙ take-append-drop t.past (links_in t)
    where
      at : (i : ℕ) → i < length (drop t.past (links_in t)) → get_or (drop t.past (links_in t)) i open_link ≡ get_or (replicate (1024 - t.past) open_link) i open_link
      at i inside =
          let within : t.past + i < length t.slots.items = omega (arith, inside, length-drop t.past (links_in t), whole t sound, sound.whole) in
          get_or-drop t.past (links_in t) i open_link
          ∙ get_or-map (λ s. get_or t.touched.items s open_link) t.slots.items (t.past + i) 0 open_link within
          ∙ ap (λ s. get_or t.touched.items s open_link) (sound.rest (t.past + i) (omega arith)) ∙ sound.first
          ∙ sym (get_or-same (1024 - t.past) i open_link)

  -- one more direction that was kept is put where it stood
  pub next_put : (before now : Links M) (all : List (Kept M)) (i : ℕ) (item : Kept M) (copy : Link M) → fold with_kept before (drop i all) ≡ links_of all
      → i < length all → item ≡ get_or all i item → copy ≡ item.direction → now ≡ set before item.place copy
      → fold with_kept now (drop (i + 1) all) ≡ links_of all
  next_put before now all i item copy rest inside is same put =
      let step : fold with_kept before (drop i all) ≡ fold with_kept (with_kept before (get_or all i item)) (drop (i + 1) all) =
      at_drop_more (fold with_kept before) all i item inside in
      ap (λ (links : Links M). fold with_kept links (drop (i + 1) all)) (put ∙ ap (set before item.place) same ∙ ap (with_kept before) is) ∙ sym step ∙ rest
