-- The usual changes of a step are taken back, each kind for itself.
use Rattle.std.specs.Prelude.{◌≡◌, ℕ, zero, suc, ◌+◌, ◌-◌, ◌<◌, cond, List, [], ◌∷◌, ◌++◌, length, map, Option, Some, None, option_to_list}
use Rattle.std.specs.List.{count_by}
use Rattle.std.proofs.Common.{refl, sym, ap, ◌∙◌, subst, arith}
use Rattle.std.proofs.lemmas.List.{map_push}
use Rattle.std.proofs.lemmas.List.Sums.{sum_by-append}
use Rattle.sim_disk.specs.Disk as disk
use Rattle.sim_node.specs.Node.{NodeRecords}
use Rattle.sim_world.specs.declared.trail.Compact.{Compact}
use Rattle.sim_world.specs.declared.small.Small.{Small}
use Rattle.sim_world.specs.declared.small.Small.TheVariants as small
use Rattle.sim_world.specs.World.{World}
use Rattle.sim_world.specs.Records.{Fits, back, FitsOne, back_one}
use Rattle.sim_world.specs.Undone.{is_reaction}
use Rattle.sim_world.specs.inside.Trail.{unboxed, synced_change, drawn_change, acted_change, sent_changes, changes_of}
use Rattle.sim_world.proofs.Trails.{back-append, Fits-front}
use Rattle.sim_world.proofs.Places.{places-back_one}

-- the last of these is the one that is taken out
pub others_popped : {State Msg Undo : Type 0} (others left : List (Compact State Msg Undo)) (o : Option (Compact State Msg Undo)) (x : Compact State Msg Undo)
    → others ≡ left ++ option_to_list o → o ≡ Some x → map {B = Small State Msg Undo} unboxed others ≡ map unboxed left ++ unboxed x ∷ []
others_popped others left o x e is = ap (map unboxed) (e ∙ ap (λ q. left ++ option_to_list q) is) ∙ map_push unboxed left x

module _ {State Msg Undo : Type 0} (records : NodeRecords State Undo) where
  Fits-end : (cs ds : List (Small State Msg Undo)) (w : World State Msg) → Fits records (cs ++ ds) w → Fits records ds w
  Fits-end [] ds w f = f
  Fits-end (x ∷ cs) ds w f = Fits-end cs ds w f.0

  pub places-back : (cs : List (Small State Msg Undo)) (w : World State Msg) → length (back records cs w).places ≡ length w.places
  places-back [] w = refl
  places-back (c ∷ cs) w = places-back_one records c (back records cs w) ∙ places-back cs w

  -- a message that was sent fits, and those before it
  pub sent_fits : (n : ℕ) (w : World State Msg) → 0 < n → Fits records (sent_changes n) w
      → FitsOne records small.Queued w × FitsOne records (small.Drew 0 2) (back_one records small.Queued w)
      × Fits records (sent_changes (n - 1)) (back_one records (small.Drew 0 2) (back_one records small.Queued w))
  sent_fits zero w lt f = absurd (omega arith)
  sent_fits (suc n) w lt f =
      let e : n ≡ suc n - 1 = omega arith in
      let last = Fits-end (sent_changes n) (small.Drew 0 2 ∷ small.Queued ∷ []) w f in (
        last.0.1,
        last.1,
        subst (λ k. Fits records (sent_changes k) (back_one records (small.Drew 0 2) (back_one records small.Queued w))) e
            (Fits-front records (sent_changes n) (small.Drew 0 2 ∷ small.Queued ∷ []) w f),
      )

  pub sent_back : (n : ℕ) (w : World State Msg) → 0 < n
      → back records (sent_changes (n - 1)) (back_one records (small.Drew 0 2) (back_one records small.Queued w)) ≡ back records (sent_changes n) w
  sent_back zero w lt = absurd (omega arith)
  sent_back (suc n) w lt =
      let e : suc n - 1 ≡ n = omega arith in
      ap (λ k. back records (sent_changes k) (back_one records (small.Drew 0 2) (back_one records small.Queued w))) e
      ∙ sym (back-append records (sent_changes n) (small.Drew 0 2 ∷ small.Queued ∷ []) w)

  -- of five lists in a row the last is taken back first
  module _ (js ks ls ms es : List (Small State Msg Undo)) (w : World State Msg) where
    back_ms : back records (ms ++ es) w ≡ back records ms (back records es w)
    back_ms = back-append records ms es w

    back_ls : back records (ls ++ (ms ++ es)) w ≡ back records ls (back records ms (back records es w))
    back_ls = back-append records ls (ms ++ es) w ∙ ap (back records ls) back_ms

    back_ks : back records (ks ++ (ls ++ (ms ++ es))) w ≡ back records ks (back records ls (back records ms (back records es w)))
    back_ks = back-append records ks (ls ++ (ms ++ es)) w ∙ ap (back records ks) back_ls

    pub back_five : back records (js ++ (ks ++ (ls ++ (ms ++ es)))) w
        ≡ back records js (back records ks (back records ls (back records ms (back records es w))))
    back_five = back-append records js (ks ++ (ls ++ (ms ++ es))) w ∙ ap (back records js) back_ks

    module _ (f : Fits records (js ++ (ks ++ (ls ++ (ms ++ es)))) w) where
      fits_ks : Fits records (ks ++ (ls ++ (ms ++ es))) w
      fits_ks = Fits-end js (ks ++ (ls ++ (ms ++ es))) w f

      fits_ls : Fits records (ls ++ (ms ++ es)) w
      fits_ls = Fits-end ks (ls ++ (ms ++ es)) w fits_ks

      fits_ms : Fits records (ms ++ es) w
      fits_ms = Fits-end ls (ms ++ es) w fits_ls

      pub fifth_fits : Fits records es w
      fifth_fits = Fits-end ms es w fits_ms

      pub fourth_fits : Fits records ms (back records es w)
      fourth_fits = Fits-front records ms es w fits_ms

      pub third_fits : Fits records ls (back records ms (back records es w))
      third_fits = subst (Fits records ls) back_ms (Fits-front records ls (ms ++ es) w fits_ls)

      pub second_fits : Fits records ks (back records ls (back records ms (back records es w)))
      second_fits = subst (Fits records ks) back_ls (Fits-front records ks (ls ++ (ms ++ es)) w fits_ks)

      pub first_fits : Fits records js (back records ks (back records ls (back records ms (back records es w))))
      first_fits = subst (Fits records js) back_ks (Fits-front records js (ks ++ (ls ++ (ms ++ es))) w f)

-- only a reaction, and what is none of the usual changes, is counted
module _ (State Msg Undo : Type 0) where
  count-append : (cs ds : List (Small State Msg Undo)) → count_by is_reaction (cs ++ ds) ≡ count_by is_reaction cs + count_by is_reaction ds
  count-append cs ds = sum_by-append (λ x. cond (is_reaction x) 1 0) cs ds

  count_synced : (o : Option (ℕ × disk.DiskUndo)) → count_by is_reaction (synced_change {State = State} {Msg = Msg} {Undo = Undo} o) ≡ 0
  count_synced None = refl
  count_synced (Some s) = refl

  count_drawn : (o : Option ℕ) → count_by is_reaction (drawn_change {State = State} {Msg = Msg} {Undo = Undo} o) ≡ 0
  count_drawn None = refl
  count_drawn (Some s) = refl

  count_sent : (n : ℕ) → count_by is_reaction (sent_changes {State = State} {Msg = Msg} {Undo = Undo} n) ≡ 0
  count_sent zero = refl
  count_sent (suc n) =
      let a = count_sent n in
      let two : List (Small State Msg Undo) = small.Drew 0 2 ∷ small.Queued ∷ [] in
      let none : count_by is_reaction two ≡ 0 = refl in
      count-append (sent_changes n) two ∙ omega arith

  pub count_changes : (synced : Option (ℕ × disk.DiskUndo)) (drawn : Option ℕ) (acted : Option (ℕ × Undo)) (sent : ℕ) (others : List (Compact State Msg Undo))
      → count_by is_reaction (changes_of synced drawn acted sent others)
      ≡ count_by is_reaction (map {B = Small State Msg Undo} unboxed others) + count_by is_reaction (acted_change {State = State} {Msg = Msg} acted)
  count_changes synced drawn acted sent others =
      let es : List (Small State Msg Undo) = map unboxed others in
      let ms : List (Small State Msg Undo) = sent_changes sent in
      let ls : List (Small State Msg Undo) = acted_change acted in
      let ks : List (Small State Msg Undo) = drawn_change drawn in
      let js : List (Small State Msg Undo) = synced_change synced in
      let a = count-append js (ks ++ (ls ++ (ms ++ es))) in
      let b = count-append ks (ls ++ (ms ++ es)) in
      let c = count-append ls (ms ++ es) in
      let d = count-append ms es in
      let p = count_synced synced in
      let q = count_drawn drawn in
      let r = count_sent sent in
      omega arith
