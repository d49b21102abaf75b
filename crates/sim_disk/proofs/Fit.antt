-- Every disk stays within its limits.
use Rattle.std.proofs.Common.{◌≡◌, ℕ, zero, suc, ◌+◌, ◌-◌, ◌^◌, ◌<◌, ◌≤◌, List, [], ◌∷◌, ◌++◌, length, take, drop, ap, sym, ◌∙◌, subst, arith, length-append, length-drop, length-take}
use Rattle.std.proofs.Math.Seq.{take-append_seam}
use Rattle.std.proofs.lemmas.Grind.{common_steps}
use Rattle.sim_disk.specs.Disk.{Write, Disk, DiskUndo, fits, AllFit, IsDisk, laid, laid_at, all_laid, all_kept, kept, kept_len, empty_disk, written, all_asked, synced, crashed}

AllFit-push : (writes : List Write) (w : Write) → AllFit writes → 1 ≤ length w.bytes → length w.bytes ≤ 64 → w.offset + length w.bytes ≤ 4096
    → AllFit (writes ++ w ∷ [])
AllFit-push [] w fit some small within = (some, small, within, tt)
AllFit-push (x ∷ writes) w fit some small within = (fit.0, fit.1, fit.2, AllFit-push writes w fit.3 some small within)

AllFit-take : (n : ℕ) (writes : List Write) → AllFit writes → AllFit (take n writes)
AllFit-take zero [] fit = tt
AllFit-take (suc n) [] fit = tt
AllFit-take zero (x ∷ writes) fit = tt
AllFit-take (suc n) (x ∷ writes) fit = (fit.0, fit.1, fit.2, AllFit-take n writes fit.3)

AllFit-drop : (n : ℕ) (writes : List Write) → AllFit writes → AllFit (drop n writes)
AllFit-drop zero [] fit = tt
AllFit-drop (suc n) [] fit = tt
AllFit-drop zero (x ∷ writes) fit = fit
AllFit-drop (suc n) (x ∷ writes) fit = AllFit-drop n writes fit.3

laid_at_within : (offset : ℕ) (bytes over : List ℕ) → offset + length bytes ≤ 4096 → length over ≤ 4096 → length (laid_at offset bytes over) ≤ 4096
laid_at_within offset [] over ends small = small
laid_at_within offset (b ∷ bytes) over ends small = grind (arith, common_steps)

all_laid_within : (writes : List Write) (over : List ℕ) → AllFit writes → length over ≤ 4096 → length (all_laid over writes) ≤ 4096
all_laid_within [] over fit small = small
all_laid_within (w ∷ writes) over fit small = all_laid_within writes (laid over w) fit.3 (laid_at_within w.offset w.bytes over fit.2 small)

kept_laid_within : (words : List ℕ) (writes : List Write) (over : List ℕ) → AllFit writes → length over ≤ 4096
    → length (all_laid over (all_kept words writes)) ≤ 4096
kept_laid_within [] writes over fit small = small
kept_laid_within (word ∷ words) [] over fit small = small
kept_laid_within (word ∷ words) (w ∷ writes) over fit small =
    let n = kept_len word (length w.bytes) in
    let ends : w.offset + length (take n w.bytes) ≤ 4096 = grind (arith, common_steps, fit.2) in
    kept_laid_within words writes (laid over (kept word w)) fit.3 (laid_at_within w.offset (take n w.bytes) over ends small)

pub IsDisk-empty : IsDisk empty_disk
IsDisk-empty = record { stable = omega arith; writes = tt; few = omega arith; asked = omega arith }

pub IsDisk-written : (offset : ℕ) (bytes : List ℕ) (d : Disk) → IsDisk d
    → 1 ≤ length bytes → length bytes ≤ 64 → offset + length bytes ≤ 4096 → length d.writes < 2 ^ 24
    → IsDisk (written offset bytes d)
IsDisk-written offset bytes d is some small within room =
    let w : Write = record { offset = offset; bytes = bytes } in record {
      stable = is.stable;
      writes = AllFit-push d.writes w is.writes some small within;
      few = omega (arith, length-append d.writes (w ∷ []));
      asked = omega (arith, length-append d.writes (w ∷ []), is.asked);
    }

-- without the last writes, where these were not asked for
pub IsDisk-take : (n : ℕ) (d : Disk) → IsDisk d → d.asked ≤ n → IsDisk (record d { writes = take n d.writes })
IsDisk-take n d is some = record {
  stable = is.stable;
  writes = AllFit-take n d.writes is.writes;
  few = omega (arith, length-take n d.writes, is.few);
  asked = omega (arith, length-take n d.writes, is.asked);
}

pub IsDisk-all_asked : (d : Disk) → IsDisk d → IsDisk (all_asked d)
IsDisk-all_asked d is = record { stable = is.stable; writes = is.writes; few = is.few; asked = omega arith }

pub IsDisk-synced : (count : ℕ) (d : Disk) → IsDisk d → count ≤ d.asked → IsDisk (synced count d)
IsDisk-synced count d is covered = record {
  stable = all_laid_within (take count d.writes) d.stable (AllFit-take count d.writes is.writes) is.stable;
  writes = AllFit-drop count d.writes is.writes;
  few = omega (arith, length-drop count d.writes, is.few);
  asked = omega (arith, length-drop count d.writes, is.asked);
}

pub IsDisk-crashed : (words : List ℕ) (d : Disk) → IsDisk d → IsDisk (crashed words d)
IsDisk-crashed words d is = record {
  stable = kept_laid_within words d.writes d.stable is.writes is.stable;
  writes = tt;
  few = omega arith;
  asked = omega arith;
}

-- where the record of a write that was added fits, there are more writes than were asked for
pub added_fits : (undo : DiskUndo) (d e : Disk) → DiskUndo.Added ≡ undo → d ≡ e → fits undo e → d.asked < length d.writes
added_fits undo d e is same fit =
    let P : DiskUndo → Type 0 = λ u. fits u e in
    let Q : Disk → Type 0 = λ x. x.asked < length x.writes in
    subst Q (sym same) (subst P (sym is) fit)

-- with one more write there are more than were asked for
pub one_added : (d : Disk) (w : Write) (writes : List Write) → IsDisk d → writes ≡ d.writes ++ w ∷ [] → d.asked < length writes
one_added d w writes is added = omega (arith, is.asked, ap (λ (ws : List Write). length ws) added, length-append d.writes (w ∷ []))

-- and without it the disk is as it was
pub without_added : (d : Disk) (w : Write) (writes : List Write) → writes ≡ d.writes ++ w ∷ [] → record d { writes = take (length writes - 1) writes } ≡ d
without_added d w writes added =
    let count : length writes - 1 ≡ length d.writes = omega (arith, ap (λ (ws : List Write). length ws) added, length-append d.writes (w ∷ [])) in
    ap (λ (ws : List Write). record d { writes = ws }) (ap (λ n. take n writes) count ∙ ap (take (length d.writes)) added ∙ take-append_seam d.writes (w ∷ []))
