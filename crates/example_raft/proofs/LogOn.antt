-- The log of a disk, one place after the other.
use Rattle.std.proofs.Common.{ℕ, suc, ◌≡◌, ◌+◌, ◌-◌, ◌<◌, true, false, List, slice_set, refl, ap, arith, ◌∙◌}
use Rattle.example_raft.specs.declared.roles.Entry.{Entry}
use Rattle.example_raft.specs.RaftLog.{entry_on, is_linked, log_from}

module _ (bytes : List ℕ) (before : ℕ) (log : List Entry) where
  step : (place n : ℕ) → is_linked bytes place before ≡ true
      → log_from bytes place (suc n) before log ≡ log_from bytes (place + 1) n (entry_on bytes place).term (slice_set log place (entry_on bytes place))
  unfolding log_from
  step place n linked = rw (log_from, linked)

  end : (place n : ℕ) → is_linked bytes place before ≡ false → log_from bytes place (suc n) before log ≡ (place, log)
  unfolding log_from
  end place n loose = rw (log_from, loose)

  module _ (place : ℕ) (below : place < 64) where
    one_more : log_from bytes place (64 - place) before log ≡ log_from bytes place (suc (64 - (place + 1))) before log
    one_more = let e : 64 - place ≡ suc (64 - (place + 1)) = omega (arith, below) in ap (λ n. log_from bytes place n before log) e

    pub log_from-step : is_linked bytes place before ≡ true
        → log_from bytes place (64 - place) before log
        ≡ log_from bytes (place + 1) (64 - (place + 1)) (entry_on bytes place).term (slice_set log place (entry_on bytes place))
    log_from-step linked = one_more ∙ step place _ linked

    pub log_from-end : is_linked bytes place before ≡ false → log_from bytes place (64 - place) before log ≡ (place, log)
    log_from-end loose = one_more ∙ end place _ loose

  none : (place : ℕ) → log_from bytes place 0 before log ≡ (place, log)
  unfolding log_from
  none place = refl

  pub log_from-all : (place : ℕ) → place ≡ 64 → log_from bytes place (64 - place) before log ≡ (64, log)
  log_from-all place e = rw e (none 64)
