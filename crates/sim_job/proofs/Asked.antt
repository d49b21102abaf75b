-- What the getters say of the rows.
use Rattle.std.proofs.Common.{◌≡◌, ◌∙◌, ap, ◌≤◌, arith, sym, refl, ℕ, Bool, true, false, List, Option, Some, None, codes}
use Rattle.std.specs.Prelude.{MatchOption, Result, Ok, Err, unwrap_or}
use Rattle.std.specs.Result.{result_ok}
use Rattle.std.specs.Str.{bytes_eq}
use Rattle.std.specs.Str.Parse.{ParsesUnsigned, digits_value, without_leading_plus}
use Rattle.clap.specs.Words.{Row, Text, ReadsOne, TriesOne, one_of, one_text, rows_of}
use Rattle.clap.specs.declared.parser.matches.Found.{Found}
use Rattle.clap.proofs.WalkLemmas.{one_text-rows}
use Rattle.sim_job.specs.CommandLine.{Asks, HasFewWorkers, HasFlag, HasNumber, HasOption, HasTeam, HasFaultPlan, HasWorkers}
use Rattle.sim_job.specs.declared.wanted.Team.{Team}
use Rattle.sim_job.specs.declared.wanted.FaultPlan.{FaultPlan}
use Rattle.sim_job.specs.declared.wanted.Job.{Job}
use Rattle.sim_job.specs.declared.wanted.Job.TheVariants as job

module _ {E : Type 0} (G : Text → Result ℕ E → Type 0) (only : (t : Text) (x : Result ℕ E) → G t x → ParsesUnsigned 64 10 t x) where
  read_at : (id : Text) (rows : List Row) (t : Text) → one_of id rows ≡ Some t → (r : Option ℕ) → ReadsOne G t r
      → MatchOption r ((n : ℕ) → ¬ HasNumber id rows n) (HasNumber id rows)
  read_at id rows t there (Some v) h = (t, there, only t (Ok v) h)
  read_at id rows t there None h = λ n x.
      let same : Some t ≡ Some x.0 = sym there ∙ x.1 in
      let is : t ≡ x.0 = ap (λ (o : Option Text). unwrap_or o t) same in
      only t (Err h.0) h.1 (rw is x.2.0)

  pub number_read : (f : Found) (id : Text) (r : Option ℕ) → (one_text f id ≡ None → r ≡ None)
      → ((t : Text) → one_text f id ≡ Some t → ReadsOne G t r) → MatchOption r ((n : ℕ) → ¬ HasNumber id (rows_of f) n) (HasNumber id (rows_of f))
  number_read f id r none value = go (one_of id (rows_of f)) refl
    where
      go : (o : Option Text) → one_of id (rows_of f) ≡ o → MatchOption r ((n : ℕ) → ¬ HasNumber id (rows_of f) n) (HasNumber id (rows_of f))
      go None e = rw (none (one_text-rows f id ∙ e)) (λ n x. let bad : None ≡ Some x.0 = sym e ∙ x.1 in cc)
      go (Some t) e = read_at id (rows_of f) t e r (value t (one_text-rows f id ∙ e))

  tried_at : (id : Text) (rows : List Row) (t : Text) → one_of id rows ≡ Some t → (r : Result (Option ℕ) E) → TriesOne G t r
      → MatchOption (result_ok r) ((n : Option ℕ) → ¬ HasOption id rows n) (HasOption id rows)
  tried_at id rows t there (Ok (Some v)) h = (t, there, only t (Ok v) h)
  tried_at id rows t there (Ok None) h = absurd h
  tried_at id rows t there (Err why) h = λ o. not_read o
    where
      not_read : (o : Option ℕ) → ¬ HasOption id rows o
      not_read None x = let bad : Some t ≡ None = sym there ∙ x in cc
      not_read (Some n) x =
          let same : Some t ≡ Some x.0 = sym there ∙ x.1 in
          let is : t ≡ x.0 = ap (λ (o : Option Text). unwrap_or o t) same in
          only t (Err why) h (rw is x.2.0)

  -- the option that a try to read it gives, and none where the try failed
  pub option_read : (f : Found) (id : Text) (r : Result (Option ℕ) E) → (one_text f id ≡ None → r ≡ Ok None)
      → ((t : Text) → one_text f id ≡ Some t → TriesOne G t r) → MatchOption (result_ok r) ((n : Option ℕ) → ¬ HasOption id (rows_of f) n) (HasOption id (rows_of f))
  option_read f id r none value = go (one_of id (rows_of f)) refl
    where
      go : (o : Option Text) → one_of id (rows_of f) ≡ o → MatchOption (result_ok r) ((n : Option ℕ) → ¬ HasOption id (rows_of f) n) (HasOption id (rows_of f))
      go None e = rw (none (one_text-rows f id ∙ e)) e
      go (Some t) e = tried_at id (rows_of f) t e r (value t (one_text-rows f id ∙ e))

-- a value is read as one number
same_number : (id : Text) (rows : List Row) (n m : ℕ) → HasNumber id rows n → HasNumber id rows m → n ≡ m
same_number id rows n m x y =
    let both : Some x.0 ≡ Some y.0 = sym x.1 ∙ y.1 in
    let same : x.0 ≡ y.0 = ap (λ (o : Option Text). unwrap_or o x.0) both in
    x.2.1 ∙ (ap (λ t. digits_value 10 (without_leading_plus t)) same ∙ sym y.2.1)

-- a flag is read from its value
pub flag_read : (f : Found) (id : Text) (b : Bool) → (one_text f id ≡ None → b ≡ false) → (one_text f id ≡ Some (codes "true") → b ≡ true)
    → (one_text f id ≡ Some (codes "false") → b ≡ false) → HasFlag id (rows_of f) b
flag_read f id b absent set unset = record {
  yes = λ h. set (one_text-rows f id ∙ h);
  no = λ h. unset (one_text-rows f id ∙ h);
  none = λ h. absent (one_text-rows f id ∙ h);
}

-- two names differ
apart : (a b : Text) → a ≡ b → bytes_eq a b ≡ false → bytes_eq b b ≡ true → ⊥
apart a b same off on = let bad : false ≡ true = sym off ∙ ap (λ (t : Text). bytes_eq t b) same ∙ on in cc

module _ (rows : List Row) where
  -- without a number of workers, or with another than 1 to 16, there are no workers
  pub no_number : ((n : ℕ) → ¬ HasNumber (codes "workers") rows n) → (n : ℕ) → ¬ HasWorkers rows n
  no_number none n h = none n h.0

  pub out_of_range : (m : ℕ) → HasNumber (codes "workers") rows m → ((1 ≤ m) → (m ≤ 16) → ⊥) → (n : ℕ) → ¬ HasWorkers rows n
  out_of_range m is outside n h =
      let same = same_number (codes "workers") rows n m h.0 is in
      let low = h.1 in
      let high = h.2 in
      outside (omega arith) (omega arith)

  -- without their number there is no team, and without one of theirs no plan
  pub no_team : ((n : ℕ) → ¬ HasWorkers rows n) → (team : Team) → ¬ HasTeam rows team
  no_team none team h = none team.workers h.workers

  pub no_faults : ((n : Option ℕ) → ¬ HasOption (codes "faults") rows n) → (plan : FaultPlan) → ¬ HasFaultPlan rows plan
  no_faults none plan h = none plan.faults h.faults

  pub no_quiet : ((n : ℕ) → ¬ HasNumber (codes "quiet") rows n) → (plan : FaultPlan) → ¬ HasFaultPlan rows plan
  no_quiet none plan h = none plan.quiet h.quiet

  -- a subcommand asks for no job where there can be no values for it
  not_search : ((team : Team) (lo hi : ℕ) → HasTeam rows team → HasNumber (codes "lo") rows lo → HasNumber (codes "hi") rows hi → ⊥) → (asked : Job) → ¬ Asks (codes "search") rows asked
  not_search none (job.Play strict) h = apart (codes "search") (codes "play") h.0 refl refl
  not_search none (job.Search team strict lo hi cond) h = none team lo hi h.1 h.3 h.4
  not_search none (job.Sweep team plan at_end script strict json first count events cond) h = apart (codes "search") (codes "sweep") h.0 refl refl
  not_search none (job.Script plan seed events) h = apart (codes "search") (codes "script") h.0 refl refl
  not_search none (job.Shrink progress cond) h = apart (codes "search") (codes "shrink") h.0 refl refl
  not_search none (job.Log from to json) h = apart (codes "search") (codes "log") h.0 refl refl
  not_search none (job.Page title watch) h = apart (codes "search") (codes "page") h.0 refl refl
  not_search none job.Walk h = apart (codes "search") (codes "walk") h refl refl

  not_sweep : ((team : Team) (plan : FaultPlan) (first count events : ℕ) → HasTeam rows team → HasFaultPlan rows plan → HasNumber (codes "first") rows first → HasNumber (codes "count") rows count → HasNumber (codes "events") rows events → ⊥) → (asked : Job) → ¬ Asks (codes "sweep") rows asked
  not_sweep none (job.Play strict) h = apart (codes "sweep") (codes "play") h.0 refl refl
  not_sweep none (job.Search team strict lo hi cond) h = apart (codes "sweep") (codes "search") h.0 refl refl
  not_sweep none (job.Sweep team plan at_end script strict json first count events cond) h = none team plan first count events h.1 h.2 h.7 h.8 h.9
  not_sweep none (job.Script plan seed events) h = apart (codes "sweep") (codes "script") h.0 refl refl
  not_sweep none (job.Shrink progress cond) h = apart (codes "sweep") (codes "shrink") h.0 refl refl
  not_sweep none (job.Log from to json) h = apart (codes "sweep") (codes "log") h.0 refl refl
  not_sweep none (job.Page title watch) h = apart (codes "sweep") (codes "page") h.0 refl refl
  not_sweep none job.Walk h = apart (codes "sweep") (codes "walk") h refl refl

  not_script : ((plan : FaultPlan) (seed events : ℕ) → HasFaultPlan rows plan → HasNumber (codes "seed") rows seed → HasNumber (codes "events") rows events → ⊥) → (asked : Job) → ¬ Asks (codes "script") rows asked
  not_script none (job.Play strict) h = apart (codes "script") (codes "play") h.0 refl refl
  not_script none (job.Search team strict lo hi cond) h = apart (codes "script") (codes "search") h.0 refl refl
  not_script none (job.Sweep team plan at_end script strict json first count events cond) h = apart (codes "script") (codes "sweep") h.0 refl refl
  not_script none (job.Script plan seed events) h = none plan seed events h.1 h.2 h.3
  not_script none (job.Shrink progress cond) h = apart (codes "script") (codes "shrink") h.0 refl refl
  not_script none (job.Log from to json) h = apart (codes "script") (codes "log") h.0 refl refl
  not_script none (job.Page title watch) h = apart (codes "script") (codes "page") h.0 refl refl
  not_script none job.Walk h = apart (codes "script") (codes "walk") h refl refl

  not_log : ((from to : Option ℕ) → HasOption (codes "from") rows from → HasOption (codes "to") rows to → ⊥) → (asked : Job) → ¬ Asks (codes "log") rows asked
  not_log none (job.Play strict) h = apart (codes "log") (codes "play") h.0 refl refl
  not_log none (job.Search team strict lo hi cond) h = apart (codes "log") (codes "search") h.0 refl refl
  not_log none (job.Sweep team plan at_end script strict json first count events cond) h = apart (codes "log") (codes "sweep") h.0 refl refl
  not_log none (job.Script plan seed events) h = apart (codes "log") (codes "script") h.0 refl refl
  not_log none (job.Shrink progress cond) h = apart (codes "log") (codes "shrink") h.0 refl refl
  not_log none (job.Log from to json) h = none from to h.1 h.2
  not_log none (job.Page title watch) h = apart (codes "log") (codes "page") h.0 refl refl
  not_log none job.Walk h = apart (codes "log") (codes "walk") h refl refl

  -- so where one of them is missing
  pub no_team_to_search : ((team : Team) → ¬ HasTeam rows team) → (asked : Job) → ¬ Asks (codes "search") rows asked
  no_team_to_search none = not_search (λ team lo hi a b d. none team a)

  pub no_lo : ((n : ℕ) → ¬ HasNumber (codes "lo") rows n) → (asked : Job) → ¬ Asks (codes "search") rows asked
  no_lo none = not_search (λ team lo hi a b d. none lo b)

  pub no_hi : ((n : ℕ) → ¬ HasNumber (codes "hi") rows n) → (asked : Job) → ¬ Asks (codes "search") rows asked
  no_hi none = not_search (λ team lo hi a b d. none hi d)

  pub no_team_to_sweep : ((team : Team) → ¬ HasTeam rows team) → (asked : Job) → ¬ Asks (codes "sweep") rows asked
  no_team_to_sweep none = not_sweep (λ team plan first count events a b d e f. none team a)

  pub no_fault_plan_to_sweep : ((plan : FaultPlan) → ¬ HasFaultPlan rows plan) → (asked : Job) → ¬ Asks (codes "sweep") rows asked
  no_fault_plan_to_sweep none = not_sweep (λ team plan first count events a b d e f. none plan b)

  pub no_first : ((n : ℕ) → ¬ HasNumber (codes "first") rows n) → (asked : Job) → ¬ Asks (codes "sweep") rows asked
  no_first none = not_sweep (λ team plan first count events a b d e f. none first d)

  pub no_count : ((n : ℕ) → ¬ HasNumber (codes "count") rows n) → (asked : Job) → ¬ Asks (codes "sweep") rows asked
  no_count none = not_sweep (λ team plan first count events a b d e f. none count e)

  pub no_events_to_sweep : ((n : ℕ) → ¬ HasNumber (codes "events") rows n) → (asked : Job) → ¬ Asks (codes "sweep") rows asked
  no_events_to_sweep none = not_sweep (λ team plan first count events a b d e f. none events f)

  pub no_fault_plan_to_script : ((plan : FaultPlan) → ¬ HasFaultPlan rows plan) → (asked : Job) → ¬ Asks (codes "script") rows asked
  no_fault_plan_to_script none = not_script (λ plan seed events a b d. none plan a)

  pub no_seed : ((n : ℕ) → ¬ HasNumber (codes "seed") rows n) → (asked : Job) → ¬ Asks (codes "script") rows asked
  no_seed none = not_script (λ plan seed events a b d. none seed b)

  pub no_events_to_script : ((n : ℕ) → ¬ HasNumber (codes "events") rows n) → (asked : Job) → ¬ Asks (codes "script") rows asked
  no_events_to_script none = not_script (λ plan seed events a b d. none events d)

  pub no_from : ((n : Option ℕ) → ¬ HasOption (codes "from") rows n) → (asked : Job) → ¬ Asks (codes "log") rows asked
  no_from none = not_log (λ from to a b. none from a)

  pub no_to : ((n : Option ℕ) → ¬ HasOption (codes "to") rows n) → (asked : Job) → ¬ Asks (codes "log") rows asked
  no_to none = not_log (λ from to a b. none to b)

-- the workers of a job that is asked are few
pub asks_few : (name : Text) (rows : List Row) (asked : Job) → Asks name rows asked → HasFewWorkers asked
asks_few name rows (job.Play strict) h = tt
asks_few name rows (job.Search team strict lo hi cond) h = (h.1.workers.1, h.1.workers.2)
asks_few name rows (job.Sweep team plan at_end script strict json first count events cond) h = (h.1.workers.1, h.1.workers.2)
asks_few name rows (job.Script plan seed events) h = tt
asks_few name rows (job.Shrink progress cond) h = tt
asks_few name rows (job.Log from to json) h = tt
asks_few name rows (job.Page title watch) h = tt
asks_few name rows job.Walk h = tt
