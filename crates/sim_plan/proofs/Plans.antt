-- What a forecast gives next.
use Rattle.std.proofs.Common.{◌≡◌, ◌==◌, if◌then◌else◌, ℕ, zero, suc, ◌+◌, ◌-◌, ◌/◌, ◌<◌, ◌%◌, ◌^◌, Option, None, Some, List, [], ◌∷◌, replicate, refl, sym, ap, ◌∙◌, arith}
use Rattle.std.proofs.Math.Nat.{mod-eq_of_lt}
use Rattle.rand_chacha.specs.ChaCha.{ChaCha, key_of, of_seed, word_at, next_word}
use Rattle.sim_streams.specs.Word.{word}
use Rattle.sim_events.specs.declared.Event.{Event}
use Rattle.sim_events.specs.declared.Event.TheVariants as event
use Rattle.sim_events.specs.declared.Fault.{Fault}
use Rattle.sim_events.specs.Scenario.{Scenario}
use Rattle.sim_plan.specs.declared.plan.Plan.{Plan}
use Rattle.sim_plan.specs.declared.owed.Owed.{Owed}
use Rattle.sim_plan.specs.declared.owed.Owed.TheVariants.{Nothing}
use Rattle.sim_plan.specs.declared.forecast.Forecast.{Forecast}
use Rattle.sim_plan.specs.Planned.{planned_by, planned_from, planned_events, planned, quiet_end, struck, PlansAlike}
use Rattle.sim_plan.specs.Owing.{healings}
use Rattle.sim_plan.specs.Forecasting.{yet_planned}

-- without healings a quiet end is its steps
quiet_rest : (q : ℕ) → quiet_end q [] ≡ replicate q event.Step
quiet_rest zero = refl
quiet_rest (suc q) = refl

quiet_more : (q : ℕ) → (q ≡ 0 → ⊥) → quiet_end q [] ≡ event.Step ∷ quiet_end (q - 1) []
quiet_more zero some = absurd (some refl)
quiet_more (suc q) some =
    let less : suc q - 1 ≡ q = omega arith in
    ap {B = List Event} (λ (n : ℕ). event.Step ∷ replicate n event.Step) (sym less) ∙ ap (λ (es : List Event). event.Step ∷ es) (sym (quiet_rest (suc q - 1)))

module _ (words : ℕ → ℕ) (servers hosts : ℕ) (spacing : Option ℕ) (quiet : ℕ) where
  nothing_planned : (p n : ℕ) (owed : List Fault) → n ≡ 0 → planned_from words servers hosts spacing quiet p n owed ≡ quiet_end quiet owed
  nothing_planned p n owed none = ap (λ (k : ℕ). planned_from words servers hosts spacing quiet p k owed) none

  planned_more : (p n : ℕ) (owed : List Fault) → 0 < n
      → planned_from words servers hosts spacing quiet p n owed
      ≡ (planned_by servers hosts spacing (words p) owed).0 ∷ planned_from words servers hosts spacing quiet (p + 1) (n - 1) (planned_by servers hosts spacing (words p) owed).1
  planned_more p zero owed some = absurd (omega arith)
  planned_more p (suc n) owed some =
      let less : suc n - 1 ≡ n = omega arith in
      ap {B = List Event} (λ (k : ℕ). (planned_by servers hosts spacing (words p) owed).0 ∷ planned_from words servers hosts spacing quiet (p + 1) k (planned_by servers hosts spacing (words p) owed).1) (sym less)

-- without a spacing the words do not matter
steps_alike : (words : ℕ → ℕ) (servers hosts quiet p q n : ℕ) (owed : List Fault)
    → planned_from words servers hosts None quiet p n owed ≡ planned_from words servers hosts None quiet q n owed
steps_alike words servers hosts quiet p q zero owed = refl
steps_alike words servers hosts quiet p q (suc n) owed = ap (λ (es : List Event). event.Step ∷ es) (steps_alike words servers hosts quiet (p + 1) (q + 1) n owed)

-- a planned step, which draws no word
pub step_planned : (f : Forecast) → f.spacing ≡ None → 0 < f.left → yet_planned f ≡ event.Step ∷ yet_planned (record f { left = f.left - 1 })
step_planned f plain some =
    let ws : ℕ → ℕ = word_at 10 f.rng.key f.rng.stream in
    let o : List Fault = healings f.owed in
    ap (λ (s : Option ℕ). planned_from ws f.servers f.hosts s f.quiet f.rng.word_pos f.left o) plain
    ∙ planned_more ws f.servers f.hosts None f.quiet f.rng.word_pos f.left o some
    ∙ ap (λ (es : List Event). event.Step ∷ es) (steps_alike ws f.servers f.hosts f.quiet (f.rng.word_pos + 1) f.rng.word_pos (f.left - 1) o)
    ∙ ap (λ (s : Option ℕ). event.Step ∷ planned_from ws f.servers f.hosts s f.quiet f.rng.word_pos (f.left - 1) o) (sym plain)

-- a step of the quiet end
pub quiet_step : (f : Forecast) → f.left ≡ 0 → f.owed ≡ Nothing → (f.quiet ≡ 0 → ⊥) → yet_planned f ≡ event.Step ∷ yet_planned (record f { quiet = f.quiet - 1 })
quiet_step f none nothing some =
    let ws : ℕ → ℕ = word_at 10 f.rng.key f.rng.stream in
    let nil : healings f.owed ≡ [] = ap healings nothing in
    nothing_planned ws f.servers f.hosts f.spacing f.quiet f.rng.word_pos f.left (healings f.owed) none
    ∙ ap (quiet_end f.quiet) nil ∙ quiet_more f.quiet some
    ∙ ap (λ (o : List Fault). event.Step ∷ quiet_end (f.quiet - 1) o) (sym nil)
    ∙ ap (λ (es : List Event). event.Step ∷ es) (sym (nothing_planned ws f.servers f.hosts f.spacing (f.quiet - 1) f.rng.word_pos f.left (healings f.owed) none))

-- the next word, and the generator after it
next_word_is : (w : ℕ) (g h : ChaCha) → g.word_pos + 1 < 2 ^ 68 → ◌≡◌ {A = ℕ × ChaCha} (w, h) (next_word 10 g)
    → (w ≡ word_at 10 g.key g.stream g.word_pos) × (h ≡ record { key = g.key; stream = g.stream; word_pos = g.word_pos + 1 })
next_word_is w g h small next =
    let m : (g.word_pos + 1) % 2 ^ 68 ≡ g.word_pos + 1 = mod-eq_of_lt small in (
      ap (λ (x : ℕ × ChaCha). x.0) next,
      ap (λ (x : ℕ × ChaCha). x.1) next ∙ ap (λ (q : ℕ). let r : ChaCha = record { key = g.key; stream = g.stream; word_pos = q } in r) m,
    )

-- a word that the spacing divides plans a fault or a healing
pub planned_struck : (servers hosts spacing w : ℕ) (owed : List Fault) → w % spacing ≡ 0
    → struck servers hosts (w / spacing) owed ≡ planned_by servers hosts (Some spacing) w owed
planned_struck servers hosts spacing w owed divides =
    sym (ap {B = Event × List Fault} (λ (k : ℕ). if k == 0 then struck servers hosts (w / spacing) owed else (event.Step, owed)) divides)

-- an event that a word plans
pub word_plans : (f : Forecast) (spacing w : ℕ) (h : ChaCha) (e : Event) (owed : Owed) → f.spacing ≡ Some spacing → f.rng.word_pos + f.left < 2 ^ 68 → 0 < f.left
    → ◌≡◌ {A = ℕ × ChaCha} (w, h) (next_word 10 f.rng)
    → e ≡ (planned_by f.servers f.hosts (Some spacing) w (healings f.owed)).0
    → healings owed ≡ (planned_by f.servers f.hosts (Some spacing) w (healings f.owed)).1
    → yet_planned f ≡ e ∷ yet_planned (record { rng = h; servers = f.servers; hosts = f.hosts; spacing = f.spacing; left = f.left - 1; quiet = f.quiet; owed = owed })
word_plans f spacing w h e owed spaced small some next is later =
    let ws : ℕ → ℕ = word_at 10 f.rng.key f.rng.stream in
    let o : List Fault = healings f.owed in
    let n = next_word_is w f.rng h (omega (arith, small, some)) next in
    planned_more ws f.servers f.hosts f.spacing f.quiet f.rng.word_pos f.left o some
    ∙ ap {B = List Event} (λ (x : ℕ). (planned_by f.servers f.hosts f.spacing x o).0 ∷ planned_from ws f.servers f.hosts f.spacing f.quiet (f.rng.word_pos + 1) (f.left - 1) (planned_by f.servers f.hosts f.spacing x o).1) (sym n.0)
    ∙ ap (λ (x : Event). x ∷ planned_from ws f.servers f.hosts f.spacing f.quiet (f.rng.word_pos + 1) (f.left - 1) (planned_by f.servers f.hosts f.spacing w o).1) (sym (is ∙ ap (λ (s : Option ℕ). (planned_by f.servers f.hosts s w o).0) (sym spaced)))
    ∙ ap (λ (x : List Fault). e ∷ planned_from ws f.servers f.hosts f.spacing f.quiet (f.rng.word_pos + 1) (f.left - 1) x) (sym (later ∙ ap (λ (s : Option ℕ). (planned_by f.servers f.hosts s w o).1) (sym spaced)))
    ∙ ap (λ (g : ChaCha). e ∷ planned_from (word_at 10 g.key g.stream) f.servers f.hosts f.spacing f.quiet g.word_pos (f.left - 1) (healings owed)) (sym n.1)

-- the generator stands at the first word of the stream
pub forecast_is : (s : Scenario) (plan : Plan) (seed : List ℕ) (g h : ChaCha) (servers hosts : ℕ) → seed ≡ s.seed → g ≡ of_seed seed
    → h ≡ record { key = g.key; stream = 34; word_pos = g.word_pos } → servers ≡ s.setup.servers → hosts ≡ s.setup.hosts
    → planned_from (word_at 10 h.key h.stream) servers hosts plan.spacing plan.quiet h.word_pos plan.events [] ≡ planned s plan
unfolding word planned_events
forecast_is s plan seed g h servers hosts own made set a b =
    ap (λ (x : ChaCha). planned_from (word_at 10 x.key x.stream) servers hosts plan.spacing plan.quiet x.word_pos plan.events [])
    (set ∙ ap (λ (x : ChaCha). let r : ChaCha = record { key = x.key; stream = 34; word_pos = x.word_pos } in r) made)
    ∙ ap (λ (x : List ℕ). planned_from (word_at 10 (key_of x) 34) servers hosts plan.spacing plan.quiet 0 plan.events []) own
    ∙ ap (λ (x : ℕ). planned_from (word_at 10 (key_of s.seed) 34) x hosts plan.spacing plan.quiet 0 plan.events []) a
    ∙ ap (λ (x : ℕ). planned_from (word_at 10 (key_of s.seed) 34) s.setup.servers x plan.spacing plan.quiet 0 plan.events []) b

-- nothing else of a scenario and a plan is looked at
pub plans_alike : (s : Scenario) (plan : Plan) → PlansAlike s plan
unfolding planned_events
plans_alike s plan t other a b c d e f =
    ap (λ (x : List ℕ). planned_from (word x 34) t.setup.servers t.setup.hosts other.spacing other.quiet 0 other.events []) a
    ∙ ap (λ (x : ℕ). planned_from (word s.seed 34) x t.setup.hosts other.spacing other.quiet 0 other.events []) b
    ∙ ap (λ (x : ℕ). planned_from (word s.seed 34) s.setup.servers x other.spacing other.quiet 0 other.events []) c
    ∙ ap (λ (x : Option ℕ). planned_from (word s.seed 34) s.setup.servers s.setup.hosts x other.quiet 0 other.events []) d
    ∙ ap (λ (x : ℕ). planned_from (word s.seed 34) s.setup.servers s.setup.hosts plan.spacing other.quiet 0 x []) e
    ∙ ap (λ (x : ℕ). planned_from (word s.seed 34) s.setup.servers s.setup.hosts plan.spacing x 0 plan.events []) f
