-- What a step of the reader answers.
use Rattle.std.proofs.Common.{◌≡◌, Result, Ok, Err, sym, ap, ◌∙◌}
use Rattle.std.specs.Prelude.{IfOk, IfErr, IsErrAnd, ◌≢◌}
use Rattle.sim_scenario.specs.declared.fault.ScenarioFault.{ScenarioFault}
use Rattle.sim_scenario.specs.declared.fault.ScenarioFault.TheVariants as reader
use Rattle.sim_scenario.specs.Faults.{Gives, fault_of}
use Rattle.sim_scenario.specs.Scenario.{Fault}

-- an error that was passed on
pub Gives-passed : {X Y : Type 0} (view : X → Y) (r : Result X ScenarioFault) (e : ScenarioFault) (said : Result Y Fault) → IsErrAnd r (λ x. x ≡ e)
    → (e ≢ reader.NoMemory → said ≡ Err (fault_of e)) → Gives view r said
Gives-passed view (Ok x) e said h k = absurd h
Gives-passed view (Err x) e said h k = λ other. k (λ same. other (h ∙ same)) ∙ ap (λ f. Err (fault_of f)) (sym h)

pub Gives-ok : {X Y : Type 0} (view : X → Y) (r : Result X ScenarioFault) (said : Result Y Fault) → Gives view r said → IfOk r (λ x. said ≡ Ok (view x))
Gives-ok view (Ok x) said h = h
Gives-ok view (Err e) said h = tt

pub Gives-err : {X Y : Type 0} (view : X → Y) (r : Result X ScenarioFault) (said : Result Y Fault) → Gives view r said → IfErr r (λ e. e ≢ reader.NoMemory → said ≡ Err (fault_of e))
Gives-err view (Ok x) said h = tt
Gives-err view (Err e) said h = h

pub IfOk-weaker : {X E : Type 0} {P Q : X → Type 0} (r : Result X E) → ((x : X) → P x → Q x) → IfOk r P → IfOk r Q
IfOk-weaker (Ok x) f h = f x h
IfOk-weaker (Err e) f h = tt
