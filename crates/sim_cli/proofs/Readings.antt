-- What is read of a scenario's bytes.
use Rattle.std.proofs.Common.{◌≡◌, ◌≢◌, ℕ, List, ◌<◌, ◌≤◌, length, map, refl, sym, ◌∙◌, ap, arith, cond, Bool, true, false, Result, Ok, Err, string_bytes, String, Vec}
use Rattle.std.specs.Prelude.{nat_lt, IfOk}
use Rattle.std.specs.Str.{is_utf8, IsUtf8}
use Rattle.std.proofs.lemmas.Str.{IsUtf8-from_is_utf8, is_utf8-from_IsUtf8}
use Rattle.std.proofs.lemmas.Bool.Decides.{nat_tests}
use Rattle.std.proofs.lemmas.Simd.{map-map}
use Rattle.std.specs.declared.alloc.Global.{Global}
use Rattle.indexmap.specs.IndexMap.{IndexMap, keys}
use Rattle.sim_scenario.specs.Hosts.{names_in}
use Rattle.sim_scenario.specs.Scenario.{Protocol, ScenarioText, Fault, read, text_fault}
use Rattle.sim_scenario.specs.Faults.{fault_of}
use Rattle.sim_scenario.specs.declared.fault.ScenarioFault.{ScenarioFault}
use Rattle.sim_scenario.specs.declared.fault.ScenarioFault.TheVariants as reader
use Rattle.sim_cli.specs.declared.scenario.WasRead.{WasRead}
use Rattle.sim_cli.specs.declared.scenario.WasRead.TheVariants as was
use Rattle.sim_script.specs.Script.{Text}
use Rattle.sim_cli.specs.Play.{read_scenario}
use Rattle.sim_cli.specs.Reads.{Reads, TellsFault}

pub too_long : (protocols : List Protocol) (text : Text) → 65536 < length text → read_scenario protocols text ≡ Err (text_fault 1)
unfolding read_scenario
too_long protocols text h =
    let long : nat_lt 65536 (length text) ≡ true = grind (arith, nat_tests) in
    ap (λ b. cond {A = Result ScenarioText Fault} b (Err (text_fault 1)) (cond (is_utf8 text) (read protocols text) (Err (text_fault 2)))) long

by_utf8 : (protocols : List Protocol) (text : Text) → length text ≤ 65536 → read_scenario protocols text ≡ cond {A = Result ScenarioText Fault} (is_utf8 text) (read protocols text) (Err (text_fault 2))
unfolding read_scenario
by_utf8 protocols text h =
    let short : nat_lt 65536 (length text) ≡ false = grind (arith, nat_tests) in
    ap (λ b. cond {A = Result ScenarioText Fault} b (Err (text_fault 1)) (cond (is_utf8 text) (read protocols text) (Err (text_fault 2)))) short

either : (text : Text) (b : Bool) → is_utf8 text ≡ b → ¬ (IsUtf8 text) → is_utf8 text ≡ false
either text true e n = absurd (n (IsUtf8-from_is_utf8 text e))
either text false e n = e

pub not_text : (protocols : List Protocol) (text : Text) → length text ≤ 65536 → ¬ (IsUtf8 text) → read_scenario protocols text ≡ Err (text_fault 2)
not_text protocols text h n = by_utf8 protocols text h ∙ ap (λ b. cond {A = Result ScenarioText Fault} b (read protocols text) (Err (text_fault 2))) (either text (is_utf8 text) refl n)

pub is_read : (protocols : List Protocol) (text shown : Text) → length text ≤ 65536 → IsUtf8 text → shown ≡ text → read_scenario protocols text ≡ read protocols shown
is_read protocols text shown h u e = by_utf8 protocols text h ∙ ap (λ b. cond {A = Result ScenarioText Fault} b (read protocols text) (Err (text_fault 2))) (is_utf8-from_IsUtf8 text u) ∙ ap (read protocols) (sym e)

-- the line of the fault was told, or there was no memory
pub told : (protocols : List Protocol) (text : Text) (why : Fault) (r : WasRead) → read_scenario protocols text ≡ Err why → TellsFault why r → Reads protocols text r
told protocols text why (was.Scenario s) e t = absurd t
told protocols text why (was.Fault line) e t = record { fault = why; read = e; told = t }
told protocols text why was.NoMemory e t = tt

-- a fault with a number is no want of memory
pub is_fault : (e : ScenarioFault) (number : ℕ) → number ≡ (fault_of e).number → (number ≡ 0 → ⊥) → e ≢ reader.NoMemory
is_fault e number h n = λ m. n (h ∙ ap (λ x. (fault_of x).number) m)

-- its number and its key are those of a fault
pub same_fault : (why : Fault) (number : ℕ) (key : Text) → number ≡ why.number → key ≡ why.key → why ≡ record { number = number; key = key }
same_fault why number key n k =
    let one : record { number = number; key = key } ≡ record { number = why.number; key = key } = ap (λ (x : ℕ). record { number = x; key = key }) n in
    sym (one ∙ ap (λ (y : Text). record { number = why.number; key = y }) k)

-- the keys of the map are the names of the hosts
pub names_of_keys : {A S E : Type 0} (r : Result (Vec (String Global) A) E) (hosts : IndexMap (String Global) ℕ S) →
    IfOk r (λ v. v.items ≡ keys hosts) → IfOk r (λ v. map string_bytes v.items ≡ names_in hosts)
names_of_keys (Ok v) hosts h = ap (map string_bytes) h ∙ map-map string_bytes (λ e. e.0) hosts.entries
names_of_keys (Err e) hosts h = tt
