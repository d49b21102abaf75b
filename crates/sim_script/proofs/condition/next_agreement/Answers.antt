use Rattle.std.proofs.Common.{◌≡◌, ◌∷◌, Some, None, false, codes, rules}
use Rattle.std.specs.Str.{bytes_eq}
use Rattle.sim_watch.specs.declared.Term.TheVariants.{Agree}
use Rattle.sim_script.specs.Words.{words, probe}
use Rattle.sim_script.specs.Conditions.{unless_number, agreement}
use Rattle.sim_script.proofs.OneTerm.{agreed}
use Rattle.sim_script.proofs.condition.next_agreement.Goals as goal

pub returns-in_err-number : goal.returns-in_err-number
returns-in_err-number c =
    let names = c.args.names.now in
    let first : words c.args.text.now ≡ c.in_ok-probe.probe.now ∷ words c.in_ok-probe.text.now = search rules in
    let second : words c.in_ok-probe.text.now ≡ c.in_ok-word.word.now ∷ words c.in_ok-word.rest.now = search rules in
    let is : probe names c.in_ok-probe.probe.now ≡ Some c.in_ok-probe-2.probe = search rules in
    let apart : bytes_eq c.in_ok-word.word.now (codes "by") ≡ false = search rules in
    let read : unless_number (Agree c.in_ok-probe-2.probe) (words c.in_ok-probe.text.now) ≡ None = search rules in
    let none : agreement names (words c.args.text.now) ≡ None =
    agreed names (words c.args.text.now) (words c.in_ok-probe.text.now) (words c.in_ok-word.rest.now) c.in_ok-probe.probe.now c.in_ok-word.word.now c.in_ok-probe-2.probe None first second is apart read in
    let gives : c.from_residual-in_err-number.result ≡ None = search rules in
    rw gives none

pub returns-in_ok-number : goal.returns-in_ok-number
returns-in_ok-number c =
    let names = c.args.names.now in
    let first : words c.args.text.now ≡ c.in_ok-probe.probe.now ∷ words c.in_ok-probe.text.now = search rules in
    let second : words c.in_ok-probe.text.now ≡ c.in_ok-word.word.now ∷ words c.in_ok-word.rest.now = search rules in
    let is : probe names c.in_ok-probe.probe.now ≡ Some c.in_ok-probe-2.probe = search rules in
    let apart : bytes_eq c.in_ok-word.word.now (codes "by") ≡ false = search rules in
    let read : unless_number (Agree c.in_ok-probe-2.probe) (words c.in_ok-probe.text.now) ≡ Some (Agree c.in_ok-probe-2.probe c.in_ok-number.number, words c.in_ok-number.rest.now) = search rules in
    agreed names (words c.args.text.now) (words c.in_ok-probe.text.now) (words c.in_ok-word.rest.now) c.in_ok-probe.probe.now c.in_ok-word.word.now c.in_ok-probe-2.probe
    (Some (Agree c.in_ok-probe-2.probe c.in_ok-number.number, words c.in_ok-number.rest.now)) first second is apart read
