use Rattle.std.proofs.Common.{rules, arith, ◌≡◌, ◌∙◌, ◌+◌, ◌<◌, ◌++◌, ap, sym, None, length, string_bytes}
use Rattle.std.proofs.lemmas.List.{take_all}
use Rattle.sim_watch.specs.Condition.{alternatives}
use Rattle.sim_input.specs.declared.events.LineError.TheVariants.{NoLine}
use Rattle.sim_input.specs.Condition.{condition_text}
use Rattle.sim_input.proofs.Joined.{first_text, one_more, none_at, rest_none, rest_past}
use Rattle.sim_input.proofs.condition.push_terms.Goals as goal

pub returns-in_err-push_term-clause-refused : goal.returns-in_err-push_term-clause-refused
returns-in_err-push_term-clause-refused c =
    let names = c.args.names.now in
    let terms = c.args.terms.now in
    let some : 0 < length terms = omega (arith, c.in-len1-up.len_at_least) in
    let refused : c.in_err-push_term.field-0.0 ≡ NoLine → condition_text names (alternatives terms) ≡ None =
    λ e. none_at names terms _ 0 some (c.in_err-push_term.ensures.refused e) in
    search (rules, refused)

pub loop-joined-init : goal.loop-joined-init
loop-joined-init c =
    let some : 0 < length c.args.terms.now = omega (arith, c.in-len1-up.len_at_least) in
    let first = c.in_ok-push_term.ensures.written in
    (first.0, first_text c.args.names.now c.args.terms.now _ some ∙ first.1, first.2)

pub returns-in_err-push_term-2-clause-refused : goal.returns-in_err-push_term-2-clause-refused
returns-in_err-push_term-2-clause-refused c =
    let refused : c.in_err-push_term-2.field-0.0 ≡ NoLine → condition_text c.args.names.now (alternatives c.args.terms.now) ≡ None =
    λ e. rest_none c.args.names.now c.args.terms.now _ c.loop-joined.joined-index c.loop-joined-test.true (c.in_err-push_term-2.ensures.refused e) in
    search (rules, refused)

pub loop-joined-preserved : goal.loop-joined-preserved
loop-joined-preserved c =
    let term = c.in_ok-push_term-2.ensures.written in
    let pushed : string_bytes c.push_str.new.self ≡ string_bytes c.loop-joined.text ++ c.joint_of.result.now = search rules in
    one_more c.args.names.now c.args.terms.now _ c.loop-joined.joined-index (string_bytes c.args.text.now) (string_bytes c.loop-joined.text) c.joint_of.result.now
    (string_bytes c.push_term-in-loop-joined.new.text) c.loop-joined-test.true c.loop-joined.invariant c.joint_of.ensures
    (term.0, term.1, term.2 ∙ ap (λ t. t ++ term.0) pushed)

pub returns-clause-written : goal.returns-clause-written
returns-clause-written c =
    let all = c.loop-joined.invariant in
    let past = rest_past c.args.terms.now c.loop-joined.joined-index c.loop-joined-test.false in
    (all.0, ap (λ js. condition_text c.args.names.now (alternatives js)) (sym (take_all (c.loop-joined.joined-index + 1) c.args.terms.now past)) ∙ all.1, all.2)
