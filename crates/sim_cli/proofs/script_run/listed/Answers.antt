use Rattle.std.proofs.Common.{◌≡◌, ◌∙◌, ◌++◌, ◌∷◌, [], sym, ap, None, slice_get, rules}
use Rattle.sim_cli.proofs.Fronts.{front_next, front_past}
use Rattle.sim_cli.proofs.script_run.listed.Goals as goal
use Rattle.sim_cli.proofs.script_run.listed.Goals.{in-Some+in_ok-push, in_default}

pub loop-i-preserved : goal.loop-i-preserved
loop-i-preserved c = elim c.match-get.branch [
  | in-Some+in_ok-push w ↦
      let pushed : w.push.new.self.items ≡ c.loop-i.events.items ++ w.in-Some.event ∷ [] = w.in_ok-push.ensures.items in
      rw w.events-is (pushed ∙ ap (λ es. es ++ w.in-Some.event ∷ []) c.loop-i.invariant
      ∙ sym (front_next c.args.list.now c.loop-i.i w.in-Some.event (sym w.in-Some.ensures)))
  | in_default w ↦
      let none : slice_get c.args.list.now c.loop-i.i ≡ None = search rules in
      rw w.events-is (c.loop-i.invariant ∙ sym (front_past c.args.list.now c.loop-i.i none))
]
