use Rattle.std.proofs.Common.{◌+◌, sym, ap, ◌∙◌}
use Rattle.std.specs.Prelude.{◌==◌, count_by}
use Rattle.std.proofs.lemmas.List.Sums.{length-filter}
use Rattle.test_parts.specs.declared.threads.lock.Note.{Note}
use Rattle.test_parts.proofs.threads.lock.PlainKept.turn.Goals as goal

pub returns-clause-number : goal.returns-clause-number
returns-clause-number c =
    let counted = length-filter (λ (e : Note). e.session == c.args.session) c.args.self.now.notes.items in
    ap (λ n. n + 1) (c.notes_of.ensures ∙ (ap (count_by (λ (e : Note). e.session == c.args.session)) c.deref.ensures.value ∙ sym counted))
