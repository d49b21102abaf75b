use Rattle.std.proofs.Common.{sym, ◌∙◌, string_bytes}
use Rattle.toml.specs.View.{view}
use Rattle.sim_reseed.proofs.Shapes.{plain_here, next_end, entry_found}
use Rattle.sim_reseed.proofs.shape.are_plain.Goals as goal

pub loop-value-preserved : goal.loop-value-preserved
loop-value-preserved c = record {
  same = sym (plain_here c.loop-value.value-iterator c.next.new.self _ c.in-Some.ensures.steps (sym c.is_plain.ensures ∙ c.if-not-is_plain.false)) ∙ c.loop-value.invariant.same;
  end = next_end c.args.table.now.entries c.loop-value.value-iterator c.next.new.self _ c.in-Some.ensures.steps c.loop-value.invariant.end;
}

pub returns-then-not-is_plain-clause-other : goal.returns-then-not-is_plain-clause-other
returns-then-not-is_plain-clause-other c = λ _. record {
  key = string_bytes c.in-Some.field-0-0.now;
  at = view c.in-Some.value.now;
  found = entry_found c.args.table.now.entries c.loop-value.value-iterator c.next.new.self _ c.in-Some.ensures.steps c.loop-value.invariant.end c.iter-value-items.ensures.found;
  other = sym c.is_plain.ensures ∙ c.if-not-is_plain.true;
}
