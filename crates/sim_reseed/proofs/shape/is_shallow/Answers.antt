use Rattle.std.proofs.Common.{sym, ◌∙◌, string_bytes}
use Rattle.toml.specs.View.{view}
use Rattle.sim_reseed.proofs.Shapes.{value_here, next_end, entry_found}
use Rattle.sim_reseed.proofs.shape.is_shallow.Goals as goal

pub loop-value-preserved : goal.loop-value-preserved
loop-value-preserved c = record {
  same = sym (value_here c.loop-value.value-iterator c.next.new.self _ c.in-Some.ensures.steps (sym c.is_value.ensures.value ∙ c.if-not-is_value.false)) ∙ c.loop-value.invariant.same;
  end = next_end c.args.table.now.entries c.loop-value.value-iterator c.next.new.self _ c.in-Some.ensures.steps c.loop-value.invariant.end;
}

pub returns-then-not-is_value-clause-other : goal.returns-then-not-is_value-clause-other
returns-then-not-is_value-clause-other c = λ _. record {
  key = string_bytes c.in-Some.field-0-0.now;
  at = view c.in-Some.value.now;
  found = entry_found c.args.table.now.entries c.loop-value.value-iterator c.next.new.self _ c.in-Some.ensures.steps c.loop-value.invariant.end c.iter-value-items.ensures.found;
  other = c.is_value.ensures.other c.if-not-is_value.true;
}
