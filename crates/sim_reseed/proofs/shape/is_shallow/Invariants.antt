use Rattle.std.proofs.Common.{◌≡◌, List, ◌++◌}
use Rattle.toml.specs.View.{members_view}
use Rattle.sim_reseed.specs.Shape as shape
use Rattle.sim_reseed.proofs.Values.{Entry}
use Rattle.sim_reseed.proofs.shape.is_shallow.Given as goal

-- what is left has the shape exactly if the table has it, and stands at the table's end
abbrev pub invariant-loop-value : goal.invariant-loop-value
invariant-loop-value l = record {
  same : shape.is_shallow (members_view l.value-iterator) ≡ shape.is_shallow (members_view l.table.entries);
  end : (done : List Entry) × (l.table.entries ≡ done ++ l.value-iterator);
}
