use Rattle.std.proofs.Common.{rules}
use Rattle.std.proofs.lemmas.Iterator.Search.{any_from_yields_List}
use Rattle.std.proofs.lemmas.Iterator.Splits.{YieldsList-from_lines}
use Rattle.sim_lines.specs.Cut.{is_marker}
use Rattle.sim_reseed.proofs.joining.has_marker.Goals as goal

pub returns : goal.returns
returns c = any_from_yields_List is_marker _ _ c.any.result c.any.ensures.ran (YieldsList-from_lines c.args.text.now c.lines.ensures.rest) (λ x b q k. search rules)
