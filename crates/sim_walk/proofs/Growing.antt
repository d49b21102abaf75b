-- A writer that grows and grows again has grown.
use Rattle.std.specs.Prelude.{ℕ, List, [], ◌++◌, Option, None, Some}
use Rattle.std.proofs.Common.{ap, ◌∙◌, append_assoc}
use Rattle.sim_walk.specs.Growth.{Grows}

pub grows_on : (a b c : Option (List ℕ)) → Grows a b → Grows b c → Grows a c
grows_on None b c g h = ([], tt)
grows_on (Some xs) None c g h = absurd g.1
grows_on (Some xs) (Some ys) None g h = absurd h.1
grows_on (Some xs) (Some ys) (Some zs) g h = (g.0 ++ h.0, h.1 ∙ (ap (λ l. l ++ h.0) g.1 ∙ append_assoc xs g.0 h.0))
