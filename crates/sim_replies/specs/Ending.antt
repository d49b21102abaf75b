-- The end of a line, to which text is added at the front.
use Rattle.std.specs.Prelude.{ℕ}
use Rattle.sim_script.specs.Words.{Text}

pub record Ending : Type 0 where
  pub text : Text
  -- the number of bytes that may still be added before the text
  pub room : ℕ
