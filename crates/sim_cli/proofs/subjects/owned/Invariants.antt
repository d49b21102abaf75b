use Rattle.std.proofs.Common.{◌≡◌, map, take, string_bytes, vec_len}
use Rattle.sim_cli.proofs.subjects.owned.Given as goal

abbrev pub invariant-loop-text : goal.invariant-loop-text
invariant-loop-text l = record {
  texts : map string_bytes l.owned.items ≡ take l.text-index (map (λ text. text.now) l.texts);
  as_many : vec_len l.owned ≡ l.text-index;
}
