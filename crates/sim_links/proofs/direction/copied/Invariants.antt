use Rattle.std.proofs.Common.{◌≡◌, length, take, vec_capacity}
use Rattle.sim_links.proofs.direction.copied.Given as goal

abbrev pub invariant-loop-message : goal.invariant-loop-message
invariant-loop-message g l = record {
  items : l.copies.items ≡ take l.message-index l.messages;
  room : vec_capacity l.copies ≡ length l.messages;
}
