use Rattle.std.proofs.Common.{◌≡◌, ◌<◌, length, arith, refl}
use Rattle.sim_queue.proofs.Ends.{ends_lists, past_free, past_same}
use Rattle.sim_queue.proofs.lists.Lists.make_ends.Goals as goal

pub returns-in_ok-self-clause-keeps : goal.returns-in_ok-self-clause-keeps
returns-in_ok-self-clause-keeps c =
    let old = c.args.self.now.nodes.items in
    let nodes = c.in_ok-self.field-0.items in
    let size : length nodes ≡ 256 = c.in_ok-self.ensures.len in
    let few : length old < 256 = omega arith in
    record {
      width = refl;
      lists = ends_lists c.args.self.now.width nodes (omega arith) c.in_ok-self.ensures.ends (λ i from. past_free nodes i (omega arith));
      same = past_same old nodes few size;
      size = λ below. omega arith;
    }
