use Rattle.std.proofs.Common.{◌≡◌, ℕ, ◌+◌, List, [], ◌∷◌, ◌++◌, length, sym, ap, ◌∙◌, subst, arith}
use Rattle.std.proofs.Math.ListN.{set}
use Rattle.sim_queue.specs.declared.lists.Node.{Node}
use Rattle.sim_queue.specs.inside.Lists.{node, IsLists}
use Rattle.sim_queue.proofs.Nodes.{node_read, written_back}
use Rattle.sim_queue.proofs.Adding.{added, spot_within, added_lists, added_size, length_added}
use Rattle.sim_queue.proofs.lists.Lists.add.Goals as goal

pub returns-clause-lists : goal.returns-clause-lists
returns-clause-lists c =
    let old = c.args.self.now.nodes.items in
    let w = c.args.self.now.width in
    let b = c.args.before in
    let two = c.set_after.new.nodes in
    let new = c.set_before.new.nodes in
    let r = c.requires in
    let x = c.index.result.now in
    let read : x ≡ node old b = sym (node_read old b x (spot_within w old b c.args.due c.args.serial r.lists r.made r.small r.spot) c.index.ensures) in
    let next : x.after ≡ (node old b).after = ap (λ (y : Node). y.after) read in
    let pushed : c.push.new.self.items ≡ old ++ added w old b c.args.due c.args.serial r.lists r.made r.small r.spot ∷ [] =
    c.in_ok-push.ensures.items ∙ ap (λ (n : ℕ). old ++ record { due = c.args.due; serial = c.args.serial; before = b; after = n } ∷ []) next in
    let seen : c.as_mut_slice-nodes.result.now ≡ old ++ added w old b c.args.due c.args.serial r.lists r.made r.small r.spot ∷ [] = c.as_mut_slice-nodes.ensures.value ∙ pushed in
    let last : c.len-place.result ≡ length old = c.len-place.ensures ∙ c.args.self.now.nodes.ok.0 in
    let second = subst (λ (n : ℕ). two ≡ set (old ++ added w old b c.args.due c.args.serial r.lists r.made r.small r.spot ∷ []) b (record (node (old ++ added w old b c.args.due c.args.serial r.lists r.made r.small r.spot ∷ []) b) { after = n })) last
    (subst (λ (xs : List Node). two ≡ set xs b (record (node xs b) { after = c.len-place.result })) seen c.set_after.ensures) in
    let third = subst (λ (n : ℕ). new ≡ set two (node old b).after (record (node two (node old b).after) { before = n })) last
    (subst (λ (n : ℕ). new ≡ set two n (record (node two n) { before = c.len-place.result })) next c.set_before.ensures) in
    let size : length new ≡ length old + 1 = added_size w old b c.args.due c.args.serial r.lists r.made r.small r.spot two new second third in
    let more : length c.push.new.self.items ≡ length old + 1 = ap (λ (xs : List Node). length xs) pushed ∙ length_added w old b c.args.due c.args.serial r.lists r.made r.small r.spot in
    let back = written_back c.push.new.self.items new c.push.new.self.len c.push.new.self.ok.0 (omega arith) in
    subst (λ (xs : List Node). IsLists w xs) (sym back) (added_lists w old b c.args.due c.args.serial r.lists r.made r.small r.spot two new second third)
