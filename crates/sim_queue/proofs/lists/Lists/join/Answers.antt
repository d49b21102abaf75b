use Rattle.std.proofs.Common.{◌≡◌, List, length, sym, ap, ◌∙◌, subst, arith}
use Rattle.std.proofs.Math.ListN.{set, length-set}
use Rattle.sim_queue.specs.declared.lists.Node.{Node}
use Rattle.sim_queue.specs.inside.Lists.{node, IsLists, KeepsOthers}
use Rattle.sim_queue.proofs.Nodes.{linked_within, written_back}
use Rattle.sim_queue.proofs.Joining.{next_within, given, joined_by, lists_joined}
use Rattle.sim_queue.proofs.lists.Lists.join.Goals as goal

pub set_after-requires : goal.set_after-requires
set_after-requires c =
    let old = c.args.self.now.nodes.items in
    let seen = c.as_mut_slice-nodes.result.now in
    let w = c.args.self.now.width in
    let p = c.args.place in
    let value : seen ≡ old = c.as_mut_slice-nodes.ensures.value in
    let within = linked_within old c.args.before c.requires.spot.linked in
    let added : Node = given w old seen p c.args.before c.args.due c.args.serial c.requires.lists c.requires.free c.requires.small c.requires.spot value in
    let size : length (set seen p added) ≡ length seen = length-set seen p added in
    let same : length seen ≡ length old = ap (λ (xs : List Node). length xs) value in
    omega arith

pub set_before-requires : goal.set_before-requires
set_before-requires c =
    let old = c.args.self.now.nodes.items in
    let seen = c.as_mut_slice-nodes.result.now in
    let w = c.args.self.now.width in
    let p = c.args.place in
    let value : seen ≡ old = c.as_mut_slice-nodes.ensures.value in
    let within = next_within w old seen p c.args.before c.args.due c.args.serial c.requires.lists c.requires.free c.requires.small c.requires.spot value in
    let added : Node = given w old seen p c.args.before c.args.due c.args.serial c.requires.lists c.requires.free c.requires.small c.requires.spot value in
    let size : length (set seen p added) ≡ length seen = length-set seen p added in
    let same : length seen ≡ length old = ap (λ (xs : List Node). length xs) value in
    omega arith

pub returns-clause-lists : goal.returns-clause-lists
returns-clause-lists c =
    let old = c.args.self.now.nodes.items in
    let seen = c.as_mut_slice-nodes.result.now in
    let w = c.args.self.now.width in
    let p = c.args.place in
    let value : seen ≡ old = c.as_mut_slice-nodes.ensures.value in
    let new = c.set_before.new.nodes in
    let j = joined_by w old seen p c.args.before c.args.due c.args.serial c.requires.lists c.requires.free c.requires.small c.requires.spot value c.set_after.new.nodes new c.set_after.ensures c.set_before.ensures in
    let back = written_back old new c.args.self.now.nodes.len c.args.self.now.nodes.ok.0 j.size in
    subst (λ (xs : List Node). IsLists w xs) (sym back) (lists_joined w old seen p c.args.before c.args.due c.args.serial c.requires.lists c.requires.free c.requires.small c.requires.spot value c.set_after.new.nodes new c.set_after.ensures c.set_before.ensures)

pub returns-clause-due : goal.returns-clause-due
returns-clause-due c =
    let old = c.args.self.now.nodes.items in
    let seen = c.as_mut_slice-nodes.result.now in
    let w = c.args.self.now.width in
    let p = c.args.place in
    let value : seen ≡ old = c.as_mut_slice-nodes.ensures.value in
    let new = c.set_before.new.nodes in
    let j = joined_by w old seen p c.args.before c.args.due c.args.serial c.requires.lists c.requires.free c.requires.small c.requires.spot value c.set_after.new.nodes new c.set_after.ensures c.set_before.ensures in
    let back = written_back old new c.args.self.now.nodes.len c.args.self.now.nodes.ok.0 j.size in
    ap (λ (xs : List Node). (node xs p).due) back ∙ j.due

pub returns-clause-serial : goal.returns-clause-serial
returns-clause-serial c =
    let old = c.args.self.now.nodes.items in
    let seen = c.as_mut_slice-nodes.result.now in
    let w = c.args.self.now.width in
    let p = c.args.place in
    let value : seen ≡ old = c.as_mut_slice-nodes.ensures.value in
    let new = c.set_before.new.nodes in
    let j = joined_by w old seen p c.args.before c.args.due c.args.serial c.requires.lists c.requires.free c.requires.small c.requires.spot value c.set_after.new.nodes new c.set_after.ensures c.set_before.ensures in
    let back = written_back old new c.args.self.now.nodes.len c.args.self.now.nodes.ok.0 j.size in
    ap (λ (xs : List Node). (node xs p).serial) back ∙ j.serial

pub returns-clause-others : goal.returns-clause-others
returns-clause-others c =
    let old = c.args.self.now.nodes.items in
    let seen = c.as_mut_slice-nodes.result.now in
    let w = c.args.self.now.width in
    let p = c.args.place in
    let value : seen ≡ old = c.as_mut_slice-nodes.ensures.value in
    let new = c.set_before.new.nodes in
    let j = joined_by w old seen p c.args.before c.args.due c.args.serial c.requires.lists c.requires.free c.requires.small c.requires.spot value c.set_after.new.nodes new c.set_after.ensures c.set_before.ensures in
    let back = written_back old new c.args.self.now.nodes.len c.args.self.now.nodes.ok.0 j.size in
    subst (λ (xs : List Node). KeepsOthers p old xs) (sym back) j.keys

pub returns-clause-size : goal.returns-clause-size
returns-clause-size c =
    let old = c.args.self.now.nodes.items in
    let seen = c.as_mut_slice-nodes.result.now in
    let w = c.args.self.now.width in
    let p = c.args.place in
    let value : seen ≡ old = c.as_mut_slice-nodes.ensures.value in
    let new = c.set_before.new.nodes in
    let j = joined_by w old seen p c.args.before c.args.due c.args.serial c.requires.lists c.requires.free c.requires.small c.requires.spot value c.set_after.new.nodes new c.set_after.ensures c.set_before.ensures in
    let back = written_back old new c.args.self.now.nodes.len c.args.self.now.nodes.ok.0 j.size in
    ap (λ (xs : List Node). length xs) back ∙ j.size
