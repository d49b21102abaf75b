use Rattle.std.proofs.Common.{◌≡◌, ◌<◌, List, length, sym, ap, ◌∙◌, subst, arith}
use Rattle.sim_queue.specs.declared.lists.Node.{Node}
use Rattle.sim_queue.specs.inside.Lists.{list_of, IsLists, IsEmptyList, KeepsOthers}
use Rattle.sim_queue.proofs.Nodes.{key_within, read_at, written_back}
use Rattle.sim_queue.proofs.Leaving.{read_is, before_within, after_within, left_by, lists_left, empty_left}
use Rattle.sim_queue.proofs.lists.Lists.leave.Goals as goal

pub set_after-requires : goal.set_after-requires
set_after-requires c =
    let old = c.args.self.now.nodes.items in
    let seen = c.as_mut_slice-nodes.result.now in
    let value : seen ≡ old = c.as_mut_slice-nodes.ensures.value in
    let within = before_within c.args.self.now.width old seen c.args.place c.requires.lists c.requires.key value in
    subst (λ (xs : List Node). (read_at seen c.args.place).before < length xs) (sym value) within

pub set_before-requires : goal.set_before-requires
set_before-requires c =
    let old = c.args.self.now.nodes.items in
    let seen = c.as_mut_slice-nodes.result.now in
    let value : seen ≡ old = c.as_mut_slice-nodes.ensures.value in
    let size : length seen ≡ length old = ap (λ (xs : List Node). length xs) value in
    let within = after_within c.args.self.now.width old seen c.args.place c.requires.lists c.requires.key value in
    omega arith

pub free_at-requires : goal.free_at-requires
free_at-requires c =
    let old = c.args.self.now.nodes.items in
    let seen = c.as_mut_slice-nodes.result.now in
    let size : length seen ≡ length old = ap (λ (xs : List Node). length xs) c.as_mut_slice-nodes.ensures.value in
    let within = key_within old c.args.place c.requires.key in
    omega arith

pub returns-clause-node : goal.returns-clause-node
returns-clause-node c =
    sym (read_is c.args.self.now.width c.args.self.now.nodes.items c.as_mut_slice-nodes.result.now c.args.place c.requires.lists c.requires.key c.as_mut_slice-nodes.ensures.value)

pub returns-clause-lists : goal.returns-clause-lists
returns-clause-lists c =
    let old = c.args.self.now.nodes.items in
    let seen = c.as_mut_slice-nodes.result.now in
    let w = c.args.self.now.width in
    let p = c.args.place in
    let value : seen ≡ old = c.as_mut_slice-nodes.ensures.value in
    let one = c.set_after.new.nodes in
    let two = c.set_before.new.nodes in
    let new = c.free_at.new.nodes in
    let l = left_by w old seen p c.requires.lists c.requires.key value one two new c.args.self.now.free c.set_after.ensures c.set_before.ensures c.free_at.ensures in
    subst (λ (xs : List Node). IsLists w xs) (sym (written_back old new c.args.self.now.nodes.len c.args.self.now.nodes.ok.0 l.size))
    (lists_left w old seen p c.requires.lists c.requires.key value one two new c.args.self.now.free c.set_after.ensures c.set_before.ensures c.free_at.ensures)

pub returns-clause-gone : goal.returns-clause-gone
returns-clause-gone c =
    let old = c.args.self.now.nodes.items in
    let new = c.free_at.new.nodes in
    let l = left_by c.args.self.now.width old c.as_mut_slice-nodes.result.now c.args.place c.requires.lists c.requires.key c.as_mut_slice-nodes.ensures.value c.set_after.new.nodes c.set_before.new.nodes new
    c.args.self.now.free c.set_after.ensures c.set_before.ensures c.free_at.ensures in
    rw (written_back old new c.args.self.now.nodes.len c.args.self.now.nodes.ok.0 l.size) l.gone

pub returns-clause-others : goal.returns-clause-others
returns-clause-others c =
    let old = c.args.self.now.nodes.items in
    let new = c.free_at.new.nodes in
    let l = left_by c.args.self.now.width old c.as_mut_slice-nodes.result.now c.args.place c.requires.lists c.requires.key c.as_mut_slice-nodes.ensures.value c.set_after.new.nodes c.set_before.new.nodes new
    c.args.self.now.free c.set_after.ensures c.set_before.ensures c.free_at.ensures in
    subst (λ (xs : List Node). KeepsOthers c.args.place old xs) (sym (written_back old new c.args.self.now.nodes.len c.args.self.now.nodes.ok.0 l.size)) l.keys

pub returns-clause-last : goal.returns-clause-last
returns-clause-last c same =
    let old = c.args.self.now.nodes.items in
    let seen = c.as_mut_slice-nodes.result.now in
    let w = c.args.self.now.width in
    let p = c.args.place in
    let value : seen ≡ old = c.as_mut_slice-nodes.ensures.value in
    let one = c.set_after.new.nodes in
    let two = c.set_before.new.nodes in
    let new = c.free_at.new.nodes in
    let l = left_by w old seen p c.requires.lists c.requires.key value one two new c.args.self.now.free c.set_after.ensures c.set_before.ensures c.free_at.ensures in
    subst (λ (xs : List Node). IsEmptyList w (list_of w (read_at seen p)) xs) (sym (written_back old new c.args.self.now.nodes.len c.args.self.now.nodes.ok.0 l.size))
    (empty_left w old seen p c.requires.lists c.requires.key value one two new c.args.self.now.free c.set_after.ensures c.set_before.ensures c.free_at.ensures same)

pub returns-clause-size : goal.returns-clause-size
returns-clause-size c =
    let old = c.args.self.now.nodes.items in
    let new = c.free_at.new.nodes in
    let l = left_by c.args.self.now.width old c.as_mut_slice-nodes.result.now c.args.place c.requires.lists c.requires.key c.as_mut_slice-nodes.ensures.value c.set_after.new.nodes c.set_before.new.nodes new
    c.args.self.now.free c.set_after.ensures c.set_before.ensures c.free_at.ensures in
    ap (λ (xs : List Node). length xs) (written_back old new c.args.self.now.nodes.len c.args.self.now.nodes.ok.0 l.size) ∙ l.size
