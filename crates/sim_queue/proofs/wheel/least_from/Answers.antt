use Rattle.std.proofs.Common.{◌≡◌, ◌≢◌, ℕ, ◌+◌, ◌-◌, ◌*◌, ◌/◌, ◌%◌, ◌≤◌, min, sym, ap, ◌∙◌, subst, arith}
use Rattle.sim_queue.specs.declared.lists.Node.{Node}
use Rattle.sim_queue.specs.inside.Lists.{node, day}
use Rattle.sim_queue.specs.inside.Wheel.{IsFloor}
use Rattle.sim_queue.proofs.Nodes.{key_within, node_read}
use Rattle.sim_queue.proofs.Heads.{head_there, no_head}
use Rattle.sim_queue.proofs.Marked.{IsPassed, passed_unmarked, passed_empty, passed_other, found_floor, passed_all, day_from, first_due}
use Rattle.sim_queue.proofs.wheel.least_from.Goals as goal
use Rattle.sim_queue.proofs.wheel.least_from.Goals.{in-Some-head+else-day-start, in_default-head}

-- days are counted from one that is a multiple of 256
start_is : (first of : ℕ) → first ≡ of → of ≡ first - first % 256 + first % 256
start_is first of is = omega arith

start_whole : (first : ℕ) → (first - first % 256) % 256 ≡ 0
start_whole first = omega arith

pub loop-day-preserved-in_default : goal.loop-day-preserved-in_default
loop-day-preserved-in_default c =
    let l = c.args.lists.now in
    let f = c.day-first_day.result in
    record {
      after = let a : f % 256 ≤ c.loop-day.day = c.loop-day.invariant.after in omega arith;
      passed = passed_unmarked l.width l.nodes.items c.args.marks.now.words (f - f % 256) (f % 256) c.args.floor c.requires.lists c.requires.marked c.requires.from
          (start_is f (day l.width c.args.floor) c.day-first_day.ensures) (start_whole f) c.loop-day.day (c.loop-day.day / 64 * 64 + 64) c.loop-day.least
          (λ d ge lt. c.in_default.ensures.none d ge (omega arith)) c.loop-day.invariant.passed;
    }

pub overflow_sub-day : goal.overflow_sub-day
overflow_sub-day c =
    let l = c.args.lists.now in
    let f = c.day-first_day.result in
    let p = c.in-Some-head.place in
    let first = c.in-Some-head.ensures.first in
    let head = head_there l.width l.nodes.items ((c.loop-day.day + c.in-Some.distance) % 256) p c.requires.lists (omega arith) first.0 first.2 first.1 in
    let read = node_read l.nodes.items p c.index.result.now (key_within l.nodes.items p head.key) c.index.ensures in
    let from = day_from l.width l.nodes.items c.args.marks.now.words (f - f % 256) (f % 256) c.args.floor c.requires.lists c.requires.marked c.requires.from
    (start_is f (day l.width c.args.floor) c.day-first_day.ensures) (start_whole f) p head.key in
    let is : c.day.result ≡ day l.width (node l.nodes.items p).due = c.day.ensures ∙ ap (λ (x : Node). day l.width x.due) (sym read) in
    omega arith

pub returns-then-day-start : goal.returns-then-day-start
returns-then-day-start c =
    let l = c.args.lists.now in
    let f = c.day-first_day.result in
    let p = c.in-Some-head.place in
    let to = c.loop-day.day + c.in-Some.distance in
    let first = c.in-Some-head.ensures.first in
    let head = head_there l.width l.nodes.items (to % 256) p c.requires.lists (omega arith) first.0 first.2 first.1 in
    let read = node_read l.nodes.items p c.index.result.now (key_within l.nodes.items p head.key) c.index.ensures in
    let is : c.day.result ≡ day l.width (node l.nodes.items p).due = c.day.ensures ∙ ap (λ (x : Node). day l.width x.due) (sym read) in
    let here : day l.width (node l.nodes.items p).due - (f - f % 256) ≡ to = ap (λ (d : ℕ). d - (f - f % 256)) (sym is) ∙ c.if-day-start.true in
    let passed = passed_unmarked l.width l.nodes.items c.args.marks.now.words (f - f % 256) (f % 256) c.args.floor c.requires.lists c.requires.marked c.requires.from
    (start_is f (day l.width c.args.floor) c.day-first_day.ensures) (start_whole f) c.loop-day.day to c.loop-day.least c.in-Some.ensures.between c.loop-day.invariant.passed in
    let after : f % 256 ≤ to = (let a : f % 256 ≤ c.loop-day.day = c.loop-day.invariant.after in omega arith) in
    subst (λ (x : Node). IsFloor x.due l.nodes.items) read
    (found_floor l.width l.nodes.items c.args.marks.now.words (f - f % 256) (f % 256) c.args.floor c.requires.lists c.requires.marked c.requires.from
    (start_is f (day l.width c.args.floor) c.day-first_day.ensures) (start_whole f) to p after head (first_due l.width l.nodes.items (to % 256) p c.requires.lists first.2 head.key) c.loop-day.least passed here)

pub loop-day-preserved : goal.loop-day-preserved
loop-day-preserved c =
    let l = c.args.lists.now in
    let f = c.day-first_day.result in
    let to = c.loop-day.day + c.in-Some.distance in
    let passed = passed_unmarked l.width l.nodes.items c.args.marks.now.words (f - f % 256) (f % 256) c.args.floor c.requires.lists c.requires.marked c.requires.from
    (start_is f (day l.width c.args.floor) c.day-first_day.ensures) (start_whole f) c.loop-day.day to c.loop-day.least c.in-Some.ensures.between c.loop-day.invariant.passed in
    let after : f % 256 ≤ to = (let a : f % 256 ≤ c.loop-day.day = c.loop-day.invariant.after in omega arith) in
    record {
      after = omega arith;
      passed = elim c.match-head.branch [
        | in-Some-head+else-day-start w ↦
            let p = w.in-Some-head.place in
            let first = w.in-Some-head.ensures.first in
            let head = head_there l.width l.nodes.items (to % 256) p c.requires.lists (omega arith) first.0 first.2 first.1 in
            let read = node_read l.nodes.items p w.index.result.now (key_within l.nodes.items p head.key) w.index.ensures in
            let is : w.day.result ≡ day l.width (node l.nodes.items p).due = w.day.ensures ∙ ap (λ (x : Node). day l.width x.due) (sym read) in
            let other : day l.width (node l.nodes.items p).due - (f - f % 256) ≢ to = λ q. w.if-day-start.false (ap (λ (d : ℕ). d - (f - f % 256)) is ∙ q) in
            let least : min c.loop-day.least (node l.nodes.items p).due ≡ c.match-head.least = ap (λ (x : Node). min c.loop-day.least x.due) read ∙ sym w.min-least.ensures ∙ sym w.least-is in
            subst (λ (n : ℕ). IsPassed l.width l.nodes.items (f - f % 256) (f % 256) (to + 1) n) least
            (passed_other l.width l.nodes.items c.args.marks.now.words (f - f % 256) (f % 256) c.args.floor c.requires.lists c.requires.marked c.requires.from
            (start_is f (day l.width c.args.floor) c.day-first_day.ensures) (start_whole f) to p after head (first_due l.width l.nodes.items (to % 256) p c.requires.lists first.2 head.key) c.loop-day.least passed other)
        | in_default-head w ↦
            let empty = no_head l.width l.nodes.items (to % 256) c.requires.lists w.in_default-head.ensures.none in
            rw w.least-is
            (passed_empty l.width l.nodes.items c.args.marks.now.words (f - f % 256) (f % 256) c.args.floor c.requires.lists c.requires.marked c.requires.from
            (start_is f (day l.width c.args.floor) c.day-first_day.ensures) (start_whole f) to c.loop-day.least empty passed)
      ];
    }

pub returns : goal.returns
returns c =
    let l = c.args.lists.now in
    let f = c.day-first_day.result in
    passed_all l.width l.nodes.items c.args.marks.now.words (f - f % 256) (f % 256) c.args.floor c.requires.lists c.requires.marked c.requires.from
    (start_is f (day l.width c.args.floor) c.day-first_day.ensures) (start_whole f) c.loop-day.day c.loop-day.least (omega arith) (omega arith) c.loop-day.invariant.passed
