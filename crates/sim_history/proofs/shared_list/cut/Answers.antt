use Rattle.std.proofs.Common.{◌≡◌, ◌-◌, ◌*◌, ◌≤◌, length, take, [], ap, ◌∙◌, arith, length-take}
use Rattle.sim_history.specs.Segments.{values_of, all_values}
use Rattle.sim_history.proofs.Joined.{AreFull-take}
use Rattle.sim_history.proofs.SharedLists.{length-values, cut_groups, cut_last}
use Rattle.sim_history.proofs.shared_list.cut.Goals as goal

pub overflow_mul-grouped : goal.overflow_mul-grouped
overflow_mul-grouped g c =
    let n = c.args.groups.now.ok.0 in
    let few = c.requires.few in
    omega (arith, n, c.len-grouped.ensures, few, length-values c.args.groups.now.items c.args.last.now.items c.requires.full)

pub returns-then-count-grouped-clause-same : goal.returns-then-count-grouped-clause-same
returns-then-count-grouped-clause-same g c =
    let gs = c.args.groups.now.items in
    let n = c.args.groups.now.ok.0 in
    let q = c.div_ceil.result in
    let low : c.args.count ≤ q * 8 = omega (arith, c.div_ceil.ensures) in
    let high : q ≤ length gs = omega (arith, n, c.div_ceil.ensures, c.len-grouped.ensures, c.if-count-grouped.true) in
    rw (c.truncate.ensures.items, c.clear.ensures.items) (cut_groups gs c.args.last.now.items c.args.count q c.requires.full low high)

pub returns-then-count-grouped-clause-full : goal.returns-then-count-grouped-clause-full
returns-then-count-grouped-clause-full g c = rw c.truncate.ensures.items (AreFull-take values_of 8 c.div_ceil.result c.args.groups.now.items c.requires.full)

pub returns-then-count-grouped-clause-within : goal.returns-then-count-grouped-clause-within
returns-then-count-grouped-clause-within g c =
    let gs = c.args.groups.now.items in
    let n = c.args.groups.now.ok.0 in
    let q = c.div_ceil.result in
    let all = length-values (take q gs) [] (AreFull-take values_of 8 q gs c.requires.full) in
    let taken = length-take q gs in
    rw (c.truncate.ensures.items, c.clear.ensures.items) (omega (arith, n, all, taken, c.div_ceil.ensures, c.len-grouped.ensures, c.if-count-grouped.true))

pub returns-then-count-grouped-clause-whole : goal.returns-then-count-grouped-clause-whole
returns-then-count-grouped-clause-whole g c =
    let gs = c.args.groups.now.items in
    let n = c.args.groups.now.ok.0 in
    let q = c.div_ceil.result in
    let all = length-values (take q gs) [] (AreFull-take values_of 8 q gs c.requires.full) in
    let taken = length-take q gs in
    rw (c.truncate.ensures.items, c.clear.ensures.items) (λ h. omega (arith, h, n, all, taken, c.div_ceil.ensures, c.len-grouped.ensures, c.if-count-grouped.true))

pub returns-then-count-grouped-clause-few : goal.returns-then-count-grouped-clause-few
returns-then-count-grouped-clause-few g c =
    let gs = c.args.groups.now.items in
    let q = c.div_ceil.result in
    let all = length-values (take q gs) [] (AreFull-take values_of 8 q gs c.requires.full) in
    let taken = length-take q gs in
    let few = c.requires.few in
    let was = length-values gs c.args.last.now.items c.requires.full in
    rw (c.truncate.ensures.items, c.clear.ensures.items) (omega (arith, all, taken, few, was))

pub returns-else-count-grouped-clause-same : goal.returns-else-count-grouped-clause-same
returns-else-count-grouped-clause-same g c =
    let gs = c.args.groups.now.items in
    let n = c.args.groups.now.ok.0 in
    let len : c.len-grouped.result ≡ length gs = omega (arith, n, c.len-grouped.ensures) in
    rw c.truncate-else-count-grouped.ensures.items
    (ap (λ m. take c.args.count (all_values gs (take (c.args.count - m * 8) c.args.last.now.items))) len
    ∙ cut_last gs c.args.last.now.items c.args.count c.requires.full (omega (arith, len, c.if-count-grouped.false)))

pub returns-else-count-grouped-clause-within : goal.returns-else-count-grouped-clause-within
returns-else-count-grouped-clause-within g c =
    let gs = c.args.groups.now.items in
    let n = c.args.groups.now.ok.0 in
    let k = c.args.count - c.len-grouped.result * 8 in
    let all = length-values gs (take k c.args.last.now.items) c.requires.full in
    let was = length-values gs c.args.last.now.items c.requires.full in
    let taken = length-take k c.args.last.now.items in
    let within = c.requires.within in
    rw c.truncate-else-count-grouped.ensures.items (omega (arith, n, all, was, taken, within, c.len-grouped.ensures, c.if-count-grouped.false))

pub returns-else-count-grouped-clause-whole : goal.returns-else-count-grouped-clause-whole
returns-else-count-grouped-clause-whole g c =
    let gs = c.args.groups.now.items in
    let n = c.args.groups.now.ok.0 in
    let k = c.args.count - c.len-grouped.result * 8 in
    let all = length-values gs (take k c.args.last.now.items) c.requires.full in
    let was = length-values gs c.args.last.now.items c.requires.full in
    let taken = length-take k c.args.last.now.items in
    let within = c.requires.within in
    rw c.truncate-else-count-grouped.ensures.items (λ h. omega (arith, h, n, all, was, taken, within, c.len-grouped.ensures, c.if-count-grouped.false))
