use Rattle.std.proofs.Common.{◌≡◌, ◌+◌, ◌-◌, cond, ap, ◌∙◌, arith}
use Rattle.sim_queue.specs.Items.{item_of}
use Rattle.sim_disk.specs.Disk as disk
use Rattle.sim_pending.specs.Occurrence.{is_message}
use Rattle.sim_world.specs.World.{host_at, in_flight, held_messages}
use Rattle.sim_world.specs.Events.{begun}
use Rattle.sim_account.proofs.Ledgers.{messages_then, same_numbers}
use Rattle.sim_account.proofs.next.first_ledger.Goals as goal

pub overflow_sub-result : goal.overflow_sub-result
overflow_sub-result g c =
    let w = c.args.world.now.world in
    let x = item_of c.args._serial (c.args.due, c.args.occurrence.now) in
    let count : c.message_count.result ≡ cond (is_message x) 1 0 = c.message_count.ensures c.args.due c.args._serial in
    let all : c.messages.result ≡ in_flight w + held_messages w = c.messages.ensures in
    let left : in_flight (begun x w) + cond (is_message x) 1 0 ≡ in_flight w = messages_then w x c.requires c.laws.ensures.ready.room.queue in
    omega arith

pub returns : goal.returns
returns g c =
    let w = c.args.world.now.world in
    let x = item_of c.args._serial (c.args.due, c.args.occurrence.now) in
    let count : c.message_count.result ≡ cond (is_message x) 1 0 = c.message_count.ensures c.args.due c.args._serial in
    let all : c.messages.result ≡ in_flight w + held_messages w = c.messages.ensures in
    let left : in_flight (begun x w) + cond (is_message x) 1 0 ≡ in_flight w = messages_then w x c.requires c.laws.ensures.ready.room.queue in
    let messages : c.messages.result - c.message_count.result ≡ in_flight (begun x w) + held_messages w = omega arith in
    let unasked : c.not_asked.result ≡ disk.not_asked (host_at x.body.host w).disk =
    c.not_asked.ensures ∙ ap (λ d. disk.not_asked d) (c.disk.ensures ∙ ap (λ h. (host_at h w).disk) c.host.ensures) in
    same_numbers c.args.due 0 c.next_serial.ensures messages unasked
