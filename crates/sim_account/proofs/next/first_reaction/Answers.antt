use Rattle.std.proofs.Common.{◌≡◌, ◌<◌, ◌≤◌, length, Some, sym, ap, subst, ◌∙◌, arith}
use Rattle.sim_streams.specs.Word.{stream_of}
use Rattle.sim_queue.specs.Pending.{first}
use Rattle.sim_queue.specs.Items.{item_of}
use Rattle.sim_disk.specs.Disk as disk
use Rattle.sim_world.specs.World.{host_at, drawn, with_node, made_stable}
use Rattle.sim_world.specs.Events.{rules, next_word, begun}
use Rattle.sim_world.specs.Room.{IsReadyFor}
use Rattle.sim_account.specs.Account.{all_told}
use Rattle.sim_account.specs.inside.Ledger.{Follows}
use Rattle.sim_world.proofs.PartChanges.{of_some}
use Rattle.sim_account.proofs.Accounts.{first_told}
use Rattle.sim_account.proofs.Ledgers.{follows_first, room_first}
use Rattle.sim_account.proofs.next.first_reaction.Goals as goal

pub told-requires-clause-room : goal.told-requires-clause-room
told-requires-clause-room g c =
    let w = c.args.world.now.world in
    let x = item_of c.in-Some.serial (c.in-Some.due, c.in-Some.occurrence.now) in
    let first_is : first w.queue.items ≡ Some x = sym c.in-Some.ensures in
    let ready = c.laws.ensures.ready in
    let here = of_some (IsReadyFor c.args.world.now.scenario.setup.hosts w) (first w.queue.items) x first_is ready.first in
    rw c.first_ledger-ledger.ensures (room_first w x ready.room here.due c.laws.ensures.few)

pub returns-clause-told : goal.returns-clause-told
returns-clause-told g c =
    let s = c.args.world.now.scenario in
    let r = rules g.N.Node.laws g.N.Node.PROBES s in
    let w = c.args.world.now.world in
    let x = item_of c.in-Some.serial (c.in-Some.due, c.in-Some.occurrence.now) in
    let h = x.body.host in
    let first_is : first w.queue.items ≡ Some x = sym c.in-Some.ensures in
    let ready = c.laws.ensures.ready in
    let here = of_some (IsReadyFor s.setup.hosts w) (first w.queue.items) x first_is ready.first in
    let hosts : length w.hosts ≡ s.setup.hosts = ready.hosts in
    let host : x.body.host < s.setup.hosts = here.host in
    let lt : x.body.host < length w.hosts = omega arith in
    let same : c.host-host.result ≡ h = c.host-host.ensures in
    let node_is : (host_at h w).node ≡ Some c.in-Some-node.node.now =
    subst (λ k. (host_at k w).node ≡ Some c.in-Some-node.node.now) same (sym c.in-Some-node.ensures) in
    let word_is : c.own_word.result ≡ next_word r (stream_of h) w =
    c.own_word.ensures ∙ ap (λ k. next_word r (stream_of k) w) same in
    let disk_is : c.disk.result.now ≡ (host_at h w).disk = c.disk.ensures ∙ ap (λ k. (host_at k w).disk) same in
    let asked : (host_at h w).disk.asked ≤ length (host_at h w).disk.writes =
    subst (λ (d : disk.Disk). d.asked ≤ length d.writes) disk_is c.laws-2.ensures.asked in
    first_told r w x c.in-Some-node.node.now first_is node_is c.own_word.result c.in_ok-node.node c.in_ok-node.effects.list c.in_ok-told.field-0.items
    word_is
    (c.in_ok-node.ensures.state ∙ ap (λ i. (g.N.Node.laws.react c.in-Some-node.node.now c.in-Some.due i c.own_word.result).0) c.input.ensures)
    (ap (λ e. e.list) c.in_ok-node.ensures.effects ∙ ap (λ i. (g.N.Node.laws.react c.in-Some-node.node.now c.in-Some.due i c.own_word.result).1) c.input.ensures)
    (λ s.
    let v = with_node h (Some s) (drawn 1 (stream_of h) (made_stable h x.body.body (begun x w))) in
    let follows : Follows c.first_ledger-ledger.result h w v =
    rw c.first_ledger-ledger.ensures (follows_first w x s ready.room lt asked here.covered) in
    subst (λ k. c.in_ok-told.field-0.items ≡ all_told r k c.in_ok-node.effects.list v) same
    (c.in_ok-told.ensures v (subst (λ k. Follows c.first_ledger-ledger.result k w v) (sym same) follows)))
