use Rattle.std.proofs.Common.{◌+◌, ◌≤◌, [], ◌∷◌, ◌++◌, length, map, drop, sym, ap, ◌∙◌, arith}
use Rattle.sim_streams.specs.Word.{torn}
use Rattle.sim_disk.specs.Disk as disk
use Rattle.sim_node.specs.Numbers.{numbers_from}
use Rattle.sim_world.specs.World.{place}
use Rattle.sim_world.specs.Events.{rules}
use Rattle.sim_account.proofs.Kept.{tears_from, tears_are, tears_more, tears_none}
use Rattle.sim_account.proofs.crash.tears.Goals as goal

pub loop-place-preserved : goal.loop-place-preserved
loop-place-preserved g c =
    let words = (rules g.N.Node.laws g.N.Node.PROBES c.args.world.now.scenario).words torn in
    let first = place torn c.args.world.now.world in
    let i = c.loop-place.place in
    let writes = c.disk-disk.result.now.writes in
    let kept = c.loop-place.kept.items in
    let x : disk.Write = record { offset = c.write_at-offset.result.0; bytes = c.write_at-offset.result.1.now } in
    let left = tears_from words (first + (i + 1)) (drop (i + 1) writes) in
    let tear = c.kept_len.ensures ∙ ap (λ w. disk.kept_len w (length x.bytes)) c.peek.ensures in
    ap (λ xs. xs ++ left) c.in_ok-push.ensures.items
    ∙ ap (λ n. (kept ++ n ∷ []) ++ left) tear
    ∙ tears_more words first i writes x kept c.write_at-offset.ensures.write
    ∙ c.loop-place.invariant

pub returns : goal.returns
returns g c =
    let words = (rules g.N.Node.laws g.N.Node.PROBES c.args.world.now.scenario).words torn in
    let first = place torn c.args.world.now.world in
    let writes = c.disk-disk.result.now.writes in
    let past : length writes ≤ c.loop-place.place = omega (arith, c.loop-place-test.false, c.unsynced-place-end.ensures.count) in
    sym (tears_none words (first + c.loop-place.place) c.loop-place.place writes c.loop-place.kept.items past)
    ∙ c.loop-place.invariant
    ∙ tears_are words first writes c.unsynced-place-end.ensures.disk.writes
    ∙ ap (λ (d : disk.Disk). map (λ (x : disk.Write). length x.bytes) (disk.all_kept (map words (numbers_from first (length d.writes))) d.writes)) c.disk-disk.ensures
