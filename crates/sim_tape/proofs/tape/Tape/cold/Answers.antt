use Rattle.std.proofs.Common.{ℕ, ◌+◌, ◌/◌, ◌<◌, ◌≤◌, length, take, refl, ap, ◌∙◌, arith}
use Rattle.std.specs.Prelude.{is_some}
use Rattle.std.proofs.lemmas.List.{length-take-le}
use Rattle.sim_world.specs.Events.{rules}
use Rattle.sim_history.specs.Log.{events_of}
use Rattle.sim_history.proofs.Entries.{events-take, events-length}
use Rattle.sim_moves.proofs.Walking.{cold_walk}
use Rattle.sim_tape.proofs.Sharing.{cut_kept}
use Rattle.sim_tape.proofs.Turning.{has_checkpoint, same_tape}
use Rattle.sim_tape.proofs.tape.Tape.cold.Goals as goal

pub share-requires : goal.share-requires
share-requires g c =
    let log = c.args.log.now in
    let is = c.interval.ensures.value ∙ ap (λ s. s.interval) c.in_ok-log.ensures.scenario in
    let low = c.requires.runs.limits.interval.0 in
    let some : 0 < c.interval.result = omega (arith, low, is) in
    let within : c.args.count ≤ length (events_of log.entries) = omega (arith, c.requires.count, events-length log.entries) in
    let below : c.args.count / c.interval.result < length c.args.checkpoints.now.items =
    has_checkpoint (rules g.N.Node.laws g.N.Node.PROBES log.scenario) (events_of log.entries) c.args.checkpoints.now.items c.args.count c.interval.result some c.requires.checkpoints is within in
    omega (arith, below)

pub invariant_of-result : goal.invariant_of-result
invariant_of-result g c =
    let old = c.args.log.now in
    let log = c.in_ok-log.log in
    let count : ℕ = c.args.count in
    let cut = c.in_ok-log.ensures.entries in
    let is = c.interval.ensures.value ∙ ap (λ s. s.interval) c.in_ok-log.ensures.scenario in
    let marks = c.in_ok-checkpoints.ensures ∙ ap (λ (k : ℕ). take (count / k + 1) c.args.checkpoints.now.items) is in
    let kept = cut_kept g.N.Node.laws g.N.Node.PROBES old.scenario log.scenario old.entries log.entries _ _ count c.in_ok-log.ensures.scenario cut marks c.requires.count
    (record { run = c.requires.runs; checkpoints = c.requires.checkpoints }) in
    let long = ap length cut ∙ length-take-le count old.entries c.requires.count in
    let ring = c.in_ok-walk.ensures.ring in
    let within = c.requires.within in (
      kept.run,
      kept.checkpoints,
      cold_walk g.N.Node.told g.N.Node.records (rules g.N.Node.laws g.N.Node.PROBES log.scenario) (events_of log.entries) c.args.place c.in_ok-walk.walk.world c.in_ok-walk.walk.ring.items
          (omega (arith, within, long, events-length log.entries)) c.in_ok-walk.ensures.world (ap (λ r. r.items) ring),
      ap (λ r. r.capacity) ring ∙ c.window.ensures.value,
      omega (arith, ap (λ r. length r.items) ring),
    )

pub returns : goal.returns
returns g c =
    same_tape _ _ c.in_ok-log.ensures.scenario (ap events_of c.in_ok-log.ensures.entries ∙ events-take c.args.count c.args.log.now.entries) refl
    (ap is_some c.in_ok-walk.ensures.world) (ap (λ r. length r.items) c.in_ok-walk.ensures.ring)
