use Rattle.sim_scenario.proofs.Seeds.{seed_read, seed_bad, seed_of-found}
use Rattle.sim_scenario.proofs.fields.seed.Goals as goal

pub returns-in-Ok : goal.returns-in-Ok
returns-in-Ok c =
    let text = c.in_ok-text_at.field-0.now in
    let read = seed_read text c.decode_to_slice.new.out c.decode_to_slice.result c.decode_to_slice.ensures.value c.in-Ok.is in
    rw (seed_of-found _ text c.in_ok-text_at.ensures.text, read.0, read.1)

pub returns-in-Err : goal.returns-in-Err
returns-in-Err c =
    let text = c.in_ok-text_at.field-0.now in
    let bad = seed_bad text c.decode_to_slice.new.out c.decode_to_slice.result c.in-Err.field-0 c.decode_to_slice.ensures.value c.in-Err.is in
    λ _. rw (seed_of-found _ text c.in_ok-text_at.ensures.text, bad)
