use Rattle.std.proofs.Common.{◌<◌, ◌∙◌, refl, vec_capacity, arith}
use Rattle.sim_links.proofs.Copies.{next_copied}
use Rattle.sim_links.proofs.Slots.{is_copy}
use Rattle.sim_links.proofs.table.Table.copy.Goals as goal

pub loop-direction-preserved : goal.loop-direction-preserved
loop-direction-preserved g c = record {
  items = next_copied c.loop-direction.touched.items c.deref-direction-items.result.now c.push_reserved.new.self.items c.loop-direction.direction-index
      c.in_ok-copy.copy c.direction-item.result c.loop-direction.invariant.items c.push_reserved.ensures.items c.in_ok-copy.ensures c.direction-item.is
      c.loop-direction-test.true;
  room = c.push_reserved.ensures.capacity ∙ c.loop-direction.invariant.room;
}

pub returns : goal.returns
returns g c =
    let room : 1024 < vec_capacity c.loop-direction.touched = omega (arith, c.loop-direction.invariant.room) in
    let copy = is_copy c.args.self.now (record { slots = c.in_ok-slots.slots; touched = c.loop-direction.touched; past = c.args.self.now.past })
    c.as_slice.result.now c.deref-direction-items.result.now c.loop-direction.direction-index c.in_ok-slots.ensures.items c.as_slice.ensures.value
    c.loop-direction.invariant.items c.loop-direction-test.false c.deref-direction-items.ensures.value room refl c.requires.sound in
    record { links = copy.same; sound = copy.sound }
