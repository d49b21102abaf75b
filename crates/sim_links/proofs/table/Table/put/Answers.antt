use Rattle.std.proofs.Common.{refl}
use Rattle.sim_links.proofs.Slots.{is_touched, wrote, sound_with}
use Rattle.sim_links.proofs.table.Table.put.Goals as goal

pub returns : goal.returns
returns g c =
    let e = c.touch-slot.ensures in
    record {
      links = wrote c.args.direction (is_touched _ _ _ _ _ _ e.sound e.links refl c.requires.within refl e.slot e.own);
      sound = sound_with c.touch-slot.new.self c.touch-slot.result c.args.direction e.sound e.own;
    }
