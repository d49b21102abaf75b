use Rattle.std.proofs.Common.{◌≡◌, ◌∙◌, ap, sym, refl, [], ◌∷◌, ◌++◌, get_or, length, arith}
use Rattle.std.proofs.lemmas.List.{get_or_read_under, get_or-set_same}
use Rattle.sim_links.specs.Link.{open_link}
use Rattle.sim_links.proofs.Slots.{below_at, taken, sound_taken}
use Rattle.sim_links.proofs.table.Table.touch.Goals as goal

pub returns-then-slot-gt0 : goal.returns-then-slot-gt0
returns-then-slot-gt0 g c =
    let t = c.args.self.now in
    record {
      slot = get_or_read_under t.slots.items c.args.place 1024 c.index.result.now 0 c.index.ensures c.requires.within (sym c.requires.sound.whole);
      own = c.if-slot-gt0.true;
      links = refl;
      sound = c.requires.sound;
    }

pub overflow_cast-free : goal.overflow_cast-free
overflow_cast-free g c = omega (arith, c.len-free.ensures, c.args.self.now.touched.ok.0, c.requires.sound.slots.free, c.requires.sound.whole)

pub returns : goal.returns
returns g c =
    let t = c.args.self.now in
    let sound = c.requires.sound in
    let place = c.args.place in
    let free = c.len-free.result in
    let count : free ≡ length t.touched.items = c.len-free.ensures ∙ t.touched.ok.0 in
    let read : c.index.result.now ≡ get_or t.slots.items place 0 =
    get_or_read_under t.slots.items place 1024 c.index.result.now 0 c.index.ensures c.requires.within (sym sound.whole) in
    let none : get_or t.slots.items place 0 ≡ 0 = omega (arith, read, c.if-slot-gt0.false) in
    let touched : c.push_reserved.new.self.items ≡ t.touched.items ++ open_link ∷ [] =
    c.push_reserved.ensures.items ∙ ap (λ x. t.touched.items ++ x ∷ []) c.open.ensures in
    record {
      slot = sym (get_or-set_same t.slots.items place free 0 (omega (arith, c.requires.within, sound.whole)));
      own = omega (arith, count, below_at t.slots.items (length t.touched.items) place sound.slots (omega (arith, c.requires.within, sound.whole)));
      links = rw touched (taken t.slots.items t.touched.items place free open_link count sound.first none);
      sound = sound_taken t _ place free sound c.requires.within none count refl touched c.push_reserved.ensures.capacity c.max-self.ensures;
    }
