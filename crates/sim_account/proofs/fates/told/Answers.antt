use Rattle.std.proofs.Common.{rules as std_rules, ◌≡◌, ◌≤◌, suc, ◌+◌, [], ◌∷◌, ◌++◌, length, min, subst, sym, ap, ◌∙◌, arith, append_assoc, append-nil}
use Rattle.sim_node.specs.Seen.{seen}
use Rattle.sim_world.specs.Events.{rules, effect}
use Rattle.sim_account.specs.Account.{all_told}
use Rattle.sim_account.specs.inside.Ledger.{HasRoomFor}
use Rattle.sim_account.proofs.fates.told.Goals as goal

pub loop-effect-preserved : goal.loop-effect-preserved
loop-effect-preserved g c =
    let r = rules g.N.Node.laws g.N.Node.PROBES c.args.world.now.scenario in
    let h = c.args.host in
    let base = c.args.world.now.world in
    let inv = c.loop-effect.invariant in
    let e = seen c.in-Some.effect in
    let rest = c.take_first.new.self.list in
    let list : c.loop-effect.effects.list ≡ e ∷ rest = ap (λ x. x.list) c.in-Some.ensures.some in
    let count_is : length c.loop-effect.effects.list ≡ suc (length rest) = ap length list in
    let few : length c.loop-effect.effects.list ≤ 40 = c.in-Some.ensures.limited.0 in
    let more : min (length c.loop-effect.effects.list) 40 ≡ min (length rest) 40 + 1 = omega arith in
    record {
      hosts = sym (ap (λ x. x.hosts) c.in-Some.ensures.some) ∙ inv.hosts;
      room = c.fate-fate.ensures.room (min (length rest) 40) (subst (λ n. HasRoomFor n c.loop-effect.ledger) more inv.room);
      told = λ v f.
          let t = inv.told v f in
          let p = c.fate-fate.ensures.told t.0 t.1 in
          let next = effect r h e t.0 in
          let pushed : c.push.new.self.items ≡ c.loop-effect.told.items ++ record { effect = e; fate = c.fate-fate.result } ∷ [] = search std_rules in (
            next,
            p.1,
            ap (λ xs. xs ++ all_told r h rest next) pushed
                ∙ append_assoc c.loop-effect.told.items (record { effect = e; fate = c.fate-fate.result } ∷ []) (all_told r h rest next)
                ∙ ap (λ f. c.loop-effect.told.items ++ (record { effect = e; fate = f } ∷ all_told r h rest next)) p.0
                ∙ ap (λ es. c.loop-effect.told.items ++ all_told r h es t.0) (sym list)
                ∙ t.2,
          );
    }

pub fate-fate-requires-clause-room : goal.fate-fate-requires-clause-room
fate-fate-requires-clause-room g c =
    let inv = c.loop-effect.invariant in
    let rest = c.take_first.new.self.list in
    let list : c.loop-effect.effects.list ≡ seen c.in-Some.effect ∷ rest = ap (λ x. x.list) c.in-Some.ensures.some in
    let count_is : length c.loop-effect.effects.list ≡ suc (length rest) = ap length list in
    let n = min (length c.loop-effect.effects.list) 40 in
    let some : 1 ≤ n = omega arith in
    let room = inv.room in
    let words = room.words in
    let serial = room.serial in
    let unasked = room.unasked in
    record { clock = room.clock; words = omega arith; serial = omega arith; messages = room.messages; unasked = omega arith }

pub returns : goal.returns
returns g c = λ w f.
    let r = rules g.N.Node.laws g.N.Node.PROBES c.args.world.now.scenario in
    let t = c.loop-effect.invariant.told w f in
    let none = c.in_default.ensures.none.0 in
    sym (append-nil c.loop-effect.told.items) ∙ ap (λ es. c.loop-effect.told.items ++ all_told r c.args.host es t.0) (sym none) ∙ t.2
