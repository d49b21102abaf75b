use Rattle.std.proofs.Common.{rules, sym, ap}
use Rattle.sim_lock.proofs.Ends.{opens_at}
use Rattle.sim_lock.proofs.seat.Lock.open.Goals as goal

pub new-requires : goal.new-requires
new-requires g c =
    opens_at g.B.Kept.session_of g.B.Kept.scenario g.B.Kept.entries _ _ c.push_reserved.new.self.items c.args.book (search rules) (sym (ap g.B.Kept.scenario c.of.ensures)) c.requires.empty
