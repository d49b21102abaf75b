use Rattle.std.proofs.Common.{◌≡◌, ◌∙◌, ap, cond, ◌++◌}
use Rattle.sim_lines.proofs.Passing.{Passes-waits, handed, PassesSome-later}
use Rattle.sim_lines.proofs.writing.Outlet.hand_over.Goals as goal

pub returns-then-keep : goal.returns-then-keep
returns-then-keep g c = Passes-waits _ _ _ _ (c.keep.ensures ∙ ap (λ b. cond b (c.args.self.now ++ c.args.text.now) c.args.self.now) c.if-keep.true)

pub returns-in-Err : goal.returns-in-Err
returns-in-Err g c =
    let same : c.keep.new.self ≡ c.args.self.now = c.keep.ensures ∙ ap (λ b. cond b (c.args.self.now ++ c.args.text.now) c.args.self.now) c.if-keep.false in
    PassesSome-later _ _ c.args.self.now c.args.text.now (rw same at c.in-Err.ensures)

pub returns : goal.returns
returns g c =
    let same : c.keep.new.self ≡ c.args.self.now = c.keep.ensures ∙ ap (λ b. cond b (c.args.self.now ++ c.args.text.now) c.args.self.now) c.if-keep.false in
    handed _ _ _ c.args.self.now c.args.text.now c.flush.new.self c.put.result (rw same at c.in-Ok.ensures.0) c.in-Ok.ensures.1 c.put.ensures.ok c.put.ensures.err
