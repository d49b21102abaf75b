use Rattle.std.proofs.Common.{◌≡◌, ℕ, ◌+◌, ◌∷◌, [], ◌++◌, length, take, set, get_or, replicate, sym, ap, ◌∙◌, append_assoc, length-append, arith}
use Rattle.std.proofs.lemmas.List.{append-nil, take_more, length-replicate, length-take-le}
use Rattle.sim_scenario.specs.Scenario.{first_32}
use Rattle.sim_scenario.proofs.Operations.{first_32-more, first_32-zeros}
use Rattle.sim_scenario.proofs.hosts.host_operations.Goals as goal

pub loop-i-init : goal.loop-i-init
loop-i-init c = rw (append-nil (replicate {A = ℕ} c.args.servers 0)) (first_32-zeros c.args.servers (omega arith) (length-replicate {A = ℕ} c.args.servers 0))

pub loop-i-preserved : goal.loop-i-preserved
loop-i-preserved c =
    let ns = replicate c.args.servers 0 ++ take c.loop-i.i c.args.clients.now in
    let v = get_or c.args.clients.now c.loop-i.i 0 in
    let size : length ns ≡ c.args.servers + c.loop-i.i = omega (arith, length-append (replicate {A = ℕ} c.args.servers 0) (take c.loop-i.i c.args.clients.now), length-replicate {A = ℕ} c.args.servers 0, length-take-le c.loop-i.i c.args.clients.now (omega arith)) in
    ap (λ t. set t (c.args.servers + c.loop-i.i) v) c.loop-i.invariant
    ∙ ap (λ k. set (first_32 ns) k v) (sym size) ∙ first_32-more ns v (omega arith)
    ∙ ap first_32 (append_assoc (replicate {A = ℕ} c.args.servers 0) (take c.loop-i.i c.args.clients.now) (v ∷ []) ∙ ap (λ t. replicate c.args.servers 0 ++ t) (sym (take_more c.args.clients.now c.loop-i.i 0 (omega arith))))
