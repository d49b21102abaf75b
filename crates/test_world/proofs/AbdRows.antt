-- A run of the register, worked out: server a and client w with two operations, a write and a read.
use Rattle.std.specs.Prelude.{◌≡◌, ◌∷◌, Some, true, replicate}
use Rattle.std.proofs.Common.{refl}
use Rattle.sim_events.specs.declared.Query.TheVariants as query
use Rattle.sim_events.specs.declared.View.TheVariants as view
use Rattle.sim_world.specs.Events.{Rules, rules}
use Rattle.sim_abd.specs.declared.roles.AbdMsg.{AbdMsg}
use Rattle.sim_abd.specs.declared.roles.State.{State}
use Rattle.sim_abd.specs.Abd.{abd}
use Rattle.test_world.proofs.ProtocolBase.{on_rows, with_setup, seen, steps}

abbrev fast : Rules State AbdMsg
fast = rules abd 3 (with_setup (record { servers = 1; hosts = 2; ops = 0 ∷ 2 ∷ replicate 30 0 }) 0)

write_and_read : seen fast (steps 11) query.Summary ≡ Some (view.Summary 80 15 16 0 1 0)
unfolding on_rows
write_and_read = refl

client_done : seen fast (steps 11) (query.HostView 1) ≡ Some (view.HostView 1 true true 5 0 0)
unfolding on_rows
client_done = refl

last_read : seen fast (steps 11) (query.Probe 1 2) ≡ Some (view.Probe 1 2 (Some 1001))
unfolding on_rows
last_read = refl

server_number : seen fast (steps 11) (query.Probe 0 1) ≡ Some (view.Probe 0 1 (Some 1))
unfolding on_rows
server_number = refl
