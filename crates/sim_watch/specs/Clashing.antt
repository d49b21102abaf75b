-- Values that no two running hosts may show.
use Rattle.std.specs.Prelude.{ℕ, Bool, ◌||◌, nat_le}
use Rattle.sim_node.specs.Node.{NodeLaws}
use Rattle.sim_world.specs.declared.host.Host.{Host}
use Rattle.sim_watch.specs.Condition.{show_same, show_apart}
use Rattle.sim_watch.specs.declared.clashes.Clash.{Clash}
use Rattle.sim_watch.specs.declared.clashes.Clash.TheVariants.{Same, Apart}

module _ {State Msg : Type 0} (node : NodeLaws State Msg) where
  -- the two hosts clash
  abbrev pub clash : Clash → Host State → Host State → Bool
  clash (Same k n) x y = show_same node k n x y
  clash (Apart k by n) x y = show_apart node k by n x y

-- it names a probe that does not exist
abbrev pub is_of_no_probe : ℕ → Clash → Bool
is_of_no_probe probes (Same k n) = nat_le probes k
is_of_no_probe probes (Apart k by n) = nat_le probes k || nat_le probes by
