use Rattle.std.proofs.Common.{◌≡◌, ◌-◌, ◌++◌, take, replicate}
use Rattle.sim_links.specs.Link.{open_link}
use Rattle.sim_links.specs.Table.{links_in}
use Rattle.sim_links.proofs.links.Links.pack.Given as goal

abbrev pub invariant-loop-place : goal.invariant-loop-place
invariant-loop-place g l = l.packed ≡ take l.place (links_in l.self-inside.table) ++ replicate (1024 - l.place) open_link
