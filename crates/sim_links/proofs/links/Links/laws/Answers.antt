use Rattle.sim_links.proofs.Slots.{whole_links}
use Rattle.sim_links.proofs.links.Links.laws.Goals as goal

pub returns : goal.returns
returns g c = whole_links c.self.inside.table c.self.invariant c.self.view_is
