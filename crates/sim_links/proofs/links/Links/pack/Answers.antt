use Rattle.std.proofs.Common.{◌≡◌, ◌∙◌, ◌≤◌, ◌-◌, ◌++◌, ap, take, replicate, arith}
use Rattle.sim_links.specs.Link.{open_link}
use Rattle.sim_links.specs.Table.{links_in}
use Rattle.sim_links.proofs.Places.{one_more, rest_open}
use Rattle.sim_links.proofs.Slots.{whole}
use Rattle.sim_links.proofs.links.Links.pack.Goals as goal

pub loop-place-preserved : goal.loop-place-preserved
loop-place-preserved g c =
    one_more (links_in c.self.inside.table) c.loop-place.packed c.keep.new.self c.loop-place.place 1024 c.direction-direction.result.now open_link
    (whole c.self.inside.table c.self.invariant) (omega arith) c.loop-place.invariant c.direction-direction.ensures c.in_ok-keep.ensures

pub returns : goal.returns
returns g c =
    let t = c.self.inside.table in
    let links = links_in t in
    let least : c.loop-place.place ≤ t.past = c.loop-place.auto.place-end in
    let all : c.loop-place.place ≡ t.past = omega arith in
    c.loop-place.invariant ∙ (ap (λ n. take n links ++ replicate (1024 - n) open_link) all ∙ (rest_open t c.self.invariant ∙ c.self.view_is))
