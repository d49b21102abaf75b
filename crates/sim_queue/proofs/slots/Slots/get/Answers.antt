use Rattle.std.proofs.Common.{rules, ◌≡◌, Some, is_some, sym, ap, ◌∙◌}
use Rattle.sim_queue.specs.inside.Slots.{at}
use Rattle.sim_queue.specs.inside.Sparse.{SlotList, index_at, body_at}
use Rattle.sim_queue.proofs.Sparse.{got, read_body, spot_within}
use Rattle.sim_queue.proofs.slots.Slots.get.Goals as goal

pub key-due-requires : goal.key-due-requires
key-due-requires g c =
    let here : index_at c.self.inside.places.items c.args.place ≡ Some c.in_ok-at.at = search rules in
    let x = c.self.invariant.found c.args.place c.in_ok-at.at here in
    ap (λ o. is_some o) x.key

pub index-requires : goal.index-requires
index-requires g c =
    let here : index_at c.self.inside.places.items c.args.place ≡ Some c.in_ok-at.at = search rules in
    let x = c.self.invariant.found c.args.place c.in_ok-at.at here in
    rw c.self.inside.bodies.ok.0 (spot_within c.self.inside.bodies.items c.in_ok-at.at x.body x.there)

pub returns : goal.returns
returns g c =
    let keys = c.self.inside.wheel in
    let bodies = c.self.inside.bodies.items in
    let places = c.self.inside.places.items in
    let base = c.self.inside.base in
    let count = c.self.inside.count in
    let here : index_at places c.args.place ≡ Some c.in_ok-at.at = search rules in
    let x = c.self.invariant.found c.args.place c.in_ok-at.at here in
    let within = spot_within bodies c.in_ok-at.at x.body x.there in
    let body : body_at bodies c.in_ok-at.at ≡ Some c.in_ok-body.body.now = read_body bodies c.in_ok-at.at c.index.result.now within c.index.ensures ∙ sym c.in_ok-body.ensures.value in
    got keys bodies places c.args.place c.in_ok-at.at c.key-due.result.0 c.key-due.result.1 c.in_ok-body.body.now here c.key-due.ensures body
    ∙ ap (λ (s : SlotList _). at s.items c.args.place) c.self.view_is
