use Rattle.std.proofs.Common.{◌≡◌, ℕ, ◌-◌, ◌<◌, length, refl, sym, ◌∙◌, ap, subst, arith, Some}
use Rattle.std.specs.Option.{option_copied}
use Rattle.sim_queue.specs.declared.lists.Node.{Node}
use Rattle.sim_queue.specs.inside.Lists.{node}
use Rattle.sim_queue.specs.inside.Wheel.{key_of}
use Rattle.sim_queue.specs.inside.Sparse.{body_at}
use Rattle.sim_queue.proofs.Nodes.{key_within, key_from, node_read}
use Rattle.sim_queue.proofs.Turning.{key_some}
use Rattle.sim_queue.proofs.Finding.{body_of_key, not_accepted, too_early, by_test}
use Rattle.sim_queue.proofs.taken.taken_at.Goals as goal

pub index-requires : goal.index-requires
index-requires g c =
    let body = body_of_key c.args.lists.now.width c.args.at c.args.lists.now.nodes.items c.args.bodies.now.items c.requires.lists c.requires.bodies c.requires.key in
    let within : c.args.at - 256 < length c.args.bodies.now.items = body.within in
    subst (λ (n : ℕ). c.args.at - 256 < n) (sym c.args.bodies.now.ok.0) within

pub overflow_sub-at : goal.overflow_sub-at
overflow_sub-at g c = key_from c.args.lists.now.width c.args.lists.now.nodes.items c.args.at c.requires.lists c.requires.key

pub index-requires-2 : goal.index-requires-2
index-requires-2 g c =
    let nodes = c.args.lists.now.nodes.items in
    let within : c.args.at < length nodes = key_within nodes c.args.at c.requires.key in
    subst (λ (n : ℕ). c.args.at < n) (sym c.args.lists.now.nodes.ok.0) within

pub unwrap-body-requires : goal.unwrap-body-requires
unwrap-body-requires g c =
    let body = body_of_key c.args.lists.now.width c.args.at c.args.lists.now.nodes.items c.args.bodies.now.items c.requires.lists c.requires.bodies c.requires.key in
    c.as_ref.ensures.variant ∙ body.there c.index.result.now c.index.ensures

pub returns-then-not-test : goal.returns-then-not-test
returns-then-not-test g c p tests =
    let taken : c.test.result ≡ p c.unwrap-body.result.now = tests c.unwrap-body.result.now c.test.result (record { shown = _; shows = refl; says = record { met = c.test.ensures } }) in
    let body = body_of_key c.args.lists.now.width c.args.at c.args.lists.now.nodes.items c.args.bodies.now.items c.requires.lists c.requires.bodies c.requires.key in
    let there : body_at c.args.bodies.now.items (c.args.at - 256) ≡ Some c.unwrap-body.result.now =
    body.read c.index.result.now c.index.ensures ∙ (sym c.as_ref.ensures.value ∙ ap option_copied c.unwrap-body.ensures) in
    not_accepted p c.args.from (key_of (node c.args.lists.now.nodes.items c.args.at)) _ c.unwrap-body.result.now there (sym taken ∙ c.if-not-test.true)

pub returns-then-serial-from : goal.returns-then-serial-from
returns-then-serial-from g c p tests =
    let nodes = c.args.lists.now.nodes.items in
    let body = body_of_key c.args.lists.now.width c.args.at nodes c.args.bodies.now.items c.requires.lists c.requires.bodies c.requires.key in
    let there : body_at c.args.bodies.now.items (c.args.at - 256) ≡ Some c.unwrap-body.result.now =
    body.read c.index.result.now c.index.ensures ∙ (sym c.as_ref.ensures.value ∙ ap option_copied c.unwrap-body.ensures) in
    let read = node_read nodes c.args.at c.index-2.result.now (key_within nodes c.args.at c.requires.key) c.index-2.ensures in
    let key : key_of (node nodes c.args.at) ≡ Some (c.index-2.result.now.due, c.index-2.result.now.serial) =
    key_some (node nodes c.args.at) c.requires.key ∙ ap (λ (x : Node). Some (x.due, x.serial)) read in
    too_early p c.args.from c.index-2.result.now.due c.index-2.result.now.serial _ _ c.unwrap-body.result.now key (omega arith) there

pub returns : goal.returns
returns g c p tests =
    let nodes = c.args.lists.now.nodes.items in
    let taken : c.test.result ≡ p c.unwrap-body.result.now = tests c.unwrap-body.result.now c.test.result (record { shown = _; shows = refl; says = record { met = c.test.ensures } }) in
    let body = body_of_key c.args.lists.now.width c.args.at nodes c.args.bodies.now.items c.requires.lists c.requires.bodies c.requires.key in
    let there : body_at c.args.bodies.now.items (c.args.at - 256) ≡ Some c.unwrap-body.result.now =
    body.read c.index.result.now c.index.ensures ∙ (sym c.as_ref.ensures.value ∙ ap option_copied c.unwrap-body.ensures) in
    let read = node_read nodes c.args.at c.index-2.result.now (key_within nodes c.args.at c.requires.key) c.index-2.ensures in
    let key : key_of (node nodes c.args.at) ≡ Some (c.index-2.result.now.due, c.index-2.result.now.serial) =
    key_some (node nodes c.args.at) c.requires.key ∙ ap (λ (x : Node). Some (x.due, x.serial)) read in
    by_test p c.args.from c.index-2.result.now.due c.index-2.result.now.serial _ _ c.unwrap-body.result.now _ key (omega arith) there (sym taken ∙ c.if-not-test.false)
