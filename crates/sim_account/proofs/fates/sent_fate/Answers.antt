use Rattle.std.proofs.Common.{rules, ◌≡◌, ◌<◌, ◌≤◌, ◌∙◌, arith}
use Rattle.std.proofs.lemmas.Bool.{le-leb, lt-leb}
use Rattle.sim_links.specs.declared.LinkState.TheVariants as state
use Rattle.sim_links.specs.Link.{link}
use Rattle.sim_world.specs.Events.{rules as rules_of}
use Rattle.sim_account.proofs.Ledgers.{told_full, told_here, told_open, told_held, told_cut}
use Rattle.sim_account.proofs.fates.sent_fate.Goals as goal

pub returns-then-ledger-ge-MAX_MESSAGES-clause-told :
    goal.returns-then-ledger-ge-MAX_MESSAGES-clause-told
returns-then-ledger-ge-MAX_MESSAGES-clause-told g c = λ w m f.
    let full : 4096 ≤ c.args.ledger.now.messages = c.if-ledger-ge-MAX_MESSAGES.true in
    told_full _ _ _ _ _ _ m f (le-leb 4096 c.args.ledger.now.messages full)

pub returns-then-from-to-clause-told : goal.returns-then-from-to-clause-told
returns-then-from-to-clause-told g c = λ w m f.
    let few : c.args.ledger.now.messages < 4096 = c.if-ledger-ge-MAX_MESSAGES.false in
    let r = rules_of g.N.Node.laws g.N.Node.PROBES c.args.world.now.scenario in
    let p = told_here r c.args.from c.args.to c.args.world.now.world c.args.ledger.now w m f (lt-leb 4096 c.args.ledger.now.messages few) c.if-from-to.true in
    (c.in_flight.ensures.fate ∙ p.0, rw c.in_flight.ensures.after p.1)

pub returns-in-Through-clause-told : goal.returns-in-Through-clause-told
returns-in-Through-clause-told g c = λ w m f.
    let few : c.args.ledger.now.messages < 4096 = c.if-ledger-ge-MAX_MESSAGES.false in
    let r = rules_of g.N.Node.laws g.N.Node.PROBES c.args.world.now.scenario in
    let is : (link c.args.from c.args.to c.args.world.now.world.links).state ≡ state.Through = search rules in
    told_open r c.args.from c.args.to c.args.world.now.world c.args.ledger.now w m f (lt-leb 4096 c.args.ledger.now.messages few) c.if-from-to.false
    c.open_fate.result c.open_fate.new.ledger is (c.open_fate.ensures.told w m f)

pub returns-in-Held-clause-told : goal.returns-in-Held-clause-told
returns-in-Held-clause-told g c = λ w m f.
    let few : c.args.ledger.now.messages < 4096 = c.if-ledger-ge-MAX_MESSAGES.false in
    let r = rules_of g.N.Node.laws g.N.Node.PROBES c.args.world.now.scenario in
    let is : (link c.args.from c.args.to c.args.world.now.world.links).state ≡ state.Held = search rules in
    let from : c.args.from < 32 = c.requires.from in
    let to : c.args.to < 32 = c.requires.to in
    told_held r c.args.from c.args.to c.args.world.now.world c.args.ledger.now w m f (lt-leb 4096 c.args.ledger.now.messages few) c.if-from-to.false
    is (omega arith)

pub returns-in-Cut-clause-told : goal.returns-in-Cut-clause-told
returns-in-Cut-clause-told g c = λ w m f.
    let few : c.args.ledger.now.messages < 4096 = c.if-ledger-ge-MAX_MESSAGES.false in
    let r = rules_of g.N.Node.laws g.N.Node.PROBES c.args.world.now.scenario in
    let is : (link c.args.from c.args.to c.args.world.now.world.links).state ≡ state.Cut = search rules in
    told_cut r c.args.from c.args.to c.args.world.now.world c.args.ledger.now w m f (lt-leb 4096 c.args.ledger.now.messages few) c.if-from-to.false is
