-- What the contracts of a server's reactions share.
use Rattle.std.specs.Prelude.{◌≡◌, ◌<◌, ◌++◌, List, []}
use Rattle.sim_node.specs.Effects.{Effect, Effects}
use Rattle.sim_node.specs.Node.{IsHostSetup}
use Rattle.sim_hosts.specs.Reactions.{Reaction, asked_for}
use Rattle.example_raft.specs.declared.roles.Context.{Context}
use Rattle.example_raft.specs.declared.roles.Message.{Message}
use Rattle.example_raft.specs.declared.roles.Server.{Server}
use Rattle.example_raft.specs.declared.roles.Change.{Change}
use Rattle.example_raft.specs.RaftRecords.{IsPlacedStanding, IsPlacedChange, restored_log}
use Rattle.example_raft.specs.RaftRecords.{restored_peers}

-- the effects with more added
abbrev pub asking : List (Effect Message) → Effects Message → Effects Message
asking more effects = record effects { list = effects.list ++ more }

-- the context is that of a host of a lawful cluster
pub record IsContext (here : Context) : Type 0 where
  pub setup : IsHostSetup here.setup
  pub me : here.me < here.setup.hosts

-- a server may begin to react: the hosts that it names exist, and it has no effects yet
pub record MayReact (here : Context) (s : Server) (effects : Effects Message) : Type 0 where
  pub context : IsContext here
  pub placed : IsPlacedStanding here.setup.hosts s.standing
  pub empty : effects ≡ asked_for here.setup []

-- a server has reacted: this is its state, these are its effects, and the hosts that it names exist
pub record Reacted (here : Context) (reaction : Reaction Server Message) (new : Server)
    (out : Effects Message) : Type 0 where
  pub state : new ≡ reaction.0
  pub effects : out ≡ asked_for here.setup reaction.1
  pub placed : IsPlacedStanding here.setup.hosts new.standing

-- a change leads back to the log and the peers before it
pub record LeadsBack (change : Change) (old new : Server) : Type 0 where
  pub placed : IsPlacedChange change
  pub log : restored_log change new.log ≡ old.log
  pub peers : restored_peers change new.peers ≡ old.peers
