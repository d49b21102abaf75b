-- What a command says by itself.
use Rattle.std.specs.Prelude.{ℕ, Bool, true, false}
use Rattle.sim_watch.specs.declared.command.Command.{Command}
use Rattle.sim_watch.specs.declared.command.Command.TheVariants as command

-- the branch of a command
abbrev pub branch_of : Command → ℕ
branch_of (command.Step b) = b
branch_of (command.Tick b) = b
branch_of (command.Run b n) = b
branch_of (command.Fault b f) = b
branch_of (command.Back b n) = b
branch_of (command.Forward b n) = b
branch_of (command.Goto b p) = b
branch_of (command.Rewind b n) = b
branch_of (command.Cut b) = b
branch_of (command.Branch b p) = b
branch_of (command.Watch b c) = b
branch_of (command.Unwatch b w) = b
branch_of (command.Look b q) = b
branch_of (command.Freeze b) = b

-- a command that makes a branch
abbrev pub makes_branch : Command → Bool
makes_branch (command.Branch b p) = true
makes_branch _ = false

-- a command that keeps a condition
abbrev pub is_watch : Command → Bool
is_watch (command.Watch b c) = true
is_watch _ = false
