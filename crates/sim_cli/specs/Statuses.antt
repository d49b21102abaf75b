-- The exit statuses of the program.
use Rattle.std.specs.Prelude.{ℕ, ⊤}
use Rattle.sim_cli.specs.declared.status.Status.{Status}
use Rattle.sim_cli.specs.declared.status.Status.TheVariants.{Well, BadScenario, BadRequest}
use Rattle.sim_cli.specs.declared.status.Status.TheVariants.{ReaderFailed, WriterFailed}
use Rattle.sim_cli.specs.declared.status.Status.TheVariants.{MemoryWanted}

abbrev pub status_number : Status → ℕ
status_number Well = 0
status_number BadScenario = 1
status_number BadRequest = 2
status_number ReaderFailed = 3
status_number WriterFailed = 3
status_number MemoryWanted = 4

-- a script or a hunt ends without an answer: the reader failed, or memory was wanted
abbrev pub Stops : Status → Type 0
Stops Well = ⊥
Stops BadScenario = ⊥
Stops BadRequest = ⊥
Stops ReaderFailed = ⊤
Stops WriterFailed = ⊥
Stops MemoryWanted = ⊤
