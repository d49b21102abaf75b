-- What a session knows of the history when its command was not taken.
use Rattle.std.specs.Prelude.{◌≡◌, ◌↔◌, List, length}
use Rattle.sim_book.specs.declared.NotTaken.{NotTaken}
use Rattle.sim_book.specs.declared.NotTaken.TheVariants.{HistoryFull}
use Rattle.sim_book.specs.declared.Entry.{Entry}

-- the command was not taken for a full history exactly if the history has 65,536 entries
abbrev pub TellsFull : NotTaken → List Entry → Type 0
TellsFull why log = (why ≡ HistoryFull) ↔ (length log ≡ 65536)
