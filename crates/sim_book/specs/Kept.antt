-- What a contract sees of a branch of a book: its tape and its watches; and what it sees of a book.
use Rattle.std.specs.Prelude.{List, map, Option, None, replicate}
use Rattle.sim_node.specs.Work.{Work}
use Rattle.sim_tape.specs.Tape.{Tape, opened}
use Rattle.sim_events.specs.Scenario.{Scenario}
use Rattle.sim_watch.specs.Condition.{Cond}
use Rattle.sim_runs.specs.Branch.{Branch, branch_with}
use Rattle.sim_book.specs.Book.{Book}
use Rattle.sim_book.specs.declared.Entry.{Entry}

pub record Kept : Type 0 where
  pub tape : Tape
  pub watches : List (Option Cond)

-- the first branch of a book, unused and without watches
abbrev pub first_kept : Scenario → Kept
first_kept s = record { tape = opened s; watches = replicate 8 None }

abbrev pub shown : Kept → Branch
shown k = branch_with k.watches k.tape

abbrev pub all_shown : List Kept → Book
all_shown ks = map shown ks

-- scenario   the scenario of its runs
-- kept       its branches
-- history    the entries, in order
-- work       what its meter has counted
pub record BookView : Type 0 where
  pub scenario : Scenario
  pub kept : List Kept
  pub history : List Entry
  pub work : Work

-- a book of these parts
abbrev pub view_of : Scenario → List Kept → List Entry → Work → BookView
view_of s ks es w = record { scenario = s; kept = ks; history = es; work = w }
