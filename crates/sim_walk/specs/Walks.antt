-- What an order does to the book of a walk, and its output.
use Rattle.std.specs.Prelude.{◌≡◌, ◌⊎◌, ◌++◌, ℕ, [], codes, Option, Result, Ok, Err, IfOk}
use Rattle.std.specs.Prelude.{string_bytes}
use Rattle.std.specs.Io.KnownBytes.{Appends}
use Rattle.std.specs.declared.alloc.AllocError.{AllocError}
use Rattle.sim_world.specs.Events.{Rules}
use Rattle.sim_script.specs.Script.{Text, Names}
use Rattle.sim_watch.specs.declared.command.Command.{Command}
use Rattle.sim_watch.specs.declared.command.Command.TheVariants.{Goto}
use Rattle.sim_watch.specs.declared.sought.Sought.{Sought}
use Rattle.sim_runs.specs.Branch.{Branch}
use Rattle.sim_book.specs.declared.Entry.{Entry}
use Rattle.sim_book.specs.declared.NotTaken.{NotTaken}
use Rattle.sim_book.specs.Book.{branch}
use Rattle.sim_watch.specs.Commands.{branch_of}
use Rattle.sim_answers.specs.Lines.{turn_line}
use Rattle.sim_cli.specs.Turns.{Course, Takes}
use Rattle.sim_walk.specs.declared.account.Account.{Account}
use Rattle.sim_walk.specs.declared.desk.Answer.{Answer}
use Rattle.sim_orders.specs.declared.order.Order.{Order}
use Rattle.sim_orders.specs.declared.order.Order.TheVariants.{Asked}
use Rattle.sim_orders.specs.declared.order.Order.TheVariants as order
use Rattle.sim_inspect.specs.Seeking.{IsFound}
use Rattle.sim_walk.specs.declared.walking.Turned.{Turned}
use Rattle.sim_walk.specs.declared.walking.Turned.TheVariants.{On}
use Rattle.sim_walk.specs.Accounts.{Accounts}

abbrev pub no_memory : Text
no_memory = codes "there was not enough memory\n"

-- the lines of events, between words
abbrev pub account_text : Account → Text
account_text a = string_bytes a.lead ++ a.told.items ++ string_bytes a.said

-- the output for an answer
abbrev pub text_of : Answer → Text
text_of a = a.reply.items ++ account_text a.account

-- the output for an order, with memory for an answer or without
abbrev pub text_by : {E : Type 0} → Result Answer E → Text
text_by (Ok a) = text_of a
text_by (Err e) = no_memory

-- what a search from the place of a branch finds
abbrev pub IsPlaceFor : {State Msg : Type 0} → Rules State Msg → Branch → Sought → ℕ → Type 0
IsPlaceFor r b sought place = IsFound r b.events b.place sought (Ok place)

module _ {State Msg : Type 0} (r : Rules State Msg) (names : Names) where
  -- A turn of the book carried out a command. The answer has the line of the turn, and the account
  -- of the way from the branch's place before the turn: the end, where events were added. Without
  -- memory there is no answer.
  pub record TakesTurn {E : Type 0} (old : Course) (asked : Command) (answer : Result Answer E)
      (new : Course) : Type 0 where
    pub turn : Result Entry NotTaken
    pub takes : Takes r old asked turn new
    pub told : IfOk answer (λ a. (a.reply.items ≡ turn_line names turn)
        × Accounts r (branch (branch_of asked) old.branches).place
        (branch (branch_of asked) new.branches).events
        turn a.account.told.items)

  -- the book is as before, and there is no reply
  abbrev pub Stays : {E : Type 0} → Course → Result Answer E → Course → Type 0
  Stays old answer new = (new ≡ old) × IfOk answer (λ a. a.reply.items ≡ [])

  -- A line of a script is a turn of the book. A place that is sought is found, and the branch goes
  -- there by a turn, or nothing changes. Nothing else changes the book.
  abbrev pub Walks : {E : Type 0} → Course → ℕ → Order → Result Answer E → Course → Type 0
  Walks old b (Asked asked) answer new = TakesTurn old asked answer new
  Walks old b (order.Sought sought) answer new =
      ((place : ℕ) × IsPlaceFor r (branch b old.branches) sought place
      × TakesTurn old (Goto b place) answer new) ⊎ Stays old answer new
  Walks old b _ answer new = Stays old answer new

  -- An order was carried out. If the walk goes on, its answer was written, or that there was not
  -- enough memory for one.
  pub record CarriesOut (old new : Course) (b : ℕ) (order : Order) (held holds : Option Text)
      (turned : Turned) : Type 0 where
    pub answer : Result Answer AllocError
    pub walks : Walks old b order answer new
    pub written : turned ≡ On → Appends held holds (text_by answer)
