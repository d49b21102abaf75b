-- The lines that answer turns. Places, clocks (ms) and numbers are in decimal digits.
use Rattle.std.specs.Prelude.{ℕ, Bool, true, false, codes, List, [], ◌∷◌, Option, Some, None}
use Rattle.std.specs.Prelude.{Result, Ok, Err}
use Rattle.std.specs.Fmt.{decimal}
use Rattle.sim_links.specs.declared.LinkState.{LinkState}
use Rattle.sim_links.specs.declared.LinkState.TheVariants as state
use Rattle.sim_events.specs.declared.Kind.{Kind}
use Rattle.sim_events.specs.declared.Kind.TheVariants as kind
use Rattle.sim_events.specs.declared.Coming.{Coming}
use Rattle.sim_events.specs.declared.View.{View}
use Rattle.sim_events.specs.declared.View.TheVariants as view
use Rattle.sim_book.specs.declared.Refusal.{Refusal}
use Rattle.sim_book.specs.declared.Refusal.TheVariants as refusal
use Rattle.sim_runs.specs.declared.Stop.{Stop}
use Rattle.sim_runs.specs.declared.Stop.TheVariants as stop
use Rattle.sim_book.specs.declared.Reply.{Reply}
use Rattle.sim_book.specs.declared.Reply.TheVariants as reply
use Rattle.sim_book.specs.declared.Entry.{Entry}
use Rattle.sim_book.specs.declared.NotTaken.{NotTaken}
use Rattle.sim_book.specs.declared.NotTaken.TheVariants as not_taken
use Rattle.sim_watch.specs.Commands.{branch_of}
use Rattle.sim_script.specs.Words.{Text, Names, host_name, probe_name}
pub use Rattle.sim_answers.specs.Spacing.{spaced, field, line}
use Rattle.sim_answers.specs.Trace.{trace_words}

-- a refusal's number and name
abbrev pub refusal_words : Refusal → Text
refusal_words refusal.UnknownBranch = codes "1 UnknownBranch"
refusal_words refusal.UnknownHost = codes "2 UnknownHost"
refusal_words refusal.SameHost = codes "3 SameHost"
refusal_words refusal.NotAtEnd = codes "4 NotAtEnd"
refusal_words refusal.TooFar = codes "5 TooFar"
refusal_words refusal.EventsFull = codes "6 EventsFull"
refusal_words refusal.Idle = codes "7 Idle"
refusal_words refusal.BranchesFull = codes "8 BranchesFull"
refusal_words refusal.WatchesFull = codes "9 WatchesFull"
refusal_words refusal.UnknownWatch = codes "10 UnknownWatch"
refusal_words refusal.BadCondition = codes "11 BadCondition"
refusal_words refusal.NoMemory = codes "12 NoMemory"

-- the words after the place and the clock, by the stop
abbrev pub stop_words : Stop → List Text
stop_words stop.Asked = []
stop_words stop.AllDone = codes "all done" ∷ []
stop_words stop.Idle = codes "idle" ∷ []
stop_words (stop.Watch w) = field (codes "watch") w ∷ []
stop_words stop.Full = codes "full" ∷ []
stop_words stop.Long = codes "long" ∷ []

abbrev pub move_words : ℕ → ℕ → Stop → Text
move_words place clock why =
    spaced (field (codes "place") place ∷ field (codes "clock") clock ∷ stop_words why)

abbrev pub kind_word : Kind → Text
kind_word kind.Start = codes "start"
kind_word kind.Timer = codes "timer"
kind_word kind.Message = codes "message"
kind_word kind.Sync = codes "sync"

abbrev pub state_word : LinkState → Text
state_word state.Through = codes "open"
state_word state.Held = codes "held"
state_word state.Cut = codes "cut"

abbrev pub up_word : Bool → Text
up_word true = codes "up"
up_word false = codes "down"

abbrev pub yes_word : Bool → Text
yes_word true = codes "yes"
yes_word false = codes "no"

abbrev pub value_word : Option ℕ → Text
value_word None = codes "down"
value_word (Some n) = decimal n

abbrev pub not_taken_words : NotTaken → Text
not_taken_words not_taken.HistoryFull = codes "not taken HistoryFull"
not_taken_words not_taken.NoMemory = codes "not taken NoMemory"

module _ (names : Names) where
  abbrev pub next_words : Option Coming → Text
  next_words None = codes "none"
  next_words (Some x) = spaced
      (field (codes "due") x.due ∷ field (codes "serial") x.serial ∷ codes "host"
      ∷ host_name names x.host ∷ kind_word x.kind ∷ [])

  -- the words of a view at a place
  abbrev pub view_words : ℕ → View → Text
  view_words place (view.Summary clock serial net torn pending held) = spaced
      (field (codes "place") place ∷ field (codes "clock") clock ∷ field (codes "serial") serial
      ∷ field (codes "net") net
      ∷ field (codes "torn") torn ∷ field (codes "pending") pending ∷ field (codes "held") held
      ∷ [])
  view_words place (view.Next x) = next_words x
  view_words place (view.HostView h up done draws stable unsynced) = spaced
      (host_name names h ∷ up_word up ∷ codes "done" ∷ yes_word done ∷ field (codes "draws") draws
      ∷ field (codes "stable") stable
      ∷ field (codes "unsynced") unsynced ∷ [])
  view_words place (view.Link a b state messages) = spaced
      (host_name names a ∷ host_name names b ∷ state_word state ∷ field (codes "messages") messages
      ∷ [])
  view_words place (view.Probe h k value) =
      spaced (host_name names h ∷ probe_name names k ∷ value_word value ∷ [])

  -- a reply to a command on a branch
  abbrev pub reply_words : ℕ → Reply → Text
  reply_words branch (reply.Moved place clock why) = move_words place clock why
  reply_words branch (reply.Made n) = field (codes "made") n
  reply_words branch (reply.Dropped w) = field (codes "dropped") w
  reply_words branch (reply.Seen place seen) = view_words place seen
  reply_words branch (reply.Frozen events) = trace_words names branch events
  reply_words branch (reply.Refused why) = spaced (codes "refused" ∷ refusal_words why ∷ [])

  abbrev pub turn_words : Result Entry NotTaken → Text
  turn_words (Ok e) = reply_words (branch_of e.command) e.reply
  turn_words (Err why) = not_taken_words why

  -- the line that answers a turn
  abbrev pub turn_line : Result Entry NotTaken → Text
  turn_line turn = line (turn_words turn)
