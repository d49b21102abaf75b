-- What a line of a script asks.
use Rattle.std.specs.Prelude.{ℕ, List, [], ◌∷◌, length, Bool, ◌==◌, if◌then◌else◌, codes, drop}
use Rattle.std.specs.Prelude.{Option, None, Some, option_and_then, nat_lt, slice_index}
use Rattle.std.specs.Option.{option_map, option_or}
use Rattle.std.specs.Str.{bytes_eq}
use Rattle.sim_events.specs.declared.Fault.{Fault}
use Rattle.sim_events.specs.declared.Fault.TheVariants as fault
use Rattle.sim_events.specs.declared.Query.{Query}
use Rattle.sim_events.specs.declared.Query.TheVariants as query
use Rattle.sim_watch.specs.declared.command.Command.{Command}
use Rattle.sim_watch.specs.declared.command.Command.TheVariants as command
use Rattle.sim_script.specs.declared.script.ScriptLine.{ScriptLine}
use Rattle.sim_script.specs.declared.script.ScriptLine.TheVariants.{Nothing, Bad, Asked}
pub use Rattle.sim_script.specs.Words.{Text, words, number, Names, host, probe}
use Rattle.sim_script.specs.Conditions.{condition}

-- the words after the first: nothing, a number, a host, two hosts, a host and a probe
abbrev pub nothing : {A : Type 0} → A → List Text → Option A
nothing a [] = Some a
nothing a (_ ∷ _) = None

-- a number of 1 to 9 decimal digits
abbrev pub a_number : List Text → Option ℕ
a_number (n ∷ []) = number 9 n
a_number _ = None

abbrev pub asked : Option Command → ScriptLine
asked None = Bad
asked (Some c) = Asked c

-- a line that begins with `#`, whatever its length and bytes
abbrev pub is_comment : Text → Bool
is_comment line = slice_index line 0 == 35

-- a command that takes a number, by its first word and the words that follow
unfoldable pub numbered_of : ℕ → Text → List Text → Option Command
numbered_of b word given =
    if bytes_eq word (codes "run") then option_map (command.Run b) (a_number given)
    else (if bytes_eq word (codes "back") then option_map (command.Back b) (a_number given)
    else (if bytes_eq word (codes "forward") then option_map (command.Forward b) (a_number given)
    else (if bytes_eq word (codes "goto") then option_map (command.Goto b) (a_number given)
    else (if bytes_eq word (codes "rewind") then option_map (command.Rewind b) (a_number given)
    else (if bytes_eq word (codes "branch") then option_map (command.Branch b) (a_number given)
    else (if bytes_eq word (codes "unwatch") then option_map (command.Unwatch b) (a_number given)
    else None))))))

module _ (names : Names) where
  abbrev pub a_host : List Text → Option ℕ
  a_host (h ∷ []) = host names h
  a_host _ = None

  abbrev pub two_hosts : List Text → Option (ℕ × ℕ)
  two_hosts (a ∷ b ∷ []) =
      option_and_then (λ x. option_map (λ y. (x, y)) (host names b)) (host names a)
  two_hosts _ = None

  abbrev pub a_host_and_probe : List Text → Option (ℕ × ℕ)
  a_host_and_probe (h ∷ k ∷ []) =
      option_and_then (λ x. option_map (λ y. (x, y)) (probe names k)) (host names h)
  a_host_and_probe _ = None

  -- a fault, by its first word and the words that follow
  unfoldable pub fault_of : Text → List Text → Option Fault
  fault_of word given =
      if bytes_eq word (codes "crash") then option_map fault.Crash (a_host given)
      else (if bytes_eq word (codes "bounce") then option_map fault.Bounce (a_host given)
      else (if bytes_eq word (codes "hold") then option_map (λ p. fault.Hold p.0 p.1)
      (two_hosts given)
      else (if bytes_eq word (codes "release") then option_map (λ p. fault.Release p.0 p.1)
      (two_hosts given)
      else (if bytes_eq word (codes "partition") then option_map (λ p. fault.Cut p.0 p.1)
      (two_hosts given)
      else (if bytes_eq word (codes "repair") then option_map (λ p. fault.Repair p.0 p.1)
      (two_hosts given)
      else (if bytes_eq word (codes "cutoneway") then option_map (λ p. fault.CutOneway p.0 p.1)
      (two_hosts given)
      else (if bytes_eq word (codes "repaironeway") then option_map
      (λ p. fault.RepairOneway p.0 p.1) (two_hosts given)
      else None)))))))

  -- the query, by the words after `look`
  unfoldable pub query_of : List Text → Option Query
  query_of [] = Some query.Summary
  query_of (word ∷ given) =
      if bytes_eq word (codes "next") then nothing query.Next given
      else (if bytes_eq word (codes "host") then option_map query.HostView (a_host given)
      else (if bytes_eq word (codes "link") then option_map (λ p. query.Link p.0 p.1)
      (two_hosts given)
      else (if bytes_eq word (codes "probe") then option_map (λ p. query.Probe p.0 p.1)
      (a_host_and_probe given)
      else None)))

  -- a command on a branch, by its first word and the words that follow
  unfoldable pub command_by : ℕ → Text → List Text → Option Command
  command_by b word given =
      if bytes_eq word (codes "step") then nothing (command.Step b) given
      else (if bytes_eq word (codes "tick") then nothing (command.Tick b) given
      else (if bytes_eq word (codes "cut") then nothing (command.Cut b) given
      else (if bytes_eq word (codes "trace") then nothing (command.Freeze b) given
      else (if bytes_eq word (codes "look") then option_map (command.Look b) (query_of given)
      else (if bytes_eq word (codes "watch") then option_map (command.Watch b)
      (condition names given)
      else option_or (numbered_of b word given) (option_map (command.Fault b)
      (fault_of word given)))))))

  abbrev pub command_on : ℕ → List Text → Option Command
  command_on b [] = None
  command_on b (word ∷ given) = command_by b word given

  -- a first word `@B` names the branch; without it the branch is 0
  unfoldable pub command_of : List Text → Option Command
  command_of [] = None
  command_of (word ∷ given) =
      if slice_index word 0 == 64 then option_and_then (λ b. command_on b given)
      (number 9 (drop 1 word))
      else command_on 0 (word ∷ given)

  -- A comment and an empty line ask nothing. A line of more than 256 bytes is bad.
  unfoldable pub script_line : Text → ScriptLine
  script_line line =
      if is_comment line then Nothing
      else (if length line == 0 then Nothing
      else (if nat_lt 256 (length line) then Bad
      else asked (command_of (words line))))
