-- A command is read by its kind and then its words, or by its words and then its kind.
use Rattle.std.proofs.Common.{◌≡◌, ap, refl, ℕ, Bool, true, false, cond, List, Option, Some, None, codes, option_and_then, option_map}
use Rattle.std.specs.Str.{bytes_eq}
use Rattle.sim_events.specs.declared.Fault.{Fault}
use Rattle.sim_events.specs.declared.Fault.TheVariants as fault
use Rattle.sim_watch.specs.declared.command.Command.{Command}
use Rattle.sim_watch.specs.declared.command.Command.TheVariants as command
use Rattle.sim_script.specs.Words.{Names, Text}
use Rattle.sim_script.specs.Script.{a_host, a_number, two_hosts, fault_of, numbered_of}
use Rattle.sim_script.specs.Sorts.{link_fault, numbered_by, numbered_command}
use Rattle.sim_script.specs.declared.script.Numbered.TheVariants as kind

pub numbered_is : (b : ℕ) (word : Text) (given : List Text) → numbered_of b word given ≡ option_and_then (λ k. option_map (numbered_command k b) (a_number given)) (numbered_by word)
unfolding numbered_of numbered_by
numbered_is b word given =
    go (bytes_eq word (codes "run")) (bytes_eq word (codes "back")) (bytes_eq word (codes "forward")) (bytes_eq word (codes "goto")) (bytes_eq word (codes "rewind")) (bytes_eq word (codes "branch")) (bytes_eq word (codes "unwatch"))
    (a_number given)
  where
    go : (p1 p2 p3 p4 p5 p6 p7 : Bool) (n : Option ℕ) →
        cond p1 (option_map (command.Run b) n) (cond p2 (option_map (command.Back b) n) (cond p3 (option_map (command.Forward b) n) (cond p4 (option_map (command.Goto b) n)
        (cond p5 (option_map (command.Rewind b) n) (cond p6 (option_map (command.Branch b) n) (cond p7 (option_map (command.Unwatch b) n) None))))))
        ≡ option_and_then (λ k. option_map (numbered_command k b) n)
        (cond p1 (Some kind.Run) (cond p2 (Some kind.Back) (cond p3 (Some kind.Forward) (cond p4 (Some kind.Goto) (cond p5 (Some kind.Rewind) (cond p6 (Some kind.Branch) (cond p7 (Some kind.Unwatch) None)))))))
    go true p2 p3 p4 p5 p6 p7 n = refl
    go false true p3 p4 p5 p6 p7 n = refl
    go false false true p4 p5 p6 p7 n = refl
    go false false false true p5 p6 p7 n = refl
    go false false false false true p6 p7 n = refl
    go false false false false false true p7 n = refl
    go false false false false false false true n = refl
    go false false false false false false false n = refl

nothing_picked : {A : Type 0} (p1 p2 p3 p4 p5 p6 : Bool) → ◌≡◌ {A = Option A} (cond p1 None (cond p2 None (cond p3 None (cond p4 None (cond p5 None (cond p6 None None)))))) None
nothing_picked true p2 p3 p4 p5 p6 = refl
nothing_picked false true p3 p4 p5 p6 = refl
nothing_picked false false true p4 p5 p6 = refl
nothing_picked false false false true p5 p6 = refl
nothing_picked false false false false true p6 = refl
nothing_picked false false false false false true = refl
nothing_picked false false false false false false = refl

pub fault_is : (names : Names) (word : Text) (given : List Text) → fault_of names word given
    ≡ cond (bytes_eq word (codes "crash")) (option_map fault.Crash (a_host names given)) (cond (bytes_eq word (codes "bounce")) (option_map fault.Bounce (a_host names given))
    (option_and_then (λ p. link_fault word p.0 p.1) (two_hosts names given)))
unfolding fault_of link_fault
fault_is names word given =
    ap (λ rest. cond (bytes_eq word (codes "crash")) (option_map fault.Crash (a_host names given)) (cond (bytes_eq word (codes "bounce")) (option_map fault.Bounce (a_host names given)) rest))
    (go (two_hosts names given))
  where
    go : (o : Option (ℕ × ℕ)) →
        cond (bytes_eq word (codes "hold")) (option_map (λ (p : ℕ × ℕ). fault.Hold p.0 p.1) o) (cond (bytes_eq word (codes "release")) (option_map (λ (p : ℕ × ℕ). fault.Release p.0 p.1) o)
        (cond (bytes_eq word (codes "partition")) (option_map (λ (p : ℕ × ℕ). fault.Cut p.0 p.1) o) (cond (bytes_eq word (codes "repair")) (option_map (λ (p : ℕ × ℕ). fault.Repair p.0 p.1) o)
        (cond (bytes_eq word (codes "cutoneway")) (option_map (λ (p : ℕ × ℕ). fault.CutOneway p.0 p.1) o) (cond (bytes_eq word (codes "repaironeway")) (option_map (λ (p : ℕ × ℕ). fault.RepairOneway p.0 p.1) o) None)))))
        ≡ option_and_then (λ (p : ℕ × ℕ). link_fault word p.0 p.1) o
    go None = nothing_picked (bytes_eq word (codes "hold")) (bytes_eq word (codes "release")) (bytes_eq word (codes "partition")) (bytes_eq word (codes "repair")) (bytes_eq word (codes "cutoneway")) (bytes_eq word (codes "repaironeway"))
    go (Some p) = refl
