-- What is written where no command wanted memory.
use Rattle.std.proofs.Common.{◌≡◌, List, [], ◌∷◌, ◌++◌, refl, sym, ap, subst, ◌∙◌, append_assoc, inl, inr, Result, Ok, Err, MatchResult}
use Rattle.std.specs.List.{concat, AllByRecursion}
use Rattle.std.specs.Str.Lines.{lines}
use Rattle.sim_lines.specs.Cut.{head_of}
use Rattle.sim_scenario.specs.Scenario.{Protocol, ScenarioText, Fault}
use Rattle.sim_cli.specs.declared.status.Status.{Status}
use Rattle.sim_script.specs.Script.{Text}
use Rattle.sim_cli.specs.Lines.{fault_line}
use Rattle.sim_cli.specs.Turns.{beginning}
use Rattle.sim_cli.specs.Play.{Nodes, Tells, TellsNoWant, TellsAll, Played, Ended, out, out_of, read_scenario, names_of}
use Rattle.sim_play.specs.Plain.{TellsWant, IsDone, IsPlain}

-- no text of which a text is made tells of memory where this one doesn't
no_wants : (texts : List Text) (before written : Text) → written ≡ before ++ concat texts → ¬ (TellsWant written) → AllByRecursion TellsNoWant texts
no_wants [] before written e n = tt
no_wants (t ∷ ts) before written e n =
    let at = λ (x : Text) (is : t ≡ x). e ∙ ap (λ (y : Text). before ++ (y ++ concat ts)) is in (
      (λ is. n (inl (before, concat ts, at _ is)), λ is. n (inr (before, concat ts, at _ is))),
      no_wants ts (before ++ t) written (e ∙ sym (append_assoc before t (concat ts))) n,
    )

module _ (protocols : List Protocol) (nodes_of : ScenarioText → Nodes) where
  -- of a scenario that was read, and of one that is bad
  plain_by : (given written : Text) (texts : List Text) (s : Result ScenarioText Fault) → read_scenario protocols (head_of given).0 ≡ s →
      MatchResult s (λ x. Tells (nodes_of x).rules (names_of nodes_of x) beginning (lines (head_of given).1) texts written) (λ why. written ≡ fault_line why) →
      (AllByRecursion TellsNoWant texts → written ≡ out protocols nodes_of given) → IsPlain protocols nodes_of given written
  plain_by given written texts (Ok x) e t plain n = plain (no_wants texts [] written t.all n)
  plain_by given written texts (Err why) e t plain n = t ∙ ap (λ s. out_of nodes_of s (lines (head_of given).1)) (sym e)

  plain_of : (given written : Text) → TellsAll protocols nodes_of given written → IsPlain protocols nodes_of given written
  plain_of given written t = plain_by given written t.texts (read_scenario protocols (head_of given).0) refl t.tells t.plain

  played_plain : (given written : Text) (left : _) (ended : Status) → IsDone ended → Played protocols nodes_of given left ended written → IsPlain protocols nodes_of given written
  played_plain given written left ended d p = elim d [
    | inl e ↦ let q = subst (λ s. Played protocols nodes_of given left s written) e p in plain_of given written q.2
    | inr e ↦ let q = subst (λ s. Played protocols nodes_of given left s written) e p in plain_of given written q.2
  ]

  -- what was played was written plainly
  pub ended_plain : (given : Text) (left held holds : _) (ended : Status) → IsDone ended → Ended held holds (Played protocols nodes_of given left ended) → Ended held holds (IsPlain protocols nodes_of given)
  ended_plain given left held holds ended d p =
      record { written = p.written; appended = p.appended; is = played_plain given p.written left ended d p.is }
