-- What was written is what a status says.
use Rattle.std.proofs.Common.{[], ◌++◌, Option, refl, sym, subst, inl, inr}
use Rattle.sim_lines.proofs.Known.{Appends-none}
use Rattle.sim_script.specs.Script.{Text}
use Rattle.sim_cli.specs.declared.status.Status.{Status}
use Rattle.sim_cli.specs.declared.status.Status.TheVariants.{Well, BadScenario, BadRequest, ReaderFailed, WriterFailed, MemoryWanted}
use Rattle.sim_cli.specs.Statuses.{Stops}
use Rattle.sim_cli.specs.Play.{Ended}
use Rattle.sim_export.specs.declared.export.Export.{Export}
use Rattle.sim_export.specs.declared.export.Export.TheVariants as export
use Rattle.sim_export.specs.Exports.{Tells, WritesExport, export_status, export_text}

module _ (P : Text → Status → Type 0) where
  -- a text that is right tells, with the status of an export
  told_whole : (e : Export) (text : Text) → P text (export_status e) → Tells P (export_status e) text
  told_whole (export.Input t) text p = p
  told_whole (export.Shown t) text p = p
  told_whole export.Nowhere text p = p
  told_whole export.BadRange text p = p
  told_whole export.BadCondition text p = p
  told_whole export.BadScript text p = p
  told_whole export.NoInput text p = p

  -- an export that is right was written, or a part of it
  pub told_export : (e : Export) (held holds : Option Text) (ended : Status) → P (export_text e) (export_status e)
      → WritesExport held holds e ended → Ended held holds (Tells P ended)
  told_export e held holds ended p w = elim w [
    | inl a ↦ record {
      written = export_text e;
      appended = a.1;
      is = subst (λ (s : Status). Tells P s (export_text e)) (sym a.0) (told_whole e (export_text e) p);
    }
    | inr a ↦ record {
      written = a.1.0;
      appended = a.1.3;
      is = subst (λ (s : Status). Tells P s a.1.0) (sym a.0)
          (record { more = a.1.1; status = export_status e; right = subst (λ (t : Text). P t (export_status e)) a.1.2 p });
    }
  ]

  told_empty : (ended : Status) → Stops ended → Tells P ended []
  told_empty Well s = absurd s
  told_empty BadScenario s = absurd s
  told_empty BadRequest s = absurd s
  told_empty ReaderFailed s = refl
  told_empty WriterFailed s = absurd s
  told_empty MemoryWanted s = refl

  -- nothing was written
  pub told_nothing : (ended : Status) (held : Option Text) → Stops ended → Ended held held (Tells P ended)
  told_nothing ended held s = record { written = []; appended = Appends-none held; is = told_empty ended s }

-- what is right for one is right for the other
tells_weaker : (P Q : Text → Status → Type 0) → ((text : Text) (status : Status) → P text status → Q text status)
    → (ended : Status) (written : Text) → Tells P ended written → Tells Q ended written
tells_weaker P Q h Well written p = h written Well p
tells_weaker P Q h BadScenario written p = h written BadScenario p
tells_weaker P Q h BadRequest written p = h written BadRequest p
tells_weaker P Q h ReaderFailed written p = p
tells_weaker P Q h WriterFailed written p =
    record { more = p.more; status = p.status; right = h (written ++ p.more) p.status p.right }
tells_weaker P Q h MemoryWanted written p = p

pub ended_weaker : (P Q : Text → Status → Type 0) → ((text : Text) (status : Status) → P text status → Q text status)
    → (ended : Status) (held holds : Option Text) → Ended held holds (Tells P ended) → Ended held holds (Tells Q ended)
ended_weaker P Q h ended held holds e =
    record { written = e.written; appended = e.appended; is = tells_weaker P Q h ended e.written e.is }
