-- Texts that were handed over, one after the other.
use Rattle.std.proofs.Common.{◌≡◌, ℕ, List, [], ◌++◌, Option, Some, None, append_assoc, append-nil, sym, ◌∙◌, ap, Result, Ok, Err, OnOk, OnErr}
use Rattle.std.specs.Io.KnownBytes.{Appends, Keeps}
use Rattle.sim_lines.specs.Left.{AppendsPart, Passes, PassesSome, HandsOver}
use Rattle.sim_lines.proofs.Known.{Appends-append, Appends-none}

-- known bytes that stay
pub Keeps-Appends : (old new : Option (List ℕ)) → Keeps old new → Appends old new []
Keeps-Appends None new h = tt
Keeps-Appends (Some xs) None h = absurd h
Keeps-Appends (Some xs) (Some ys) h = h ∙ sym (append-nil xs)

-- nothing was handed over
pub Passes-none : (known : Option (List ℕ)) (waiting : List ℕ) → Passes known known waiting [] waiting
Passes-none known waiting = record { part = []; appended = Appends-none known; all = append-nil waiting }

-- a text that waits
pub Passes-waits : (known : Option (List ℕ)) (waiting text left : List ℕ) → left ≡ waiting ++ text → Passes known known waiting text left
Passes-waits known waiting text left e = record { part = []; appended = Appends-none known; all = sym e }

-- one text after the other
pub Passes-append : (old mid new : Option (List ℕ)) (waiting text left more last : List ℕ) →
    Passes old mid waiting text left → Passes mid new left more last → Passes old new waiting (text ++ more) last
Passes-append old mid new waiting text left more last p q = record {
  part = p.part ++ q.part;
  appended = Appends-append old mid new p.part q.part p.appended q.appended;
  all = sym (append_assoc waiting text more) ∙ ap (λ xs. xs ++ more) p.all ∙ append_assoc p.part left more ∙ ap (λ xs. p.part ++ xs) q.all ∙ sym (append_assoc p.part q.part last);
}

pub PassesSome-append : (old mid new : Option (List ℕ)) (waiting text left more : List ℕ) →
    Passes old mid waiting text left → PassesSome mid new left more → PassesSome old new waiting (text ++ more)
PassesSome-append old mid new waiting text left more p q = record { left = q.left; passes = Passes-append old mid new waiting text left more q.left p q.passes }

-- what waited was written, and nothing after it
wrote_all : (old mid new : Option (List ℕ)) (waiting : List ℕ) → Appends old mid waiting → Keeps mid new → Passes old new waiting [] []
wrote_all old mid new waiting h k = record {
  part = waiting ++ [];
  appended = Appends-append old mid new waiting [] h (Keeps-Appends mid new k);
  all = sym (append-nil (waiting ++ []));
}

pub flushed : (old mid new : Option (List ℕ)) (waiting left : List ℕ) → Appends old mid waiting → Keeps mid new → left ≡ [] → Passes old new waiting [] [] × (left ≡ [])
flushed old mid new waiting left h k e = (wrote_all old mid new waiting h k, e)

pub flush_failed : (old mid new : Option (List ℕ)) (waiting : List ℕ) → Appends old mid waiting → Keeps mid new → PassesSome old new waiting []
flush_failed old mid new waiting h k = record { left = []; passes = wrote_all old mid new waiting h k }

pub put_failed : (old new : Option (List ℕ)) (waiting : List ℕ) → AppendsPart old new waiting → PassesSome old new waiting []
put_failed old new waiting h = record { left = h.1; passes = record { part = h.0; appended = h.3; all = append-nil waiting ∙ h.2 } }

-- a text is written after what waited
put_after : (old mid new : Option (List ℕ)) (waiting text : List ℕ) → Passes old mid waiting [] [] → Appends mid new text → Passes old new waiting text []
put_after old mid new waiting text p h =
    Passes-append old mid new waiting [] [] text [] p (record { part = text; appended = h; all = sym (append-nil text) })

part_after : (old mid new : Option (List ℕ)) (waiting text : List ℕ) → Passes old mid waiting [] [] → AppendsPart mid new text → PassesSome old new waiting text
part_after old mid new waiting text p h =
    PassesSome-append old mid new waiting [] [] text p (record { left = h.1; passes = record { part = h.0; appended = h.3; all = h.2 } })

pub handed : {E : Type 0} (old mid new : Option (List ℕ)) (waiting text left : List ℕ) (r : Result (Unit {0}) E) → Passes old mid waiting [] [] → left ≡ [] →
    OnOk r (Appends mid new text) → OnErr r (AppendsPart mid new text) → HandsOver old new waiting text left r
handed old mid new waiting text left (Ok x) p e h k = rw e (put_after old mid new waiting text p h)
handed old mid new waiting text left (Err x) p e h k = part_after old mid new waiting text p k

-- where the writer failed before the text was written at all
pub PassesSome-later : (old new : Option (List ℕ)) (waiting text : List ℕ) → PassesSome old new waiting [] → PassesSome old new waiting text
PassesSome-later old new waiting text p = record {
  left = p.left ++ text;
  passes = record {
    part = p.passes.part;
    appended = p.passes.appended;
    all = ap (λ xs. xs ++ text) (sym (append-nil waiting) ∙ p.passes.all) ∙ append_assoc p.passes.part p.left text;
  };
}
