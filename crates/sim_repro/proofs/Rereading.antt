-- A text that a scenario was printed to says the numbered scenario.
use Rattle.std.proofs.Common.{◌≡◌, ◌∙◌, ℕ, Bool, true, false, List, [], ◌∷◌, ◌++◌, length, refl, ap, Result, Ok, Err, if◌then◌else◌}
use Rattle.std.specs.Prelude.{nat_lt}
use Rattle.std.specs.Str.{is_utf8}
use Rattle.sim_scenario.specs.Scenario.{Fault, Protocol, ScenarioText, read, text_fault}
use Rattle.sim_script.specs.Script.{Text}
use Rattle.sim_reseed.specs.Input.{ends_its_lines, with_line_end}
use Rattle.sim_reseed.specs.Numbered.{numbered, numbered_reading}
use Rattle.sim_cli.specs.Play.{read_scenario}

unwrapped : (long utf : Bool) (f g : Fault) (x : Result ScenarioText Fault) (s : ScenarioText)
    → (if long then Err f else (if utf then x else Err g)) ≡ Ok s → x ≡ Ok s
unwrapped true utf f g x s e = absurd (cc)
unwrapped false true f g x s e = e
unwrapped false false f g x s e = absurd (cc)

wrapped : (long utf : Bool) (f g : Fault) (x : Result ScenarioText Fault) (s : ScenarioText)
    → long ≡ false → utf ≡ true → x ≡ Ok s → (if long then Err f else (if utf then x else Err g)) ≡ Ok s
wrapped true utf f g x s a b e = absurd (cc)
wrapped false true f g x s a b e = e
wrapped false false f g x s a b e = absurd (cc)

short : (long : Bool) (f : Fault) (x : Result ScenarioText Fault) (s : ScenarioText)
    → (if long then Err f else x) ≡ Ok s → long ≡ false
short true f x s e = absurd (cc)
short false f x s e = refl

read_of : (protocols : List Protocol) (text : Text) (s : ScenarioText) → read_scenario protocols text ≡ Ok s → read protocols text ≡ Ok s
unfolding read_scenario
read_of protocols text s e =
    unwrapped (nat_lt 65536 (length text)) (is_utf8 text) (text_fault 1) (text_fault 2) (read protocols text) s e

read_back : (protocols : List Protocol) (text : Text) (s : ScenarioText) → read protocols text ≡ Ok s → is_utf8 text ≡ true
    → read_scenario protocols text ≡ Ok s
unfolding read_scenario
read_back protocols text s e utf =
    wrapped (nat_lt 65536 (length text)) (is_utf8 text) (text_fault 1) (text_fault 2) (read protocols text) s
    (short (nat_lt 65536 (length text)) (text_fault 1) _ s e) utf e

-- a printed text, with an end for its last line, says the numbered scenario
pub reread : (protocols : List Protocol) (text printed : Text) (i : ℕ) (said : ScenarioText) → read_scenario protocols text ≡ Ok said
    → read protocols printed ≡ numbered_reading i (read protocols text) → ends_its_lines printed ≡ true → is_utf8 printed ≡ true
    → read_scenario protocols (with_line_end printed) ≡ Ok (numbered i said)
reread protocols text printed i said e reads ends utf =
    let whole : with_line_end printed ≡ printed = ap (λ (b : Bool). if b then printed else printed ++ 10 ∷ []) ends in
    ap (read_scenario protocols) whole
    ∙ read_back protocols printed (numbered i said) (reads ∙ ap (numbered_reading i) (read_of protocols text said e)) utf
