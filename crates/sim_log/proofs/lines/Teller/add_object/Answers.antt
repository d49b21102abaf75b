use Rattle.std.proofs.Common.{◌++◌, ◌∙◌, ap, ℕ, List, string_bytes}
use Rattle.sim_log.proofs.Telling.{led_past}
use Rattle.sim_log.proofs.lines.Teller.add_object.Goals as goal

pub returns-clause-line : goal.returns-clause-line
returns-clause-line g c =
    let old = c.args.tape.now in (
      string_bytes c.in_ok-line.line,
      c.in_ok-extend_from_slice.ensures.items ∙ ap (λ (t : List ℕ). c.args.log.now.items ++ t) c.as_bytes.ensures.value,
      record {
        world = c.here-world.result.now.world;
        led = led_past g.N.Node.laws g.N.Node.PROBES old c.forward.new.self _ c.args.place c.in_ok-forward.ensures.ok c.requires.place c.here-world.ensures.run;
        told = c.in_ok-line.ensures;
      },
    )
