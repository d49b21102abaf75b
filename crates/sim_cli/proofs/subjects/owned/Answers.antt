use Rattle.std.proofs.Common.{string_bytes, rules}
use Rattle.sim_cli.proofs.Places.{next_text}
use Rattle.sim_cli.proofs.subjects.owned.Goals as goal

pub loop-text-preserved : goal.loop-text-preserved
loop-text-preserved c =
    record {
      texts = next_text string_bytes (λ text. text.now) c.loop-text.owned.items c.push.new.self.items c.args.texts.now c.loop-text.text-index c.in_ok-from_str.field-0 _
          c.in_ok-push.ensures.items c.loop-text.invariant.texts c.loop-text-test.true c.in_ok-from_str.ensures.ok;
      as_many = search rules;
    }
