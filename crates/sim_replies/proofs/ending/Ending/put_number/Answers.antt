use Rattle.std.proofs.Common.{rules, arith, ap, ◌≡◌, ℕ, ◌^◌, ◌<◌, ◌≤◌, length, decimal}
use Rattle.std.proofs.lemmas.Fmt.{length-decimal-le}
use Rattle.sim_replies.proofs.ending.Ending.put_number.Goals as goal

few_digits : (n : ℕ) → n < 2 ^ 64 → length (decimal n) ≤ 20
few_digits n fits = length-decimal-le 20 n (omega arith) (omega arith) fits

pub write_digits-self-inside-requires : goal.write_digits-self-inside-requires
write_digits-self-inside-requires c = search (rules, length-decimal-le 20)

pub invariant_of-self : goal.invariant_of-self
invariant_of-self c = omega (arith, c.write_digits-self-inside.ensures.start, c.self.invariant)

pub returns-clause-room : goal.returns-clause-room
returns-clause-room c =
    let room : c.self.inside.start ≡ c.args.self.now.room = ap (λ e. e.room) c.self.view_is in
    omega (arith, room, c.write_digits-self-inside.ensures.start, few_digits c.args.number c.ranges.number.fits)
