-- How much may still come, from one byte to the next.
use Rattle.std.proofs.Common.{ℕ, ◌<◌, ◌≤◌, length, inl, inr, ap, arith}
use Rattle.sim_lines.specs.declared.reading.Next.TheVariants.{Byte, End, Failed}
use Rattle.sim_lines.specs.Gives.{Spends}
use Rattle.sim_lines.specs.Waiting.{Waiting, budget, IsUsedUp}

-- since so much could come, nothing was read that isn't counted
pub record Spent (old now : Waiting) : Type 0 where
  pub bytes : budget now ≤ budget old
  pub reads : now.reads ≤ old.reads

pub nothing_spent : (w : Waiting) → Spent w w
nothing_spent w = record { bytes = omega arith; reads = omega arith }

budget-byte : (old new : Waiting) (b : ℕ) → Spends old new (Byte b) → budget new < budget old
budget-byte old new b s = elim s [
  | inl h ↦ omega (arith, ap length h.0, h.1)
  | inr h ↦ omega (arith, ap length h.0, h.1, h.2)
]

reads-byte : (old new : Waiting) (b : ℕ) → Spends old new (Byte b) → new.reads ≤ old.reads
reads-byte old new b s = elim s [ inl h ↦ omega (arith, h.1) | inr h ↦ omega (arith, h.1) ]

-- a byte was taken
pub byte_spent : (old now new : Waiting) (b : ℕ) → Spent old now → Spends now new (Byte b) → Spent old new
byte_spent old now new b p s = record {
  bytes = omega (arith, p.bytes, budget-byte now new b s);
  reads = omega (arith, p.reads, reads-byte now new b s);
}

-- fewer bytes can come than before
pub less_byte : (old now new : Waiting) (b : ℕ) → Spent old now → Spends now new (Byte b) → budget new < budget old
less_byte old now new b p s = omega (arith, p.bytes, budget-byte now new b s)

pub less_end : (old now new : Waiting) → Spent old now → Spends now new End → budget new < budget old
less_end old now new p s = omega (arith, p.bytes, ap length s.0, s.1, ap length s.2)

-- the reader failed
pub used_up : (old now new : Waiting) → Spent old now → Spends now new Failed → IsUsedUp old new
used_up old now new p s = record {
  none = s.1.none;
  reads = elim s.1.reads [ inl z ↦ inl z | inr less ↦ inr (omega (arith, p.reads, less)) ];
}
