-- The reads that were made, from one byte to the next.
use Rattle.std.proofs.Common.{◌≡◌, ℕ, List, [], ◌++◌, arith, length-append, Option}
use Rattle.sim_lines.specs.Waiting.{Waiting, CountsReads}
use Rattle.sim_lines.proofs.Known.{Consumes-append, Consumes-none}

-- none was made
pub counts_none : (old new : Waiting) (left : Option (List ℕ)) → new.reads ≡ old.reads → CountsReads old new left left
counts_none old new left e = record { read = []; consumed = Consumes-none left; counted = omega (arith, e) }

-- some, and then some more
pub counts_append : (old mid new : Waiting) (a b c : Option (List ℕ)) → CountsReads old mid a b → CountsReads mid new b c → CountsReads old new a c
counts_append old mid new a b c p q = record {
  read = p.read ++ q.read;
  consumed = Consumes-append a b c p.read q.read p.consumed q.consumed;
  counted = omega (arith, p.counted, q.counted, length-append p.read q.read);
}
