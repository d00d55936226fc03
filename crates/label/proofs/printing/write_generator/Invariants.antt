-- What the loops of `printing::write_generator` keep, and what falls.
use Rattle.std.proofs.Common.{◌≡◌, ℕ, ◌<◌, length, get_or}
use Rattle.algebra.specs.Generators.{generator}
use Rattle.algebra.specs.Polynomials.{pow}
use Rattle.arithmetic.specs.Meaning.{Codes}
use Rattle.label.proofs.printing.write_generator.Given as goal

abbrev pub invariant-loop : goal.invariant-loop
invariant-loop g l = record {
  power : l.power ≡ pow (g.A.Arithmetic.meaning l.arithmetic).codes (g.A.Arithmetic.meaning l.arithmetic).step l.counter;
  code : l.power < (g.A.Arithmetic.meaning l.arithmetic).size;
  value : (t : ℕ) → t < length l.initial.row
      → get_or l.row t 0 ≡ generator (g.A.Arithmetic.meaning l.arithmetic).codes (g.A.Arithmetic.meaning l.arithmetic).step l.counter t;
  codes : Codes (g.A.Arithmetic.meaning l.arithmetic) l.row;
}
