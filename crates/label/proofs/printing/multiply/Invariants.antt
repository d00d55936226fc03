-- What the loops of `printing::multiply` keep, and what falls.
use Rattle.std.proofs.Common.{◌≡◌, ℕ, ◌<◌, ◌≤◌, get_or}
use Rattle.algebra.specs.Polynomials.{delay}
use Rattle.arithmetic.specs.Meaning.{Codes}
use Rattle.label.proofs.Shifts.{shifted}
use Rattle.label.proofs.printing.multiply.Given as goal

abbrev pub invariant-loop-x : goal.invariant-loop-x
invariant-loop-x g l = record {
  done : (t : ℕ) → t < l.x-index → get_or l.row t 0 ≡ shifted (g.A.Arithmetic.meaning l.arithmetic).codes l.initial.row l.root (get_or l.initial.row t 0) t;
  rest : (t : ℕ) → l.x-index ≤ t → get_or l.row t 0 ≡ get_or l.initial.row t 0;
  below : l.below ≡ delay (g.A.Arithmetic.meaning l.arithmetic).codes 1 (λ i. get_or l.initial.row i 0) l.x-index;
  code : l.below < (g.A.Arithmetic.meaning l.arithmetic).size;
  codes : Codes (g.A.Arithmetic.meaning l.arithmetic) l.row;
}
