-- What the loops of `printing::negate` keep, and what falls.
use Rattle.std.proofs.Common.{◌≡◌, ℕ, ◌<◌, ◌≤◌, get_or}
use Rattle.arithmetic.specs.Meaning.{Codes}
use Rattle.label.proofs.printing.negate.Given as goal

abbrev pub invariant-loop-x : goal.invariant-loop-x
invariant-loop-x g l = record {
  done : (t : ℕ) → t < l.x-index → get_or l.row t 0 ≡ (g.A.Arithmetic.meaning l.arithmetic).codes.neg (get_or l.initial.row t 0);
  rest : (t : ℕ) → l.x-index ≤ t → get_or l.row t 0 ≡ get_or l.initial.row t 0;
  codes : Codes (g.A.Arithmetic.meaning l.arithmetic) l.row;
}
