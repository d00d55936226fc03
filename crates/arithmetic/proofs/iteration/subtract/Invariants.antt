-- What the loops of `iteration::subtract` keep, and what falls.
use Rattle.std.proofs.Common.{◌≡◌, ℕ, get_or}
use Rattle.arithmetic.specs.Meaning.{Codes}
use Rattle.arithmetic.specs.Rows.{less_at}
use Rattle.arithmetic.proofs.iteration.subtract.Given as goal

abbrev pub invariant-loop-i : goal.invariant-loop-i
invariant-loop-i g l = record {
  less : (t : ℕ) → get_or l.a-items t 0 ≡ less_at (g.A.Arithmetic.meaning l.arithmetic).codes l.initial.a-items l.small l.i l.c 0 t;
  codes : Codes (g.A.Arithmetic.meaning l.arithmetic) l.a-items;
}
