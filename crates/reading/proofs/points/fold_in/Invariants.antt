-- What the loops of `points::fold_in` keep, and what falls.
use Rattle.std.proofs.Common.{◌≡◌, ℕ, ◌<◌, ◌≤◌}
use Rattle.algebra.specs.Polynomials.{delay, less}
use Rattle.arithmetic.specs.Meaning.{Codes}
use Rattle.reading.specs.Working.{at}
use Rattle.reading.proofs.points.fold_in.Given as goal

abbrev pub invariant-loop-sum : goal.invariant-loop-sum
invariant-loop-sum g l =
    let m = g.A.Arithmetic.meaning l.arithmetic in
    record {
      folded : (t : ℕ) → t < l.sum-index → at l.sums t ≡ less m.codes (at l.initial.sums) l.x 1 (at l.initial.sums) t;
      left : (t : ℕ) → l.sum-index ≤ t → at l.sums t ≡ at l.initial.sums t;
      before : l.before ≡ delay m.codes 1 (at l.initial.sums) l.sum-index;
      code : l.before < m.size;
      codes : Codes m l.sums;
    }
