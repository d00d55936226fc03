-- What the loops of `Sums::fold` keep, and what falls.
use Rattle.std.proofs.Common.{◌≡◌, ℕ, ◌<◌, length}
use Rattle.algebra.specs.Points.{folded}
use Rattle.arithmetic.specs.Meaning.{Codes}
use Rattle.reading.specs.Working.{at, marked}
use Rattle.reading.proofs.points.Sums.fold.Given as goal

abbrev pub invariant-loop-point : goal.invariant-loop-point
invariant-loop-point g l =
    let m = g.A.Arithmetic.meaning l.self.arithmetic.now in
    record {
      folded_sums : (t : ℕ) → t < length l.self.sums.now → at l.folded t ≡ folded m.codes (at l.self.points.now) (marked l.smudges) (at l.self.sums.now) (length l.yielded) t;
      codes : Codes m l.folded;
    }
