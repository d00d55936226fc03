-- What the loops of `Sums::fill` keep, and what falls.
use Rattle.std.proofs.Common.{◌≡◌, ℕ, ◌<◌, ◌≤◌, true, false}
use Rattle.arithmetic.specs.Meaning.{Codes}
use Rattle.reading.specs.Working.{ErrorAt, at, marked}
use Rattle.reading.proofs.points.Sums.fill.Given as goal

abbrev pub invariant-loop-p : goal.invariant-loop-p
invariant-loop-p g l =
    let m = g.A.Arithmetic.meaning l.self.arithmetic.now in
    record {
      suspected : (i : ℕ) → i < l.p → marked l.suspects i ≡ true
          → (e : ℕ) × ErrorAt m l.self.points.now l.suspects l.self.sums.now i e × (at l.row i ≡ m.codes.sum (at l.initial.row i) (m.codes.neg e));
      kept : (i : ℕ) → i < l.p → marked l.suspects i ≡ false → at l.row i ≡ at l.initial.row i;
      left : (i : ℕ) → l.p ≤ i → at l.row i ≡ at l.initial.row i;
      codes : Codes m l.row;
    }
