-- What the loops of `Sums::remove_others` keep, and what falls.
use Rattle.std.proofs.Common.{◌≡◌, ℕ, ◌+◌, ◌<◌, length}
use Rattle.algebra.specs.Counts.{count}
use Rattle.algebra.specs.Points.{other, removed, others}
use Rattle.arithmetic.specs.Meaning.{Codes}
use Rattle.reading.specs.Working.{at, marked}
use Rattle.reading.proofs.points.Sums.remove_others.Given as goal

abbrev pub invariant-loop-l : goal.invariant-loop-l
invariant-loop-l g l =
    let m = g.A.Arithmetic.meaning l.self.arithmetic.now in
    let points = l.self.points.now in
    let suspects = l.suspects in
    record {
      product_is : l.product ≡ others m.codes (at points) (marked suspects) l.place l.l l.place;
      product_code : l.product < m.size;
      left_is : (t : ℕ) → t + count l.l (other (marked suspects) l.place) < length l.left → at l.left t ≡ removed m.codes (at points) (marked suspects) l.place (at l.self.sums.now) l.l t;
      left_codes : Codes m l.left;
    }
