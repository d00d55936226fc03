-- What the loops of `field::BinaryField::coordinates` keep, and what falls.
use Rattle.std.proofs.Common.{◌≡◌, length, take}
use Rattle.algebra.specs.Coordinates.{coordinates}
use Rattle.arithmetic.proofs.field.BinaryField.coordinates.Given as goal

abbrev pub invariant-loop-j : goal.invariant-loop-j
invariant-loop-j l =
    (length l.row ≡ length l.initial.row)
    × (take l.j l.row ≡ coordinates l.self.polynomial l.self.degree l.a l.j)
