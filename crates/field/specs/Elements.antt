-- What is said of an element of a field.
use Rattle.std.specs.Prelude.{◌≡◌, ℕ}
use Rattle.algebra.specs.Coordinates.{coordinates}
use Rattle.arithmetic.specs.Inverting.{Inverts}
use Rattle.text.specs.declared.row.Row.{Row}
use Rattle.text.specs.Rows.{numbers}
use Rattle.field.specs.declared.element.Element.{Element}

-- the row holds the triangular coordinates of the code a in the field of F, of degree m, and no other number
abbrev pub Triangular : ℕ → ℕ → ℕ → Row 16 → Type 0
Triangular F m a row = numbers row ≡ coordinates F m a m

-- e has the triangular coordinates of the code a in the field of F, of degree m, its inverse, and its count of iterations
pub record Describes (F m a : ℕ) (e : Element) : Type 0 where
  pub triangular : Triangular F m a e.row
  pub inverts : Inverts F m a e.inverse e.iterations
