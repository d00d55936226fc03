-- What two pieces of bytes with a space between are.
use Rattle.std.proofs.Common.{◌≡◌, List, ℕ, ◌∷◌, ◌++◌, subst, arith}
use Rattle.text.specs.Numerals.{Numeral}
use Rattle.text.specs.Parts.{Parts, Without}
use Rattle.text.proofs.Cuts.{digits_without, occurs, same_parts}

-- bytes without a space are not two pieces with one between
pub one_piece : (bytes left right : List ℕ) → Without 32 bytes → bytes ≡ left ++ 32 ∷ right → ⊥
one_piece bytes left right without whole = occurs 32 left right (subst (Without 32) whole without)

-- the parts at the first space of bytes that begin with a numeral and a space are the numeral and what stands behind the space
pub sides : (bytes x y left right : List ℕ) → Parts 32 bytes x y → bytes ≡ left ++ 32 ∷ right → Numeral left → (left ≡ x) × (right ≡ y)
sides bytes x y left right parts whole numeral =
    same_parts 32 bytes left right x y (record { whole = whole; first = digits_without 32 left (omega arith) numeral.digits }) parts
