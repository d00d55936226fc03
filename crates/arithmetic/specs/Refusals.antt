-- The number and the place of each refusal.
use Rattle.std.specs.Prelude.{◌≡◌, ℕ}
use Rattle.arithmetic.specs.declared.refusal.Refusal.{Refusal}
use Rattle.arithmetic.specs.declared.refusal.Refusal.TheVariants.{WrongDegree, HasFactor, NotACode, InverseOfZero, WrongLength}

abbrev pub number : Refusal → ℕ
number WrongDegree = 1
number HasFactor = 2
number NotACode = 3
number InverseOfZero = 4
number WrongLength = 13

abbrev pub place : Refusal → ℕ
place WrongDegree = 0
place HasFactor = 0
place NotACode = 0
place InverseOfZero = 0
place WrongLength = 0

-- e is the refusal of this number, with its place
abbrev pub Refused : Refusal → ℕ → Type 0
Refused e n = (number e ≡ n) × (place e ≡ 0)
