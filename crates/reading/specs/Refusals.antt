-- The number and the place of each refusal.
use Rattle.std.specs.Prelude.{◌≡◌, ℕ}
use Rattle.reading.specs.declared.refusal.Refusal.{Refusal}
use Rattle.reading.specs.declared.refusal.Refusal.TheVariants.{NoText, ShortWorksheet, WrongLength, WrongCount, NoCell, NoLabel}

abbrev pub number : Refusal → ℕ
number NoText = 11
number ShortWorksheet = 12
number WrongLength = 13
number WrongCount = 14
number (NoCell p) = 15
number NoLabel = 16

abbrev pub place : Refusal → ℕ
place NoText = 0
place ShortWorksheet = 0
place WrongLength = 0
place WrongCount = 0
place (NoCell p) = p
place NoLabel = 0

-- e is the refusal of this number at this place
abbrev pub Refused : Refusal → ℕ → ℕ → Type 0
Refused e n p = (number e ≡ n) × (place e ≡ p)
