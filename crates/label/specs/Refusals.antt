-- The number and the place of each refusal.
use Rattle.std.specs.Prelude.{◌≡◌, ℕ}
use Rattle.label.specs.declared.refusal.Refusal.{Refusal}
use Rattle.label.specs.declared.refusal.Refusal.TheVariants.{WrongCounts, EqualPowers, TooManyDoors, NoSuchDoor, NoText, WrongLength}

abbrev pub number : Refusal → ℕ
number WrongCounts = 5
number EqualPowers = 6
number TooManyDoors = 7
number NoSuchDoor = 8
number NoText = 11
number WrongLength = 13

abbrev pub place : Refusal → ℕ
place WrongCounts = 0
place EqualPowers = 0
place TooManyDoors = 0
place NoSuchDoor = 0
place NoText = 0
place WrongLength = 0

-- e is the refusal of this number, with its place
abbrev pub Refused : Refusal → ℕ → Type 0
Refused e n = (number e ≡ n) × (place e ≡ 0)
