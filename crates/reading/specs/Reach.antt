-- How far a label is from a reading.
use Rattle.std.specs.Prelude.{ℕ, ◌+◌, ◌*◌, ◌≤◌, Bool, true, false, not, List, Some, None, Option, ◌==◌, slice_index}
use Rattle.algebra.specs.Counts.{count}
use Rattle.reading.specs.declared.cell.Cell.{Cell}
use Rattle.reading.specs.declared.cell.Cell.TheVariants.{Code, Smudge}
use Rattle.reading.specs.Readings.{Shown}

-- whether a cell is a smudge
abbrev pub is_smudge : Option Cell → Bool
is_smudge None = false
is_smudge (Some (Code c)) = false
is_smudge (Some Smudge) = true

-- whether a cell is legible and is not this code
abbrev pub is_wrong : Option Cell → ℕ → Bool
is_wrong None a = false
is_wrong (Some (Code c)) a = not (c == a)
is_wrong (Some Smudge) a = false

-- s: how many of the first n cells are smudges
abbrev pub smudges : ℕ → ℕ → Shown → ℕ
smudges q n s = count n (λ p. is_smudge (s.cell q p))

-- v: how many of the first n cells are legible and differ from the row
abbrev pub misread : ℕ → ℕ → Shown → List ℕ → ℕ
misread q n s row = count n (λ p. is_wrong (s.cell q p) (slice_index row p))

-- a row is within reach: 2v + s is at most r
abbrev pub InReach : ℕ → ℕ → ℕ → Shown → List ℕ → Type 0
InReach q n r s row = 2 * misread q n s row + smudges q n s ≤ r
