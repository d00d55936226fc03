-- What readings show.
use Rattle.std.specs.Prelude.{ℕ, zero, suc, ◌<◌, Bool, true, false, cond, List, length, Some, None, Option, ◌==◌, nat_lt, slice_index}
use Rattle.label.specs.Labels.{character}
use Rattle.reading.specs.declared.cell.Cell.{Cell}
use Rattle.reading.specs.declared.cell.Cell.TheVariants.{Code, Smudge}

-- What a reading shows.
pub record Shown : Type 0 where
  -- whether its pieces are characters of text
  pub text : Bool
  -- how many pieces it has
  pub pieces : ℕ
  -- its cell at each place, for an arithmetic of q elements: none where the piece there is neither a code nor a smudge
  pub cell : ℕ → ℕ → Option Cell

-- the cell of a number: 4294967295 is a smudge, and each other number below q is a code
abbrev pub number_cell : ℕ → ℕ → Option Cell
number_cell q w = cond (w == 4294967295) (Some Smudge) (cond (nat_lt w q) (Some (Code w)) None)

-- the code below q, as a cell, whose character is b
abbrev pub code_with : ℕ → ℕ → Option Cell
code_with zero b = None
code_with (suc c) b = cond (character c == b) (Some (Code c)) (code_with c b)

-- the cell of a byte: the question mark is a smudge, and a character is its code; above 64 elements there is no text
abbrev pub byte_cell : ℕ → ℕ → Option Cell
byte_cell q b = cond (nat_lt 64 q) None (cond (b == 63) (Some Smudge) (code_with q b))

-- the cell at a place of a row of pieces, and none where there is no such place
abbrev pub cell_at : (ℕ → ℕ → Option Cell) → List ℕ → ℕ → ℕ → Option Cell
cell_at cell row q p = cond (nat_lt p (length row)) (cell q (slice_index row p)) None

-- what a scan shows
abbrev pub scanned : List ℕ → Shown
scanned row = record { text = false; pieces = length row; cell = cell_at number_cell row }

-- what a typed entry shows
abbrev pub typed : List ℕ → Shown
typed row = record { text = true; pieces = length row; cell = cell_at byte_cell row }

-- a cell with a code has one below q
abbrev pub CodeBelow : ℕ → Option Cell → Type 0
CodeBelow q None = Unit
CodeBelow q (Some (Code c)) = c < q
CodeBelow q (Some Smudge) = Unit
