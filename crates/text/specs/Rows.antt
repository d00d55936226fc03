-- Numbers in the first places of an array.
use Rattle.std.specs.Prelude.{ℕ, List, take}
use Rattle.text.specs.declared.row.Row.{Row}

-- the numbers of a row: those in its first places
abbrev pub numbers : {N : ℕ} → Row N → List ℕ
numbers r = take r.places r.row
