-- What a line asks.
use Rattle.std.specs.Prelude.{◌≡◌, ℕ, List, ◌++◌, None, Some, Option, codes}
use Rattle.queries.specs.Queries.{Asks as LabelsAsks}
use Rattle.readings.specs.declared.query.Query.{Query}
use Rattle.readings.specs.declared.query.Query.TheVariants.{Labels, Scan, Read}
use Rattle.readings.specs.Pieces.{Holds, Listed}

-- the line is `scan`, a space, and these pieces with one space between
abbrev pub IsScan : List ℕ → List ℕ → Type 0
IsScan line numbers = (rest : List ℕ) × (line ≡ codes "scan " ++ rest) × Listed rest numbers

-- the line is `read`, a space, and this text
abbrev pub IsRead : List ℕ → List ℕ → Type 0
IsRead line text = line ≡ codes "read " ++ text

-- what the line asks: a query about labels, a scan, a typed entry, or none of these
abbrev pub Asks : List ℕ → Option Query → Type 0
Asks line (Some (Labels q)) = LabelsAsks line (Some q)
Asks line (Some (Scan p)) = (numbers : List ℕ) × IsScan line numbers × Holds numbers p
Asks line (Some (Read text)) = IsRead line text.now
Asks line None =
    LabelsAsks line None × ((numbers : List ℕ) → IsScan line numbers → ⊥) × ((text : List ℕ) → IsRead line text → ⊥)
