-- What a line asks.
use Rattle.std.specs.Prelude.{◌≡◌, ℕ, List, ◌++◌, None, Some, Option, codes}
use Rattle.text.specs.Numerals.{One, Three, Two}
use Rattle.queries.specs.declared.query.Query.{Query}
use Rattle.queries.specs.declared.query.Query.TheVariants.{Binary, Residue, Door}

-- the line is `binary`, a space, and numerals of F, n and k with one space between
abbrev pub IsBinary : List ℕ → ℕ → ℕ → ℕ → Type 0
IsBinary line F n k = (rest : List ℕ) × (line ≡ codes "binary " ++ rest) × Three rest F n k

-- the line is `residue`, a space, and numerals of n and k with one space between
abbrev pub IsResidue : List ℕ → ℕ → ℕ → Type 0
IsResidue line n k = (rest : List ℕ) × (line ≡ codes "residue " ++ rest) × Two rest n k

-- the line is `door`, a space, and a numeral of d
abbrev pub IsDoor : List ℕ → ℕ → Type 0
IsDoor line d = (rest : List ℕ) × (line ≡ codes "door " ++ rest) × One rest d

-- what the line asks: a scheme over the field of F, one over the residues, the door d, or none of these
abbrev pub Asks : List ℕ → Option Query → Type 0
Asks line (Some (Binary F n k)) = IsBinary line F n k
Asks line (Some (Residue n k)) = IsResidue line n k
Asks line (Some (Door d)) = IsDoor line d
Asks line None =
    ((F n k : ℕ) → IsBinary line F n k → ⊥) × ((n k : ℕ) → IsResidue line n k → ⊥) × ((d : ℕ) → IsDoor line d → ⊥)
