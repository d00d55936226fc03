-- The pieces of a scan.
use Rattle.std.specs.Prelude.{◌≡◌, ℕ, ◌⊎◌, List, [], ◌∷◌, ◌++◌, take}
use Rattle.text.specs.declared.row.Row.{Row}
use Rattle.text.specs.Numerals.{One}
use Rattle.text.specs.Rows.{numbers as held}

-- the bytes are the piece n: a numeral of n, or a question mark (the byte 63), which is 4294967295
abbrev pub Piece : List ℕ → ℕ → Type 0
Piece bytes n = One bytes n ⊎ ((bytes ≡ 63 ∷ []) × (n ≡ 4294967295))

-- the bytes are these pieces, one or more, with one space (the byte 32) between
abbrev pub Listed : List ℕ → List ℕ → Type 0
Listed bytes [] = ⊥
Listed bytes (n ∷ []) = Piece bytes n
Listed bytes (n ∷ (m ∷ numbers)) =
    (left : List ℕ) × (right : List ℕ) × (bytes ≡ left ++ 32 ∷ right) × Piece left n × Listed right (m ∷ numbers)

-- p holds these numbers, or the first 65 where there are more
abbrev pub Holds : List ℕ → Row 65 → Type 0
Holds numbers p = held p ≡ take 65 numbers
