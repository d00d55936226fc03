-- A door's label, printed.
use Rattle.std.specs.Prelude.{ℕ, List}
use Rattle.arithmetic.specs.Meaning.{Meaning}
use Rattle.label.specs.Labels.{LabelOf, Spelled}
use Rattle.text.specs.declared.row.Row.{Row}
use Rattle.text.specs.Rows.{numbers}
use Rattle.queries.specs.declared.characters.Characters.{Characters}
use Rattle.queries.specs.Characters.{characters}

-- t holds the characters of the label of the door d
abbrev pub TextOf : Meaning → ℕ → ℕ → ℕ → Characters → Type 0
TextOf m n k d t = (label : List ℕ) × LabelOf m n k d label × Spelled label (characters t)

-- t holds the label of the door d
abbrev pub CodesOf : Meaning → ℕ → ℕ → ℕ → Row 64 → Type 0
CodesOf m n k d t = LabelOf m n k d (numbers t)
