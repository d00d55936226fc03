-- What a line asks.
use Rattle.std.specs.Prelude.{ℕ, List, Option, Some, None}
use Rattle.text.specs.Numerals.{One, Two}
use Rattle.field.specs.declared.query.Query.{Query}
use Rattle.field.specs.declared.query.Query.TheVariants.{Field, Element}

-- what the line asks: the field of F, the element a of the field of F, or neither
abbrev pub Asks : List ℕ → Option Query → Type 0
Asks line (Some (Field F)) = One line F
Asks line (Some (Element F a)) = Two line F a
Asks line None = ((F : ℕ) → One line F → ⊥) × ((F a : ℕ) → Two line F a → ⊥)
