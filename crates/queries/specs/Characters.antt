-- Characters in the first places of an array.
use Rattle.std.specs.Prelude.{ℕ, List, take}
use Rattle.queries.specs.declared.characters.Characters.{Characters}

-- the characters, in the first places
abbrev pub characters : Characters → List ℕ
characters t = take t.places t.row
