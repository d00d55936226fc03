-- Numbers with spaces between.
use Rattle.std.specs.Prelude.{ℕ, List, ◌∷◌, decimal}
use Rattle.std.specs.List.{flat_map}

-- numbers in decimal, each with a space (the byte 32) before it
abbrev pub spaced : List ℕ → List ℕ
spaced ns = flat_map (λ n. 32 ∷ decimal n) ns
