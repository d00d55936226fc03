-- What is printed for a refusal.
use Rattle.std.specs.Prelude.{ℕ, List, ◌++◌, codes, decimal}

-- for a refusal of this number and place
abbrev pub refused_text : ℕ → ℕ → List ℕ
refused_text n p = codes "refused " ++ (decimal n ++ (codes " " ++ decimal p))
