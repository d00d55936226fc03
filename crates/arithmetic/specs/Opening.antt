-- When a polynomial opens a binary field, and why it does not.
use Rattle.std.specs.Prelude.{ℕ, ◌≤◌}
use Rattle.algebra.specs.Binary.{Degree, Factor, NoFactor}
use Rattle.arithmetic.specs.declared.refusal.Refusal.{Refusal}
use Rattle.arithmetic.specs.Refusals.{Refused}

-- F has degree m, from 2 to 16
abbrev pub RightDegree : ℕ → ℕ → Type 0
RightDegree F m = Degree F m × (2 ≤ m) × (m ≤ 16)

-- F opens the field of degree m
abbrev pub Opens : ℕ → ℕ → Type 0
Opens F m = RightDegree F m × NoFactor F m

-- why F opens no field: 2 where its degree is right and it has a factor, 1 where its degree is not right
pub record NotOpened (F : ℕ) (e : Refusal) : Type 0 where
  pub has_factor : (m : ℕ) → RightDegree F m → ((x : ℕ) × Factor F m x) × Refused e 2
  pub wrong_degree : ((m : ℕ) → RightDegree F m → ⊥) → Refused e 1
