-- What holds in a field that opens.
use Rattle.std.proofs.Common.{◌≡◌, ℕ, subst}
use Rattle.arithmetic.specs.declared.field.BinaryField.{BinaryField}
use Rattle.arithmetic.specs.Opening.{Opens}
use Rattle.arithmetic.proofs.Openings.{opens}

-- what holds of an open field holds of its polynomial, which opens, and some degree
pub opened : (P : ℕ → ℕ → Type 0) (field : BinaryField) (F : ℕ) → field.polynomial ≡ F → P field.polynomial field.degree → (m : ℕ) × Opens F m × P F m
opened P field F e holds = (field.degree, opens field F e, subst (λ G. P G field.degree) e holds)
