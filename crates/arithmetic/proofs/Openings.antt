-- A field that opened.
use Rattle.std.proofs.Common.{◌≡◌, ℕ, subst}
use Rattle.arithmetic.specs.declared.field.BinaryField.{BinaryField}
use Rattle.arithmetic.specs.Opening.{Opens}

pub opens : (f : BinaryField) (F : ℕ) → f.polynomial ≡ F → Opens F f.degree
opens f F e = subst (λ x. Opens x f.degree) e (f.right_degree, f.no_factor)
