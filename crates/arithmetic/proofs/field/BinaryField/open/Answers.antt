-- What the proof of `field::BinaryField::open` leaves to be shown.
use Rattle.std.proofs.Common.{◌≡◌, ℕ, refl, subst}
use Rattle.algebra.specs.Binary.{Factor}
use Rattle.algebra.proofs.BinaryDegrees.{degree-one}
use Rattle.arithmetic.proofs.field.BinaryField.open.Goals as goal

pub returns-then-has_factor : goal.returns-then-has_factor
returns-then-has_factor c =
    let F = c.args.polynomial in
    let d = c.in_ok-degree.degree in
    let right = c.in_ok-degree.ensures in
    let same : (m : ℕ) → _ → d ≡ m = λ m h. degree-one F d m right.0 h.0 in
    record {
      has_factor = λ m h. (subst (λ (d : ℕ). (x : ℕ) × Factor F d x) (same m h) c.if-has_factor.ensures, (refl, refl));
      wrong_degree = λ none. absurd (none d right);
    }
