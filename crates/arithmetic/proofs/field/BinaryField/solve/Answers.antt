-- What the proof of `field::BinaryField::solve` leaves to be shown.
use Rattle.std.proofs.Common.{◌≡◌, ℕ, true, length, is_ok, Ok, Err, Result, sym, refl, ap, ◌∙◌, subst, arith, MatchResult}
use Rattle.algebra.specs.Binary.{value}
use Rattle.arithmetic.specs.Inverting.{Inverts}
use Rattle.arithmetic.specs.Rows.{polynomial_of}
use Rattle.arithmetic.proofs.Inverting.{backwards_at, backwards_bits, inverted}
use Rattle.arithmetic.proofs.field.BinaryField.solve.Goals as goal

-- a call whose refusal cannot be is answered
answered : {T E : Type 0} (r : Result T E) (P : T → Type 0) (Q : E → Type 0) → MatchResult r P Q → ((e : E) → Q e → ⊥) → is_ok r ≡ true
answered (Ok x) P Q h none = refl
answered (Err e) P Q h none = absurd (none e h)

pub unwrap-iterations-requires : goal.unwrap-iterations-requires
unwrap-iterations-requires c =
    let F = c.args.self.now.polynomial in
    let m = c.args.self.now.degree in
    let xs = c.coordinates.new.row in
    let ys = c.reverse.new.self in
    let codes = backwards_bits F m c.args.a (length c.args.small.now) xs ys c.coordinates.ensures (omega arith) c.reverse.ensures.by_index c.reverse.auto.self in
    answered c.iterate.result _ _ c.iterate.ensures.answers (λ e q. (q.1 codes).0 (omega arith))

pub returns : goal.returns
returns c =
    let F = c.args.self.now.polynomial in
    let m = c.args.self.now.degree in
    let a = c.args.a in
    let xs = c.coordinates.new.row in
    let ys = c.reverse.new.self in
    let smm = c.iterate.new.small_multiplier in
    let at = backwards_at F m a (length c.args.small.now) xs ys c.coordinates.ensures (omega arith) c.reverse.ensures.by_index in
    let it = rw c.unwrap-iterations.ensures at c.iterate.ensures.answers in
    let len : length smm ≡ m = omega arith in
    let done = inverted F m c.args.self.now.right_degree.0 c.args.self.now.right_degree.1 c.args.self.now.no_factor a c.requires.code.0 c.requires.code.1
    (polynomial_of ys) at c.unwrap-iterations.result c.iterate.new.big c.iterate.new.big_multiplier c.iterate.new.small smm it.2 len in
    subst (λ (b : ℕ). Inverts F m a b c.unwrap-iterations.result) (sym (c.number.ensures ∙ ap (λ (k : ℕ). value k (polynomial_of smm)) len)) done
