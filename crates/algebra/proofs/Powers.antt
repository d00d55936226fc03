-- The laws of powers.
use Rattle.std.proofs.Common.{◌≡◌, ℕ, zero, suc, ◌+◌, ◌*◌, sym, ap, ◌∙◌, mul_comm, suc-add, mul-zero, zero-add, mul-suc}
use Rattle.algebra.specs.Operations.{Operations, Ring, Field}
use Rattle.algebra.specs.Polynomials.{pow}
use Rattle.algebra.proofs.Rings

module _ {K : Type 0} (o : Operations K) (R : Ring o) where
  open o use {prod as ◌·◌}

  infixl 70 ◌·◌
  pub pow-sum : (x : K) (a b : ℕ) → pow o x (a + b) ≡ pow o x a · pow o x b
  pow-sum x zero b = ap (pow o x) (zero-add b) ∙ sym (Rings.one-mul o R (pow o x b))
  pow-sum x (suc a) b = ap (pow o x) (suc-add a b) ∙ ap (λ y. x · y) (pow-sum x a b) ∙ sym (R.prod_assoc x (pow o x a) (pow o x b))

  pub pow-product : (x : K) (a b : ℕ) → pow o x (a * b) ≡ pow o (pow o x a) b
  pow-product x a zero = ap (pow o x) (mul-zero a)
  pow-product x a (suc b) =
      ap (pow o x) (mul-suc a b) ∙ pow-sum x (a * b) a ∙ R.prod_comm (pow o x (a * b)) (pow o x a)
      ∙ ap (λ y. pow o x a · y) (pow-product x a b)

  pub pow_swap : (x : K) (a b : ℕ) → pow o (pow o x a) b ≡ pow o (pow o x b) a
  pow_swap x a b = sym (pow-product x a b) ∙ ap (pow o x) (mul_comm a b) ∙ pow-product x b a

module _ {K : Type 0} (o : Operations K) (R : Ring o) (F : Field o) where
  pub pow-nonzero : (x : K) (e : ℕ) → ¬ (x ≡ o.zero) → ¬ (pow o x e ≡ o.zero)
  pow-nonzero x zero n h = R.differ (sym h)
  pow-nonzero x (suc e) n h = n (Rings.mul_cancel o R F x (pow o x e) h (pow-nonzero x e n))
