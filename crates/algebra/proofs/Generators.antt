-- The generator: the product of the z - g^j for j from 1 to r, its top term and its roots.
use Rattle.std.proofs.Common.{◌≡◌, ℕ, zero, suc, ◌<◌, ◌≤◌, cond, ◌⊎◌, [], ◌∷◌, refl, ap, ◌∙◌, ap₂, inl, inr, eq-or-lt_of_le, arith, ne_eqb}
use Rattle.algebra.specs.Operations.{Operations, Ring}
use Rattle.algebra.specs.Polynomials.{Within, delay, pow}
use Rattle.algebra.specs.Generators.{by_root, generator}
use Rattle.algebra.proofs.Rings
use Rattle.algebra.proofs.Values.{value}
use Rattle.algebra.proofs.Values
use Rattle.algebra.proofs.Solver.{reify}
use Rattle.algebra.proofs.Solver

module _ {K : Type 0} (o : Operations K) (R : Ring o) where
  open o use {zero as 0#, one as 1#, sum as ◌⊞◌, prod as ◌⊠◌, neg}

  infixl 60 ◌⊞◌
  infixl 70 ◌⊠◌
  pub by_root_value : (n : ℕ) (p : ℕ → K) (a x : K) → Within o n p → value o (suc n) (by_root o p a) x ≡ (x ⊞ neg a) ⊠ value o n p x
  by_root_value n p a x h =
      Values.value-less o R x (suc n) (delay o 1 p) p a
      ∙ ap₂ (λ v w. v ⊞ neg (a ⊠ w)) (Values.value-delay o R x n p) (Values.value_last o R x n p (h n (omega arith)))
      ∙ Solver.ring o R (x ∷ a ∷ value o n p x ∷ []) (search reify depth 30) tt

  module _ (g : K) where
    pub generator_within : (j : ℕ) → Within o (suc j) (generator o g j)
    unfolding generator
    generator_within zero zero h = absurd (omega arith)
    generator_within zero (suc t) h = ap (λ b. cond b 1# 0#) (ne_eqb (suc t) 0 (λ e. omega arith))
    generator_within (suc j) zero h = absurd (omega arith)
    generator_within (suc j) (suc t) h =
        ap₂ (λ a b. a ⊞ neg (pow o g (suc j) ⊠ b)) (generator_within j t (omega arith)) (generator_within j (suc t) (omega arith))
        ∙ Solver.ring o R (pow o g (suc j) ∷ []) (search reify depth 30) tt

    pub generator_top : (j : ℕ) → generator o g j j ≡ 1#
    unfolding generator
    generator_top zero = refl
    generator_top (suc j) =
        ap₂ (λ a b. a ⊞ neg (pow o g (suc j) ⊠ b)) (generator_top j) (generator_within j (suc j) (omega arith))
        ∙ Solver.ring o R (pow o g (suc j) ∷ []) (search reify depth 30) tt

    pub generator_root : (r j : ℕ) → 1 ≤ j → j ≤ r → value o (suc r) (generator o g r) (pow o g j) ≡ 0#
    unfolding generator
    generator_root zero j l h = absurd (omega arith)
    generator_root (suc r) j l h =
        by_root_value (suc r) (generator o g r) (pow o g (suc r)) (pow o g j) (generator_within r)
        ∙ go (eq-or-lt_of_le h) (λ k. generator_root r j l k)
      where
        go : (j ≡ suc r) ⊎ (j < suc r) → (j ≤ r → value o (suc r) (generator o g r) (pow o g j) ≡ 0#)
            → (pow o g j ⊞ neg (pow o g (suc r))) ⊠ value o (suc r) (generator o g r) (pow o g j) ≡ 0#
        go (inl e) ih =
            ap (λ i. (pow o g i ⊞ neg (pow o g (suc r))) ⊠ value o (suc r) (generator o g r) (pow o g j)) e
            ∙ Solver.ring o R (pow o g (suc r) ∷ value o (suc r) (generator o g r) (pow o g j) ∷ []) (search reify depth 30) tt
        go (inr k) ih = ap (λ v. (pow o g j ⊞ neg (pow o g (suc r))) ⊠ v) (ih (omega arith)) ∙ Rings.mul-zero o R _
