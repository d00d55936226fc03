-- The term of a marked point, from as many power sums as there are marked points.
use Rattle.std.proofs.Common.{◌≡◌, ℕ, zero, suc, ◌+◌, ◌<◌, ◌≤◌, Bool, true, false, cond, eqb, sym, refl, ap, ◌∙◌, arith}
use native.Mathlib.Decide.{dec_lt}
use borrow.Author.Tests.{eqb-false}
use Rattle.algebra.specs.Operations.{Operations, Ring, Field}
use Rattle.algebra.specs.Polynomials.{pow, sums}
use Rattle.algebra.specs.Counts.{count}
use Rattle.algebra.proofs.Rings
use Rattle.algebra.proofs.Powers
use Rattle.algebra.specs.Points.{removed, others}
use Rattle.algebra.proofs.Removing.{count-other}
use Rattle.algebra.proofs.Removing

module _ {K : Type 0} (o : Operations K) (R : Ring o) (F : Field o) (x : ℕ → K) (P : ℕ → Bool) (i : ℕ) where
  open o use {zero as 0#, sum as ◌⊞◌, prod as ◌·◌, neg, inv}

  infixl 60 ◌⊞◌
  infixl 70 ◌·◌
  product-nonzero : (a d : K) → ¬ (a ≡ 0#) → ¬ (d ≡ 0#) → ¬ (a · d ≡ 0#)
  product-nonzero a d n m h = n (Rings.mul_cancel o R F a d h m)

  -- the factor at i is not zero where no other point is that of i
  others-nonzero : (k : ℕ) → ((l : ℕ) → l < k → ¬ (l ≡ i) → ¬ (x i ≡ x l)) → ¬ (others o x P i k i ≡ 0#)
  others-nonzero zero d h = R.differ (sym h)
  others-nonzero (suc k) d h = go (eqb k i) refl (P k) h (others-nonzero k (λ l g. d l (omega arith)))
    where
      go : (b : Bool) → eqb k i ≡ b → (c : Bool) → cond (cond b false c) (others o x P i k i · (x i ⊞ neg (x k))) (others o x P i k i) ≡ 0# → ¬ (others o x P i k i ≡ 0#) → ⊥
      go true w c h rest = rest h
      go false w false h rest = rest h
      go false w true h rest =
          product-nonzero (others o x P i k i) (x i ⊞ neg (x k)) rest (Rings.sub_ne o R (x i) (x k) (d k (omega arith) (eqb-false k i w))) h

  -- what is left at i is its term times this divisor
  pub divisor-nonzero :
      (n start : ℕ)
      → ((j l : ℕ) → j < l → l < n → ¬ (x j ≡ x l))
      → ((j : ℕ) → j < n → ¬ (x j ≡ 0#))
      → i < n
      → ¬ (others o x P i n i · pow o (x i) start ≡ 0#)
  divisor-nonzero n start d nz l =
      product-nonzero (others o x P i n i) (pow o (x i) start)
      (others-nonzero n (λ j g u w. elim (dec_lt i j) [ yes k ↦ d i j k g w | no k ↦ d j i (omega arith) l (sym w) ]))
      (Powers.pow-nonzero o R F (x i) start (nz i l))

  -- the term of i, from what is left when the other marked points are removed
  pub filled :
      (n N start : ℕ) (e Q : ℕ → K)
      → ((j l : ℕ) → j < l → l < n → ¬ (x j ≡ x l))
      → ((j : ℕ) → j < n → ¬ (x j ≡ 0#))
      → ((j : ℕ) → j < n → P j ≡ false → e j ≡ 0#)
      → count n P ≤ N
      → ((t : ℕ) → t < N → Q t ≡ sums o n (λ j. e j · pow o (x j) (start + t)))
      → i < n → P i ≡ true
      → e i ≡ removed o x P i Q n 0 · inv (others o x P i n i · pow o (x i) start)
  filled n N start e Q d nz out few q l m =
      let c = others o x P i n i in
      let p = pow o (x i) start in
      sym (R.prod_one (e i))
      ∙ ap (λ s. e i · s) (sym (F.inverse (c · p) (divisor-nonzero n start d nz l)))
      ∙ sym (R.prod_assoc (e i) (c · p) (inv (c · p)))
      ∙ ap (λ s. s · inv (c · p)) (sym (R.prod_assoc (e i) c p) ∙ sym (Removing.removed-one o R x P i n N start e Q out q l (omega (arith, count-other P i n l m))))
