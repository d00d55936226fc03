-- Locating the wrong points: a multiplier of the folded power sums vanishes at every one of them.
use Rattle.std.proofs.Common.{◌≡◌, ℕ, suc, ◌+◌, ◌-◌, ◌<◌, ◌≤◌, Bool, true, false, [], ◌∷◌, sym, refl, ap, ◌∙◌, ap₂, arith}
use Rattle.algebra.specs.Operations.{Operations, Ring, Field}
use Rattle.algebra.specs.Polynomials.{conv, pow, sums, value_at}
use Rattle.algebra.specs.Counts.{count}
use Rattle.algebra.proofs.Rings
use Rattle.algebra.proofs.Powers
use Rattle.algebra.proofs.Sums
use Rattle.algebra.proofs.DoubleSums
use Rattle.algebra.specs.Points.{folded}
use Rattle.algebra.proofs.Folding.{weight, folded_sums}
use Rattle.algebra.proofs.Weights
use Rattle.algebra.proofs.Vandermonde
use Rattle.algebra.proofs.Roots
use Rattle.algebra.proofs.Solver.{reify}
use Rattle.algebra.proofs.Solver

-- the coefficients of U up to D, the highest first, as a polynomial at y
abbrev pub locator : {K : Type 0} → Operations K → ℕ → (ℕ → K) → K → K
locator o D U y = sums o (suc D) (λ j. o.prod (U j) (pow o y (D - j)))

pub locator_value : {K : Type 0} (o : Operations K) (D : ℕ) (U : ℕ → K) (y : K) → value_at o (suc D) U y ≡ locator o D U y
locator_value o D U y = Sums.sums_same o (suc D) _ _ (λ j l. ap (λ e. o.prod (U j) (pow o y e)) (omega arith))

module _ {K : Type 0} (o : Operations K) (R : Ring o) (x : ℕ → K) where
  open o use {zero as 0#, prod as ◌·◌}

  infixl 70 ◌·◌
  -- one point's part of the product
  point : (D p : ℕ) (U : ℕ → K) (a y : K) → sums o (suc D) (λ j. U j · (a · pow o y (p + (D - j)))) ≡ (a · locator o D U y) · pow o y p
  point D p U a y =
      Sums.sums_same o (suc D) _ (λ j. (a · pow o y p) · (U j · pow o y (D - j))) (λ j l.
      ap (λ v. U j · (a · v)) (Powers.pow-sum o R y p (D - j))
      ∙ Solver.ring o R (U j ∷ a ∷ pow o y p ∷ pow o y (D - j) ∷ []) (search reify depth 30) tt)
      ∙ Sums.sums_scaled o R (suc D) (a · pow o y p) (λ j. U j · pow o y (D - j))
      ∙ Solver.ring o R (a ∷ pow o y p ∷ locator o D U y ∷ []) (search reify depth 30) tt

  -- the product by U of what is a power sum from s on, as a power sum
  conv-located :
      (n D s r t : ℕ) (a U T : ℕ → K)
      → ((j : ℕ) → D < j → U j ≡ 0#)
      → ((t : ℕ) → s ≤ t → t < r → T t ≡ sums o n (λ i. a i · pow o (x i) (suc t - s)))
      → D + s ≤ t → t < r
      → conv o U T t ≡ sums o n (λ i. (a i · locator o D U (x i)) · pow o (x i) (suc t - s - D))
  conv-located n D s r t a U T short h l g =
      DoubleSums.conv-sums o R U T t
      ∙ DoubleSums.sums_kept o R (suc D) (suc t) (λ j. U j · T (t - j)) (omega arith) (λ j k. ap (λ c. c · T (t - j)) (short j (omega arith)) ∙ Rings.zero-mul o R (T (t - j)))
      ∙ Sums.sums_same o (suc D) _ _ (λ j k. each j k)
      ∙ DoubleSums.sums_swap o R (suc D) n (λ j i. U j · (a i · pow o (x i) ((suc t - s - D) + (D - j))))
      ∙ Sums.sums_same o n _ _ (λ i k. point D (suc t - s - D) U (a i) (x i))
    where
      each : (j : ℕ) → j < suc D → U j · T (t - j) ≡ sums o n (λ i. U j · (a i · pow o (x i) ((suc t - s - D) + (D - j))))
      each j k =
          let m : suc (t - j) - s ≡ (suc t - s - D) + (D - j) = omega arith in
          ap (λ v. U j · v) (h (t - j) (omega arith) (omega arith) ∙ ap (λ m. sums o n (λ i. a i · pow o (x i) m)) m)
          ∙ sym (Sums.sums_scaled o R n (U j) (λ i. a i · pow o (x i) ((suc t - s - D) + (D - j))))

module _ {K : Type 0} (o : Operations K) (R : Ring o) (F : Field o) (x : ℕ → K) where
  open o use {zero as 0#, prod as ◌·◌}

  infixl 70 ◌·◌
  -- `wrong` passes at most D points and, of those that are not marked, every one where e is not zero: the locator vanishes there
  pub located :
      (n D stop s r : ℕ) (E wrong : ℕ → Bool) (e T U : ℕ → K)
      → s ≡ count n E
      → r ≡ suc (D + stop)
      → D + s ≤ suc stop
      → ((i j : ℕ) → i < j → j < n → ¬ (x i ≡ x j))
      → ((i : ℕ) → i < n → ¬ (x i ≡ 0#))
      → ((t : ℕ) → t < r → T t ≡ sums o n (λ i. e i · pow o (x i) (suc t)))
      → ((j : ℕ) → D < j → U j ≡ 0#)
      → ((t : ℕ) → stop < t → t < r → conv o U (folded o x E T n) t ≡ 0#)
      → ((i : ℕ) → i < n → wrong i ≡ false → E i ≡ false → e i ≡ 0#)
      → count n wrong ≤ D
      → (i : ℕ) → i < n → E i ≡ false → ¬ (e i ≡ 0#) → locator o D U (x i) ≡ 0#
  located n D stop s r E wrong e T U se re fits d nz h short eqs out few i l plain bad =
      Rings.mul_cancel o R F (W i) (a i)
      (R.prod_comm (W i) (a i) ∙ Vandermonde.supported o R F x n D (λ i. a i · W i) wrong start d nz rest few equations i l)
      (λ z. bad (Rings.mul_cancel o R F (e i) (weight o x E n i) z (Weights.weight_nonzero o R F x E n i d l plain)))
    where
      W : ℕ → K
      W i = locator o D U (x i)

      a : ℕ → K
      a i = e i · weight o x E n i

      start : ℕ
      start = suc (suc stop) - count n E - D

      weighted : (i : ℕ) → i < n → wrong i ≡ false → (b : Bool) → E i ≡ b → a i ≡ 0#
      weighted i l w true m = ap (λ v. e i · v) (Weights.weight_zero o R x E n i l m) ∙ Rings.mul-zero o R (e i)
      weighted i l w false m = ap (λ v. v · weight o x E n i) (out i l w m) ∙ Rings.zero-mul o R (weight o x E n i)

      rest : (i : ℕ) → i < n → wrong i ≡ false → a i · W i ≡ 0#
      rest i l w = ap (λ v. v · W i) (weighted i l w (E i) refl) ∙ Rings.zero-mul o R (W i)

      equations : (t : ℕ) → t < D → sums o n (λ i. (a i · W i) · pow o (x i) (start + t)) ≡ 0#
      equations t g =
          let m : start + t ≡ suc (suc stop + t) - count n E - D = omega arith in
          ap (λ m. sums o n (λ i. (a i · W i) · pow o (x i) m)) m
          ∙ sym (conv-located o R x n D (count n E) r (suc stop + t) a U (folded o x E T n) short (folded_sums o R x E n r e T h n) (omega arith) (omega arith))
          ∙ eqs (suc stop + t) (omega arith) (omega arith)

  -- the locator vanishes at no more than D points
  pub locator_count :
      (n D : ℕ) (U : ℕ → K) (root : ℕ → Bool)
      → ((i j : ℕ) → i < j → j < n → ¬ (x i ≡ x j))
      → ((i : ℕ) → i < n → root i ≡ true → locator o D U (x i) ≡ 0#)
      → (t : ℕ) → t ≤ D → ¬ (U t ≡ 0#)
      → count n root ≤ D
  locator_count n D U root d r t l nz =
      Roots.root_count o R F x n D (λ j. U (D - j)) root d
      (λ i g w. Sums.sums_same o (suc D) _ (λ j. backwards i (suc D - 1 - j)) (λ j k. turned i j k) ∙ Sums.sums_reversed o R (suc D) (backwards i) ∙ r i g w)
      (D - t) (omega arith) (λ z. nz (ap U same ∙ z))
    where
      backwards : ℕ → ℕ → K
      backwards i j = U j · pow o (x i) (D - j)

      turned : (i j : ℕ) → j < suc D → U (D - j) · pow o (x i) j ≡ backwards i (suc D - 1 - j)
      turned i j k =
          let u : D - j ≡ suc D - 1 - j = omega arith in
          let v : j ≡ D - (suc D - 1 - j) = omega arith in
          ap₂ (λ a b. U a · pow o (x i) b) u v

      same : t ≡ D - (D - t)
      same = omega arith
