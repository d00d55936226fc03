-- Removing points from power sums: of the marked points all but i are removed, and where only marked points have terms, the term of i is left.
use Rattle.std.proofs.Common.{◌≡◌, ℕ, zero, suc, ◌+◌, ◌<◌, Bool, true, false, cond, ◌⊎◌, [], ◌∷◌, sym, refl, ap, ◌∙◌, ap₂, inl, inr, le_of_suc-le-suc, add-zero, add-suc, eq-or-lt_of_le, arith, eq-eqb, ne_eqb}
use borrow.Author.Tests.{both_ways}
use Rattle.algebra.specs.Operations.{Operations, Ring}
use Rattle.algebra.specs.Polynomials.{pow, sums}
use Rattle.algebra.specs.Counts.{count}
use Rattle.algebra.specs.Points.{other, removed, others}
use Rattle.algebra.proofs.Rings
use Rattle.algebra.proofs.Sums
use Rattle.algebra.proofs.Counts.{count_same}
use Rattle.algebra.proofs.Solver.{reify}
use Rattle.algebra.proofs.Solver

-- a sum in which every term but one is zero
pub sums-one : {K : Type 0} (o : Operations K) (R : Ring o) (n : ℕ) (f : ℕ → K) (i : ℕ) → i < n → ((j : ℕ) → j < n → ¬ (j ≡ i) → f j ≡ o.zero) → sums o n f ≡ f i
sums-one o R zero f i l z = absurd (omega arith)
sums-one o R (suc n) f i l z = go (eq-or-lt_of_le (le_of_suc-le-suc l)) (λ g. sums-one o R n f i g (λ j k. z j (omega arith)))
  where
    go : (i ≡ n) ⊎ (i < n) → (i < n → sums o n f ≡ f i) → o.sum (sums o n f) (f n) ≡ f i
    go (inl e) rest = ap₂ o.sum (Sums.sums-zero o R n f (λ j k. z j (omega arith) (omega arith))) (ap f (sym e)) ∙ Rings.zero-add o R (f i)
    go (inr g) rest = ap₂ o.sum (rest g) (z n (omega arith) (omega arith)) ∙ R.sum_zero (f i)

module _ {K : Type 0} (o : Operations K) (R : Ring o) (x : ℕ → K) (P : ℕ → Bool) (i : ℕ) where
  open o use {zero as 0#, one, sum as ◌⊞◌, prod as ◌·◌, neg}

  infixl 60 ◌⊞◌
  infixl 70 ◌·◌
  -- one point y removed
  removed_point :
      (n : ℕ) (e c : ℕ → K) (y : K) (t : ℕ)
      → sums o n (λ j. e j · c j · pow o (x j) (suc t)) ⊞ neg (y · sums o n (λ j. e j · c j · pow o (x j) t))
      ≡ sums o n (λ j. e j · (c j · (x j ⊞ neg y)) · pow o (x j) t)
  removed_point n e c y t =
      let A : ℕ → K = λ j. e j · c j · pow o (x j) (suc t) in
      let B : ℕ → K = λ j. e j · c j · pow o (x j) t in
      Solver.ring o R (y ∷ sums o n A ∷ sums o n B ∷ []) {y = one · sums o n A ⊞ neg y · sums o n B} (search reify depth 30) tt
      ∙ sym (Sums.sums_linear o R n one (neg y) A B)
      ∙ Sums.sums_same o n (λ j. one · A j ⊞ neg y · B j) (λ j. e j · (c j · (x j ⊞ neg y)) · pow o (x j) t) (λ j l.
      Solver.ring o R (y ∷ e j ∷ c j ∷ x j ∷ pow o (x j) t ∷ []) (search reify depth 30 fits 20000) tt)

  -- each removed point costs one of the N sums
  pub removed-sums :
      (n N start : ℕ) (e Q : ℕ → K)
      → ((t : ℕ) → t < N → Q t ≡ sums o n (λ j. e j · pow o (x j) (start + t)))
      → (k t : ℕ) → t + count k (other P i) < N
      → removed o x P i Q k t ≡ sums o n (λ j. e j · others o x P i k j · pow o (x j) (start + t))
  removed-sums n N start e Q q zero t h =
      q t (omega arith)
      ∙ Sums.sums_same o n (λ j. e j · pow o (x j) (start + t)) (λ j. e j · one · pow o (x j) (start + t)) (λ j l. ap (λ c. c · pow o (x j) (start + t)) (sym (R.prod_one (e j))))
  removed-sums n N start e Q q (suc k) t h = go (other P i k) h (λ t. removed-sums n N start e Q q k t)
    where
      go : (b : Bool) → t + (count k (other P i) + cond b 1 0) < N
          → ((t : ℕ) → t + count k (other P i) < N → removed o x P i Q k t ≡ sums o n (λ j. e j · others o x P i k j · pow o (x j) (start + t)))
          → cond b (removed o x P i Q k (suc t) ⊞ neg (x k · removed o x P i Q k t)) (removed o x P i Q k t)
          ≡ sums o n (λ j. e j · cond b (others o x P i k j · (x j ⊞ neg (x k))) (others o x P i k j) · pow o (x j) (start + t))
      go true h rest =
          ap₂ (λ a b. a ⊞ neg (x k · b))
          (rest (suc t) (omega arith) ∙ ap (λ s. sums o n (λ j. e j · others o x P i k j · pow o (x j) s)) (add-suc start t))
          (rest t (omega arith))
          ∙ removed_point n e (others o x P i k) (x k) (start + t)
      go false h rest = rest t (omega arith)

  -- the term of another marked point is gone
  pub others-zero : (k j : ℕ) → j < k → other P i j ≡ true → others o x P i k j ≡ 0#
  others-zero zero j l m = absurd (omega arith)
  others-zero (suc k) j l m = go (other P i k) refl (eq-or-lt_of_le (le_of_suc-le-suc l)) (λ g. others-zero k j g m)
    where
      go : (b : Bool) → other P i k ≡ b → (j ≡ k) ⊎ (j < k) → (j < k → others o x P i k j ≡ 0#) → cond b (others o x P i k j · (x j ⊞ neg (x k))) (others o x P i k j) ≡ 0#
      go true w (inl e) rest =
          ap (λ l. others o x P i k j · (x j ⊞ neg (x l))) (sym e) ∙ ap (λ c. others o x P i k j · c) (R.sum_neg (x j)) ∙ Rings.mul-zero o R (others o x P i k j)
      go false w (inl e) rest = absurd (both_ways (other P i k) w (ap (other P i) (sym e) ∙ m))
      go true w (inr g) rest = ap (λ c. c · (x j ⊞ neg (x k))) (rest g) ∙ Rings.zero-mul o R (x j ⊞ neg (x k))
      go false w (inr g) rest = rest g

  -- where only marked points have terms, what is left is the term of i
  pub removed-one :
      (n N start : ℕ) (e Q : ℕ → K)
      → ((j : ℕ) → j < n → P j ≡ false → e j ≡ 0#)
      → ((t : ℕ) → t < N → Q t ≡ sums o n (λ j. e j · pow o (x j) (start + t)))
      → i < n → count n (other P i) < N
      → removed o x P i Q n 0 ≡ e i · others o x P i n i · pow o (x i) start
  removed-one n N start e Q out q l h =
      removed-sums n N start e Q q n 0 (omega arith)
      ∙ sums-one o R n (λ j. e j · others o x P i n j · pow o (x j) (start + 0)) i l (λ j g d. gone j g d (P j) refl)
      ∙ ap (λ s. e i · others o x P i n i · pow o (x i) s) (add-zero start)
    where
      gone : (j : ℕ) → j < n → ¬ (j ≡ i) → (b : Bool) → P j ≡ b → e j · others o x P i n j · pow o (x j) (start + 0) ≡ 0#
      gone j g d true w =
          ap (λ c. e j · c · pow o (x j) (start + 0)) (others-zero n j g (ap (λ b. cond b false (P j)) (ne_eqb j i d) ∙ w))
          ∙ Solver.ring o R (e j ∷ pow o (x j) (start + 0) ∷ []) (search reify depth 30) tt
      gone j g d false w =
          ap (λ c. c · others o x P i n j · pow o (x j) (start + 0)) (out j g w)
          ∙ Solver.ring o R (others o x P i n j ∷ pow o (x j) (start + 0) ∷ []) (search reify depth 30) tt

-- i is marked: it is one more than the others
pub count-other : (P : ℕ → Bool) (i n : ℕ) → i < n → P i ≡ true → suc (count n (other P i)) ≡ count n P
count-other P i zero l m = absurd (omega arith)
count-other P i (suc n) l m = go (eq-or-lt_of_le (le_of_suc-le-suc l)) (λ g. count-other P i n g m)
  where
    apart : (j : ℕ) → ¬ (j ≡ i) → other P i j ≡ P j
    apart j d = ap (λ b. cond b false (P j)) (ne_eqb j i d)

    go : (i ≡ n) ⊎ (i < n) → (i < n → suc (count n (other P i)) ≡ count n P) → suc (count (suc n) (other P i)) ≡ count (suc n) P
    go (inr g) rest =
        let a = ap (λ b. count n (other P i) + cond b 1 0) (apart n (omega arith)) in
        omega (arith, rest g, a)
    go (inl e) rest =
        let below = count_same n (other P i) P (λ j g. apart j (omega arith)) in
        let a = ap (λ b. count n (other P i) + cond (cond b false (P n)) 1 0) (eq-eqb n i (sym e)) in
        let b = ap (λ b. count n P + cond b 1 0) (ap P (sym e) ∙ m) in
        omega (arith, below, a, b)
