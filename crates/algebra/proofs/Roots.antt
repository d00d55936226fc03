-- A polynomial that vanishes at as many different points as it has coefficients is zero.
use Rattle.std.proofs.Common.{◌≡◌, ℕ, zero, suc, ◌+◌, ◌<◌, ◌≤◌, Bool, true, false, cond, [], ◌∷◌, sym, refl, ap, ◌∙◌, ap₂, arith}
use native.Mathlib.Decide.{dec_le}
use Rattle.algebra.specs.Operations.{Operations, Ring, Field}
use Rattle.algebra.specs.Polynomials.{pow, sums}
use Rattle.algebra.specs.Counts.{count}
use Rattle.algebra.proofs.Rings
use Rattle.algebra.proofs.Sums
use Rattle.algebra.proofs.Solver.{reify}
use Rattle.algebra.proofs.Solver

module _ {K : Type 0} (o : Operations K) (R : Ring o) where
  open o use {zero as 0#, sum as ◌⊞◌, prod as ◌·◌, neg}

  infixl 60 ◌⊞◌
  infixl 70 ◌·◌
  -- the first n terms of W at y
  abbrev value : ℕ → (ℕ → K) → K → K
  value n W y = sums o n (λ j. W j · pow o y j)

  abbrev beyond : (ℕ → K) → ℕ → K
  beyond W j = W (suc j)

  value_first : (n : ℕ) (W : ℕ → K) (y : K) → value (suc n) W y ≡ W 0 ⊞ y · value n (beyond W) y
  value_first n W y =
      Sums.sums_first o R n (λ j. W j · pow o y j)
      ∙ ap₂ ◌⊞◌ (R.prod_one (W 0)) (Sums.sums_same o n (λ j. W (suc j) · (y · pow o y j)) (λ j. y · (W (suc j) · pow o y j)) (λ j l. Rings.mul_left_comm o R (W (suc j)) y (pow o y j))
      ∙ Sums.sums_scaled o R n y (λ j. W (suc j) · pow o y j))

  value-zero : (n : ℕ) (W : ℕ → K) (y : K) → ((j : ℕ) → j < n → W j ≡ 0#) → value n W y ≡ 0#
  value-zero n W y z = Sums.sums-zero o R n (λ j. W j · pow o y j) (λ j l. ap (λ c. c · pow o y j) (z j l) ∙ Rings.zero-mul o R (pow o y j))

  -- the first of the terms, where the others are zero
  first_zero : (n : ℕ) (W : ℕ → K) (y : K) → value (suc n) W y ≡ 0# → ((j : ℕ) → j < n → W (suc j) ≡ 0#) → W 0 ≡ 0#
  first_zero n W y e z =
      Solver.ring o R (W 0 ∷ y ∷ []) {y = W 0 ⊞ y · 0#} (search reify depth 30) tt
      ∙ ap (λ s. W 0 ⊞ y · s) (sym (value-zero n (beyond W) y z)) ∙ sym (value_first n W y) ∙ e

  -- the quotient of the first n + 1 terms of W by z - x, which has n terms
  abbrev quotient : ℕ → K → (ℕ → K) → ℕ → K
  quotient n x W zero = value n (beyond W) x
  quotient zero x W (suc j) = 0#
  quotient (suc n) x W (suc j) = quotient n x (beyond W) j

  divided : (n : ℕ) (W : ℕ → K) (x y : K) → value (suc n) W y ≡ value (suc n) W x ⊞ (y ⊞ neg x) · value n (quotient n x W) y
  divided zero W x y = Solver.ring o R (W 0 ∷ x ∷ y ∷ []) (search reify depth 30) tt
  divided (suc n) W x y =
      let V = value (suc n) (beyond W) x in
      let Q = value n (quotient n x (beyond W)) y in
      value_first (suc n) W y ∙ ap (λ s. W 0 ⊞ y · s) (divided n (beyond W) x y)
      ∙ Solver.ring o R (W 0 ∷ x ∷ y ∷ V ∷ Q ∷ []) {y = (W 0 ⊞ x · V) ⊞ (y ⊞ neg x) · (V ⊞ y · Q)} (search reify depth 30 fits 20000) tt
      ∙ ap₂ (λ s q. s ⊞ (y ⊞ neg x) · q) (sym (value_first (suc n) W x)) (sym (value_first n (quotient (suc n) x W) y))

  quotient-zero : (n : ℕ) (W : ℕ → K) (x : K) → ((j : ℕ) → j < n → quotient n x W j ≡ 0#) → (j : ℕ) → j < n → W (suc j) ≡ 0#
  quotient-zero zero W x z j l = absurd (omega arith)
  quotient-zero (suc n) W x z zero l = first_zero n (beyond W) x (z 0 (omega arith)) (quotient-zero n (beyond W) x (λ j g. z (suc j) (omega arith)))
  quotient-zero (suc n) W x z (suc j) l = quotient-zero n (beyond W) x (λ j g. z (suc j) (omega arith)) j (omega arith)

module _ {K : Type 0} (o : Operations K) (R : Ring o) (F : Field o) (x : ℕ → K) where
  open o use {zero as 0#, sum as ◌⊞◌, prod as ◌·◌, neg}

  infixl 60 ◌⊞◌
  infixl 70 ◌·◌
  divided_root : (n : ℕ) (W : ℕ → K) (u y : K) → ¬ (y ≡ u) → value o R (suc n) W u ≡ 0# → value o R (suc n) W y ≡ 0# → value o R n (quotient o R n u W) y ≡ 0#
  divided_root n W u y d e h =
      let Q = value o R n (quotient o R n u W) y in
      Rings.mul_cancel o R F Q (y ⊞ neg u)
      (Solver.ring o R (u ∷ y ∷ Q ∷ []) {y = 0# ⊞ (y ⊞ neg u) · Q} (search reify depth 30) tt
      ∙ ap (λ s. s ⊞ (y ⊞ neg u) · Q) (sym e) ∙ sym (divided o R n W u y) ∙ h)
      (Rings.sub_ne o R y u d)

  -- at least N of the n points are roots
  many_roots :
      (n N : ℕ) (W : ℕ → K) (root : ℕ → Bool)
      → ((i j : ℕ) → i < j → j < n → ¬ (x i ≡ x j))
      → ((i : ℕ) → i < n → root i ≡ true → sums o N (λ j. W j · pow o (x i) j) ≡ 0#)
      → N ≤ count n root
      → (j : ℕ) → j < N → W j ≡ 0#
  many_roots zero N W root d r many = λ j l. absurd (omega arith)
  many_roots (suc n) N W root d r many = go (root n) refl N W r many (λ M V. many_roots n M V root (λ i j l g. d i j l (omega arith)))
    where
      go : (b : Bool) → root n ≡ b → (M : ℕ) (V : ℕ → K) → ((i : ℕ) → i < suc n → root i ≡ true → value o R M V (x i) ≡ 0#) → M ≤ count n root + cond b 1 0
          → ((M : ℕ) (V : ℕ → K) → ((i : ℕ) → i < n → root i ≡ true → value o R M V (x i) ≡ 0#) → M ≤ count n root → (j : ℕ) → j < M → V j ≡ 0#)
          → (j : ℕ) → j < M → V j ≡ 0#
      go false e M V r h rest j l = rest M V (λ i g. r i (omega arith)) (omega arith) j l
      go true e zero V r h rest j l = absurd (omega arith)
      go true e (suc M) V r h rest j l =
          let own = r n (omega arith) e in
          let z = quotient-zero o R M V (x n) (rest M (quotient o R M (x n) V) (λ i g w. divided_root M V (x n) (x i) (d i n g (omega arith)) own (r i (omega arith) w)) (omega arith)) in
          each j l (first_zero o R M V (x n) own z) z
        where
          each : (j : ℕ) → j < suc M → V 0 ≡ 0# → ((j : ℕ) → j < M → V (suc j) ≡ 0#) → V j ≡ 0#
          each zero l a z = a
          each (suc j) l a z = z j (omega arith)

  -- a polynomial of degree at most D that is not zero has at most D roots among n different points
  pub root_count :
      (n D : ℕ) (W : ℕ → K) (root : ℕ → Bool)
      → ((i j : ℕ) → i < j → j < n → ¬ (x i ≡ x j))
      → ((i : ℕ) → i < n → root i ≡ true → sums o (suc D) (λ j. W j · pow o (x i) j) ≡ 0#)
      → (t : ℕ) → t < suc D → ¬ (W t ≡ 0#)
      → count n root ≤ D
  root_count n D W root d r t l nz = elim (dec_le (count n root) D) [ yes k ↦ k | no k ↦ absurd (nz (many_roots n (suc D) W root d r (omega arith) t l)) ]
