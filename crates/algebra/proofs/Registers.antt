-- The register of a division by the generator: the row that it completes has the value zero at each root.
use Rattle.std.proofs.Common.{◌≡◌, ℕ, zero, suc, ◌+◌, ◌-◌, ◌*◌, ◌≤◌, cond, ltb, [], ◌∷◌, sym, refl, ap, ◌∙◌, ap₂, arith, le-ltb, lt-ltb}
use Rattle.std.proofs.lemmas.Bool.{cond-true, cond-false}
use Rattle.algebra.specs.Operations.{Operations, Ring}
use Rattle.algebra.specs.Polynomials.{delay, pow, sums, value_at}
use Rattle.algebra.specs.Generators.{generator, register}
use Rattle.algebra.proofs.Powers
use Rattle.algebra.proofs.Rings
use Rattle.algebra.proofs.Sums.{sums_same, sums_reversed}
use Rattle.algebra.proofs.Values.{value, value_same}
use Rattle.algebra.proofs.Values
use Rattle.algebra.proofs.Generators
use Rattle.algebra.proofs.Solver.{reify}
use Rattle.algebra.proofs.Solver

-- the characters d_0 to d_(p-1), the highest first, as a polynomial's value at x
abbrev pub horner : {K : Type 0} → Operations K → (ℕ → K) → K → ℕ → K
horner o d x zero = o.zero
horner o d x (suc p) = o.sum (o.prod (horner o d x p) x) (d p)

-- the code c_i of the row that k characters and r check characters make
unfoldable pub row-code : {K : Type 0} → Operations K → K → ℕ → (ℕ → K) → ℕ → ℕ → K
row-code o g r d k i = cond (ltb i r) (o.neg (register o g r d k i)) (d (k - 1 - (i - r)))

module _ {K : Type 0} (o : Operations K) (R : Ring o) where
  open o use {zero as 0#, one as 1#, sum as ◌⊞◌, prod as ◌⊠◌, neg}

  infixl 60 ◌⊞◌
  infixl 70 ◌⊠◌
  -- Horner's rule
  pub horner_value : (d : ℕ → K) (x : K) (k : ℕ) → horner o d x k ≡ value o k (λ i. d (k - 1 - i)) x
  horner_value d x zero = refl
  horner_value d x (suc k) =
      ap (λ v. v ⊠ x ⊞ d k) (horner_value d x k)
      ∙ ap (λ v. v ⊠ x ⊞ d k) (value_same o k _ (λ i. d (suc k - 1 - suc i)) x (λ i l. ap d (omega arith)))
      ∙ Solver.ring o R (x ∷ d k ∷ value o k (λ i. d (suc k - 1 - suc i)) x ∷ []) (search reify depth 30) tt
      ∙ ap (λ i. d i ⊞ x ⊠ value o k (λ i. d (suc k - 1 - suc i)) x) {x = k} {y = suc k - 1 - 0} (omega arith)
      ∙ sym (Values.value_first o R x k (λ i. d (suc k - 1 - i)))

  -- the value of coefficients that stand the highest first
  pub value_reversed : (d : ℕ → K) (x : K) (n : ℕ) → value o n (λ i. d (n - 1 - i)) x ≡ value_at o n d x
  value_reversed d x n =
      sums_same o n _ (λ i. d (n - 1 - i) ⊠ pow o x (n - 1 - (n - 1 - i))) (λ i l. ap (λ e. d (n - 1 - i) ⊠ pow o x e) (omega arith))
      ∙ sums_reversed o R n (λ j. d j ⊠ pow o x (n - 1 - j))

  -- values at powers of g are sums with the powers multiplied
  pub value_powers : (g : K) (n j : ℕ) (c : ℕ → K) → value o n c (pow o g j) ≡ sums o n (λ i. c i ⊠ pow o g (i * j))
  value_powers g n j c = sums_same o n _ _ (λ i l. ap (λ y. c i ⊠ y) (Powers.pow_swap o R g j i ∙ sym (Powers.pow-product o R g i j)))

  value-nothing : (x : K) (n : ℕ) → value o n (λ t. 0#) x ≡ 0#
  value-nothing x zero = refl
  value-nothing x (suc n) = ap (λ v. v ⊞ 0# ⊠ pow o x n) (value-nothing x n) ∙ Solver.ring o R (pow o x n ∷ []) (search reify depth 30) tt

  -- z p within r terms has lost the top term of p
  delayed : (x : K) (r : ℕ) (p : ℕ → K) → 1 ≤ r → value o r (delay o 1 p) x ≡ x ⊠ value o r p x ⊞ neg (p (r - 1) ⊠ pow o x r)
  delayed x zero p h = absurd (omega arith)
  delayed x (suc s) p h =
      let top : p s ≡ p (suc s - 1) = ap p (omega arith) in
      Values.value-delay o R x s p
      ∙ Solver.ring o R (x ∷ p s ∷ pow o x s ∷ value o s p x ∷ []) (search reify depth 30) tt
      ∙ ap (λ c. x ⊠ value o (suc s) p x ⊞ neg (c ⊠ pow o x (suc s))) top

  module _ (g : K) (r : ℕ) (d : ℕ → K) (x : K) (root : value o (suc r) (generator o g r) x ≡ 0#) (some : 1 ≤ r) where
    -- below its top term the generator has the value - x^r
    below_top : value o r (generator o g r) x ≡ neg (pow o x r)
    below_top =
        Solver.ring o R (value o r (generator o g r) x ∷ pow o x r ∷ []) (search reify depth 30) tt
        ∙ ap (λ a. (value o r (generator o g r) x ⊞ a ⊠ pow o x r) ⊞ neg (pow o x r)) (sym (Generators.generator_top o R g r))
        ∙ ap (λ v. v ⊞ neg (pow o x r)) root
        ∙ Rings.zero-add o R _

    pub register-value : (p : ℕ) → value o r (register o g r d p) x ≡ pow o x r ⊠ horner o d x p
    unfolding register
    register-value zero = value-nothing x r ∙ sym (Rings.mul-zero o R _)
    register-value (suc p) =
        let held : ℕ → K = register o g r d p in
        let top : K = held (r - 1) in
        let f : K = top ⊞ d p in
        value_same o r _ (λ t. delay o 1 held t ⊞ neg (f ⊠ generator o g r t)) x (λ t l. cond-true (ltb t r) _ _ (lt-ltb t r l))
        ∙ Values.value-less o R x r (delay o 1 held) (generator o g r) f
        ∙ ap₂ (λ v w. v ⊞ neg (f ⊠ w)) (delayed x r held some) below_top
        ∙ ap (λ v. x ⊠ v ⊞ neg (top ⊠ pow o x r) ⊞ neg (f ⊠ neg (pow o x r))) (register-value p)
        ∙ Solver.ring o R (x ∷ d p ∷ top ∷ pow o x r ∷ horner o d x p ∷ []) (search reify depth 30 fits 20000) tt

    -- the completed row has the value zero
    pub row-value : (k : ℕ) → value o (r + k) (row-code o g r d k) x ≡ 0#
    unfolding row-code
    row-value k =
        Values.value_split o R x r k (row-code o g r d k)
        ∙ ap₂ (λ v w. v ⊞ pow o x r ⊠ w)
        (value_same o r _ (λ t. neg (register o g r d k t)) x (λ t l. cond-true (ltb t r) _ _ (lt-ltb t r l)))
        (value_same o k _ (λ t. d (k - 1 - t)) x (λ t l. cond-false (ltb (r + t) r) _ _ (le-ltb (r + t) r (omega arith)) ∙ ap d (omega arith)))
        ∙ ap₂ (λ v w. v ⊞ pow o x r ⊠ w) (Values.value-neg o R x r (register o g r d k) ∙ ap neg (register-value k)) (sym (horner_value d x k))
        ∙ R.sum_comm _ _ ∙ R.sum_neg _

  -- the power sums 1 to r of the completed row are zero
  pub row-zeros : (g : K) (r k j : ℕ) (d : ℕ → K) → 1 ≤ j → j ≤ r → sums o (r + k) (λ i. row-code o g r d k i ⊠ pow o g (i * j)) ≡ 0#
  row-zeros g r k j d l h =
      sym (value_powers g (r + k) j (row-code o g r d k))
      ∙ row-value g r d (pow o g j) (Generators.generator_root o R g r j l h) (omega arith) k
