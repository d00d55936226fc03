-- The value of a polynomial at a point.
use Rattle.std.proofs.Common.{◌≡◌, ℕ, zero, suc, ◌+◌, ◌<◌, [], ◌∷◌, ap, ◌∙◌, ap₂, add-zero, add-suc}
use Rattle.algebra.specs.Operations.{Operations, Ring}
use Rattle.algebra.specs.Polynomials.{delay, pow, sums}
use Rattle.algebra.proofs.Powers
use Rattle.algebra.proofs.Sums.{sums_same}
use Rattle.algebra.proofs.Solver.{reify}
use Rattle.algebra.proofs.Solver

-- the value at x of the first n terms of p
abbrev pub value : {K : Type 0} → Operations K → ℕ → (ℕ → K) → K → K
value o n p x = sums o n (λ t. o.prod (p t) (pow o x t))

pub value_same : {K : Type 0} (o : Operations K) (n : ℕ) (p s : ℕ → K) (x : K) → ((i : ℕ) → i < n → p i ≡ s i) → value o n p x ≡ value o n s x
value_same o n p s x e = sums_same o n _ _ (λ i l. ap (λ c. o.prod c (pow o x i)) (e i l))

module _ {K : Type 0} (o : Operations K) (R : Ring o) where
  open o use {zero as 0#, one as 1#, sum as ◌⊞◌, prod as ◌⊠◌, neg}

  infixl 60 ◌⊞◌
  infixl 70 ◌⊠◌
  module _ (x : K) where
    -- the value of z p
    pub value-delay : (n : ℕ) (p : ℕ → K) → value o (suc n) (delay o 1 p) x ≡ x ⊠ value o n p x
    value-delay zero p = Solver.ring o R (x ∷ []) (search reify depth 30) tt
    value-delay (suc n) p =
        ap (λ s. s ⊞ p n ⊠ (x ⊠ pow o x n)) (value-delay n p)
        ∙ Solver.ring o R (x ∷ p n ∷ pow o x n ∷ value o n p x ∷ []) (search reify depth 30) tt

    -- the value of p - c s
    pub value-less : (n : ℕ) (p s : ℕ → K) (c : K) → value o n (λ t. p t ⊞ neg (c ⊠ s t)) x ≡ value o n p x ⊞ neg (c ⊠ value o n s x)
    value-less zero p s c = Solver.ring o R (c ∷ []) (search reify depth 30) tt
    value-less (suc n) p s c =
        ap (λ v. v ⊞ (p n ⊞ neg (c ⊠ s n)) ⊠ pow o x n) (value-less n p s c)
        ∙ Solver.ring o R (c ∷ p n ∷ s n ∷ pow o x n ∷ value o n p x ∷ value o n s x ∷ []) (search reify depth 30 fits 20000) tt

    pub value-neg : (n : ℕ) (p : ℕ → K) → value o n (λ t. neg (p t)) x ≡ neg (value o n p x)
    value-neg zero p = Solver.ring o R [] (search reify depth 30) tt
    value-neg (suc n) p =
        ap (λ v. v ⊞ neg (p n) ⊠ pow o x n) (value-neg n p)
        ∙ Solver.ring o R (p n ∷ pow o x n ∷ value o n p x ∷ []) (search reify depth 30) tt

    -- a last term that is zero adds nothing
    pub value_last : (n : ℕ) (p : ℕ → K) → p n ≡ 0# → value o (suc n) p x ≡ value o n p x
    value_last n p e =
        ap (λ c. value o n p x ⊞ c ⊠ pow o x n) e
        ∙ Solver.ring o R (pow o x n ∷ value o n p x ∷ []) (search reify depth 30) tt

    -- the term of z^0 taken out
    pub value_first : (n : ℕ) (p : ℕ → K) → value o (suc n) p x ≡ p 0 ⊞ x ⊠ value o n (λ t. p (suc t)) x
    value_first zero p = Solver.ring o R (x ∷ p 0 ∷ []) (search reify depth 30) tt
    value_first (suc n) p =
        ap (λ v. v ⊞ p (suc n) ⊠ (x ⊠ pow o x n)) (value_first n p)
        ∙ Solver.ring o R (x ∷ p 0 ∷ p (suc n) ∷ pow o x n ∷ value o n (λ t. p (suc t)) x ∷ []) (search reify depth 30 fits 20000) tt

    -- the first r terms, and those from z^r on
    pub value_split : (r k : ℕ) (p : ℕ → K) → value o (r + k) p x ≡ value o r p x ⊞ pow o x r ⊠ value o k (λ t. p (r + t)) x
    value_split r zero p =
        ap (λ n. value o n p x) (add-zero r)
        ∙ Solver.ring o R (pow o x r ∷ value o r p x ∷ []) (search reify depth 30) tt
    value_split r (suc k) p =
        ap (λ n. value o n p x) (add-suc r k)
        ∙ ap₂ (λ v y. v ⊞ p (r + k) ⊠ y) (value_split r k p) (Powers.pow-sum o R x r k)
        ∙ Solver.ring o R (p (r + k) ∷ pow o x r ∷ pow o x k ∷ value o r p x ∷ value o k (λ t. p (r + t)) x ∷ []) (search reify depth 30 fits 20000) tt
