-- Polynomials over any operations, as functions from the exponent to the coefficient.
use Rattle.std.specs.Prelude.{◌≡◌, ℕ, zero, suc, ◌-◌, ◌≤◌, cond, ◌==◌}
use Rattle.algebra.specs.Operations.{Operations}

-- the coefficient of z^t, for each t
abbrev pub Polynomial : Type 0 → Type 0
Polynomial K = ℕ → K

module _ {K : Type 0} (o : Operations K) where
  -- the polynomial 0
  abbrev pub nothing : Polynomial K
  nothing t = o.zero

  -- z^d
  abbrev pub power : ℕ → Polynomial K
  power d t = cond (t == d) o.one o.zero

  -- z^d p
  abbrev pub delay : ℕ → Polynomial K → Polynomial K
  delay zero p t = p t
  delay (suc d) p zero = o.zero
  delay (suc d) p (suc t) = delay d p t

  -- p - c z^d q
  abbrev pub less : Polynomial K → K → ℕ → Polynomial K → Polynomial K
  less p c d q t = o.sum (p t) (o.neg (o.prod c (delay d q t)))

  -- the coefficient of z^t in the product p q: the sum of p_j q_(t-j) over j from 0 to t
  abbrev pub conv : Polynomial K → Polynomial K → ℕ → K
  conv p q zero = o.prod (p 0) (q 0)
  conv p q (suc t) = o.sum (o.prod (p 0) (q (suc t))) (conv (λ j. p (suc j)) q t)

  -- p has no term from z^n on
  abbrev pub Within : ℕ → Polynomial K → Type 0
  Within n p = (t : ℕ) → n ≤ t → p t ≡ o.zero

  -- one more than the degree of the terms of p below z^n; 0 where there is none, as the zero polynomial has degree -1
  abbrev pub terms : ℕ → Polynomial K → ℕ
  terms zero p = 0
  terms (suc n) p = cond (o.zero? (p n)) (terms n p) (suc n)

  -- x^e
  abbrev pub pow : K → ℕ → K
  pow x zero = o.one
  pow x (suc e) = o.prod x (pow x e)

  -- the sum of f_i over i below n
  abbrev pub sums : ℕ → (ℕ → K) → K
  sums zero f = o.zero
  sums (suc n) f = o.sum (sums n f) (f n)

  -- the value at x of the polynomial with the n coefficients c_0 to c_(n-1), the highest first
  abbrev pub value_at : ℕ → (ℕ → K) → K → K
  value_at n c x = sums n (λ j. o.prod (c j) (pow x (n - 1 - j)))
