-- The iteration on two pairs of polynomials, for coefficients of any operations.
use Rattle.std.specs.Prelude.{ℕ, zero, suc, pred, ◌-◌, ◌<◌, ◌≤◌, cond, nat_le, nat_lt}
use Rattle.algebra.specs.Operations.{Operations}
use Rattle.algebra.specs.Polynomials

-- The big pair and the small pair, each a remainder and its multiplier.
pub record Pairs (K : Type 0) : Type 0 where
  pub big : Polynomials.Polynomial K
  pub big_multiplier : Polynomials.Polynomial K
  pub small : Polynomials.Polynomial K
  pub small_multiplier : Polynomials.Polynomial K

module _ {K : Type 0} (o : Operations K) where
  abbrev pub Poly : Type 0
  Poly = Polynomials.Polynomial K

  -- before the first iteration: z^n with 0, and the first n terms of r with 1
  abbrev pub begun : ℕ → Poly → Pairs K
  begun n r = record {
    big = Polynomials.power o n;
    big_multiplier = Polynomials.nothing o;
    small = λ t. cond (nat_lt t n) (r t) o.zero;
    small_multiplier = Polynomials.power o 0;
  }

  -- the pair that came of an iteration takes the place of the big one, unless its degree is below the small one's:
  -- then the small pair becomes the big one and the new pair the small one
  abbrev pub placed : ℕ → Pairs K → Poly → Poly → Pairs K
  placed n s p u =
      cond (nat_le (Polynomials.terms o (suc n) s.small) (Polynomials.terms o (suc n) p))
      (record { big = p; big_multiplier = u; small = s.small; small_multiplier = s.small_multiplier })
      (record { big = s.small; big_multiplier = s.small_multiplier; small = p; small_multiplier = u })

  -- the difference of the degrees of the two remainders
  abbrev pub gap : ℕ → Pairs K → ℕ
  gap n s = Polynomials.terms o (suc n) s.big - Polynomials.terms o (suc n) s.small

  -- the quotient of their leading coefficients
  abbrev pub quotient : ℕ → Pairs K → K
  quotient n s =
      o.prod (s.big (pred (Polynomials.terms o (suc n) s.big)))
      (o.inv (s.small (pred (Polynomials.terms o (suc n) s.small))))

  -- one iteration, on remainders of degree at most n: c z^d times the small pair is taken from the big pair,
  -- d the difference of degrees and c the quotient of leading coefficients
  unfoldable pub iteration : ℕ → Pairs K → Pairs K
  iteration n s =
      placed n s (Polynomials.less o s.big (quotient n s) (gap n s) s.small)
      (Polynomials.less o s.big_multiplier (quotient n s) (gap n s) s.small_multiplier)

  -- the pairs after k iterations from z^n and r
  unfoldable pub after : ℕ → Poly → ℕ → Pairs K
  unfolding iteration
  after n r zero = begun n r
  after n r (suc k) = iteration n (after n r k)

  -- the degree of the small remainder, plus one
  unfoldable pub left : ℕ → Poly → ℕ → ℕ
  unfolding after
  left n r k = Polynomials.terms o (suc n) (after n r k).small

  -- k is the number of iterations from z^n and r: they go on while the degree of the small remainder exceeds `stop`
  pub record Iterations (n : ℕ) (r : Poly) (stop k : ℕ) : Type 0 where
    pub ended : left n r k ≤ suc stop
    pub before : (i : ℕ) → i < k → suc stop < left n r i
