-- Smudges, misread places and what is left of power sums when points are taken out of them, for any operations.
-- x_i is the point of place i, and a test tells which places are marked.
use Rattle.std.specs.Prelude.{ℕ, zero, suc, Bool, false, cond, ◌==◌}
use Rattle.algebra.specs.Operations.{Operations}
use Rattle.algebra.specs.Polynomials.{less}

-- l is marked and is not i
abbrev pub other : (ℕ → Bool) → ℕ → ℕ → Bool
other P i l = cond (l == i) false (P l)

module _ {K : Type 0} (o : Operations K) (x : ℕ → K) where
  -- T after the marked points below k: for each of them, T - x z T
  abbrev pub folded : (ℕ → Bool) → (ℕ → K) → ℕ → ℕ → K
  folded E T zero = T
  folded E T (suc k) = cond (E k) (less o (folded E T k) (x k) 1 (folded E T k)) (folded E T k)

  -- the sums Q after the marked points below k but i are removed: for each of them, place t has what follows it less x times what it had
  abbrev pub removed : (ℕ → Bool) → ℕ → (ℕ → K) → ℕ → ℕ → K
  removed P i Q zero t = Q t
  removed P i Q (suc k) t = cond (other P i k) (o.sum (removed P i Q k (suc t)) (o.neg (o.prod (x k) (removed P i Q k t)))) (removed P i Q k t)

  -- the product of x_j - x_l over the marked points l below k but i
  abbrev pub others : (ℕ → Bool) → ℕ → ℕ → ℕ → K
  others P i zero j = o.one
  others P i (suc k) j = cond (other P i k) (o.prod (others P i k j) (o.sum (x j) (o.neg (x k)))) (others P i k j)
