-- What inverting in a binary field gives.
use Rattle.std.specs.Prelude.{◌≡◌, ℕ, ◌-◌, ◌*◌, ◌^◌, ◌<◌, ◌≤◌}
use Rattle.algebra.specs.Binary.{product}
use Rattle.algebra.specs.Codes.{modulo}
use Rattle.algebra.specs.Coordinates.{backwards, Solves}
use Rattle.algebra.specs.Iteration.{Iterations}

-- b is the inverse of a in the field of F, of degree m, and comes of k iterations.
pub record Inverts (F m a b k : ℕ) : Type 0 where
  pub code : b < 2 ^ m
  -- the bits of b solve the Hankel system of a
  pub solves : Solves F m a b
  pub product_one : product F a b ≡ 1
  -- k is the number of iterations, on bits, from z^(2m-1) and the coordinates of a backwards down to degree m - 1
  pub count : Iterations (modulo 2) (2 * m - 1) (backwards F m a) (m - 1) k
  pub bound : k ≤ 2 * m - 2
