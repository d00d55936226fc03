-- The double-basis inverse: triangular coordinates and the Hankel system of an element.
-- F is the field's polynomial and m its degree; a is the element, bit i the coefficient of z^i.
use Rattle.std.specs.Prelude.{◌≡◌, ℕ, zero, suc, ◌+◌, ◌-◌, ◌*◌, ◌%◌, ◌<◌, cond, List, [], ◌∷◌, ◌++◌, ◌==◌, nat_lt, slice_index}
use Rattle.algebra.specs.Binary.{bit}

-- the sum of x_i over i below n
abbrev pub total : ℕ → (ℕ → ℕ) → ℕ
total zero x = 0
total (suc n) x = total n x + x n

-- the coordinate h_j from those before it: below m, the triangular coordinate
-- t_j = a_(m-1-j) + sum of f_(m-j+i) t_i over i below j; from m on, the sum of f_i h_(j-m+i) over i below m; modulo 2
abbrev pub next : ℕ → ℕ → ℕ → ℕ → List ℕ → ℕ
next F m a j h =
    cond (nat_lt j m) ((bit a (m - 1 - j) + total j (λ i. bit F (m - j + i) * slice_index h i)) % 2)
    (total m (λ i. bit F i * slice_index h (j - m + i)) % 2)

-- the first n coordinates
unfoldable pub coordinates : ℕ → ℕ → ℕ → ℕ → List ℕ
coordinates F m a zero = []
coordinates F m a (suc n) = coordinates F m a n ++ (next F m a n (coordinates F m a n) ∷ [])

-- the coordinate h_j; below m it is the triangular coordinate t_j
unfoldable pub hankel : ℕ → ℕ → ℕ → ℕ → ℕ
unfolding coordinates
hankel F m a j = slice_index (coordinates F m a (suc j)) j

-- the coordinates backwards: the sum of h_i z^(2m-2-i), by its coefficients
abbrev pub backwards : ℕ → ℕ → ℕ → ℕ → ℕ
backwards F m a t = hankel F m a (2 * m - 2 - t)

-- row i of the Hankel system, applied to the bits of b
abbrev pub row : ℕ → ℕ → ℕ → ℕ → ℕ → ℕ
row F m a b i = total m (λ j. hankel F m a (i + j) * bit b j) % 2

-- b solves the system: row i is 1 where i is m - 1, and 0 for each other i below m
abbrev pub Solves : ℕ → ℕ → ℕ → ℕ → Type 0
Solves F m a b = (i : ℕ) → i < m → row F m a b i ≡ cond (i == m - 1) 1 0
