-- The coordinates of an element, each from those before it.
use Rattle.std.proofs.Common.{◌≡◌, ℕ, zero, suc, ◌+◌, ◌-◌, ◌*◌, ◌%◌, ◌<◌, ◌≤◌, [], ◌∷◌, length, get_or, sym, refl, ap, ◌∙◌, ap₂, arith, length-append, le-ltb, lt-ltb}
use native.Mathlib.Decide.{dec_lt}
use lib.ListN.{get_or-append}
use lib.Seq.{get_or_at}
use Rattle.algebra.specs.Binary.{bit}
use Rattle.algebra.specs.Coordinates.{total, next, coordinates, hankel}

pub total_ext : (n : ℕ) (x y : ℕ → ℕ) → ((i : ℕ) → i < n → x i ≡ y i) → total n x ≡ total n y
total_ext zero x y h = refl
total_ext (suc n) x y h = ap₂ ◌+◌ (total_ext n x y (λ i l. h i (omega arith))) (h n (omega arith))

module _ (F m a : ℕ) where
  pub coordinates_length : (n : ℕ) → length (coordinates F m a n) ≡ n
  unfolding coordinates
  coordinates_length zero = refl
  coordinates_length (suc n) = rw length-append (omega (arith, coordinates_length n))

  pub coordinates_at : (n i : ℕ) → i < n → get_or (coordinates F m a n) i 0 ≡ hankel F m a i
  unfolding coordinates hankel
  coordinates_at zero i h = absurd (omega arith)
  coordinates_at (suc n) i h = elim (dec_lt i n) [ yes l ↦ before l ∙ coordinates_at n i l | no l ↦ here (omega arith) ]
    where
      before : i < n → get_or (coordinates F m a (suc n)) i 0 ≡ get_or (coordinates F m a n) i 0
      before l = get_or-append (coordinates F m a n) (next F m a n (coordinates F m a n) ∷ []) 0 i (omega (arith, coordinates_length n))

      here : i ≡ n → get_or (coordinates F m a (suc n)) i 0 ≡ get_or (coordinates F m a (suc i)) i 0
      here e = ap (λ (k : ℕ). get_or (coordinates F m a (suc k)) i 0) (sym e)

  hankel_next : (j : ℕ) → hankel F m a j ≡ next F m a j (coordinates F m a j)
  unfolding coordinates hankel
  hankel_next j = get_or_at (coordinates F m a j) (next F m a j (coordinates F m a j)) [] 0 j (coordinates_length j)

  pub hankel_low : (j : ℕ) → j < m → hankel F m a j ≡ (bit a (m - 1 - j) + total j (λ i. bit F (m - j + i) * hankel F m a i)) % 2
  hankel_low j h =
      rw (hankel_next j, lt-ltb j m h)
      (ap (λ (s : ℕ). (bit a (m - 1 - j) + s) % 2)
      (total_ext j (λ i. bit F (m - j + i) * get_or (coordinates F m a j) i 0) (λ i. bit F (m - j + i) * hankel F m a i)
      (λ i l. ap (λ (x : ℕ). bit F (m - j + i) * x) (coordinates_at j i l))))

  pub hankel_high : (j : ℕ) → m ≤ j → hankel F m a j ≡ total m (λ i. bit F i * hankel F m a (j - m + i)) % 2
  hankel_high j h =
      rw (hankel_next j, le-ltb j m h)
      (ap (λ (s : ℕ). s % 2)
      (total_ext m (λ i. bit F i * get_or (coordinates F m a j) (j - m + i) 0) (λ i. bit F i * hankel F m a (j - m + i))
      (λ i l. ap (λ (x : ℕ). bit F i * x) (coordinates_at j (j - m + i) (omega arith)))))

  pub hankel-bit : (j : ℕ) → hankel F m a j < 2
  hankel-bit j = elim (dec_lt j m) [ yes h ↦ omega (arith, hankel_low j h) | no h ↦ omega (arith, hankel_high j (omega arith)) ]
