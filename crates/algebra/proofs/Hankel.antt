-- The coordinates of a are the coefficients of z^(m-1) in a z^j modulo F, and the rows of the Hankel system those in a b z^i.
use Rattle.std.proofs.Common.{◌≡◌, ℕ, zero, suc, ◌+◌, ◌-◌, ◌*◌, ◌%◌, ◌^◌, ◌<◌, ◌≤◌, ◌⊎◌, sym, ap, ◌∙◌, subst, ap₂, inl, inr, mod-lt, mod-eq_of_lt, mul_assoc, mul_comm, add_comm, suc-add, one-mul, pow-suc, zero-add, zero-mul, mul-one, arith, pow_pos, pow-add}
use native.Mathlib.Nat.{mod-one, zero-div}
use native.Mathlib.Decide.{dec_lt}
use lib.Bits.{bit_xor, xor_zero_r, xor_shifted}
use Rattle.algebra.specs.Binary.{bit, times, Degree, remainder, product}
use Rattle.algebra.specs.Coordinates.{total, hankel, row}
use Rattle.algebra.proofs.BinaryProducts.{times_zero_r, times_xor_r, xor_shl}
use Rattle.algebra.proofs.BinaryDegrees.{LeavesBy, times_pow_r, xor_falls, shl_degree}
use Rattle.algebra.proofs.BinaryRemainders.{leaves_step, leaves_self, remainder_is, remainder_lt, remainder_xor, remainder-times}
use Rattle.algebra.proofs.BinaryBits.{bit_lt, bit-xor, bit_dbl, mod_suc, top_bit, degree-bit}
use Rattle.algebra.proofs.HankelCoordinates.{total_ext, hankel_low, hankel_high}

shl_shl : (a i j : ℕ) → a * 2 ^ i * 2 ^ j ≡ a * 2 ^ (i + j)
shl_shl a i j = mul_assoc a (2 ^ i) (2 ^ j) ∙ ap (λ (x : ℕ). a * x) (sym (pow-add 2 i j))

-- where f respects sums, f of a product is a sum over the digits of one factor
module _ (f : ℕ → ℕ) (linear : (x y : ℕ) → f (bit_xor x y) ≡ (f x + f y) % 2) where
  at_zero : f 0 ≡ 0
  at_zero = omega (arith, linear 0 0)

  at_digit : (a d n : ℕ) → d < 2 → f (times a (d * 2 ^ n)) ≡ f (a * 2 ^ n) * d
  at_digit a zero n h = rw (zero-mul, times_zero_r, at_zero) (omega arith)
  at_digit a (suc zero) n h = ap f (ap (times a) (one-mul (2 ^ n)) ∙ times_pow_r a n) ∙ sym (mul-one (f (a * 2 ^ n)))
  at_digit a (suc (suc d)) n h = absurd (omega arith)

  expand : (a c n : ℕ) → f (times a (c % 2 ^ n)) ≡ total n (λ j. f (a * 2 ^ j) * bit c j) % 2
  expand a c zero = ap (λ (x : ℕ). f (times a x)) (mod-one c) ∙ ap f (times_zero_r a) ∙ at_zero
  expand a c (suc n) =
      let d = bit c n in
      let r = c % 2 ^ n in
      let e : f (times a (c % 2 ^ suc n)) ≡ (f (times a (d * 2 ^ n)) + f (times a r)) % 2 =
      ap (λ (x : ℕ). f (times a x)) (mod_suc c n ∙ sym (xor_shifted d n r (mod-lt c (pow_pos n))))
      ∙ ap f (times_xor_r a (d * 2 ^ n) r) ∙ linear (times a (d * 2 ^ n)) (times a r) in
      omega (arith, at_digit a d n (bit_lt c n), expand a c n)

-- the coefficient of z^(m-1) in what x leaves by F
abbrev pub lead : ℕ → ℕ → ℕ → ℕ
lead F m x = bit (remainder x F) (m - 1)

module _ (F m : ℕ) (hF : Degree F m) (pos : 0 < m) where
  pub lead_xor : (x y : ℕ) → lead F m (bit_xor x y) ≡ (lead F m x + lead F m y) % 2
  lead_xor x y = ap (λ (r : ℕ). bit r (m - 1)) (remainder_xor F m hF x y) ∙ bit-xor (remainder x F) (remainder y F) (m - 1)

  pub small : (x : ℕ) → x < 2 ^ m → remainder x F ≡ x
  small x h = sym (remainder_is F m hF x x (leaves_self x F m hF h))

  cancelled : (x : ℕ) → bit_xor x F < 2 ^ m → remainder x F ≡ bit_xor x F
  cancelled x h =
      sym (remainder_is F m hF x (bit_xor x F) (leaves_step x F 0 (bit_xor x F)
      (subst (λ (y : ℕ). LeavesBy (bit_xor x y) F (bit_xor x F)) (sym (mul-one F)) (leaves_self (bit_xor x F) F m hF h))))

  multiple : (q : ℕ) → remainder (times q F) F ≡ 0
  multiple q = sym (remainder_is F m hF (times q F) 0 ((λ d k. pow_pos d), (q, sym (xor_zero_r (times q F)))))

  reduced : (x i : ℕ) → remainder (remainder x F * 2 ^ i) F ≡ remainder (x * 2 ^ i) F
  reduced x i =
      ap (λ (y : ℕ). remainder y F) (sym (times_pow_r (remainder x F) i)) ∙ remainder-times F m hF x (2 ^ i)
      ∙ ap (λ (y : ℕ). remainder y F) (times_pow_r x i)

  -- the bits move up, and F comes in where the highest was set
  doubled : (y p : ℕ) → y < 2 ^ m → bit (remainder (y * 2) F) (suc p) ≡ (bit y p + bit F (suc p) * bit y (m - 1)) % 2
  doubled y p h = go (top_bit y (m - 1) (omega (arith, whole)))
    where
      whole : 2 ^ suc (m - 1) ≡ 2 ^ m
      whole = ap (λ (x : ℕ). 2 ^ x) (omega arith)

      go : ((bit y (m - 1) ≡ 0) × (y < 2 ^ (m - 1))) ⊎ ((bit y (m - 1) ≡ 1) × Degree y (m - 1)) → bit (remainder (y * 2) F) (suc p) ≡ (bit y p + bit F (suc p) * bit y (m - 1)) % 2
      go (inl (e, l)) = rw (small (y * 2) (omega (arith, whole, pow-suc 2 (m - 1))), bit_dbl, e) (omega arith)
      go (inr (e, l)) =
          let d : Degree (y * 2) m = subst (Degree (y * 2)) (omega arith) (shl_degree y (m - 1) 1 l) in
          rw (cancelled (y * 2) (xor_falls (y * 2) F m d hF), bit-xor, bit_dbl, e) (omega arith)

  module _ (a : ℕ) (ha : a < 2 ^ m) where
    -- the doubling, j times
    unrolled : (j q : ℕ) → j + q < m → bit (remainder (a * 2 ^ j) F) (j + q) ≡ (bit a q + total j (λ i. bit F (suc (i + q)) * lead F m (a * 2 ^ i))) % 2
    unrolled zero q h = rw (mul-one, small a ha, zero-add) (omega arith)
    unrolled (suc j) q h =
        let x = remainder (a * 2 ^ j) F in
        let next : remainder (a * 2 ^ suc j) F ≡ remainder (x * 2) F =
        ap (λ (y : ℕ). remainder y F) (ap (λ (y : ℕ). a * y) (pow-suc 2 j) ∙ sym (mul_assoc a (2 ^ j) 2)) ∙ sym (reduced (a * 2 ^ j) 1) in
        let step = doubled x (j + q) (remainder_lt F m hF (a * 2 ^ j)) in
        rw (next, suc-add) (omega (arith, step, unrolled j q (omega arith)))

    -- the leads have the coordinates' equations: below m by doubling, from m on since F leaves nothing
    triangular : (j : ℕ) → j < m → lead F m (a * 2 ^ j) ≡ (bit a (m - 1 - j) + total j (λ i. bit F (m - j + i) * lead F m (a * 2 ^ i))) % 2
    triangular j h =
        let q = m - 1 - j in
        let e : m - 1 ≡ j + q = omega arith in
        ap (bit (remainder (a * 2 ^ j) F)) e ∙ unrolled j q (omega arith)
        ∙ ap (λ (s : ℕ). (bit a q + s) % 2)
        (total_ext j (λ i. bit F (suc (i + q)) * lead F m (a * 2 ^ i)) (λ i. bit F (m - j + i) * lead F m (a * 2 ^ i))
        (λ i l. ap (λ (x : ℕ). bit F x * lead F m (a * 2 ^ i)) (omega arith)))

    recurrence : (j : ℕ) → m ≤ j → lead F m (a * 2 ^ j) ≡ total m (λ i. bit F i * lead F m (a * 2 ^ (j - m + i))) % 2
    recurrence j h =
        let b = a * 2 ^ (j - m) in
        let x : ℕ → ℕ = λ i. lead F m (b * 2 ^ i) * bit F i in
        let none : lead F m (times b (F % 2 ^ suc m)) ≡ 0 =
        ap (λ (y : ℕ). lead F m (times b y)) (mod-eq_of_lt hF.1) ∙ ap (λ (r : ℕ). bit r (m - 1)) (multiple b) ∙ ap (λ (y : ℕ). y % 2) (zero-div (2 ^ (m - 1))) in
        let top : x m ≡ lead F m (a * 2 ^ j) =
        ap₂ (λ (y d : ℕ). lead F m y * d) (shl_shl a (j - m) m ∙ ap (λ (k : ℕ). a * 2 ^ k) (omega arith)) (degree-bit F m hF) ∙ mul-one (lead F m (a * 2 ^ j)) in
        let all : total m x ≡ total m (λ i. bit F i * lead F m (a * 2 ^ (j - m + i))) =
        total_ext m x (λ i. bit F i * lead F m (a * 2 ^ (j - m + i)))
        (λ i l. mul_comm (lead F m (b * 2 ^ i)) (bit F i) ∙ ap (λ (y : ℕ). bit F i * lead F m y) (shl_shl a (j - m) i)) in
        omega (arith, expand (lead F m) lead_xor b F (suc m))

    -- so each coordinate is a lead, and each row the lead of a shifted product
    hankel_below : (n j : ℕ) → j < n → hankel F m a j ≡ lead F m (a * 2 ^ j)
    hankel_below zero j l = absurd (omega arith)
    hankel_below (suc n) j l = elim (dec_lt j m) [ yes h ↦ low h (hankel_below n) | no h ↦ high (omega arith) (hankel_below n) ]
      where
        low : j < m → ((i : ℕ) → i < n → hankel F m a i ≡ lead F m (a * 2 ^ i)) → hankel F m a j ≡ lead F m (a * 2 ^ j)
        low h before =
            hankel_low F m a j h
            ∙ ap (λ (s : ℕ). (bit a (m - 1 - j) + s) % 2)
            (total_ext j (λ i. bit F (m - j + i) * hankel F m a i) (λ i. bit F (m - j + i) * lead F m (a * 2 ^ i))
            (λ i k. ap (λ (x : ℕ). bit F (m - j + i) * x) (before i (omega arith))))
            ∙ sym (triangular j h)

        high : m ≤ j → ((i : ℕ) → i < n → hankel F m a i ≡ lead F m (a * 2 ^ i)) → hankel F m a j ≡ lead F m (a * 2 ^ j)
        high h before =
            hankel_high F m a j h
            ∙ ap (λ (s : ℕ). s % 2)
            (total_ext m (λ i. bit F i * hankel F m a (j - m + i)) (λ i. bit F i * lead F m (a * 2 ^ (j - m + i)))
            (λ i k. ap (λ (x : ℕ). bit F i * x) (before (j - m + i) (omega arith))))
            ∙ sym (recurrence j h)

    hankel_lead : (j : ℕ) → hankel F m a j ≡ lead F m (a * 2 ^ j)
    hankel_lead j = hankel_below (suc j) j (omega arith)

    pub row_lead : (b i : ℕ) → b < 2 ^ m → row F m a b i ≡ lead F m (product F a b * 2 ^ i)
    unfolding product
    row_lead b i hb =
        ap (λ (s : ℕ). s % 2)
        (total_ext m (λ j. hankel F m a (i + j) * bit b j) (λ j. lead F m (a * 2 ^ j * 2 ^ i) * bit b j)
        (λ j l. ap (λ (x : ℕ). x * bit b j) (hankel_lead (i + j) ∙ ap (lead F m) (ap (λ (k : ℕ). a * 2 ^ k) (add_comm i j) ∙ sym (shl_shl a j i)))))
        ∙ sym (expand (λ x. lead F m (x * 2 ^ i)) (λ x y. ap (lead F m) (sym (xor_shl x y i)) ∙ lead_xor (x * 2 ^ i) (y * 2 ^ i)) a b m)
        ∙ ap (λ (y : ℕ). lead F m (times a y * 2 ^ i)) (mod-eq_of_lt hb)
        ∙ ap (λ (r : ℕ). bit r (m - 1)) (sym (reduced (times a b) i))
