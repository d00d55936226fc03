-- Polynomials with coefficients modulo 2, as numbers: bit i is the coefficient of z^i.
use Rattle.std.specs.Prelude.{◌≡◌, ℕ, zero, suc, ◌+◌, ◌-◌, ◌*◌, ◌/◌, ◌%◌, ◌^◌, ◌<◌, ◌≤◌, cond, bit_xor, nat_lt}

-- the coefficient of z^i
abbrev pub bit : ℕ → ℕ → ℕ
bit a i = (a / 2 ^ i) % 2

-- the number with the bits u_j at places j below n
abbrev pub value : ℕ → (ℕ → ℕ) → ℕ
value zero u = 0
value (suc n) u = value n u + u n * 2 ^ n

-- d is the degree of a: the place of its highest set bit
abbrev pub Degree : ℕ → ℕ → Type 0
Degree a d = (2 ^ d ≤ a) × (a < 2 ^ suc d)

-- a, or 0 for the digit 0
abbrev pub pick : ℕ → ℕ → ℕ
pick zero a = zero
pick (suc d) a = a

-- the product of a by the n low digits of b: the sum, over the set digits j of b, of a shifted by j
unfoldable pub times_in : ℕ → ℕ → ℕ → ℕ
times_in zero a b = zero
times_in (suc n) a b = bit_xor (pick (b % 2) a) (times_in n a (b / 2) * 2)

-- the product; b has no more than b digits
unfoldable pub times : ℕ → ℕ → ℕ
unfolding times_in
times a b = times_in b a b

-- b divides a
abbrev pub Divides : ℕ → ℕ → Type 0
Divides b a = (q : ℕ) × (times q b ≡ a)

-- x is a factor of f of a degree from 1 to m - 1
pub record Factor (f m x : ℕ) : Type 0 where
  pub at : ℕ
  pub low : 0 < at
  pub high : at < m
  pub degree : Degree x at
  pub divides : Divides x f

-- f has no factor of a degree from 1 to m - 1
abbrev pub NoFactor : ℕ → ℕ → Type 0
NoFactor f m = (x : ℕ) → Factor f m x → ⊥

-- how many binary digits a has, by at most n of them: one more than the degree, and 0 for 0
unfoldable pub digits_up_to : ℕ → ℕ → ℕ
digits_up_to zero a = zero
digits_up_to (suc n) zero = zero
digits_up_to (suc n) (suc a) = suc (digits_up_to n (suc a / 2))

unfoldable pub digits : ℕ → ℕ
unfolding digits_up_to
digits a = digits_up_to a a

-- a itself below b's degree; otherwise the remainder of a after its top term is cancelled by a shifted b
unfoldable pub remainder_in : ℕ → ℕ → ℕ → ℕ
remainder_in zero a b = a
remainder_in (suc n) a b =
    cond (nat_lt (digits a) (digits b)) a (remainder_in n (bit_xor a (b * 2 ^ (digits a - digits b))) b)

-- the remainder of a by b; each cancelled term makes a smaller, so a of them are enough
unfoldable pub remainder : ℕ → ℕ → ℕ
unfolding remainder_in
remainder a b = remainder_in a a b

-- the product of two codes in the field of F
unfoldable pub product : ℕ → ℕ → ℕ → ℕ
product F a b = remainder (times a b) F
