-- The bits of a number: of a sum, of a shift, and the number that has given bits.
use Rattle.std.proofs.Common.{◌≡◌, ℕ, zero, suc, ◌+◌, ◌-◌, ◌*◌, ◌/◌, ◌%◌, ◌^◌, ◌<◌, ◌⊎◌, sym, refl, ap, ◌∙◌, subst, inl, inr, lt_irrefl, mod-lt, mod-eq_of_lt, zero-lt-suc, eq-zero-or-pos, add_comm, pow-suc, one-add, arith, pow_pos}
use native.Mathlib.Nat.{mul-div-mul_right, zero-div}
use native.Mathlib.Decide.{dec_lt}
use lib.Arith.{digits_lt}
use lib.Bits.{bit_xor, xor_shr, xor_mod}
use lib.Pow.{mod-pow-add, mod-mod-pow, field, high, low}
use Rattle.algebra.specs.Binary.{bit, Degree, value}

pub bit_lt : (a i : ℕ) → bit a i < 2
bit_lt a i = mod-lt (a / 2 ^ i) (zero-lt-suc 1)

-- the xor of two digits
xor_digits : (d e : ℕ) → d < 2 → e < 2 → bit_xor d e ≡ (d + e) % 2
xor_digits zero e hd he = omega arith
xor_digits (suc zero) zero hd he = refl
xor_digits (suc zero) (suc zero) hd he = refl
xor_digits (suc zero) (suc (suc e)) hd he = absurd (omega arith)
xor_digits (suc (suc d)) e hd he = absurd (omega arith)

pub bit-xor : (a b i : ℕ) → bit (bit_xor a b) i ≡ (bit a i + bit b i) % 2
bit-xor a b i =
    ap (λ (x : ℕ). x % 2) (xor_shr a b i) ∙ xor_mod (a / 2 ^ i) (b / 2 ^ i) 1
    ∙ xor_digits (bit a i) (bit b i) (bit_lt a i) (bit_lt b i)

pub bit_dbl : (a i : ℕ) → bit (a * 2) (suc i) ≡ bit a i
bit_dbl a i = ap (λ (x : ℕ). x % 2) (ap (λ (x : ℕ). a * 2 / x) (pow-suc 2 i) ∙ mul-div-mul_right a (2 ^ i) (zero-lt-suc 1))

-- the low n + 1 bits
pub mod_suc : (a n : ℕ) → a % 2 ^ suc n ≡ bit a n * 2 ^ n + a % 2 ^ n
mod_suc a n = ap (λ (k : ℕ). a % 2 ^ k) (sym (one-add n)) ∙ mod-pow-add a 1 n

-- the highest bit that a number can have tells how large it is
pub top_bit : (a n : ℕ) → a < 2 ^ suc n → ((bit a n ≡ 0) × (a < 2 ^ n)) ⊎ ((bit a n ≡ 1) × Degree a n)
top_bit a n h = go (bit a n) (bit_lt a n) (sym (mod-eq_of_lt h) ∙ mod_suc a n)
  where
    small : a % 2 ^ n < 2 ^ n
    small = mod-lt a (pow_pos n)

    go : (d : ℕ) → d < 2 → a ≡ d * 2 ^ n + a % 2 ^ n → ((d ≡ 0) × (a < 2 ^ n)) ⊎ ((d ≡ 1) × Degree a n)
    go zero l e = inl (refl, omega arith)
    go (suc zero) l e = inr (refl, (omega arith, h))
    go (suc (suc d)) l e = absurd (omega arith)

pub degree-bit : (a n : ℕ) → Degree a n → bit a n ≡ 1
degree-bit a n h = elim (top_bit a n h.1) [ inl l ↦ absurd (lt_irrefl a (omega arith)) | inr k ↦ k.0 ]

bit_mod : (a n j : ℕ) → j < n → bit (a % 2 ^ n) j ≡ bit a j
bit_mod a n j l =
    let k = n - 1 - j in
    let e : n ≡ k + 1 + j = omega arith in
    ap (λ (x : ℕ). bit (a % 2 ^ x) j) e ∙ ap (λ (x : ℕ). x % 2) (field a (k + 1) j) ∙ mod-mod-pow (a / 2 ^ j) k 1

module _ (u : ℕ → ℕ) where
  pub value_lt : (n : ℕ) → ((j : ℕ) → j < n → u j < 2) → value n u < 2 ^ n
  value_lt zero h = omega arith
  value_lt (suc n) h =
      let low : value n u < 2 ^ n = value_lt n (λ j l. h j (omega arith)) in
      omega (arith, pow-suc 2 n, digits_lt (h n (omega arith)) low)

  pub bit-value : (n : ℕ) → ((j : ℕ) → j < n → u j < 2) → (j : ℕ) → j < n → bit (value n u) j ≡ u j
  bit-value zero h j l = absurd (omega arith)
  bit-value (suc n) h j l = elim (dec_lt j n) [ yes k ↦ below k ∙ bit-value n (λ j l. h j (omega arith)) j k | no k ↦ here (omega arith) ]
    where
      small : value n u < 2 ^ n
      small = value_lt n (λ j l. h j (omega arith))

      turn : value (suc n) u ≡ u n * 2 ^ n + value n u
      turn = add_comm (value n u) (u n * 2 ^ n)

      below : j < n → bit (value (suc n) u) j ≡ bit (value n u) j
      below k = sym (bit_mod (value (suc n) u) n j k) ∙ ap (λ (x : ℕ). bit x j) (ap (λ (x : ℕ). x % 2 ^ n) turn ∙ low (u n) n small)

      here : n ≡ j → bit (value (suc n) u) j ≡ u j
      here e =
          subst (λ (x : ℕ). bit (value (suc n) u) x ≡ u x) e
          (ap (λ (x : ℕ). x % 2) (ap (λ (x : ℕ). x / 2 ^ n) turn ∙ high (u n) n small) ∙ mod-eq_of_lt (h n (omega arith)))

  pub value_pos : (n : ℕ) → ((j : ℕ) → j < n → u j < 2) → (j : ℕ) → j < n → u j ≡ 1 → 0 < value n u
  value_pos n h j l e = elim (eq-zero-or-pos (value n u)) [ inl z ↦ absurd (nothing z) | inr p ↦ p ]
    where
      nothing : value n u ≡ 0 → ⊥
      nothing z =
          let b : bit 0 j ≡ 1 = ap (λ (x : ℕ). bit x j) (sym z) ∙ bit-value n h j l ∙ e in
          omega (arith, zero-div (2 ^ j))
