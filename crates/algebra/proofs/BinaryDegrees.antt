-- Degrees of sums and products.
use Rattle.std.proofs.Common.{◌≡◌, ℕ, zero, suc, ◌+◌, ◌*◌, ◌/◌, ◌%◌, ◌^◌, ◌<◌, ◌≤◌, sym, ap, ◌∙◌, subst, ap₂, inl, inr, zero-le, le_trans, le_of_eq, le_refl, lt_of_lt_of_le, add-zero, lt_irrefl, add-suc, mul_assoc, mul_comm, div-lt_iff_lt-mul, eq-zero-or-pos, one-mul, pow-suc, le-div_iff_mul-le, mul-one, arith, pow_pos, pow_mono}
use native.Mathlib.Nat.{div-eq_of_lt}
use native.Mathlib.Decide.{dec_lt}
use lib.Bits.{bit_xor, xor_comm, xor_assoc, xor_lt, xor_shr}
use lib.Pow.{pow-lt}
use Rattle.algebra.specs.Binary.{pick, times, Degree, Divides}
use Rattle.algebra.proofs.BinaryProducts.{xor_zero_eq, xor_cancel, times_zero_l, times-step, times_one_r, times_dbl_r, times_xor_l}

-- r is what a leaves by b: of lower degree than b, and b divides the difference
abbrev pub LeavesBy : ℕ → ℕ → ℕ → Type 0
LeavesBy a b r = ((d : ℕ) → Degree b d → r < 2 ^ d) × Divides b (bit_xor a r)

pow_dbl : (d : ℕ) → 2 ^ suc d ≡ 2 ^ d * 2
pow_dbl d = pow-suc 2 d

-- the highest digit is 1
top : (a d : ℕ) → Degree a d → a / 2 ^ d ≡ 1
top a d h =
    let low : 1 ≤ a / 2 ^ d = (le-div_iff_mul-le (pow_pos d)).1 (le_trans (le_of_eq (one-mul (2 ^ d))) h.0) in
    let high : a / 2 ^ d < 2 = (div-lt_iff_lt-mul (pow_pos d)).1 (lt_of_lt_of_le h.1 (le_of_eq (pow_dbl d ∙ mul_comm (2 ^ d) 2))) in
    omega arith

of_top : (a d : ℕ) → a / 2 ^ d ≡ 1 → Degree a d
of_top a d e =
    let low : 1 ≤ a / 2 ^ d = omega arith in
    let high : a / 2 ^ d < 2 = omega arith in (
      le_trans (le_of_eq (sym (one-mul (2 ^ d)))) ((le-div_iff_mul-le (pow_pos d)).0 low),
      lt_of_lt_of_le ((div-lt_iff_lt-mul (pow_pos d)).0 high) (le_of_eq (mul_comm 2 (2 ^ d) ∙ sym (pow_dbl d))),
    )

pub xor_keeps : (a b d : ℕ) → Degree a d → b < 2 ^ d → Degree (bit_xor a b) d
xor_keeps a b d h l = of_top (bit_xor a b) d (xor_shr a b d ∙ ap₂ bit_xor (top a d h) (div-eq_of_lt l))

pub xor_falls : (a b d : ℕ) → Degree a d → Degree b d → bit_xor a b < 2 ^ d
xor_falls a b d h l =
    let z : bit_xor a b / 2 ^ d ≡ 0 = xor_shr a b d ∙ ap₂ bit_xor (top a d h) (top b d l) in
    let s : bit_xor a b / 2 ^ d < 1 = omega arith in
    lt_of_lt_of_le ((div-lt_iff_lt-mul (pow_pos d)).0 s) (le_of_eq (one-mul (2 ^ d)))

dbl_degree : (a d : ℕ) → Degree a d → Degree (a * 2) (suc d)
dbl_degree a d h = omega (arith, pow_dbl d, pow_dbl (suc d))

half_degree : (a d : ℕ) → Degree a (suc d) → Degree (a / 2) d
half_degree a d h = omega (arith, pow_dbl d, pow_dbl (suc d))

pick_le : (d a : ℕ) → pick d a ≤ a
pick_le zero a = zero-le
pick_le (suc d) a = le_refl a

pub times-degree : (a i b j : ℕ) → Degree a i → Degree b j → Degree (times a b) (i + j)
times-degree a i b zero ha hb =
    let one : b ≡ 1 = omega arith in
    subst (λ (x : ℕ). Degree (times a x) (i + 0)) (sym one) (subst (λ (x : ℕ). Degree x (i + 0)) (sym (times_one_r a)) (subst (Degree a) (sym (add-zero i)) ha))
times-degree a i b (suc j) ha hb =
    let t = times a (b / 2) in
    let p = pick (b % 2) a in
    let ih : Degree (t * 2) (suc (i + j)) = dbl_degree t (i + j) (times-degree a i (b / 2) j ha (half_degree b j hb)) in
    let small : p < 2 ^ suc (i + j) = omega (arith, pick_le (b % 2) a, pow_mono {i = suc i} {j = suc (i + j)} (omega arith)) in
    let sum : Degree (bit_xor p (t * 2)) (suc (i + j)) = subst (λ (x : ℕ). Degree x (suc (i + j))) (xor_comm (t * 2) p) (xor_keeps (t * 2) p (suc (i + j)) ih small) in
    subst (Degree (times a b)) (sym (add-suc i j)) (subst (λ (x : ℕ). Degree x (suc (i + j))) (sym (times-step a b)) sum)

-- a product by a power of z is a shift
pub times_pow_r : (a k : ℕ) → times a (2 ^ k) ≡ a * 2 ^ k
times_pow_r a zero = times_one_r a ∙ sym (mul-one a)
times_pow_r a (suc k) =
    ap (times a) (pow_dbl k) ∙ times_dbl_r a (2 ^ k) ∙ ap (λ (x : ℕ). x * 2) (times_pow_r a k) ∙ mul_assoc a (2 ^ k) 2
    ∙ ap (λ (x : ℕ). a * x) (sym (pow_dbl k))

pub pow-degree : (k : ℕ) → Degree (2 ^ k) k
pow-degree k = (le_refl (2 ^ k), pow-lt {j = suc k} (le_refl (suc k)))

pub shl_degree : (a d k : ℕ) → Degree a d → Degree (a * 2 ^ k) (d + k)
shl_degree a d k h = subst (λ (x : ℕ). Degree x (d + k)) (times_pow_r a k) (times-degree a d (2 ^ k) k h (pow-degree k))

pub degree_le : (a i j : ℕ) → Degree a i → a < 2 ^ suc j → i ≤ j
degree_le a i j h l = elim (dec_lt j i) [ yes g ↦ absurd (lt_irrefl a (lt_of_lt_of_le l (le_trans (pow_mono g) h.0))) | no g ↦ omega arith ]

pub degree-one : (a i j : ℕ) → Degree a i → Degree a j → i ≡ j
degree-one a i j h k = omega (arith, degree_le a i j h k.1, degree_le a j i k h.1)

-- every number but 0 has a degree
pub has_degree : (a : ℕ) → 0 < a → (d : ℕ) × Degree a d
has_degree a p = go a (a_lt a)
  where
    a_lt : (n : ℕ) → n < 2 ^ n
    a_lt zero = le_refl 1
    a_lt (suc n) = omega (arith, a_lt n, pow_dbl n)

    go : (n : ℕ) → a < 2 ^ n → (d : ℕ) × Degree a d
    go zero l = absurd (lt_irrefl 0 (omega arith))
    go (suc n) l = elim (dec_lt a (2 ^ n)) [ yes g ↦ go n g | no g ↦ (n, (omega arith, l)) ]

-- ---- no zero divisors, and one remainder

-- a multiple of b below b's degree is 0
pub small_multiple : (q b d : ℕ) → Degree b d → times q b < 2 ^ d → q ≡ 0
small_multiple q b d h l = elim (eq-zero-or-pos q) [ inl e ↦ e | inr p ↦ go p ]
  where
    go : 0 < q → q ≡ 0
    go p =
        let s = has_degree q p in
        absurd (lt_irrefl (times q b) (lt_of_lt_of_le l (le_trans (pow_mono (le_add_left d s.0)) (times-degree q s.0 b d s.1 h).0)))
      where
        le_add_left : (n m : ℕ) → n ≤ m + n
        le_add_left n m = omega arith

pub one-remainder : (a b d r s : ℕ) → Degree b d → LeavesBy a b r → LeavesBy a b s → r ≡ s
one-remainder a b d r s h (lr, (q, e)) (ls, (t, f)) = xor_zero_eq r s zeroed
  where
    same : times (bit_xor q t) b ≡ bit_xor r s
    same = times_xor_l q t b ∙ ap₂ bit_xor e f ∙ fold
      where
        fold : bit_xor (bit_xor a r) (bit_xor a s) ≡ bit_xor r s
        fold = ap (λ (x : ℕ). bit_xor x (bit_xor a s)) (xor_comm a r) ∙ xor_assoc r a (bit_xor a s) ∙ ap (bit_xor r) (xor_cancel a s)

    zeroed : bit_xor r s ≡ 0
    zeroed =
        sym same
        ∙ ap (λ (x : ℕ). times x b) (small_multiple (bit_xor q t) b d h (subst (λ (x : ℕ). x < 2 ^ d) (sym same) (xor_lt d r s (lr d h) (ls d h))))
        ∙ times_zero_l b
