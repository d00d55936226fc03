-- The laws of the product of binary polynomials.
use Rattle.std.proofs.Common.{◌≡◌, ℕ, zero, suc, ◌*◌, ◌/◌, ◌%◌, ◌^◌, ◌<◌, ◌≤◌, sym, refl, ap, ◌∙◌, ap₂, le_refl, le_of_suc-le-suc, not-suc-le-zero, add-zero, mod-lt, zero-lt-suc, div-add-mod', mul-div_cancel, pow_pos}
use native.Mathlib.Nat.{mul-mod_left}
use native.Mathlib.Decide.{le_ind}
use lib.Arith.{half_le, bin_ind}
use lib.Bits.{bit_xor, xor_comm, xor_assoc, xor_self, xor_zero_r, xor_shr, xor_mod, xor_block, xor_shifted}
use Rattle.algebra.specs.Binary.{pick, times_in, times}

two_pos : zero < 2
two_pos = zero-lt-suc 1

-- ---- xor

pub xor_left_comm : (a b c : ℕ) → bit_xor a (bit_xor b c) ≡ bit_xor b (bit_xor a c)
xor_left_comm a b c = sym (xor_assoc a b c) ∙ ap (λ (x : ℕ). bit_xor x c) (xor_comm a b) ∙ xor_assoc b a c

pub xor_swap : (a b c d : ℕ) → bit_xor (bit_xor a b) (bit_xor c d) ≡ bit_xor (bit_xor a c) (bit_xor b d)
xor_swap a b c d = xor_assoc a b (bit_xor c d) ∙ ap (bit_xor a) (xor_left_comm b c d) ∙ sym (xor_assoc a c (bit_xor b d))

pub xor_cancel : (a b : ℕ) → bit_xor a (bit_xor a b) ≡ b
xor_cancel a b = sym (xor_assoc a a b) ∙ ap (λ (x : ℕ). bit_xor x b) (xor_self a)

-- nothing but equals cancel
pub xor_zero_eq : (a b : ℕ) → bit_xor a b ≡ 0 → a ≡ b
xor_zero_eq a b e = sym (xor_zero_r a) ∙ ap (bit_xor a) (sym e) ∙ xor_cancel a b

pub xor_shl : (a b k : ℕ) → bit_xor (a * 2 ^ k) (b * 2 ^ k) ≡ bit_xor a b * 2 ^ k
xor_shl a b k =
    ap₂ bit_xor (sym (add-zero (a * 2 ^ k))) (sym (add-zero (b * 2 ^ k)))
    ∙ xor_block k a b zero zero (pow_pos k) (pow_pos k) ∙ add-zero (bit_xor a b * 2 ^ k)

xor_dbl : (a b : ℕ) → bit_xor (a * 2) (b * 2) ≡ bit_xor a b * 2
xor_dbl a b = xor_shl a b 1

xor_half : (a b : ℕ) → bit_xor a b / 2 ≡ bit_xor (a / 2) (b / 2)
xor_half a b = xor_shr a b 1

xor_odd : (a b : ℕ) → bit_xor a b % 2 ≡ bit_xor (a % 2) (b % 2)
xor_odd a b = xor_mod a b 1

-- ---- the product, digit by digit

pick-zero : (d : ℕ) → pick d zero ≡ zero
pick-zero zero = refl
pick-zero (suc d) = refl

times_more : (n a b : ℕ) → b ≤ n → times_in (suc n) a b ≡ times_in n a b
unfolding times_in
times_more zero a zero h = refl
times_more zero a (suc b) h = absurd (not-suc-le-zero h)
times_more (suc n) a b h = ap (λ (x : ℕ). bit_xor (pick (b % 2) a) (x * 2)) (times_more n a (b / 2) (half_le h))

times-enough : (n a b : ℕ) → b ≤ n → times_in n a b ≡ times a b
unfolding times
times-enough n a b h = le_ind (λ (m : ℕ). times_in m a b ≡ times_in b a b) refl (λ m k e. times_more m a b k ∙ e) n h

pub times_zero_r : (a : ℕ) → times a zero ≡ zero
unfolding times
times_zero_r a = refl

pub times-step : (a b : ℕ) → times a b ≡ bit_xor (pick (b % 2) a) (times a (b / 2) * 2)
unfolding times
times-step a zero = refl
times-step a (suc b) = ap (λ (x : ℕ). bit_xor (pick (suc b % 2) a) (x * 2)) (times-enough b a (suc b / 2) (half_le (le_refl (suc b))))

pub times_zero_l : (b : ℕ) → times zero b ≡ zero
times_zero_l = bin_ind (λ (b : ℕ). times zero b ≡ zero) (times_zero_r zero)
    (λ b ih. times-step zero b ∙ ap₂ (λ (x y : ℕ). bit_xor x (y * 2)) (pick-zero (b % 2)) ih)

pick_xor : (d a b : ℕ) → pick d (bit_xor a b) ≡ bit_xor (pick d a) (pick d b)
pick_xor zero a b = refl
pick_xor (suc d) a b = refl

pub times_xor_l : (a c b : ℕ) → times (bit_xor a c) b ≡ bit_xor (times a b) (times c b)
times_xor_l a c =
    bin_ind (λ (b : ℕ). times (bit_xor a c) b ≡ bit_xor (times a b) (times c b))
    (times_zero_r (bit_xor a c) ∙ sym (ap₂ bit_xor (times_zero_r a) (times_zero_r c)))
    (λ b ih. times-step (bit_xor a c) b
    ∙ ap₂ (λ (x y : ℕ). bit_xor x (y * 2)) (pick_xor (b % 2) a c) ih
    ∙ ap (bit_xor (bit_xor (pick (b % 2) a) (pick (b % 2) c))) (sym (xor_dbl (times a (b / 2)) (times c (b / 2))))
    ∙ xor_swap (pick (b % 2) a) (pick (b % 2) c) (times a (b / 2) * 2) (times c (b / 2) * 2)
    ∙ sym (ap₂ bit_xor (times-step a b) (times-step c b)))

not_digit : {A : Type 0} {x : ℕ} → suc (suc x) < 2 → A
not_digit h = absurd (not-suc-le-zero (le_of_suc-le-suc (le_of_suc-le-suc h)))

-- two digits pick as their xor does
pick_two : (d e a : ℕ) → d < 2 → e < 2 → pick (bit_xor d e) a ≡ bit_xor (pick d a) (pick e a)
pick_two zero e a hd he = refl
pick_two (suc zero) zero a hd he = sym (xor_zero_r a)
pick_two (suc zero) (suc zero) a hd he = sym (xor_self a)
pick_two (suc zero) (suc (suc e)) a hd he = not_digit he
pick_two (suc (suc d)) e a hd he = not_digit hd

pub times_xor_r : (a b c : ℕ) → times a (bit_xor b c) ≡ bit_xor (times a b) (times a c)
times_xor_r a =
    bin_ind (λ (b : ℕ). (c : ℕ) → times a (bit_xor b c) ≡ bit_xor (times a b) (times a c))
    (λ c. sym (ap (λ (x : ℕ). bit_xor x (times a c)) (times_zero_r a)))
    (λ b ih c. times-step a (bit_xor b c)
    ∙ ap₂ (λ (x y : ℕ). bit_xor (pick x a) (times a y * 2)) (xor_odd b c) (xor_half b c)
    ∙ ap₂ (λ (x y : ℕ). bit_xor x (y * 2)) (pick_two (b % 2) (c % 2) a (mod-lt b two_pos) (mod-lt c two_pos)) (ih (c / 2))
    ∙ ap (bit_xor (bit_xor (pick (b % 2) a) (pick (c % 2) a))) (sym (xor_dbl (times a (b / 2)) (times a (c / 2))))
    ∙ xor_swap (pick (b % 2) a) (pick (c % 2) a) (times a (b / 2) * 2) (times a (c / 2) * 2)
    ∙ sym (ap₂ bit_xor (times-step a b) (times-step a c)))

pub times_dbl_r : (a b : ℕ) → times a (b * 2) ≡ times a b * 2
times_dbl_r a b = times-step a (b * 2) ∙ ap₂ (λ (x y : ℕ). bit_xor (pick x a) (times a y * 2)) (mul-mod_left b 2) (mul-div_cancel b two_pos)

pick_dbl : (d a : ℕ) → pick d (a * 2) ≡ pick d a * 2
pick_dbl zero a = refl
pick_dbl (suc d) a = refl

pub times_dbl_l : (a b : ℕ) → times (a * 2) b ≡ times a b * 2
times_dbl_l a =
    bin_ind (λ (b : ℕ). times (a * 2) b ≡ times a b * 2) (times_zero_r (a * 2) ∙ ap (λ (x : ℕ). x * 2) (sym (times_zero_r a)))
    (λ b ih. times-step (a * 2) b ∙ ap₂ (λ (x y : ℕ). bit_xor x (y * 2)) (pick_dbl (b % 2) a) ih
    ∙ xor_dbl (pick (b % 2) a) (times a (b / 2) * 2) ∙ ap (λ (x : ℕ). x * 2) (sym (times-step a b)))

pub times_one_r : (a : ℕ) → times a 1 ≡ a
times_one_r a = times-step a 1 ∙ ap (λ (x : ℕ). bit_xor a (x * 2)) (times_zero_r a) ∙ xor_zero_r a

-- a number is its low digit, and twice the rest
by_digit : (a : ℕ) → bit_xor (a / 2 * 2) (a % 2) ≡ a
by_digit a = xor_shifted (a / 2) 1 (a % 2) (mod-lt a two_pos) ∙ div-add-mod' a 2

pub times_one_l : (b : ℕ) → times 1 b ≡ b
times_one_l =
    bin_ind (λ (b : ℕ). times 1 b ≡ b) (times_zero_r 1)
    (λ b ih. times-step 1 b ∙ ap₂ (λ (x y : ℕ). bit_xor x (y * 2)) (pick-one (b % 2) (mod-lt b two_pos)) ih
    ∙ xor_comm (b % 2) (b / 2 * 2) ∙ by_digit b)
  where
    pick-one : (d : ℕ) → d < 2 → pick d 1 ≡ d
    pick-one zero h = refl
    pick-one (suc zero) h = refl
    pick-one (suc (suc d)) h = not_digit h

digit-times : (d b : ℕ) → d < 2 → times d b ≡ pick d b
digit-times zero b h = times_zero_l b
digit-times (suc zero) b h = times_one_l b
digit-times (suc (suc d)) b h = not_digit h

pub times_comm : (a b : ℕ) → times a b ≡ times b a
times_comm =
    bin_ind (λ (a : ℕ). (b : ℕ) → times a b ≡ times b a) (λ b. times_zero_l b ∙ sym (times_zero_r b))
    (λ a ih b. ap (λ (x : ℕ). times x b) (sym (by_digit a)) ∙ times_xor_l (a / 2 * 2) (a % 2) b
    ∙ ap₂ bit_xor (times_dbl_l (a / 2) b ∙ ap (λ (x : ℕ). x * 2) (ih b)) (digit-times (a % 2) b (mod-lt a two_pos))
    ∙ xor_comm (times b (a / 2) * 2) (pick (a % 2) b) ∙ sym (times-step b a))

times-pick : (d a b : ℕ) → times a (pick d b) ≡ pick d (times a b)
times-pick zero a b = times_zero_r a
times-pick (suc d) a b = refl

pub times_assoc : (a b c : ℕ) → times (times a b) c ≡ times a (times b c)
times_assoc a b =
    bin_ind (λ (c : ℕ). times (times a b) c ≡ times a (times b c))
    (times_zero_r (times a b) ∙ sym (ap (times a) (times_zero_r b) ∙ times_zero_r a))
    (λ c ih. times-step (times a b) c
    ∙ ap₂ (λ (x y : ℕ). bit_xor x (y * 2)) (sym (times-pick (c % 2) a b)) ih
    ∙ ap (bit_xor (times a (pick (c % 2) b))) (sym (times_dbl_r a (times b (c / 2))))
    ∙ sym (times_xor_r a (pick (c % 2) b) (times b (c / 2) * 2)) ∙ ap (times a) (sym (times-step b c)))
