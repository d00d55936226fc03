-- Remainders of binary polynomials.
use Rattle.std.proofs.Common.{◌≡◌, ℕ, zero, suc, ◌+◌, ◌-◌, ◌*◌, ◌/◌, ◌%◌, ◌^◌, ◌<◌, ◌≤◌, Bool, true, false, cond, ltb, ◌⊎◌, sym, refl, ap, ◌∙◌, subst, ap₂, inl, inr, le_refl, lt_of_lt_of_le, not-suc-le-zero, lt_irrefl, eq-zero-or-pos, pow-suc, arith, pow_pos, pow_mono, shl_exact, ltb-false, ltb-true}
use lib.Arith.{half_le}
use lib.Bits.{bit_xor, xor_comm, xor_assoc, xor_self, xor_lt}
use Rattle.algebra.specs.Binary.{times, Degree, digits_up_to, digits, remainder_in, remainder}
use Rattle.algebra.proofs.BinaryProducts.{times_zero_l, times_comm, times_assoc, times_xor_l, xor_cancel, xor_swap}
use Rattle.algebra.proofs.BinaryDegrees.{LeavesBy, xor_falls, shl_degree, times_pow_r, degree-one, has_degree, one-remainder}

-- the shifted b keeps all its bits
pub shl_all : (b m n : ℕ) → Degree b n → n ≤ m → m < 64 → (b * 2 ^ (m - n)) % 2 ^ 64 ≡ b * 2 ^ (m - n)
shl_all b m n h l k = shl_exact (suc n) (m - n) 64 h.1 (omega arith)

pub cancelled : (a b m n : ℕ) → Degree a m → Degree b n → n ≤ m → bit_xor a (b * 2 ^ (m - n)) < a
cancelled a b m n ha hb l =
    let e : n + (m - n) ≡ m = omega arith in
    lt_of_lt_of_le (xor_falls a (b * 2 ^ (m - n)) m ha (subst (Degree (b * 2 ^ (m - n))) e (shl_degree b n (m - n) hb))) ha.0

pub leaves_step : (a b k r : ℕ) → LeavesBy (bit_xor a (b * 2 ^ k)) b r → LeavesBy a b r
leaves_step a b k r h = (h.0, (bit_xor (2 ^ k) h.1.0, q))
  where
    q : times (bit_xor (2 ^ k) h.1.0) b ≡ bit_xor a r
    q =
        times_xor_l (2 ^ k) h.1.0 b ∙ ap₂ bit_xor (times_comm (2 ^ k) b ∙ times_pow_r b k) h.1.1
        ∙ ap (λ (x : ℕ). bit_xor (b * 2 ^ k) (bit_xor x r)) (xor_comm a (b * 2 ^ k))
        ∙ ap (bit_xor (b * 2 ^ k)) (xor_assoc (b * 2 ^ k) a r) ∙ xor_cancel (b * 2 ^ k) (bit_xor a r)

pub leaves_self : (a b n : ℕ) → Degree b n → a < 2 ^ n → LeavesBy a b a
leaves_self a b n h l = ((λ d k. subst (λ (x : ℕ). a < 2 ^ x) (degree-one b n d h k) l), (0, times_zero_l b ∙ sym (xor_self a)))

digits_in : (n a d : ℕ) → a ≤ n → Degree a d → digits_up_to n a ≡ suc d
unfolding digits_up_to
digits_in n zero d h k = absurd (lt_irrefl 0 (omega (arith, pow_pos d)))
digits_in zero (suc a) d h k = absurd (not-suc-le-zero h)
digits_in (suc n) (suc a) zero h k = ap suc (ap (digits_up_to n) z ∙ none n)
  where
    z : suc a / 2 ≡ 0
    z = omega arith

    none : (n : ℕ) → digits_up_to n 0 ≡ 0
    none zero = refl
    none (suc n) = refl
digits_in (suc n) (suc a) (suc d) h k = ap suc (digits_in n (suc a / 2) d (half_le h) (omega (arith, pow-suc 2 d, pow-suc 2 (suc d))))

pub digits_of : (a d : ℕ) → Degree a d → digits a ≡ suc d
unfolding digits
digits_of a d h = digits_in a a d (le_refl a) h

digits-zero : digits 0 ≡ 0
unfolding digits
digits-zero = refl

remainder_leaves_in : (n a b d : ℕ) → a ≤ n → Degree b d → LeavesBy a b (remainder_in n a b)
unfolding remainder_in
remainder_leaves_in zero a b d h hb = leaves_self a b d hb (omega (arith, pow_pos d))
remainder_leaves_in (suc n) a b d h hb = go (λ x g. remainder_leaves_in n x b d g hb) (eq-zero-or-pos a) (ltb (digits a) (digits b)) refl
  where
    Goal : Bool → Type 0
    Goal t = LeavesBy a b (cond t a (remainder_in n (bit_xor a (b * 2 ^ (digits a - digits b))) b))

    db : digits b ≡ suc d
    db = digits_of b d hb

    go : ((x : ℕ) → x ≤ n → LeavesBy x b (remainder_in n x b)) → (a ≡ 0) ⊎ (0 < a) → (t : Bool) → ltb (digits a) (digits b) ≡ t → Goal t
    go rest (inl z) true e = leaves_self a b d hb (omega (arith, pow_pos d))
    go rest (inl z) false e = absurd (lt_irrefl 0 (omega (arith, ltb-false (digits a) (digits b) e, db, ap digits z ∙ digits-zero)))
    go rest (inr p) true e =
        let s = has_degree a p in
        let l : s.0 < d = omega (arith, ltb-true (digits a) (digits b) e, db, digits_of a s.0 s.1) in
        leaves_self a b d hb (lt_of_lt_of_le s.1.1 (pow_mono l))
    go rest (inr p) false e =
        let s = has_degree a p in
        let da : digits a ≡ suc s.0 = digits_of a s.0 s.1 in
        let l : d ≤ s.0 = omega (arith, db, ltb-false (digits a) (digits b) e) in
        let k = digits a - digits b in
        let same : s.0 - d ≡ k = omega (arith, db) in
        let less : bit_xor a (b * 2 ^ k) < a = subst (λ (x : ℕ). bit_xor a (b * 2 ^ x) < a) same (cancelled a b s.0 d s.1 hb l) in
        leaves_step a b k (remainder_in n (bit_xor a (b * 2 ^ k)) b) (rest (bit_xor a (b * 2 ^ k)) (omega arith))

pub remainder_leaves : (a b d : ℕ) → Degree b d → LeavesBy a b (remainder a b)
unfolding remainder
remainder_leaves a b d h = remainder_leaves_in a a b d (le_refl a) h

-- ---- there is one remainder, so what leaves r is known by it

module _ (F m : ℕ) (hF : Degree F m) where
  leaves_one : (a r s : ℕ) → LeavesBy a F r → LeavesBy a F s → r ≡ s
  leaves_one a r s h k = one-remainder a F m r s hF h k

  pub remainder_is : (a r : ℕ) → LeavesBy a F r → r ≡ remainder a F
  remainder_is a r h = leaves_one a r (remainder a F) h (remainder_leaves a F m hF)

  pub remainder_lt : (a : ℕ) → remainder a F < 2 ^ m
  remainder_lt a = (remainder_leaves a F m hF).0 m hF

  leaves_xor : (a b r s : ℕ) → LeavesBy a F r → LeavesBy b F s → LeavesBy (bit_xor a b) F (bit_xor r s)
  leaves_xor a b r s h k =
      ((λ d g. xor_lt d r s (h.0 d g) (k.0 d g)), (bit_xor h.1.0 k.1.0, times_xor_l h.1.0 k.1.0 F ∙ ap₂ bit_xor h.1.1 k.1.1 ∙ xor_swap a r b s))

  pub remainder_xor : (a b : ℕ) → remainder (bit_xor a b) F ≡ bit_xor (remainder a F) (remainder b F)
  remainder_xor a b = sym (remainder_is (bit_xor a b) (bit_xor (remainder a F) (remainder b F)) (leaves_xor a b (remainder a F) (remainder b F) (remainder_leaves a F m hF) (remainder_leaves b F m hF)))

  -- a factor may be reduced first
  pub remainder-times : (a c : ℕ) → remainder (times (remainder a F) c) F ≡ remainder (times a c) F
  remainder-times a c =
      let r = remainder a F in
      let h = remainder_leaves a F m hF in
      let k = remainder_leaves (times r c) F m hF in
      let s = remainder (times r c) F in
      let e : times (bit_xor (times c h.1.0) k.1.0) F ≡ bit_xor (times a c) s =
      times_xor_l (times c h.1.0) k.1.0 F
      ∙ ap₂ bit_xor (times_assoc c h.1.0 F ∙ ap (times c) h.1.1 ∙ times_comm c (bit_xor a r) ∙ times_xor_l a r c) k.1.1
      ∙ xor_assoc (times a c) (times r c) (bit_xor (times r c) s) ∙ ap (bit_xor (times a c)) (xor_cancel (times r c) s) in
      remainder_is (times a c) s (k.0, (bit_xor (times c h.1.0) k.1.0, e))
