-- What the proof of `polynomial::product` leaves to be shown.
use Rattle.std.proofs.Common.{◌≡◌, ℕ, ◌+◌, ◌*◌, ◌/◌, ◌%◌, ◌^◌, sym, ap, ◌∙◌, ap₂, mod-lt, add_comm, one-mul, arith, pow_pos, shl_exact}
use native.Mathlib.Nat.{mod-one}
use lib.Bits.{bit_xor, bit_and, and_mask, xor_shifted, xor_comm}
use lib.Pow.{mod-pow-add}
use Rattle.algebra.specs.Binary.{times}
use Rattle.algebra.proofs.BinaryProducts.{times_zero_r, times_xor_r}
use Rattle.algebra.proofs.BinaryDegrees.{times_pow_r}
use Rattle.arithmetic.proofs.polynomial.product.Goals as goal
use Rattle.arithmetic.proofs.polynomial.product.Goals.{then-b-i-eq1, else-b-i-eq1}

-- the low i + 1 digits of b are its digit i, and its low i digits
low-more : (b i : ℕ) → b % 2 ^ (i + 1) ≡ bit_and (b / 2 ^ i) 1 * 2 ^ i + b % 2 ^ i
low-more b i = ap (λ (x : ℕ). b % 2 ^ x) (add_comm i 1) ∙ mod-pow-add b 1 i ∙ ap (λ (x : ℕ). x * 2 ^ i + b % 2 ^ i) (sym (and_mask (b / 2 ^ i) 1))

set_more : (a b i : ℕ) → bit_and (b / 2 ^ i) 1 ≡ 1 → times a (b % 2 ^ (i + 1)) ≡ bit_xor (times a (b % 2 ^ i)) (a * 2 ^ i)
set_more a b i e =
    ap (times a) (low-more b i ∙ ap (λ (x : ℕ). x * 2 ^ i + b % 2 ^ i) e ∙ sym (xor_shifted 1 i (b % 2 ^ i) (mod-lt b (pow_pos i))))
    ∙ times_xor_r a (1 * 2 ^ i) (b % 2 ^ i)
    ∙ ap (λ (x : ℕ). bit_xor x (times a (b % 2 ^ i))) (ap (times a) (one-mul (2 ^ i)) ∙ times_pow_r a i)
    ∙ xor_comm (a * 2 ^ i) (times a (b % 2 ^ i))

clear-more : (a b i : ℕ) → bit_and (b / 2 ^ i) 1 ≡ 0 → times a (b % 2 ^ (i + 1)) ≡ times a (b % 2 ^ i)
clear-more a b i e = ap (times a) (low-more b i ∙ ap (λ (x : ℕ). x * 2 ^ i + b % 2 ^ i) e ∙ omega arith)

pub loop-i-init : goal.loop-i-init
loop-i-init c = sym (ap (times c.args.a) (mod-one c.args.b) ∙ times_zero_r c.args.a)

pub loop-i-preserved : goal.loop-i-preserved
loop-i-preserved c =
    elim c.if-b-i-eq1.branch [
      | then-b-i-eq1 w ↦
          w.sum-is ∙ ap₂ bit_xor c.loop-i.invariant (shl_exact 32 c.loop-i.i 64 c.ranges.a.fits (omega arith))
          ∙ sym (set_more c.args.a c.args.b c.loop-i.i w.if-b-i-eq1.true)
      | else-b-i-eq1 w ↦
          let z : bit_and (c.args.b / 2 ^ c.loop-i.i) 1 ≡ 0 = omega (arith, and_mask (c.args.b / 2 ^ c.loop-i.i) 1, w.if-b-i-eq1.false) in
          w.sum-is ∙ c.loop-i.invariant ∙ sym (clear-more c.args.a c.args.b c.loop-i.i z)
    ]
