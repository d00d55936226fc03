-- What the proof of `polynomial::remainder` leaves to be shown.
use Rattle.std.proofs.Common.{◌≡◌, ℕ, ◌-◌, ◌*◌, ◌%◌, ◌^◌, ◌<◌, sym, subst, lt_of_lt_of_le, arith, pow_pos, pow_mono}
use lib.Bits.{bit_xor}
use Rattle.algebra.specs.Binary.{Degree, remainder}
use Rattle.algebra.proofs.BinaryDegrees.{LeavesBy}
use Rattle.algebra.proofs.BinaryRemainders.{shl_all, cancelled, leaves_step, leaves_self, remainder_is, remainder_leaves}
use Rattle.arithmetic.proofs.polynomial.+remainder.Goals as goal

pub remainder-requires : goal.remainder-requires
remainder-requires t c =
    let a = c.in-Some.ensures in
    let b : (c.unwrap-n.result < 64) × Degree c.args.b c.unwrap-n.result = rw c.unwrap-n.ensures at c.degree.ensures in
    let e = shl_all c.args.b c.in-Some.m c.unwrap-n.result b.1 (omega arith) a.0 in
    let f = cancelled c.args.a c.args.b c.in-Some.m c.unwrap-n.result a.1 b.1 (omega arith) in
    let g : bit_xor c.args.a ((c.args.b * 2 ^ (c.in-Some.m - c.unwrap-n.result)) % 2 ^ 64) < c.args.a = rw e f in
    (omega (arith, c.decreases), omega arith)

-- what the word with its top term cancelled leaves, the word leaves
pub returns-in-Some : goal.returns-in-Some
returns-in-Some t c =
    let a = c.in-Some.ensures in
    let b : (c.unwrap-n.result < 64) × Degree c.args.b c.unwrap-n.result = rw c.unwrap-n.ensures at c.degree.ensures in
    let k = c.in-Some.m - c.unwrap-n.result in
    let e = shl_all c.args.b c.in-Some.m c.unwrap-n.result b.1 (omega arith) a.0 in
    let is : c.remainder.result ≡ remainder (bit_xor c.args.a (c.args.b * 2 ^ k)) c.args.b
    = subst (λ (x : ℕ). c.remainder.result ≡ remainder (bit_xor c.args.a x) c.args.b) e c.remainder.ensures in
    remainder_is c.args.b c.unwrap-n.result b.1 c.args.a c.remainder.result
    (leaves_step c.args.a c.args.b k c.remainder.result
    (subst (LeavesBy (bit_xor c.args.a (c.args.b * 2 ^ k)) c.args.b) (sym is)
    (remainder_leaves (bit_xor c.args.a (c.args.b * 2 ^ k)) c.args.b c.unwrap-n.result b.1)))

-- a word below b's degree is its own remainder
own : (a b n : ℕ) → Degree b n → a < 2 ^ n → a ≡ remainder a b
own a b n h l = remainder_is b n h a a (leaves_self a b n h l)

pub returns-in_default : goal.returns-in_default
returns-in_default t c =
    let b : (c.unwrap-n.result < 64) × Degree c.args.b c.unwrap-n.result = rw c.unwrap-n.ensures at c.degree.ensures in
    own c.args.a c.args.b c.unwrap-n.result b.1
    (lt_of_lt_of_le c.in-Some.ensures.1.1 (pow_mono c.if-m-n.false))

pub returns-in_default-2 : goal.returns-in_default-2
returns-in_default-2 t c =
    let b : (c.unwrap-n.result < 64) × Degree c.args.b c.unwrap-n.result = rw c.unwrap-n.ensures at c.degree.ensures in
    let z : c.args.a ≡ 0 = c.in_default.ensures in
    own c.args.a c.args.b c.unwrap-n.result b.1 (omega (arith, pow_pos c.unwrap-n.result))
