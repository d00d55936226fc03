-- The codes below 2 ^ m are a field with the product of F.
use Rattle.std.proofs.Common.{◌≡◌, ℕ, ◌^◌, ◌<◌, ◌≤◌, eqb, sym, ap, ◌∙◌, arith, pow_pos, eq-eqb, eqb-true}
use Prim.Native.Nat.{Fin}
use lib.Bits.{bit_xor, xor_comm, xor_assoc, xor_self, xor_zero_r, xor_lt}
use lib.Pow.{pow-lt}
use Rattle.algebra.specs.Operations.{Operations, Ring, Field}
use Rattle.algebra.specs.Codes.{Closed, coded, binary}
use Rattle.algebra.specs.Binary.{times, Degree, NoFactor, remainder, product}
use Rattle.algebra.proofs.Found.{found_lt, found-passes}
use Rattle.algebra.proofs.BinaryProducts.{times_comm, times_assoc, times_xor_r, times_one_r}
use Rattle.algebra.proofs.BinaryRemainders.{leaves_self, remainder_is, remainder_lt, remainder_xor, remainder-times}
use Rattle.algebra.proofs.BinaryInverses.{inverse}

module _ (F m : ℕ) (hF : Degree F m) where
  pub product_comm : (a b : ℕ) → product F a b ≡ product F b a
  unfolding product
  product_comm a b = ap (λ (x : ℕ). remainder x F) (times_comm a b)

  pub product_xor : (a b c : ℕ) → product F a (bit_xor b c) ≡ bit_xor (product F a b) (product F a c)
  unfolding product
  product_xor a b c = ap (λ (x : ℕ). remainder x F) (times_xor_r a b c) ∙ remainder_xor F m hF (times a b) (times a c)

  pub product_assoc : (a b c : ℕ) → product F (product F a b) c ≡ product F a (product F b c)
  unfolding product
  product_assoc a b c =
      remainder-times F m hF (times a b) c ∙ ap (λ (x : ℕ). remainder x F) (times_assoc a b c ∙ times_comm a (times b c))
      ∙ sym (remainder-times F m hF (times b c) a) ∙ ap (λ (x : ℕ). remainder x F) (times_comm (remainder (times b c) F) a)

  product_one : (a : ℕ) → a < 2 ^ m → product F a 1 ≡ a
  unfolding product
  product_one a l = ap (λ (x : ℕ). remainder x F) (times_one_r a) ∙ sym (remainder_is F m hF a a (leaves_self a F m hF l))

  pub product_lt : (a b : ℕ) → product F a b < 2 ^ m
  unfolding product
  product_lt a b = remainder_lt F m hF (times a b)

  module _ (pos : 1 ≤ m) (none : NoFactor F m) where
    one_lt : 1 < 2 ^ m
    one_lt = pow-lt {i = 0} {j = m} pos

    pub closed : Closed (2 ^ m) (binary F m)
    closed = record {
      zero_in = pow_pos m;
      one_in = one_lt;
      sum_in = λ a b. xor_lt m a b;
      neg_in = λ a h. h;
      prod_in = λ a b p q. product_lt a b;
      inv_in = λ a h. found_lt (λ b. eqb (product F a b) 1) (2 ^ m) (2 ^ m) (pow_pos m) (omega arith);
    }

    abbrev pub operations : Operations (Fin (2 ^ m))
    operations = coded (2 ^ m) (binary F m) closed

    pub ring : Ring operations
    ring = record {
      sum_assoc = λ a b c. native.Mathlib.Fin.val_path (xor_assoc a.0 b.0 c.0);
      sum_comm = λ a b. native.Mathlib.Fin.val_path (xor_comm a.0 b.0);
      sum_zero = λ a. native.Mathlib.Fin.val_path (xor_zero_r a.0);
      sum_neg = λ a. native.Mathlib.Fin.val_path (xor_self a.0);
      prod_assoc = λ a b c. native.Mathlib.Fin.val_path (product_assoc a.0 b.0 c.0);
      prod_comm = λ a b. native.Mathlib.Fin.val_path (product_comm a.0 b.0);
      prod_one = λ a. native.Mathlib.Fin.val_path (product_one a.0 a.1);
      distributes = λ a b c. native.Mathlib.Fin.val_path (product_xor a.0 b.0 c.0);
      differ = λ e. let z : ◌≡◌ {A = ℕ} 0 1 = ap (λ x. x.0) e in omega arith;
    }

    -- a code but 0 has an inverse among the codes
    has_inverse : (a : ℕ) → 0 < a → a < 2 ^ m → (b : ℕ) × (b < 2 ^ m) × (product F a b ≡ 1)
    unfolding product
    has_inverse a p l =
        let i = inverse F m hF none a p l in (
          remainder i.0 F,
          remainder_lt F m hF i.0,
          ap (λ (x : ℕ). remainder x F) (times_comm a (remainder i.0 F)) ∙ remainder-times F m hF i.0 a
              ∙ ap (λ (x : ℕ). remainder x F) (times_comm i.0 a)
              ∙ sym (remainder_is F m hF (times a i.0) 1 ((leaves_self 1 F m hF one_lt).0, i.1)),
        )

    pub product-inverse : (a : ℕ) → 0 < a → a < 2 ^ m → product F a ((binary F m).inv a) ≡ 1
    product-inverse a p l =
        let i = has_inverse a p l in
        eqb-true (product F a ((binary F m).inv a)) 1
        (found-passes (λ b. eqb (product F a b) 1) (2 ^ m) i.0 i.1 (eq-eqb (product F a i.0) 1 i.2))

    pub field : Field operations
    field = record { inverse = λ a z. native.Mathlib.Fin.val_path (product-inverse a.0 (positive a.0 (λ e. z (native.Mathlib.Fin.val_path e))) a.1) }
      where
        positive : (a : ℕ) → (a ≡ 0 → ⊥) → 0 < a
        positive a h = omega arith
