-- Operations on codes: the numbers below q.
use Rattle.std.specs.Prelude.{ℕ, zero, suc, ◌+◌, ◌-◌, ◌*◌, ◌%◌, ◌^◌, ◌<◌, Bool, cond, ◌==◌, nat_eq}
use Rattle.std.specs.Int.Bits.{bit_xor}
use Prim.Native.Nat.{Fin}
use Rattle.algebra.specs.Operations.{Operations}
use Rattle.algebra.specs.Binary.{product}

-- the operations lead from codes to codes
pub record Closed (q : ℕ) (o : Operations ℕ) : Type 0 where
  pub zero_in : o.zero < q
  pub one_in : o.one < q
  pub sum_in : (a b : ℕ) → a < q → b < q → o.sum a b < q
  pub neg_in : (a : ℕ) → a < q → o.neg a < q
  pub prod_in : (a b : ℕ) → a < q → b < q → o.prod a b < q
  pub inv_in : (a : ℕ) → a < q → o.inv a < q

-- the same operations on the type of the codes
abbrev pub coded : (q : ℕ) (o : Operations ℕ) → Closed q o → Operations (Fin q)
coded q o c = record {
  zero = (o.zero, c.zero_in);
  one = (o.one, c.one_in);
  sum = λ a b. (o.sum a.0 b.0, c.sum_in a.0 b.0 a.1 b.1);
  neg = λ a. (o.neg a.0, c.neg_in a.0 a.1);
  prod = λ a b. (o.prod a.0 b.0, c.prod_in a.0 b.0 a.1 b.1);
  inv = λ a. (o.inv a.0, c.inv_in a.0 a.1);
  zero? = λ a. o.zero? a.0;
}

-- the last number below n that passes a test, or 0
unfoldable pub found : (ℕ → Bool) → ℕ → ℕ
found test zero = 0
found test (suc n) = cond (test n) n (found test n)

-- the numbers below n modulo n; the inverse of a is the number below n whose product with a is 1
abbrev pub modulo : ℕ → Operations ℕ
modulo n = record {
  zero = 0;
  one = 1;
  sum = λ a b. (a + b) % n;
  neg = λ a. (n - a) % n;
  prod = λ a b. (a * b) % n;
  inv = λ a. found (λ b. nat_eq ((a * b) % n) 1) n;
  zero? = λ a. (a == 0);
}

-- the codes below 2 ^ m in the binary field of F, of degree m: sums are bitwise, a product is the remainder by F,
-- and the inverse of a is the code whose product with a is 1
abbrev pub binary : ℕ → ℕ → Operations ℕ
binary F m = record {
  zero = 0;
  one = 1;
  sum = bit_xor;
  neg = λ a. a;
  prod = product F;
  inv = λ a. found (λ b. nat_eq (product F a b) 1) (2 ^ m);
  zero? = λ a. (a == 0);
}
