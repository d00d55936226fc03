-- Operations on a carrier K, and the laws that make it a commutative ring and a field.
use Rattle.std.specs.Prelude.{◌≡◌, Bool, true, ◌≢◌}

pub record Operations (K : Type 0) : Type 0 where
  pub zero : K
  pub one : K
  pub sum : K → K → K
  pub neg : K → K
  pub prod : K → K → K
  pub inv : K → K
  -- the test for zero
  pub zero? : K → Bool

-- A commutative ring in which zero and one differ.
pub record Ring {K : Type 0} (o : Operations K) : Type 0 where
  pub sum_assoc : (a b c : K) → o.sum (o.sum a b) c ≡ o.sum a (o.sum b c)
  pub sum_comm : (a b : K) → o.sum a b ≡ o.sum b a
  pub sum_zero : (a : K) → o.sum a o.zero ≡ a
  pub sum_neg : (a : K) → o.sum a (o.neg a) ≡ o.zero
  pub prod_assoc : (a b c : K) → o.prod (o.prod a b) c ≡ o.prod a (o.prod b c)
  pub prod_comm : (a b : K) → o.prod a b ≡ o.prod b a
  pub prod_one : (a : K) → o.prod a o.one ≡ a
  pub distributes : (a b c : K) → o.prod a (o.sum b c) ≡ o.sum (o.prod a b) (o.prod a c)
  pub differ : o.zero ≡ o.one → ⊥

-- What a field has beyond a ring: an element that is not zero and its inverse have product one.
pub record Field {K : Type 0} (o : Operations K) : Type 0 where
  pub inverse : (a : K) → (a ≢ o.zero) → o.prod a (o.inv a) ≡ o.one

-- The test for zero is right.
pub record Tested {K : Type 0} (o : Operations K) : Type 0 where
  pub passes : o.zero? o.zero ≡ true
  pub tells : (a : K) → o.zero? a ≡ true → a ≡ o.zero
