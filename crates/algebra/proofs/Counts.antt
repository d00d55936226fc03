-- The laws of counting.
use Rattle.std.proofs.Common.{◌≡◌, ℕ, zero, suc, ◌+◌, ◌-◌, ◌<◌, Bool, cond, refl, ap, ap₂, arith}
use Rattle.algebra.specs.Counts.{count}

abbrev one : Bool → ℕ
one b = cond b 1 0

-- counts by tests that agree
pub count_same : (n : ℕ) (f g : ℕ → Bool) → ((i : ℕ) → i < n → f i ≡ g i) → count n f ≡ count n g
count_same zero f g h = refl
count_same (suc n) f g h = ap₂ (λ c b. c + one b) (count_same n f g (λ i l. h i (omega arith))) (h n (omega arith))

-- the first apart
count_first : (n : ℕ) (f : ℕ → Bool) → count (suc n) f ≡ one (f 0) + count n (λ i. f (suc i))
count_first zero f = omega arith
count_first (suc n) f = omega (arith, count_first n f)

pub count_reversed : (n : ℕ) (f : ℕ → Bool) → count n (λ i. f (n - 1 - i)) ≡ count n f
count_reversed zero f = refl
count_reversed (suc n) f =
    let e = count_same n (λ i. f (suc n - 1 - i)) (λ i. f (suc (n - 1 - i))) (λ i l. ap f (omega arith)) in
    let l : one (f (suc n - 1 - n)) ≡ one (f 0) = ap (λ i. one (f i)) (omega arith) in
    omega (arith, e, l, count_reversed n (λ i. f (suc i)), count_first n f)
