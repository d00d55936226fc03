-- What the proof of `field::inversion::weighed` leaves to be shown.
use Rattle.std.proofs.Common.{rules, ◌≡◌, ℕ, zero, suc, ◌+◌, ◌*◌, ◌<◌, ◌≤◌, ◌^◌, List, length, get_or, ap, ◌∙◌, mul-le-mul, arith}
use Rattle.std.specs.List.{sum}
use Rattle.std.proofs.iter.runs.Made.{chains}
use Rattle.algebra.specs.Binary.{bit}
use Rattle.algebra.proofs.BinaryBits.{bit_lt}
use Rattle.algebra.specs.Coordinates.{total}
use Rattle.arithmetic.specs.Meaning.{Codes, residues}
use Rattle.arithmetic.proofs.Sums.{sum_total}
use Rattle.arithmetic.proofs.field.inversion.weighed.Goals as goal

-- a total of numbers that are at most 1
few : (x : ℕ → ℕ) (n : ℕ) → ((k : ℕ) → k < n → x k ≤ 1) → total n x ≤ n
few x zero h = omega arith
few x (suc n) h = omega (arith, h n (omega arith), few x n (λ k l. h k (omega arith)))

module _ (f from : ℕ) (row ys : List ℕ) (codes : Codes (residues 2 1) row) (short : length ys ≤ length row)
    (at : (k : ℕ) → k < length ys → get_or ys k 0 ≡ bit f (from + k) * get_or row k 0) where
  at_most_one : (a b : ℕ) → a < 2 → b < 2 → a * b ≤ 1
  at_most_one a b ha hb = mul-le-mul {n₁ = a} {m₁ = b} {n₂ = 1} {m₂ = 1} (omega arith) (omega arith)

  weighs : (sum ys ≡ total (length ys) (λ k. bit f (from + k) * get_or row k 0)) × (sum ys ≤ length ys)
  weighs =
      let x : ℕ → ℕ = λ k. bit f (from + k) * get_or row k 0 in
      let e = sum_total x ys at in
      (e, omega (arith, e, few x (length ys) (λ k l. at_most_one (bit f (from + k)) (get_or row k 0) (bit_lt f (from + k)) (codes k (omega arith)))))

  fits : length row ≤ 32 → sum ys < 2 ^ 32
  fits h = omega (arith, weighs.1)

pub sum-requires-clause-fits : goal.sum-requires-clause-fits
sum-requires-clause-fits c = search (rules, chains, fits c.args.f c.args.from c.args.row.now)

pub returns : goal.returns
returns c =
    let row = c.args.row.now in
    let e : (ys : List ℕ) × (c.sum.result ≡ sum ys) × (length ys ≡ length row) × ((k : ℕ) → k < length row → get_or ys k 0 ≡ bit c.args.f (c.args.from + k) * get_or row k 0)
    = search (rules, chains) in
    let w = weighs c.args.f c.args.from row e.0 c.requires.bits (omega (arith, e.2)) (λ k l. e.3 k (omega (arith, e.2))) in
    record { bound = omega (arith, e.1, e.2, w.1); value = e.1 ∙ w.0 ∙ ap (λ (n : ℕ). total n (λ k. bit c.args.f (c.args.from + k) * get_or row k 0)) e.2 }
