-- What the proof of `field::inversion::number` leaves to be shown.
use Rattle.std.proofs.Common.{rules, ◌≡◌, ℕ, zero, suc, ◌+◌, ◌*◌, ◌%◌, ◌<◌, ◌≤◌, ◌^◌, List, length, get_or, refl, ap, ◌∙◌, lt_of_lt_of_le, arith, pow_mono, shl_exact}
use Rattle.std.specs.List.{sum}
use Rattle.std.proofs.iter.runs.Made.{chains}
use Rattle.algebra.specs.Binary.{value}
use Rattle.algebra.specs.Coordinates.{total}
use Rattle.algebra.proofs.BinaryBits.{value_lt}
use Rattle.arithmetic.specs.Meaning.{Codes, residues}
use Rattle.arithmetic.specs.Rows.{polynomial_of}
use Rattle.arithmetic.proofs.Sums.{sum_total}
use Rattle.arithmetic.proofs.field.inversion.number.Goals as goal

value_total : (n : ℕ) (u : ℕ → ℕ) → total n (λ k. u k * 2 ^ k) ≡ value n u
value_total zero u = refl
value_total (suc n) u = ap (λ (x : ℕ). x + u n * 2 ^ n) (value_total n u)

module _ (bits ys : List ℕ) (few : length bits ≤ 16) (codes : Codes (residues 2 1) bits) (short : length ys ≤ length bits)
    (at : (k : ℕ) → k < length ys → get_or ys k 0 ≡ (get_or bits k 0 * 2 ^ k) % 2 ^ 32) where
  sums : sum ys ≡ value (length ys) (polynomial_of bits)
  sums =
      sum_total (λ k. get_or bits k 0 * 2 ^ k) ys (λ k l. at k l ∙ shl_exact 1 k 32 (codes k (omega arith)) (omega arith))
      ∙ value_total (length ys) (polynomial_of bits)

  fits : sum ys < 2 ^ 32
  fits =
      let l : value (length ys) (polynomial_of bits) < 2 ^ 16
      = lt_of_lt_of_le (value_lt (polynomial_of bits) (length ys) (λ j l. codes j (omega arith))) (pow_mono {i = length ys} {j = 16} (omega arith)) in
      omega (arith, sums, l)

pub sum-requires-clause-fits : goal.sum-requires-clause-fits
sum-requires-clause-fits c = search (rules, chains, fits c.args.bits.now)

pub returns : goal.returns
returns c =
    let bits = c.args.bits.now in
    let e : (ys : List ℕ) × (c.sum.result ≡ sum ys) × (length ys ≡ length bits) × ((k : ℕ) → k < length bits → get_or ys k 0 ≡ (get_or bits k 0 * 2 ^ k) % 2 ^ 32) = search (rules, chains) in
    e.1 ∙ sums bits e.0 c.requires.few c.requires.bits (omega (arith, e.2)) (λ k l. e.3 k (omega (arith, e.2))) ∙ ap (λ (n : ℕ). value n (polynomial_of bits)) e.2
