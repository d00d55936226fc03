-- What the proof of `iteration::terms` leaves to be shown.
use Rattle.std.proofs.Common.{rules, ◌≡◌, ℕ, zero, suc, ◌-◌, ◌<◌, ◌≤◌, length, ◌≢◌, get_or, refl, arith}
use native.Mathlib.Decide.{dec_le}
use Rattle.std.proofs.iter.runs.Made.{chains}
use Rattle.algebra.specs.Operations.{Operations, Tested}
use Rattle.algebra.specs.Polynomials.{terms}
use Rattle.algebra.proofs.Terms.{tested, terms_beyond, terms_le, terms_top}
use Rattle.arithmetic.specs.Rows.{polynomial_of}
use Rattle.arithmetic.proofs.iteration.terms.Goals as goal

-- the terms of p below z^n, where the place before v holds the last coefficient that is not zero
terms_is : (o : Operations ℕ) → Tested o → (n : ℕ) (p : ℕ → ℕ) (v : ℕ) → v ≤ n → (0 < v → p (v - 1) ≢ o.zero) → ((k : ℕ) → v ≤ k → k < n → p k ≡ o.zero) → v ≡ terms o n p
terms_is o Z n p v within last above = elim (dec_le v (terms o n p)) [
  | yes l ↦ go (terms o n p) refl l
  | no l ↦ absurd (last (omega arith) (terms_beyond o Z n p (v - 1) (omega arith) (omega arith)))
]
  where
    go : (t : ℕ) → terms o n p ≡ t → v ≤ t → v ≡ terms o n p
    go zero e l = omega arith
    go (suc d) e l = elim (dec_le v d) [
      | yes k ↦ absurd (terms_top o Z n p d e (above d k (omega (arith, terms_le o Z n p))))
      | no k ↦ omega arith
    ]

pub returns : goal.returns
returns g c =
    let m = g.A.Arithmetic.meaning c.args.arithmetic.now in
    let row = c.args.row.now in
    let v = c.map_or.result in
    let h : (v ≤ length row) × (0 < v → get_or row (v - 1) 0 ≢ m.codes.zero) × ((k : ℕ) → v ≤ k → k < length row → get_or row k 0 ≡ m.codes.zero) = search (rules, chains) in
    terms_is m.codes (tested m.codes (g.met.A.Arithmetic.lawful c.args.arithmetic.now).tests) (length row) (polynomial_of row) v h.0 h.1 h.2
