-- The value of a row at a power of the step is a power sum, and the powers of the step, each made of the one before.
use Rattle.std.proofs.Common.{◌≡◌, ℕ, zero, suc, ◌+◌, ◌<◌, List, length, get_or, Ok, Result, sym, ap, ◌∙◌, subst, arith}
use Rattle.std.specs.Fn.{iterate}
use Rattle.algebra.specs.Codes.{coded}
use Rattle.algebra.specs.Polynomials.{pow, value_at}
use Rattle.algebra.proofs.CodedRegisters
use Rattle.algebra.proofs.CodedSums
use Rattle.arithmetic.specs.declared.refusal.Refusal.{Refusal}
use Rattle.arithmetic.specs.Answers.{OfRow}
use Rattle.arithmetic.specs.Meaning.{Meaning, Lawful}
use Rattle.label.specs.Labels.{power_sum}

-- what `evaluate` answers at the power j of the step is the power sum j
pub value_is : (m : Meaning) → Lawful m → (row : List ℕ) (x j v : ℕ) (r : Result ℕ Refusal) → OfRow m row x r → r ≡ Ok v → x ≡ pow m.codes m.step j → v ≡ power_sum m (length row) row j
value_is m L row x j v r h e f =
    let known : OfRow m row x (Ok v) = subst (OfRow m row x) e h in
    known.3 ∙ ap (value_at m.codes (length row) (λ k. get_or row k 0)) f
    ∙ CodedRegisters.value-sums m.size m.codes L.closed L.ring m.step j (length row) (λ k. get_or row k 0) L.step_in known.0

module _ (m : Meaning) (L : Lawful m) where
  -- each power of the step is a code
  pub power_in : (j : ℕ) → pow m.codes m.step j < m.size
  power_in j = subst (λ x. x < m.size) (sym (CodedSums.pow_down m.size m.codes L.closed (m.step, L.step_in) j)) (pow (coded m.size m.codes L.closed) (m.step, L.step_in) j).1

  times : (k j : ℕ) → iterate (m.codes.prod m.step) k (pow m.codes m.step j) ≡ pow m.codes m.step (k + j)
  times zero j = let e : j ≡ 0 + j = omega arith in ap (pow m.codes m.step) e
  times (suc k) j = let e : k + suc j ≡ suc k + j = omega arith in times k (suc j) ∙ ap (pow m.codes m.step) e

  -- the step, multiplied k times by the step, is its power k + 1
  pub power_is : (k : ℕ) → iterate (m.codes.prod m.step) k m.step ≡ pow m.codes m.step (k + 1)
  power_is k = ap (λ x. iterate (m.codes.prod m.step) k x) (sym (ap (λ a. a.0) (L.ring.prod_one (m.step, L.step_in)))) ∙ times k 1
