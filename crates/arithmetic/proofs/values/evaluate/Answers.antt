-- What the proof of `values::evaluate` leaves to be shown.
use Rattle.std.proofs.Common.{◌≡◌, ℕ, ◌<◌, List, length, get_or, ap, ◌∙◌, arith}
use Rattle.algebra.specs.Polynomials.{value_at}
use Rattle.algebra.proofs.CodedRegisters
use Rattle.algebra.proofs.Registers.{horner}
use Rattle.arithmetic.specs.Meaning.{Meaning, Codes, Lawful}
use Rattle.arithmetic.proofs.values.evaluate.Goals as goal

-- after the last place
whole : (m : Meaning) → Lawful m → (row : List ℕ) (x i v : ℕ) → i ≡ length row → (0 < length row → x < m.size) → Codes m row
    → v ≡ horner m.codes (λ k. get_or row k 0) x i → v ≡ value_at m.codes (length row) (λ k. get_or row k 0) x
whole m L row x i v all code codes e =
    e ∙ ap (horner m.codes (λ k. get_or row k 0) x) all
    ∙ CodedRegisters.horner_at m.size m.codes L.closed L.ring (length row) (λ k. get_or row k 0) x code codes

pub returns : goal.returns
returns g c =
    let a = c.args.arithmetic.now in
    let m = g.A.Arithmetic.meaning a in
    let row = c.args.row.now in
    let all : c.loop-c.c-index ≡ length row = omega arith in
    let codes : Codes m row = λ k l. c.loop-c.invariant.2 k (omega arith) in
    let code : 0 < length row → c.args.x < m.size = λ l. c.loop-c.invariant.3 (omega arith) in (
      codes,
      code,
      c.loop-c.invariant.1,
      whole m (g.met.A.Arithmetic.lawful a) row c.args.x c.loop-c.c-index c.loop-c.value all code codes c.loop-c.invariant.0,
    )
