-- What the proof of `field::right_degree` leaves to be shown.
use Rattle.std.proofs.Common.{rules, tests, ◌≡◌, ◌≤◌, refl, arith}
use Rattle.algebra.specs.Binary.{Degree}
use Rattle.algebra.proofs.BinaryDegrees.{degree-one}
use Rattle.arithmetic.proofs.field.right_degree.Goals as goal

pub returns-in_default : goal.returns-in_default
returns-in_default c =
    let F = c.args.polynomial in
    let d = c.in-Some.m in
    let outside : (2 ≤ d) × (d ≤ 16) → ⊥ = search (rules, tests) in
    let h : Degree F d = rw c.from.ensures at c.in-Some.ensures.1 in
    ((λ m w. let e : d ≡ m = degree-one F d m h w.0 in outside (omega arith, omega arith)), (refl, refl))
