-- What the proof of `residues::ThirtySevenModulus::inverse` leaves to be shown.
use Rattle.std.proofs.Common.{rules, ◌≡◌, ℕ, ◌<◌, eqb, get_or, sym, subst, arith, eqb→eq}
use Rattle.algebra.specs.Codes.{found, modulo}
use Rattle.algebra.proofs.Residues
use Rattle.arithmetic.specs.declared.residues.TheConstants.{INVERSES}
use Rattle.arithmetic.proofs.Table.{at_each}
use Rattle.arithmetic.proofs.residues.ThirtySevenModulus.inverse.Goals as goal

-- one test, which is computed, of each number of the table
inverse_at : (a : ℕ) → a < 37 → get_or INVERSES a 0 ≡ (modulo 37).inv a
unfolding found
inverse_at a h = eqb→eq (get_or INVERSES a 0) ((modulo 37).inv a) (at_each (λ k x. eqb x ((modulo 37).inv k)) INVERSES tt a h)

pub returns-in_default : goal.returns-in_default
returns-in_default c =
    let h : c.args.a < 37 = search rules in
    let e = inverse_at c.args.a h in
    (h, search rules, subst (λ (y : ℕ). y < 37) (sym e) ((Residues.closed 37 (omega arith)).inv_in c.args.a h), e)
