-- The three arithmetics keep the laws.
use Rattle.std.specs.Prelude.{ℕ, ◌^◌, ◌<◌, ◌≤◌, T, ◌≢◌, refl}
use Rattle.std.proofs.Common.{arith, pow_mono}
use Rattle.algebra.specs.Binary.{NoFactor}
use Rattle.algebra.specs.Codes.{found}
use Rattle.algebra.proofs.BinaryField
use Rattle.algebra.proofs.Residues
use Rattle.arithmetic.specs.Meaning.{Lawful, field_of, residues}
use Rattle.arithmetic.specs.Opening.{RightDegree}

pub residues_lawful : (n g : ℕ) (two : 2 ≤ n) → n ≤ 65536 → T (Residues.inverses n two n) → 0 < g → g < n → Lawful (residues n g)
residues_lawful n g two most t p l = record {
  least = two;
  most = most;
  closed = Residues.closed n two;
  tests = λ a. refl;
  ring = Residues.ring n two;
  field = Residues.field n two t;
  step_in = l;
  step_nonzero = λ e. positive g p e;
}
  where
    positive : (g : ℕ) → 0 < g → g ≢ 0
    positive g h e = omega arith

pub bits_lawful : Lawful (residues 2 1)
unfolding found
bits_lawful = residues_lawful 2 1 (omega arith) (omega arith) tt (omega arith) (omega arith)

pub residues_37_lawful : Lawful (residues 37 2)
unfolding found
residues_37_lawful = residues_lawful 37 2 (omega arith) (omega arith) tt (omega arith) (omega arith)

pub field_lawful : (F m : ℕ) → RightDegree F m → NoFactor F m → Lawful (field_of F m)
field_lawful F m (h, least, most) none = record {
  least = low;
  most = pow_mono most;
  closed = BinaryField.closed F m h pos none;
  tests = λ a. refl;
  ring = BinaryField.ring F m h pos none;
  field = BinaryField.field F m h pos none;
  step_in = omega (arith, pow_mono least);
  step_nonzero = λ e. omega arith;
}
  where
    pos : 1 ≤ m
    pos = omega arith

    low : 2 ≤ 2 ^ m
    low = pow_mono pos
