-- What the proof of `two_numbers` leaves to be shown.
use Rattle.std.proofs.Common.{subst}
use Rattle.text.specs.Numerals.{Numeral}
use Rattle.text.proofs.Sides.{one_piece, sides}
use Rattle.text.proofs.two_numbers.Goals as goal

pub returns-in_err-left : goal.returns-in_err-left
returns-in_err-left c = rw c.from_residual.ensures (λ m n t.
    one_piece _ _ _ c.in_err-left.ensures t.whole)

pub returns-in_err-m : goal.returns-in_err-m
returns-in_err-m c = rw c.from_residual-in_err-m.ensures (λ m n t.
    c.in_err-m.ensures (subst Numeral (sides _ _ _ _ _ c.in_ok-left.ensures t.whole t.left_one.numeral).0 t.left_one.numeral))

pub returns-in_err-n : goal.returns-in_err-n
returns-in_err-n c = rw c.from_residual-in_err-n.ensures (λ m n t.
    c.in_err-n.ensures (subst Numeral (sides _ _ _ _ _ c.in_ok-left.ensures t.whole t.left_one.numeral).1 t.right_one.numeral))
