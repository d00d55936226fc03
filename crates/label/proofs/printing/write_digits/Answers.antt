-- What the proof of `printing::write_digits` leaves to be shown.
use Rattle.std.proofs.Common.{ℕ, ◌/◌, ◌^◌, sym, ap, ◌∙◌, pow-suc, add-one, arith}
use Rattle.std.proofs.lemmas.Grind.{common_steps}
use native.Mathlib.Nat.{div-div-eq-div-mul}
use Rattle.label.proofs.printing.write_digits.Goals as goal

pub loop-x-preserved : goal.loop-x-preserved
loop-x-preserved c =
    let l = c.loop-x in
    let q = c.args.q in
    let d = c.args.door in
    record {
      written = grind (arith, common_steps);
      rest = ap (λ (x : ℕ). x / q) l.invariant.rest ∙ div-div-eq-div-mul d (q ^ l.x-index) q ∙ ap (λ (x : ℕ). d / x) (sym (pow-suc q l.x-index)) ∙ ap (λ (i : ℕ). d / q ^ i) (sym (add-one l.x-index));
    }
