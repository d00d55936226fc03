-- What the proof of `answer::Answer::of_element` leaves to be shown.
use Rattle.std.proofs.Common.{inr}
use Rattle.std.proofs.lemmas.Result.{err_from_is_err_and}
use Rattle.arithmetic.specs.Answers.{NoInverse}
use Rattle.arithmetic.specs.Meaning.{field_of}
use Rattle.field.specs.Elements.{Describes}
use Rattle.field.proofs.Opened.{opened}
use Rattle.field.proofs.answer.Answer.of_element.Goals as goal

pub returns-in_err-new : goal.returns-in_err-new
returns-in_err-new c =
    let p = err_from_is_err_and c.from_residual-in_err-new.result c.from_residual-in_err-new.ensures.1 in
    rw (p.1, p.2) (inr (opened (λ F m. NoInverse (field_of F m) c.args.a c.in_err-new.field-0.0) c.in_ok-field.field _ c.in_ok-field.ensures c.in_err-new.ensures))

pub returns : goal.returns
returns c = opened (λ F m. Describes F m c.args.a c.in_ok-new.field-0) c.in_ok-field.field _ c.in_ok-field.ensures c.in_ok-new.ensures
