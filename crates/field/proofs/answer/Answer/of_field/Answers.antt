-- What the proof of `answer::Answer::of_field` leaves to be shown.
use Rattle.field.specs.Surveys.{Surveyed}
use Rattle.field.proofs.Opened.{opened}
use Rattle.field.proofs.answer.Answer.of_field.Goals as goal

pub returns : goal.returns
returns c = opened (λ F m. Surveyed F m c.in_ok-new.field-0) c.in_ok-field.field _ c.in_ok-field.ensures c.in_ok-new.ensures
