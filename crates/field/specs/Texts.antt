-- What is printed for an answer.
use Rattle.std.specs.Prelude.{ℕ, List, ◌++◌, codes, decimal}
use Rattle.arithmetic.specs.Refusals.{number, place}
use Rattle.text.specs.Refusals.{refused_text}
use Rattle.text.specs.Rows.{numbers}
use Rattle.text.specs.Spacing.{spaced}
use Rattle.field.specs.declared.answer.Answer.{Answer}
use Rattle.field.specs.declared.answer.Answer.TheVariants.{Opened, Described}
use Rattle.field.specs.declared.answer.Unanswered.{Unanswered}
use Rattle.field.specs.declared.answer.Unanswered.TheVariants.{Refused, Wrong, NoQuery}
use Rattle.field.specs.declared.element.Element.{Element}
use Rattle.field.specs.declared.survey.Survey.{Survey}

abbrev pub survey_text : Survey → List ℕ
survey_text s =
    codes "opens " ++ (decimal s.degree ++ (codes " " ++ (decimal s.size
    ++ (codes " most " ++ (decimal s.most ++ (codes " total " ++ decimal s.total))))))

abbrev pub element_text : Element → List ℕ
element_text e =
    codes "triangular" ++ (spaced (numbers e.row)
    ++ (codes " inverse " ++ (decimal e.inverse ++ (codes " iterations " ++ decimal e.iterations))))

-- for an answer
abbrev pub answer_text : Answer → List ℕ
answer_text (Opened s) = survey_text s
answer_text (Described e) = element_text e

-- where there is no answer
abbrev pub unanswered_text : Unanswered → List ℕ
unanswered_text (Refused e) = refused_text (number e) (place e)
unanswered_text (Wrong w) = codes "wrong " ++ decimal w.0
unanswered_text NoQuery = codes "no query"
