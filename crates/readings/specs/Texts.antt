-- What is printed for an answer.
use Rattle.std.specs.Prelude.{ℕ, List, ◌++◌, codes, decimal}
use Rattle.reading.specs.Refusals.{number, place}
use Rattle.text.specs.Refusals.{refused_text}
use Rattle.text.specs.Rows.{numbers}
use Rattle.text.specs.Spacing.{spaced}
use Rattle.queries.specs.Texts.{label_text, unanswered_text as labels_unanswered_text}
use Rattle.readings.specs.declared.found.FoundLabel.{FoundLabel}
use Rattle.readings.specs.declared.reply.Reply.{Reply}
use Rattle.readings.specs.declared.reply.Reply.TheVariants.{Printed, Found}
use Rattle.readings.specs.declared.unanswered.Unanswered.{Unanswered}
use Rattle.readings.specs.declared.unanswered.Unanswered.TheVariants.{Labels, Unread}

-- the door, v, s and the codes, with one space between
abbrev pub found_text : FoundLabel → List ℕ
found_text t =
    decimal t.found.door ++ (codes " " ++ (decimal t.found.misread ++ (codes " " ++ (decimal t.found.smudges ++ spaced (numbers t.label)))))

-- for a label that was printed or read
abbrev pub reply_text : Reply → List ℕ
reply_text (Printed l) = label_text l
reply_text (Found t) = found_text t

-- where a query is not answered
abbrev pub unanswered_text : Unanswered → List ℕ
unanswered_text (Labels e) = labels_unanswered_text e
unanswered_text (Unread e) = refused_text (number e) (place e)
