-- What is answered to a line.
use Rattle.std.specs.Prelude.{◌≡◌, ℕ, None, Some, Option, Ok, Err, Result}
use Rattle.arithmetic.specs.Meaning.{Meaning}
use Rattle.queries.specs.Answers.{Answers as LabelsAnswers, OfCurrent}
use Rattle.queries.specs.declared.laid.Laid.{Laid}
use Rattle.queries.specs.declared.printed.Label.{Label}
use Rattle.queries.specs.declared.unanswered.Unanswered.{Unanswered as LabelsUnanswered}
use Rattle.queries.specs.declared.unanswered.Unanswered.TheVariants.{NoQuery}
use Rattle.reading.specs.Answers.{NotRead, Reads, WellFormed}
use Rattle.reading.specs.Readings.{Shown, scanned, typed}
use Rattle.text.specs.Rows.{numbers}
use Rattle.readings.specs.declared.found.FoundLabel.{FoundLabel}
use Rattle.readings.specs.declared.query.Query.{Query}
use Rattle.readings.specs.declared.query.Query.TheVariants.{Labels as AboutLabels, Scan, Read}
use Rattle.readings.specs.declared.reply.Reply.{Reply}
use Rattle.readings.specs.declared.reply.Reply.TheVariants.{Printed, Found}
use Rattle.readings.specs.declared.unanswered.Unanswered.{Unanswered}
use Rattle.readings.specs.declared.unanswered.Unanswered.TheVariants.{Labels, Unread}

-- a reading is well formed with a worksheet of this length, and t has the one label within its reach, with its door, v and s
abbrev pub FoundBy : Meaning → ℕ → ℕ → Shown → ℕ → FoundLabel → Type 0
FoundBy m n k s worksheet t = WellFormed m.size n s worksheet n × Reads m n k s (numbers t.label) t.found

-- to a reading that shows s, with a worksheet of this length: the label within reach with its door, v and s, or why it is not read
abbrev pub OfReading : Meaning → ℕ → ℕ → Shown → ℕ → Result FoundLabel Unanswered → Type 0
OfReading m n k s worksheet (Ok t) = FoundBy m n k s worksheet t
OfReading m n k s worksheet (Err (Labels e)) = ⊥
OfReading m n k s worksheet (Err (Unread e)) = NotRead m n k s worksheet n e

-- to a reading, where this scheme holds
abbrev pub OfCurrentReading : Option Laid → Shown → ℕ → Result FoundLabel Unanswered → Type 0
OfCurrentReading current s worksheet r =
    OfCurrent (Err (Labels NoQuery)) current (λ m n k doors. OfReading m n k s worksheet) r

-- an answer is that of such a result of a reading
abbrev pub IsFound : (Result FoundLabel Unanswered → Type 0) → Result (Option Reply) Unanswered → Type 0
IsFound Of (Ok None) = ⊥
IsFound Of (Ok (Some (Printed l))) = ⊥
IsFound Of (Ok (Some (Found t))) = Of (Ok t)
IsFound Of (Err e) = Of (Err e)

-- an answer is such a one to a query about labels
abbrev pub IsPrinted : (Result (Option Label) LabelsUnanswered → Type 0) → Result (Option Reply) Unanswered → Type 0
IsPrinted Of (Ok None) = Of (Ok None)
IsPrinted Of (Ok (Some (Printed l))) = Of (Ok (Some l))
IsPrinted Of (Ok (Some (Found t))) = ⊥
IsPrinted Of (Err (Labels e)) = Of (Err e)
IsPrinted Of (Err (Unread e)) = ⊥

-- what is answered to a query, if there is one, where s holds, with a worksheet of this length, and what holds then, t: nothing
-- is answered to a scheme that is laid out
abbrev pub Answers : ℕ → Option Laid → Option Query → Result (Option Reply) Unanswered → Option Laid → Type 0
Answers worksheet s None r t = (t ≡ s) × (r ≡ Err (Labels NoQuery))
Answers worksheet s (Some (AboutLabels q)) r t = IsPrinted (λ a. LabelsAnswers s (Some q) a t) r
Answers worksheet s (Some (Scan p)) r t = (t ≡ s) × IsFound (OfCurrentReading s (scanned (numbers p)) worksheet) r
Answers worksheet s (Some (Read text)) r t = (t ≡ s) × IsFound (OfCurrentReading s (typed text.now) worksheet) r
