-- What the loops of `scan::pieces` keep, and what falls.
use Rattle.text.specs.Rows.{numbers}
use Rattle.readings.proofs.Listing.{Begun, left}
use Rattle.readings.proofs.scan.pieces.Given as goal

abbrev pub invariant-loop-part : goal.invariant-loop-part
invariant-loop-part l = Begun l.bytes (left l.part-iterator.done l.part-iterator.rest.now) (numbers l.pieces)
