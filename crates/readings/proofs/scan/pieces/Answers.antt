-- What the proof of `scan::pieces` leaves to be shown.
use Rattle.std.proofs.Common.{rules}
use Rattle.std.proofs.lemmas.List.Sorted.{answers_always}
use borrow.Author.Tests.{tests}
use Rattle.readings.proofs.Listing.{begun_all, begun_here, begun_more, begun_wrong, is_space}
use Rattle.readings.proofs.scan.pieces.Goals as goal

pub returns-in_err-piece : goal.returns-in_err-piece
returns-in_err-piece c =
    let step = c.in-Some.ensures.steps in
    let first = (step.2 is_space (answers_always _ _ _ (λ f a r q k. search (rules, tests)))).1 in
    rw c.from_residual.ensures (begun_wrong _ _ _ _ (begun_here _ _ _ _ _ _ _ c.loop-part.invariant step.0 step.1 first) c.in_err-piece.ensures)

pub loop-part-preserved : goal.loop-part-preserved
loop-part-preserved c =
    let step = c.in-Some.ensures.steps in
    let first = (step.2 is_space (answers_always _ _ _ (λ f a r q k. search (rules, tests)))).1 in
    begun_more _ _ _ _ _ _ (begun_here _ _ _ _ _ _ _ c.loop-part.invariant step.0 step.1 first) c.in_ok-piece.ensures c.add.ensures

pub returns : goal.returns
returns c = begun_all _ c.loop-part.part-iterator.rest.now _ _ c.loop-part.invariant c.in-None.ensures.steps.0
