-- What the proof of `survey::Survey::new` leaves to be shown.
use Rattle.std.proofs.Common.{[], ◌∷◌, ◌++◌, arith, rules}
use Rattle.std.proofs.lemmas.List.{length_push}
use Rattle.std.proofs.lemmas.List.Sums.{sum_by_push}
use Rattle.field.proofs.Tallies.{counts_push, few_codes, largest_push}
use Rattle.field.proofs.survey.Survey.new.Goals as goal

pub overflow_add-total : goal.overflow_add-total
overflow_add-total c = grind (arith, few_codes)

pub loop-a-preserved : goal.loop-a-preserved
loop-a-preserved c =
    let ks = c.loop-a.invariant.0 in
    let k = c.unwrap-inverted.result.iterations in (
      ks ++ k ∷ [],
      omega (arith, length_push ks k),
      counts_push _ _ c.loop-a.a c.unwrap-inverted.result.inverse k ks (search rules) c.loop-a.invariant.2 (search rules),
      search (rules, largest_push),
      search (rules, sum_by_push),
      grind (arith, length_push),
    )
