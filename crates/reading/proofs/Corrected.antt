-- Where a label is within reach, the row from which the errors at the suspect places were taken is this label.
use Rattle.std.proofs.Common.{◌≡◌, ℕ, suc, ◌+◌, ◌<◌, ◌≤◌, Bool, true, false, List, [], ◌∷◌, length, get_or, sym, refl, ap, ◌∙◌, subst, ap₂, arith}
use Prim.Native.Nat.{Fin}
use Rattle.std.proofs.lemmas.Bool.{both_ways, false_from_ne_true}
use Rattle.std.proofs.lemmas.List.{same_lists, get_or_default}
use Rattle.algebra.specs.Operations.{Operations}
use Rattle.algebra.specs.Counts.{count}
use Rattle.algebra.specs.Points.{other, removed, others}
use Rattle.algebra.specs.Polynomials.{pow, sums}
use Rattle.algebra.proofs.CodedPoints
use Rattle.algebra.proofs.Filling
use Rattle.algebra.proofs.Removing.{count-other}
use Rattle.algebra.proofs.Solver.{reify}
use Rattle.algebra.proofs.Solver
use Rattle.arithmetic.specs.Meaning.{Meaning, Lawful, Codes}
use Rattle.label.specs.Labels.{Different, Label, power_sum}
use Rattle.reading.specs.Working.{ErrorAt, Filled, Near, Points, PowerSums, Suspects, at, divisor, marked, remains}
use Rattle.reading.proofs.Places.{entry}
use Rattle.reading.proofs.Places
use Rattle.reading.proofs.Suspected.{clear}

-- What is known of the working rows: `after` came of `before`, whose power sums are `power-sums`.
pub record Mended (m : Meaning) (n : ℕ) (points smudges power-sums suspects before after : List ℕ) : Type 0 where
  pub length_points : length points ≡ n
  pub length_smudges : length smudges ≡ n
  pub length_before : length before ≡ n
  pub length_after : length after ≡ n
  pub points_are : Points m points
  pub sum_codes : Codes m power-sums
  pub codes : Codes m before
  pub sums_are : PowerSums m before power-sums
  pub suspected : Suspects m smudges power-sums suspects
  pub filled : Filled m points suspects power-sums before after

module _ (m : Meaning) (L : Lawful m) (n : ℕ) (points smudges power-sums suspects before after : List ℕ)
    (w : Mended m n points smudges power-sums suspects before after) (d : Different m n) (c : List ℕ) (near : Near m (length power-sums) before smudges c) where
  abbrev oq : Operations (Fin m.size)
  oq = Places.oq m L

  abbrev o : Operations ℕ
  o = m.codes

  abbrev x : ℕ → Fin m.size
  x = Places.point m L n

  abbrev P : ℕ → Bool
  P = marked suspects

  abbrev S : ℕ → Fin m.size
  S = entry m L power-sums w.sum_codes

  lab : Label m n (length power-sums) c
  lab = subst (λ k. Label m k (length power-sums) c) w.length_before near.label

  abbrev error : ℕ → Fin m.size
  error = Places.error m L n (length power-sums) before c w.codes lab

  different : Different m (length smudges)
  different = subst (Different m) (sym w.length_smudges) d

  few : count n P ≤ length power-sums
  few = subst (λ k. count k P ≤ length power-sums) w.length_smudges (w.suspected.few different)

  -- a place that is not suspect is right
  outside : (p : ℕ) → p < n → P p ≡ false → get_or before p 0 ≡ get_or c p 0
  outside p l f =
      let g : p < length smudges = omega (arith, w.length_smudges) in
      clear before smudges c p
      (false_from_ne_true _ (λ e. both_ways (P p) f (w.suspected.located different before c (w.length_before ∙ sym w.length_smudges) w.codes w.sums_are near p g e)))
      (false_from_ne_true _ (λ e. both_ways (P p) f (w.suspected.smudged p g e)))

  place_is : (p : ℕ) → p < n → at points p ≡ (x p).0
  place_is = Places.points_are m L n points w.length_points w.points_are

  module _ (p : ℕ) (l : p < n) (h : P p ≡ true) where
    fewer : count n (other P p) < length power-sums
    fewer = omega (arith, few, count-other P p n l h)

    divisor_is : divisor m points suspects p ≡ (oq.prod (others oq x P p n p) (pow oq (x p) 1)).0
    divisor_is =
        ap (λ k. o.prod (others o (at points) P p k p) (at points p)) w.length_points
        ∙ ap₂ o.prod (CodedPoints.others_down m.size o L.closed n (at points) x place_is P p p l n (omega arith)) (place_is p l ∙ ap (λ v. v.0) (sym (L.ring.prod_one (x p))))

    remains_is : remains m points suspects power-sums p ≡ (removed oq x P p S n 0).0
    remains_is =
        ap (λ k. removed o (at points) P p (at power-sums) k 0) w.length_points
        ∙ CodedPoints.removed_down m.size o L.closed n (at points) x place_is P p (length power-sums) (at power-sums) S (λ t g. refl) n 0 (omega arith) (omega (arith, fewer))

    error_is : error p ≡ oq.prod (removed oq x P p S n 0) (oq.inv (oq.prod (others oq x P p n p) (pow oq (x p) 1)))
    error_is =
        Filling.filled oq L.ring L.field x P p n (length power-sums) 1 error S
        (Places.point_different m L n d) (Places.point_nonzero m L n)
        (λ j g f. Places.error_zero m L n (length power-sums) before c w.codes lab j (outside j g f))
        few
        (λ t g. Places.error_sums m L n (length power-sums) before c w.codes lab t g (S t) (w.sums_are t g ∙ ap (λ k. power_sum m k before (suc t)) w.length_before)
        ∙ ap (λ e. sums oq n (λ j. oq.prod (error j) (pow oq (x j) e))) {x = suc t} {y = 1 + t} (omega arith))
        l h

    taken : (e : ℕ) → ErrorAt m points suspects power-sums p e → e ≡ (error p).0
    taken e k =
        k (subst (λ j. count j (other P p) < length power-sums) (sym w.length_points) fewer)
        (λ z. Filling.divisor-nonzero oq L.ring L.field x P p n 1 (Places.point_different m L n d) (Places.point_nonzero m L n) l (native.Mathlib.Fin.val_path (sym divisor_is ∙ z)))
        ∙ ap₂ (λ a b. o.prod a (o.inv b)) remains_is divisor_is
        ∙ ap (λ v. v.0) (sym error_is)

    inside : get_or after p 0 ≡ get_or c p 0
    inside =
        let s = w.filled.suspected p (omega (arith, w.length_before)) h in
        s.2 ∙ ap (λ e. o.sum (at before p) (o.neg e)) (taken s.0 s.1)
        ∙ ap (λ v. v.0) (Solver.ring oq L.ring (entry m L before w.codes p ∷ entry m L c lab.codes p ∷ [])
        {x = oq.sum (entry m L before w.codes p) (oq.neg (error p))} {y = entry m L c lab.codes p} (search reify depth 30) tt)

  right : (p : ℕ) → p < n → (b : Bool) → P p ≡ b → get_or after p 0 ≡ get_or c p 0
  right p l true h = inside p l h
  right p l false h = w.filled.kept p (omega (arith, w.length_before)) h ∙ outside p l h

  pub mended : after ≡ c
  mended = same_lists after c (w.length_after ∙ sym lab.long) (λ p v l.
      get_or_default after p v 0 l ∙ right p (omega (arith, w.length_after)) (P p) refl ∙ get_or_default c p 0 v (omega (arith, w.length_after, lab.long)))
