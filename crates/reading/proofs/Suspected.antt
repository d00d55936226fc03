-- The suspects that the small multiplier gives: every place that is wrong for a label within reach, and not more than power sums.
use Rattle.std.proofs.Common.{◌≡◌, ℕ, zero, suc, ◌+◌, ◌*◌, ◌<◌, ◌≤◌, Bool, true, false, cond, not, eqb, List, length, get_or, sym, refl, ap, ◌∙◌, subst, ap₂, arith, eq-eqb, eqb-true}
use mathlib.Core.Path.{fun_ext}
use Prim.Native.Nat.{Fin}
use native.Mathlib.Decide.{dec_lt}
use Rattle.std.proofs.lemmas.Bool.{eqb-false, not-true}
use Rattle.std.proofs.lemmas.Bool.Decides.{nat_tests}
use Rattle.algebra.specs.Operations.{Operations}
use Rattle.algebra.specs.Codes.{Closed, coded}
use Rattle.algebra.specs.Counts.{count}
use Rattle.algebra.specs.Points.{folded}
use Rattle.algebra.specs.Polynomials.{conv, value_at}
use Rattle.algebra.proofs.CodedIterations.{numbers}
use Rattle.algebra.proofs.CodedPoints
use Rattle.algebra.proofs.Counts.{count_same}
use Rattle.algebra.proofs.Locating.{locator, locator_value}
use Rattle.algebra.proofs.Locating
use Rattle.arithmetic.specs.Meaning.{Meaning, Lawful, Codes}
use Rattle.arithmetic.specs.Rows.{Holds}
use Rattle.label.specs.Labels.{Different, Label, power_sum}
use Rattle.reading.specs.Working.{Near, Points, PowerSums, Suspects, at, marked, suspect, wrong}
use Rattle.reading.proofs.Places.{entry}
use Rattle.reading.proofs.Places

-- the product by codes is that by their numbers, below the first N terms
conv_down :
    (q : ℕ) (o : Operations ℕ) (C : Closed q o) (N : ℕ) (a : ℕ → ℕ) (f : ℕ → Fin q) → ((t : ℕ) → t < N → a t ≡ (f t).0)
    → (u : ℕ → Fin q) (t : ℕ) → t < N → conv o (numbers u) a t ≡ (conv (coded q o C) u f t).0
conv_down q o C N a f e u zero l = ap (o.prod (u 0).0) (e 0 l)
conv_down q o C N a f e u (suc t) l = ap₂ (λ b c. o.sum (o.prod (u 0).0 b) c) (e (suc t) l) (conv_down q o C N a f e (λ j. u (suc j)) t (omega arith))

-- either test
count_either : (n : ℕ) (E W : ℕ → Bool) → count n (λ p. cond (E p) true (W p)) ≤ count n E + count n W
count_either zero E W = omega arith
count_either (suc n) E W = let h = count_either n E W in grind (arith, nat_tests)

-- a place that is neither a smudge nor wrong
pub clear : (y smudges c : List ℕ) (i : ℕ) → wrong y smudges c i ≡ false → marked smudges i ≡ false → get_or y i 0 ≡ get_or c i 0
clear y smudges c i f g = grind (arith, nat_tests)

module _ (m : Meaning) (L : Lawful m) (n D stop : ℕ) (points smudges sums row multiplier : List ℕ) (small : ℕ → ℕ) where
  -- What is known of the working rows: `row` has the folded power sums, and `multiplier` holds the coefficients `small`.
  pub record Worked : Type 0 where
    pub length_points : length points ≡ n
    pub length_sums : length sums ≡ suc (D + stop)
    pub length_multiplier : length multiplier ≡ suc D
    pub stops : D + count n (marked smudges) ≤ suc stop
    pub goes_on : 2 * stop < length sums + count n (marked smudges)
    pub points_are : Points m points
    pub sum_codes : Codes m sums
    pub folded_sums : (t : ℕ) → t < length sums → at row t ≡ folded m.codes (at points) (marked smudges) (at sums) n t
    pub codes : Codes m multiplier
    pub held : Holds m.codes multiplier small
    pub key : (t : ℕ) → stop < t → t < length sums → conv m.codes small (at row) t ≡ m.codes.zero
    pub nonzero : (t : ℕ) × (t < length multiplier) × (get_or multiplier t 0 ≡ m.codes.zero → ⊥)

module _ (m : Meaning) (L : Lawful m) (n D stop : ℕ) (points smudges sums row multiplier : List ℕ) (small : ℕ → ℕ)
    (w : Worked m L n D stop points smudges sums row multiplier small) (d : Different m n) where
  abbrev oq : Operations (Fin m.size)
  oq = Places.oq m L

  abbrev x : ℕ → Fin m.size
  x = Places.point m L n

  lift : (t : ℕ) → Dec (t < length multiplier) → Fin m.size
  lift t (yes l) = (get_or multiplier t 0, w.codes t l)
  lift t (no l) = oq.zero

  -- the multiplier's coefficients as codes
  U : ℕ → Fin m.size
  unfolding lift
  U t = lift t (dec_lt t (length multiplier))

  lift_small : (t : ℕ) (c : Dec (t < length multiplier)) → small t ≡ (lift t c).0
  unfolding lift
  lift_small t (yes l) = sym (w.held.inside t l)
  lift_small t (no l) = w.held.beyond t (omega arith)

  lift_row : (t : ℕ) → t < length multiplier → (c : Dec (t < length multiplier)) → get_or multiplier t 0 ≡ (lift t c).0
  unfolding lift
  lift_row t l (yes g) = refl
  lift_row t l (no g) = absurd (g l)

  multiplier_short : (t : ℕ) → D < t → U t ≡ oq.zero
  unfolding U lift
  multiplier_short t l = go (dec_lt t (length multiplier))
    where
      go : (c : Dec (t < length multiplier)) → lift t c ≡ oq.zero
      go (yes g) = absurd (omega (arith, w.length_multiplier))
      go (no g) = refl

  value_is : (p : ℕ) → p < n → value_at m.codes (length multiplier) (at multiplier) (at points p) ≡ (locator oq D U (x p)).0
  unfolding U
  value_is p l =
      ap₂ (λ k y. value_at m.codes k (at multiplier) y) w.length_multiplier (Places.points_are m L n points w.length_points w.points_are p l)
      ∙ CodedPoints.value_down m.size m.codes L.closed (suc D) (at multiplier) U (x p) (λ j g. lift_row j (omega (arith, w.length_multiplier)) (dec_lt j (length multiplier)))
      ∙ ap (λ v. v.0) (locator_value oq D U (x p))

  vanishes : ℕ → Bool
  vanishes p = eqb (value_at m.codes (length multiplier) (at multiplier) (at points p)) m.codes.zero

  root : (p : ℕ) → p < n → vanishes p ≡ true → locator oq D U (x p) ≡ oq.zero
  unfolding vanishes
  root p l e = native.Mathlib.Fin.val_path (sym (value_is p l) ∙ eqb-true _ _ e)

  roots_few : count n vanishes ≤ D
  unfolding U
  roots_few =
      Locating.locator_count oq L.ring L.field x n D U vanishes (Places.point_different m L n d) root w.nonzero.0 (omega (arith, w.nonzero.1, w.length_multiplier))
      (λ e. w.nonzero.2 (lift_row w.nonzero.0 w.nonzero.1 (dec_lt w.nonzero.0 (length multiplier)) ∙ ap (λ v. v.0) e))

  pub few : count n (suspect m points smudges multiplier) ≤ length sums
  unfolding vanishes
  few = omega (arith, count_either n (marked smudges) vanishes, roots_few, w.stops, w.length_sums)

  S : ℕ → Fin m.size
  S = entry m L sums w.sum_codes

  folded_is : (t : ℕ) → t < length sums → at row t ≡ (folded oq x (marked smudges) S n t).0
  unfolding S
  folded_is t l =
      w.folded_sums t l
      ∙ CodedPoints.folded_down m.size m.codes L.closed n (at points) x (Places.points_are m L n points w.length_points w.points_are) (marked smudges) (length sums) (at sums) S (λ t g. refl) n t (omega arith) l

  equations : (t : ℕ) → stop < t → t < length sums → conv oq U (folded oq x (marked smudges) S n) t ≡ oq.zero
  unfolding U
  equations t g l =
      native.Mathlib.Fin.val_path (sym (conv_down m.size m.codes L.closed (length sums) (at row) (folded oq x (marked smudges) S n) folded_is U t l)
      ∙ ap (λ u. conv m.codes u (at row) t) (sym (fun_ext (λ t. lift_small t (dec_lt t (length multiplier)))))
      ∙ w.key t g l)

  pub located :
      (y c : List ℕ) → length y ≡ n → Codes m y → PowerSums m y sums → Near m (length sums) y smudges c
      → (p : ℕ) → p < n → wrong y smudges c p ≡ true → suspect m points smudges multiplier p ≡ true
  unfolding S vanishes
  located y c yl yc ps near p l e = go (marked smudges p) refl e
    where
      lab : Label m n (length sums) c
      lab = subst (λ k. Label m k (length sums) c) yl near.label

      error : ℕ → Fin m.size
      error = Places.error m L n (length sums) y c yc lab

      go : (b : Bool) → marked smudges p ≡ b → cond b false (not (eqb (at y p) (at c p))) ≡ true → cond b true (vanishes p) ≡ true
      go true g h = refl
      go false g h =
          eq-eqb _ _ (value_is p l ∙ ap (λ v. v.0)
          (Locating.located oq L.ring L.field x n D stop (count n (marked smudges)) (length sums) (marked smudges) (wrong y smudges c) error S U
          refl w.length_sums w.stops (Places.point_different m L n d) (Places.point_nonzero m L n)
          (λ t k. Places.error_sums m L n (length sums) y c yc lab t k (S t) (ps t k ∙ ap (λ j. power_sum m j y (suc t)) yl))
          multiplier_short equations
          (λ i k f u. Places.error_zero m L n (length sums) y c yc lab i (clear y smudges c i f u))
          (omega (arith, subst (λ k. 2 * count k (wrong y smudges c) + count k (marked smudges) ≤ length sums) yl near.reach, w.goes_on, w.length_sums))
          p l g (λ z. eqb-false (at y p) (at c p) (not-true _ h) (Places.error_same m L n (length sums) y c yc lab p z))))

-- the suspects that are marked by the multiplier
pub all_suspects :
    (m : Meaning) (L : Lawful m) (n D stop : ℕ) (points smudges sums row multiplier : List ℕ) (small : ℕ → ℕ)
    → Worked m L n D stop points smudges sums row multiplier small → length smudges ≡ n
    → (suspects : List ℕ) → ((p : ℕ) → p < length points → marked suspects p ≡ suspect m points smudges multiplier p)
    → Suspects m smudges sums suspects
all_suspects m L n D stop points smudges sums row multiplier small w e suspects h = record {
  smudged = λ p l f. h p (omega (arith, e, w.length_points)) ∙ ap (λ b. cond b true (eqb (value_at m.codes (length multiplier) (at multiplier) (at points p)) m.codes.zero)) f;
  few = λ d.
      subst (λ k. count k (marked suspects) ≤ length sums) (sym e)
      (subst (λ k. k ≤ length sums) (sym (count_same n (marked suspects) (suspect m points smudges multiplier) (λ p l. h p (omega (arith, w.length_points)))))
      (few m L n D stop points smudges sums row multiplier small w (subst (Different m) e d)));
  located = λ d y c yl yc ps near p l f.
      h p (omega (arith, e, w.length_points))
      ∙ located m L n D stop points smudges sums row multiplier small w (subst (Different m) e d) y c (yl ∙ e) yc ps near p (omega (arith, e)) f;
}
