-- The reach of a reading and that of the rows that its cells were written into, and that one label at most is within reach.
use Rattle.std.proofs.Common.{◌≡◌, ℕ, zero, suc, ◌+◌, ◌-◌, ◌*◌, ◌<◌, ◌≤◌, false, cond, not, eqb, List, length, get_or, Some, None, Option, sym, refl, ap, ◌∙◌, subst, ap₂, arith}
use Rattle.std.proofs.lemmas.Bool.Decides.{nat_tests}
use Rattle.algebra.specs.Counts.{count}
use Rattle.algebra.proofs.Counts.{count_same}
use Rattle.arithmetic.specs.Meaning.{Meaning, Lawful, Codes}
use Rattle.label.specs.Labels.{Different, Label, differences, door, power_sum}
use Rattle.label.proofs.Apart.{apart}
use Rattle.reading.specs.declared.cell.Cell.{Cell}
use Rattle.reading.specs.declared.cell.Cell.TheVariants.{Code, Smudge}
use Rattle.reading.specs.declared.reader.Found.{Found}
use Rattle.reading.specs.declared.refusal.Refusal.TheVariants.{NoLabel}
use Rattle.reading.specs.Answers.{NotRead, Reads, Ready, WellFormed}
use Rattle.reading.specs.Readings.{Shown}
use Rattle.reading.specs.Reach.{InReach, is_smudge, is_wrong, misread, smudges}
use Rattle.reading.specs.Working.{Near, Opened, PowerSums, Taken, at, marked, wrong}

taken_smudge : (c : Option Cell) (y f : ℕ) → Taken c y f → is_smudge c ≡ not (eqb f 0)
taken_smudge None y f h = absurd h
taken_smudge (Some (Code c)) y f h = ap (λ f. not (eqb f 0)) (sym h.1)
taken_smudge (Some Smudge) y f h = ap (λ f. not (eqb f 0)) (sym h.1)

taken_wrong : (c : Option Cell) (y f a : ℕ) → Taken c y f → is_wrong c a ≡ cond (not (eqb f 0)) false (not (eqb y a))
taken_wrong None y f a h = absurd h
taken_wrong (Some (Code c)) y f a h = ap₂ (λ y f. cond (not (eqb f 0)) false (not (eqb y a))) (sym h.0) (sym h.1)
taken_wrong (Some Smudge) y f a h = ap (λ f. cond (not (eqb f 0)) false (not (eqb y a))) (sym h.1)

one_place : (c : Option Cell) (a b : ℕ) → (c ≡ None → ⊥) → cond (eqb a b) 0 1 ≤ cond (is_smudge c) 1 0 + cond (is_wrong c a) 1 0 + cond (is_wrong c b) 1 0
one_place None a b h = absurd (h refl)
one_place (Some (Code c)) a b h = grind (arith, nat_tests)
one_place (Some Smudge) a b h = grind (arith, nat_tests)

-- two rows differ only where a reading is smudged or is not what one of them has
differences_few :
    (q n : ℕ) (s : Shown) → ((p : ℕ) → p < n → s.cell q p ≡ None → ⊥) → (a b : List ℕ)
    → differences n a b ≤ smudges q n s + misread q n s a + misread q n s b
differences_few q zero s h a b = omega arith
differences_few q (suc n) s h a b =
    omega (arith, differences_few q n s (λ p l. h p (omega arith)) a b, one_place (s.cell q n) (get_or a n 0) (get_or b n 0) (h n (omega arith)))

-- two labels within reach are the same
pub one_label :
    (m : Meaning) (L : Lawful m) (n r : ℕ) (s : Shown) → Different m n → ((p : ℕ) → p < n → s.cell m.size p ≡ None → ⊥)
    → (a b : List ℕ) → Label m n r a → InReach m.size n r s a → Label m n r b → InReach m.size n r s b → a ≡ b
one_label m L n r s d h a b la ra lb rb = apart m L n r d a b la lb (omega (arith, differences_few m.size n s h a b, ra, rb))

-- a row differs nowhere from itself
wrong_itself : (n : ℕ) (cells marks : List ℕ) → 0 ≡ count n (wrong cells marks cells)
wrong_itself zero cells marks = refl
wrong_itself (suc n) cells marks = let h = wrong_itself n cells marks in grind (arith, nat_tests)

-- cells without a smudge whose power sums are zero are a label themselves
pub clean :
    (m : Meaning) (n r : ℕ) (cells marks sums row : List ℕ) → row ≡ cells → length cells ≡ n → Codes m cells → length sums ≡ r → PowerSums m cells sums
    → ((t : ℕ) → t < length sums → at sums t ≡ m.codes.zero) → count n (marked marks) ≡ 0
    → (0 ≡ count n (wrong cells marks row)) × Near m r cells marks row
clean m n r cells marks sums row same e codes long ps zeros none =
    subst (λ row. (0 ≡ count n (wrong cells marks row)) × Near m r cells marks row) (sym same) (
      wrong_itself n cells marks,
      record {
        label = record {
          long = refl;
          codes = codes;
          zeros = λ j one most.
              let j' : suc (j - 1) ≡ j = omega arith in
              ap (power_sum m (length cells) cells) (sym j') ∙ sym (ps (j - 1) (omega arith)) ∙ zeros (j - 1) (omega arith);
        };
        reach = subst (λ k. 2 * count k (wrong cells marks cells) + count k (marked marks) ≤ r) (sym e) (omega (arith, wrong_itself n cells marks, none));
      },
    )

-- What is known of a reading whose cells were taken.
pub record Known (m : Meaning) (n : ℕ) (s : Shown) (worksheet row : ℕ) (cells marks : List ℕ) : Type 0 where
  pub ready : Ready m.size n s worksheet row
  pub length_cells : length cells ≡ n
  pub opened : Opened m.size s cells marks

module _ (m : Meaning) (n : ℕ) (s : Shown) (worksheet len : ℕ) (cells marks : List ℕ) (w : Known m n s worksheet len cells marks) where
  taken : (p : ℕ) → p < n → Taken (s.cell m.size p) (at cells p) (at marks p)
  taken p l = w.opened p (omega (arith, w.length_cells))

  pub smudges_are : smudges m.size n s ≡ count n (marked marks)
  smudges_are = count_same n _ _ (λ p l. taken_smudge (s.cell m.size p) (at cells p) (at marks p) (taken p l))

  pub misread_are : (row : List ℕ) → misread m.size n s row ≡ count n (wrong cells marks row)
  misread_are row = count_same n _ _ (λ p l. taken_wrong (s.cell m.size p) (at cells p) (at marks p) (at row p) (taken p l))

  -- each place has a cell
  pub each_cell : (p : ℕ) → p < n → s.cell m.size p ≡ None → ⊥
  each_cell p l none = subst (λ c. Taken c (at cells p) (at marks p)) none (taken p l)

  -- a label is within reach of the reading where it is within reach of the rows
  pub reach_of_near : (r : ℕ) (row : List ℕ) → Near m r cells marks row → InReach m.size n r s row
  reach_of_near r row near =
      omega (arith, smudges_are, misread_are row, subst (λ k. 2 * count k (wrong cells marks row) + count k (marked marks) ≤ r) w.length_cells near.reach)

  pub near_of_reach : (r : ℕ) (row : List ℕ) → Label m n r row → InReach m.size n r s row → Near m r cells marks row
  near_of_reach r row lab reach = record {
    label = subst (λ k. Label m k r row) (sym w.length_cells) lab;
    reach = subst (λ k. 2 * count k (wrong cells marks row) + count k (marked marks) ≤ r) (sym w.length_cells) (omega (arith, smudges_are, misread_are row, reach));
  }

  pub well_formed : WellFormed m.size n s worksheet len
  well_formed = record { ready = w.ready; cells = each_cell }

  -- it is refused by 16 where no label is near its cells
  pub not_read : (k : ℕ) → ((label : List ℕ) → Near m (n - k) cells marks label → ⊥) → NotRead m n k s worksheet len NoLabel
  not_read k none = record {
    before = record {
      no_text = λ t. absurd (w.ready.readable t);
      short = λ t l. absurd (omega (arith, w.ready.enough));
      misfits = λ t l d. absurd (d w.ready.fits);
      other_count = λ t l e d. absurd (d w.ready.long);
    };
    no_cell = λ ready p g first. absurd (each_cell p g first.0);
    none = λ formed. ((refl, refl), λ label lab reach. none label (near_of_reach (n - k) label lab reach));
  }

  -- it is answered by the label that is near its cells
  pub answered :
      (L : Lawful m) (k : ℕ) → Different m n → (row : List ℕ) (f : Found) → Near m (n - k) cells marks row
      → f.misread ≡ count n (wrong cells marks row) → f.door ≡ door m.size k row → f.smudges ≡ count n (marked marks) → Reads m n k s row f
  answered L k different row f near v d c =
      let lab : Label m n (n - k) row = subst (λ j. Label m j (n - k) row) w.length_cells near.label in
      let reach = reach_of_near (n - k) row near in
      record {
        label = lab;
        reach = reach;
        only = λ other lab' reach'. one_label m L n (n - k) s different each_cell other row lab' reach' lab reach;
        its_door = d;
        its_misread = v ∙ sym (misread_are row);
        its_smudges = c ∙ sym smudges_are;
      }
