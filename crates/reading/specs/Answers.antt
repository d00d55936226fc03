-- What a reading is answered, and why it is refused.
use Rattle.std.specs.Prelude.{◌≡◌, ℕ, ◌-◌, ◌<◌, ◌≤◌, true, List, None, Ok, Result, ◌≢◌}
use Rattle.arithmetic.specs.Meaning.{Meaning}
use Rattle.label.specs.Labels.{Label, LabelOf, Spelled, door}
use Rattle.reading.specs.declared.refusal.Refusal.{Refusal}
use Rattle.reading.specs.declared.reader.Found.{Found}
use Rattle.reading.specs.Readings.{Shown, scanned, typed}
use Rattle.reading.specs.Reach.{InReach, misread, smudges}
use Rattle.reading.specs.Refusals.{Refused}

-- text is shown, and the arithmetic has more than 64 elements
abbrev pub NoText : ℕ → Shown → Type 0
NoText q s = (s.text ≡ true) × (64 < q)

-- the first place with no cell is p
abbrev pub FirstWithout : ℕ → Shown → ℕ → Type 0
FirstWithout q s p = (s.cell q p ≡ None) × ((i : ℕ) → i < p → s.cell q i ≢ None)

-- What is asked of a reading of labels of n places over q elements before its cells are, and of the lengths of worksheet and row.
pub record Ready (q n : ℕ) (s : Shown) (worksheet row : ℕ) : Type 0 where
  pub readable : NoText q s → ⊥
  pub enough : 1024 ≤ worksheet
  pub fits : row ≡ n
  pub long : s.pieces ≡ n

-- A reading is well formed, with a worksheet and a result row of these lengths.
pub record WellFormed (q n : ℕ) (s : Shown) (worksheet row : ℕ) : Type 0 where
  pub ready : Ready q n s worksheet row
  pub cells : (p : ℕ) → p < n → s.cell q p ≢ None

-- What is read: the row is the one label within reach, and its door, v and s are answered.
pub record Reads (m : Meaning) (n k : ℕ) (s : Shown) (row : List ℕ) (f : Found) : Type 0 where
  pub label : Label m n (n - k) row
  pub reach : InReach m.size n (n - k) s row
  pub only : (other : List ℕ) → Label m n (n - k) other → InReach m.size n (n - k) s other → other ≡ row
  pub its_door : f.door ≡ door m.size k row
  pub its_misread : f.misread ≡ misread m.size n s row
  pub its_smudges : f.smudges ≡ smudges m.size n s

-- no label is within reach
abbrev pub NoneInReach : Meaning → ℕ → ℕ → Shown → Type 0
NoneInReach m n r s = (row : List ℕ) → Label m n r row → InReach m.size n r s row → ⊥

-- Why a reading is refused before its cells are looked at: 11 for text where there is none, then 12 for a worksheet of fewer than
-- 1,024 numbers, then 13 for a row that is not n long, then 14 for a reading that has not n pieces.
pub record NotReady (q n : ℕ) (s : Shown) (worksheet row : ℕ) (e : Refusal) : Type 0 where
  pub no_text : NoText q s → Refused e 11 0
  pub short : (NoText q s → ⊥) → worksheet < 1024 → Refused e 12 0
  pub misfits : (NoText q s → ⊥) → 1024 ≤ worksheet → (row ≢ n) → Refused e 13 0
  pub other_count : (NoText q s → ⊥) → 1024 ≤ worksheet → row ≡ n → (s.pieces ≢ n) → Refused e 14 0

-- Why a reading is refused: as above, then 15 at the first place without a cell, then 16 where no label is within reach.
pub record NotRead (m : Meaning) (n k : ℕ) (s : Shown) (worksheet row : ℕ) (e : Refusal) : Type 0 where
  pub before : NotReady m.size n s worksheet row e
  pub no_cell : Ready m.size n s worksheet row → (p : ℕ) → p < n → FirstWithout m.size s p → Refused e 15 p
  pub none : WellFormed m.size n s worksheet row → Refused e 16 0 × NoneInReach m n (n - k) s

-- the door d, read clean
abbrev pub clean : ℕ → Found
clean d = record { door = d; misread = 0; smudges = 0 }

-- A label of a door that is read back as it was printed, as codes by a scan and as text by a typed entry: the answer is the door,
-- read clean, and the row is the label.
pub record ReadBack (m : Meaning) (n k : ℕ) (s : Shown) (worksheet len : ℕ) (r : Result Found Refusal) (row : List ℕ) : Type 0 where
  pub codes :
      (d : ℕ) (label : List ℕ) → LabelOf m n k d label → s ≡ scanned label → 1024 ≤ worksheet → len ≡ n
      → (r ≡ Ok (clean d)) × (row ≡ label)
  pub text :
      (d : ℕ) (label characters : List ℕ) → LabelOf m n k d label → m.size ≤ 64 → Spelled label characters → s ≡ typed characters → 1024 ≤ worksheet → len ≡ n
      → (r ≡ Ok (clean d)) × (row ≡ label)
