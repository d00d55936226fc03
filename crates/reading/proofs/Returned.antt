-- A label that is read back as it was printed.
use Rattle.std.proofs.Common.{◌≡◌, ℕ, zero, suc, ◌-◌, ◌<◌, ◌≤◌, List, length, get_or, Some, None, Ok, Err, Result, sym, refl, ap, ◌∙◌, subst, arith, MatchResult}
use Rattle.std.proofs.lemmas.Bool.{both_ways}
use Rattle.std.proofs.lemmas.Bool.Decides.{nat_tests}
use Rattle.arithmetic.specs.Meaning.{Meaning, Lawful, Codes}
use Rattle.label.specs.Labels.{LabelOf, Spelled, character, door}
use Rattle.reading.specs.declared.cell.Cell.TheVariants.{Code}
use Rattle.reading.specs.declared.reader.Found.{Found}
use Rattle.reading.specs.declared.refusal.Refusal.{Refusal}
use Rattle.reading.specs.Answers.{NoText, NotRead, ReadBack, Reads, WellFormed, clean}
use Rattle.reading.specs.Reach.{InReach, misread, smudges}
use Rattle.reading.specs.Readings.{Shown, scanned, typed}
use Rattle.reading.proofs.Characters.{code_of_character}

-- a reading shows a row of codes
Shows : ℕ → Shown → List ℕ → Type 0
Shows q s label = (p : ℕ) → p < length label → s.cell q p ≡ Some (Code (get_or label p 0))

no_smudge : (q n : ℕ) (s : Shown) (label : List ℕ) → n ≤ length label → Shows q s label → smudges q n s ≡ 0
unfolding Shows
no_smudge q zero s label l h = refl
no_smudge q (suc n) s label l h = let here = h n (omega arith) in let rest = no_smudge q n s label (omega arith) h in grind (arith, nat_tests)

not_wrong : (q n : ℕ) (s : Shown) (label : List ℕ) → n ≤ length label → Shows q s label → misread q n s label ≡ 0
unfolding Shows
not_wrong q zero s label l h = refl
not_wrong q (suc n) s label l h = let here = h n (omega arith) in let rest = not_wrong q n s label (omega arith) h in grind (arith, nat_tests)

found-clean : (f : Found) (d : ℕ) → f.door ≡ d → f.misread ≡ 0 → f.smudges ≡ 0 → f ≡ clean d
found-clean f d a b c i = record { door = a i; misread = b i; smudges = c i }

-- a row of codes, as a scan
scan_shows : (m : Meaning) → Lawful m → (label : List ℕ) → Codes m label → Shows m.size (scanned label) label
unfolding Shows
scan_shows m L label codes p l = let low = codes p l in grind (arith, nat_tests, L.most)

-- no character is a question mark
no_mark : (c : ℕ) → character c ≡ 63 → ⊥
no_mark c = grind (arith, nat_tests)

-- the text of a row of codes, typed in
text_shows : (m : Meaning) → Lawful m → m.size ≤ 64 → (label text : List ℕ) → Codes m label → Spelled label text → Shows m.size (typed text) label
unfolding Shows
text_shows m L few label text codes spelled p l =
    let c = get_or label p 0 in
    let same = spelled.1 p l in
    let mark = no_mark c in
    let code = code_of_character m.size c few (codes p l) in
    grind (arith, nat_tests, spelled.0)

shown_cells : (m : Meaning) (n : ℕ) (s : Shown) (label : List ℕ) → length label ≡ n → Shows m.size s label → (p : ℕ) → p < n → s.cell m.size p ≡ None → ⊥
unfolding Shows
shown_cells m n s label e h p l none = let shown = h p (omega (arith, e)) in cc

module _ (m : Meaning) (n k : ℕ) (s : Shown) (worksheet len : ℕ) (r : Result Found Refusal) (row : List ℕ)
    (h : MatchResult r (λ f. WellFormed m.size n s worksheet len × Reads m n k s row f) (NotRead m n k s worksheet len)) where
  -- a reading that can be taken, and shows the label of a door
  returned :
      (d : ℕ) (label : List ℕ) → LabelOf m n k d label → (NoText m.size s → ⊥) → s.pieces ≡ length label → Shows m.size s label → 1024 ≤ worksheet → len ≡ n
      → (r ≡ Ok (clean d)) × (row ≡ label)
  returned d label of readable long shows enough fits = back r h
    where
      e : length label ≡ n
      e = of.label.long

      formed : WellFormed m.size n s worksheet len
      formed = record {
        ready = record { readable = readable; enough = enough; fits = fits; long = long ∙ e };
        cells = shown_cells m n s label e shows;
      }

      none-wrong : misread m.size n s label ≡ 0
      none-wrong = not_wrong m.size n s label (omega (arith, e)) shows

      none_smudged : smudges m.size n s ≡ 0
      none_smudged = no_smudge m.size n s label (omega (arith, e)) shows

      reach : InReach m.size n (n - k) s label
      reach = omega (arith, none_smudged, none-wrong)

      back : (r : Result Found Refusal) → MatchResult r (λ f. WellFormed m.size n s worksheet len × Reads m n k s row f) (NotRead m n k s worksheet len)
          → (r ≡ Ok (clean d)) × (row ≡ label)
      back (Err e) h = absurd ((h.none formed).1 label of.label reach)
      back (Ok f) h =
          let same : label ≡ row = h.1.only label of.label reach in (
            ap Ok (found-clean f d (h.1.its_door ∙ ap (door m.size k) (sym same) ∙ of.its_door)
                (h.1.its_misread ∙ ap (misread m.size n s) (sym same) ∙ none-wrong) (h.1.its_smudges ∙ none_smudged)),
            sym same,
          )

  pub read_back : Lawful m → ReadBack m n k s worksheet len r row
  read_back L = record {
    codes = λ d label of e.
        returned d label of (λ t. both_ways s.text (ap (λ s. s.text) e) t.0) (ap (λ s. s.pieces) e)
        (subst (λ s. Shows m.size s label) (sym e) (scan_shows m L label of.label.codes));
    text = λ d label characters of few spelled e.
        returned d label of (λ t. absurd (omega (arith, few, t.1))) (ap (λ s. s.pieces) e ∙ spelled.0)
        (subst (λ s. Shows m.size s label) (sym e) (text_shows m L few label characters of.label.codes spelled));
  }
