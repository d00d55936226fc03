-- The characters of the codes below 64 are different, so that a character has one code.
use Rattle.std.proofs.Common.{◌≡◌, ℕ, zero, suc, ◌-◌, ◌<◌, ◌≤◌, cond, eqb, ltb, Some, None, sym, refl, ap, ◌∙◌, arith, eq-eqb}
use Rattle.std.specs.Bool.{then_some}
use native.Mathlib.Decide.{dec_lt}
use Rattle.std.proofs.lemmas.Bool.Decides.{nat_tests}
use Rattle.label.specs.Labels.{character}
use Rattle.reading.specs.declared.cell.Cell.TheVariants.{Code}
use Rattle.reading.specs.Readings.{code_with}

-- the code of a character
abbrev decoded : ℕ → ℕ
decoded b = cond (eqb b 43) 63 (cond (eqb b 45) 36 (cond (ltb b 58) (b - 48) (cond (ltb b 91) (b - 55) (b - 60))))

decoded_character : (c : ℕ) → c < 64 → decoded (character c) ≡ c
decoded_character c l = grind (arith, nat_tests)

pub character_once : (a b : ℕ) → a < 64 → b < 64 → character a ≡ character b → a ≡ b
character_once a b l h e = sym (decoded_character a l) ∙ ap decoded e ∙ decoded_character b h

-- a character of no code below q gives no code
pub code-none : (q b : ℕ) → ((c : ℕ) → c < q → character c ≡ b → ⊥) → code_with q b ≡ None
code-none zero b h = refl
code-none (suc c) b h = let other = h c (omega arith) in let rest = code-none c b (λ i l. h i (omega arith)) in grind (arith, nat_tests)

-- the character of a code below q gives this code
pub code-some : (q c b : ℕ) → q ≤ 64 → c < q → character c ≡ b → code_with q b ≡ Some (Code c)
code-some zero c b most l e = absurd (omega arith)
code-some (suc d) c b most l e = at (dec_lt c d) (λ below. code-some d c b (omega arith) below e)
  where
    at : Dec (c < d) → (c < d → code_with d b ≡ Some (Code c)) → code_with (suc d) b ≡ Some (Code c)
    at (yes below) before =
        let other : character d ≡ b → ⊥ = λ f. let g : d ≡ c = character_once d c (omega arith) (omega arith) (f ∙ sym e) in omega arith in
        let rest = before below in
        grind (arith, nat_tests)
    at (no above) before =
        let same : c ≡ d = omega arith in
        ap (λ t. cond t (Some (Code d)) (code_with d b)) (eq-eqb (character d) b (ap character (sym same) ∙ e)) ∙ ap (λ i. Some (Code i)) (sym same)

pub code_of_character : (q c : ℕ) → q ≤ 64 → c < q → code_with q (character c) ≡ Some (Code c)
code_of_character q c most l = code-some q c (character c) most l refl

-- the code of a character, where it is below q
pub code-found : (q c b : ℕ) → q ≤ 64 → c < 64 → character c ≡ b → then_some (ltb c q) (Code c) ≡ code_with q b
code-found q c b most l e = at (dec_lt c q)
  where
    at : Dec (c < q) → then_some (ltb c q) (Code c) ≡ code_with q b
    at (yes below) = let known = code-some q c b most below e in grind (arith, nat_tests)
    at (no above) =
        let known = code-none q b (λ i h f. let same : i ≡ c = character_once i c (omega arith) l (f ∙ sym e) in omega arith) in
        grind (arith, nat_tests)
