-- What the proof of `reader::door_number` leaves to be shown.
use Rattle.std.proofs.Common.{◌≡◌, ℕ, zero, suc, ◌+◌, ◌*◌, ◌%◌, ◌^◌, ◌<◌, ◌≤◌, List, length, get_or, take, fold, sym, refl, ap, ◌∙◌, ap₂, rules, mul-le-mul_right, mod-eq_of_lt, suc-mul, pow-suc, arith, add-one}
use native.Mathlib.Nat.{mod-add-mod, pow-zero}
use Rattle.std.proofs.iter.runs.Made.{chains}
use Rattle.std.proofs.lemmas.List.Sums.{fold_more}
use Rattle.algebra.proofs.Residues.{mod_mul}
use Rattle.arithmetic.specs.Meaning.{Meaning, Lawful, Codes}
use Rattle.label.specs.Labels.{door}
use Rattle.label.proofs.Apart.{code_in}
use Rattle.reading.proofs.reader.door_number.Goals as goal

-- one place more, modulo 2^32
abbrev next : ℕ → ℕ → ℕ → ℕ
next q d c = ((d * q) % 2 ^ 32 + c) % 2 ^ 32

folded : (q k : ℕ) (row : List ℕ) → k ≤ length row → fold (next q) 0 (take k row) ≡ door q k row % 2 ^ 32
folded q zero row l = refl
folded q (suc k) row l =
    let d = door q k row in
    let c = get_or row k 0 in
    let within : k < length row = omega arith in
    ap (λ (j : ℕ). fold (next q) 0 (take j row)) (sym (add-one k)) ∙ fold_more (next q) 0 row k 0 within
    ∙ ap (λ (x : ℕ). next q x c) (folded q k row (omega arith))
    ∙ ap (λ (x : ℕ). (x + c) % 2 ^ 32) (mod_mul d q (2 ^ 32)) ∙ mod-add-mod (d * q) (2 ^ 32) c

door_below : (m : Meaning) → Lawful m → (k : ℕ) (row : List ℕ) → Codes m row → door m.size k row < m.size ^ k
door_below m L zero row c = omega (arith, pow-zero m.size)
door_below m L (suc k) row c =
    let q = m.size in
    let d = door q k row in
    let step : suc d * q ≤ q ^ k * q = mul-le-mul_right q (door_below m L k row c) in
    omega (arith, code_in m L row c k, step, suc-mul d q, pow-suc q k)

pub returns : goal.returns
returns g c =
    let meaning = g.A.Arithmetic.meaning in
    let scheme = c.args.scheme.now in
    let m = meaning scheme.arithmetic in
    let is = scheme.is_scheme in
    let label = c.args.label.now in
    let sized : c.size-q.result ≡ m.size = c.size-q.ensures ∙ ap (λ a. (meaning a).size) c.arithmetic.ensures in
    let made : c.fold.result ≡ fold (next c.size-q.result) 0 (take c.door_characters.result label) = search (rules, chains) in
    made ∙ ap₂ (λ q k. fold (next q) 0 (take k label)) sized c.door_characters.ensures
    ∙ folded m.size scheme.k label (omega (arith, is.counts, c.requires.long))
    ∙ mod-eq_of_lt (omega (arith, door_below m (g.met.A.Arithmetic.lawful scheme.arithmetic) scheme.k label c.requires.codes, is.number_of_doors, is.few))
