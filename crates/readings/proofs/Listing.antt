-- Bytes that list pieces, split at their spaces.
use Rattle.std.proofs.Common.{◌≡◌, ℕ, ◌<◌, Bool, true, false, cond, eqb, MatchBool, List, [], ◌∷◌, ◌++◌, length, get_or, take, sym, refl, ap, ◌∙◌, subst, inl, inr, append_assoc, append-nil, arith, length-append}
use Rattle.std.specs.List.{All, AllZip, IsFirstMatchOrLen, join_with_byte, slice_split}
use Rattle.std.proofs.lemmas.Bool.Decides.{nat_tests}
use Rattle.std.proofs.lemmas.List.{get_or_at, get_or_append_left}
use Rattle.std.proofs.lemmas.List.Elements.{All-cons, All-nil, All-from_get_or}
use Rattle.std.proofs.lemmas.List.Splits.{join_with_byte-slice_split, length-slice_split, slice_split_at, slice_split_none}
use Rattle.readings.specs.Pieces.{Listed, Piece}

abbrev pub is_space : ℕ → Bool
is_space b = eqb b 32

-- the parts that a split at spaces has left: those of the rest, or none where it is done
abbrev pub left : Bool → List ℕ → List (List ℕ)
left done rest = cond done [] (slice_split is_space rest)

left_more : (done after : Bool) (rest part behind : List ℕ) → done ≡ false
    → MatchBool after (rest ≡ part) ((x : ℕ) × (rest ≡ part ++ x ∷ behind)) → IsFirstMatchOrLen is_space rest (length part)
    → left done rest ≡ part ∷ left after behind
left_more done true rest part behind d whole first =
    rw (d, whole) (slice_split_none is_space part (λ k e h. subst (λ z. is_space (get_or z k e) ≡ false) whole (first.0 k e (omega arith) h)))
left_more done false rest part behind d (x, whole) first =
    let before : All (λ b. is_space b ≡ false) part =
    λ k e h. subst (λ b. is_space b ≡ false) (ap (λ z. get_or z k e) whole ∙ get_or_append_left part (x ∷ behind) e k h) (first.0 k e (omega arith) h) in
    let here : is_space x ≡ true =
    subst (λ b. is_space b ≡ true) (ap (λ z. get_or z (length part) 0) whole ∙ get_or_at part x behind 0 (length part) refl) (first.1 (omega (arith, simp length-append at (ap length whole))) 0) in
    rw (d, whole) (slice_split_at is_space part x behind before here)

-- no space stands in a piece
piece_without : (bytes : List ℕ) (n : ℕ) → Piece bytes n → All (λ b. is_space b ≡ false) bytes
piece_without bytes n (inl one) =
    All-from_get_or (λ b. is_space b ≡ false) bytes 0 (λ k h. let digit = one.numeral.digits k h in grind (arith, nat_tests))
piece_without bytes n (inr mark) = rw mark.0 (All-cons (λ b. is_space b ≡ false) 63 [] refl (All-nil _))

-- the parts of bytes that list pieces are these pieces
pub listed_parts : (bytes numbers : List ℕ) → Listed bytes numbers → AllZip Piece (slice_split is_space bytes) numbers
listed_parts bytes [] listed = absurd listed
listed_parts bytes (n ∷ []) listed = rw (slice_split_none is_space bytes (piece_without bytes n listed)) (listed, tt)
listed_parts bytes (n ∷ (m ∷ numbers)) (x, y, whole, piece, more) =
    rw (whole, slice_split_at is_space x 32 y (piece_without x n piece) refl) (piece, listed_parts y (m ∷ numbers) more)

joined : (parts : List (List ℕ)) (numbers : List ℕ) → 0 < length parts → AllZip Piece parts numbers → Listed (join_with_byte 32 parts) numbers
joined [] numbers some all = absurd (omega (arith, some))
joined (x ∷ []) [] some all = absurd all
joined (x ∷ []) (n ∷ []) some all = all.0
joined (x ∷ []) (n ∷ (m ∷ numbers)) some all = absurd all.1
joined (x ∷ (y ∷ parts)) [] some all = absurd all
joined (x ∷ (y ∷ parts)) (n ∷ []) some all = absurd all.1
joined (x ∷ (y ∷ parts)) (n ∷ (m ∷ numbers)) some all =
    (x, join_with_byte 32 (y ∷ parts), refl, all.0, joined (y ∷ parts) (m ∷ numbers) (omega arith) all.1)

-- bytes whose parts are pieces list these
pub parts_listed : (bytes numbers : List ℕ) → AllZip Piece (slice_split is_space bytes) numbers → Listed bytes numbers
parts_listed bytes numbers all =
    subst (λ z. Listed z numbers) (join_with_byte-slice_split 32 bytes)
    (joined (slice_split is_space bytes) numbers (omega (arith, length-slice_split is_space bytes)) all)

-- what is held is the first 65 of some numbers; the bytes list these and then what the parts that are left list, and list
-- nothing where these do not
pub record Begun (bytes : List ℕ) (parts : List (List ℕ)) (held : List ℕ) : Type 0 where
  pub numbers : List ℕ
  pub holds : held ≡ take 65 numbers
  pub joins : (more : List ℕ) → AllZip Piece parts more → Listed bytes (numbers ++ more)
  pub splits : (all : List ℕ) → Listed bytes all → (more : List ℕ) × AllZip Piece parts more

pub begun : (bytes rest held : List ℕ) (done : Bool) → done ≡ false → rest ≡ bytes → held ≡ [] → Begun bytes (left done rest) held
begun bytes rest held done d r h =
    rw (d, r, h) (record { numbers = []; holds = refl; joins = parts_listed bytes; splits = λ all listed. (all, listed_parts bytes all listed) })

-- the next part of a split is the first that is left
pub begun_here : (bytes held : List ℕ) (done after : Bool) (rest part behind : List ℕ) → Begun bytes (left done rest) held → done ≡ false
    → MatchBool after (rest ≡ part) ((x : ℕ) × (rest ≡ part ++ x ∷ behind)) → IsFirstMatchOrLen is_space rest (length part)
    → Begun bytes (part ∷ left after behind) held
begun_here bytes held done after rest part behind b d whole first =
    subst (λ parts. Begun bytes parts held) (left_more done after rest part behind d whole first) b

-- the first of parts that are pieces, and the others
first_part : (part : List ℕ) (parts : List (List ℕ)) (numbers : List ℕ) → AllZip Piece (part ∷ parts) numbers
    → ((n : ℕ) × Piece part n) × ((more : List ℕ) × AllZip Piece parts more)
first_part part parts [] all = absurd all
first_part part parts (n ∷ numbers) all = ((n, all.0), (numbers, all.1))

pub begun_more : (bytes part held after : List ℕ) (parts : List (List ℕ)) (n : ℕ) → Begun bytes (part ∷ parts) held → Piece part n
    → ((numbers : List ℕ) → held ≡ take 65 numbers → after ≡ take 65 (numbers ++ n ∷ [])) → Begun bytes parts after
begun_more bytes part held after parts n b piece adds =
    record {
      numbers = b.numbers ++ n ∷ [];
      holds = adds b.numbers b.holds;
      joins = λ more all. subst (Listed bytes) (sym (append_assoc b.numbers (n ∷ []) more)) (b.joins (n ∷ more) (piece, all));
      splits = λ all listed. let some = b.splits all listed in (first_part part parts some.0 some.1).1;
    }

-- where the first part that is left is no piece, the bytes list nothing
pub begun_wrong : (bytes part held : List ℕ) (parts : List (List ℕ)) → Begun bytes (part ∷ parts) held → ((n : ℕ) → Piece part n → ⊥)
    → (numbers : List ℕ) → Listed bytes numbers → ⊥
begun_wrong bytes part held parts b wrong numbers listed =
    let some = b.splits numbers listed in
    let first = (first_part part parts some.0 some.1).0 in
    wrong first.0 first.1

-- where no part is left, the bytes list the numbers of which the first 65 are held
pub begun_all : (bytes rest held : List ℕ) (done : Bool) → Begun bytes (left done rest) held → done ≡ true
    → (numbers : List ℕ) × Listed bytes numbers × (held ≡ take 65 numbers)
begun_all bytes rest held done b d =
    let all = subst (λ done. Begun bytes (left done rest) held) d b in
    (all.numbers, subst (Listed bytes) (append-nil all.numbers) (all.joins [] tt), all.holds)
