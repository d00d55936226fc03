-- Labels, their doors and their characters.
-- n is a label's length, k how many of its places are the door's, and r = n - k how many are check characters.
use Rattle.std.specs.Prelude.{◌≡◌, ℕ, zero, suc, ◌+◌, ◌-◌, ◌*◌, ◌/◌, ◌%◌, ◌^◌, ◌<◌, ◌≤◌, cond, List, length, ◌==◌, ◌≢◌, nat_lt, slice_index}
use Rattle.algebra.specs.Polynomials.{pow, sums}
use Rattle.arithmetic.specs.Meaning.{Meaning, Codes}

-- the code c_i of a row of n codes: place p, counted from 0 at the left, holds c_(n-1-p)
abbrev pub code : ℕ → List ℕ → ℕ → ℕ
code n row i = slice_index row (n - 1 - i)

-- the sum over i below n of c_i times g^(i j)
abbrev pub power_sum : Meaning → ℕ → List ℕ → ℕ → ℕ
power_sum m n row j = sums m.codes n (λ i. m.codes.prod (code n row i) (pow m.codes m.step (i * j)))

-- A row of n codes is a label when its power sums 1 to r are zero.
pub record Label (m : Meaning) (n r : ℕ) (row : List ℕ) : Type 0 where
  pub long : length row ≡ n
  pub codes : Codes m row
  pub zeros : (j : ℕ) → 1 ≤ j → j ≤ r → power_sum m n row j ≡ m.codes.zero

-- the number in base q that the first k places of a row are, the highest first
abbrev pub door : ℕ → ℕ → List ℕ → ℕ
door q zero row = 0
door q (suc k) row = door q k row * q + slice_index row k

-- the digit at place p of the k digits of d in base q, the highest first
abbrev pub digit : ℕ → ℕ → ℕ → ℕ → ℕ
digit q k d p = (d / q ^ (k - 1 - p)) % q

-- the powers g^0 to g^(n-1) are all different
abbrev pub Different : Meaning → ℕ → Type 0
Different m n = (i j : ℕ) → i < j → j < n → pow m.codes m.step i ≢ pow m.codes m.step j

-- in how many of the first n places two rows differ
abbrev pub differences : ℕ → List ℕ → List ℕ → ℕ
differences zero a b = 0
differences (suc n) a b = differences n a b + cond (slice_index a n == slice_index b n) 0 1

-- two labels that differ in at most r places are equal
abbrev pub Apart : Meaning → ℕ → ℕ → Type 0
Apart m n r = (a b : List ℕ) → Label m n r a → Label m n r b → differences n a b ≤ r → a ≡ b

-- a row is the only label of a door
pub record LabelOf (m : Meaning) (n k d : ℕ) (row : List ℕ) : Type 0 where
  pub label : Label m n (n - k) row
  pub its_door : door m.size k row ≡ d
  pub only : (other : List ℕ) → Label m n (n - k) other → door m.size k other ≡ d → other ≡ row

-- every door below q^k has just one label
abbrev pub EachDoor : Meaning → ℕ → ℕ → Type 0
EachDoor m n k = (d : ℕ) → d < m.size ^ k → (row : List ℕ) × LabelOf m n k d row

-- the characters for the codes 0 to 63: 0-9, A-Z, minus, a-z, plus
abbrev pub character : ℕ → ℕ
character c = cond (nat_lt c 10) (48 + c) (cond (nat_lt c 36) (55 + c) (cond (c == 36) 45 (cond (nat_lt c 63) (60 + c) 43)))

-- a text holds the characters of a row of codes
abbrev pub Spelled : List ℕ → List ℕ → Type 0
Spelled row text = (length text ≡ length row) × ((p : ℕ) → p < length row → slice_index text p ≡ character (slice_index row p))
