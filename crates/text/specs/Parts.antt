-- Parts of a text between separators.
use Rattle.std.specs.Prelude.{◌≡◌, ℕ, ◌<◌, ◌⊎◌, List, [], ◌∷◌, ◌++◌, length, ◌≢◌, slice_index}

-- the byte b does not occur
abbrev pub Without : ℕ → List ℕ → Type 0
Without b bs = (k : ℕ) → k < length bs → slice_index bs k ≢ b

-- `before` and `behind` are what stands before and behind the first b
pub record Parts (b : ℕ) (bs before behind : List ℕ) : Type 0 where
  pub whole : bs ≡ before ++ b ∷ behind
  pub first : Without b before

-- the first line of bs and what follows it: the parts at the first line feed, or all and nothing where there is none
abbrev pub NextLine : List ℕ → List ℕ → List ℕ → Type 0
NextLine bs line rest = Parts 10 bs line rest ⊎ (Without 10 bs × (line ≡ bs) × (rest ≡ []))
