-- What the proof of `characters::CharactersDisplay::fmt` leaves to be shown.
use Rattle.std.proofs.Common.{ℕ, ◌<◌, List, get_or, take, subst, sym, arith, rules, length-take}
use Rattle.std.specs.Str.{IsUtf8}
use Rattle.std.proofs.lemmas.List.{get_or-take}
use Rattle.std.proofs.lemmas.Str.{IsUtf8-from_ascii}
use Rattle.std.proofs.lemmas.Str.Ascii.{IsAscii-from_reads}
use Rattle.queries.proofs.characters.CharactersDisplay.fmt.Goals as goal

-- bytes below 128 in the first places of a row are text
first_text : (row : List ℕ) (n : ℕ) → ((k : ℕ) → k < n → get_or row k 0 < 128) → IsUtf8 (take n row)
first_text row n low =
    IsUtf8-from_ascii (take n row)
    (IsAscii-from_reads (take n row) n (simp length-take (omega arith)) (λ k h. subst (λ b. b < 128) (sym (get_or-take n row k 0 h)) (low k h)))

pub unwrap-text-requires : goal.unwrap-text-requires
unwrap-text-requires g c =
    let utf8 = first_text c.args.self.now.row c.args.self.now.places c.args.self.now.ascii in
    search (rules, utf8)
