-- In-memory files: which file a name denotes, and reading it in pieces.
use Rattle.std.proofs.Common.{◌≡◌, ℕ, zero, suc, ◌+◌, ◌-◌, ◌<◌, min, List, [], ◌∷◌, ◌++◌, length, take, drop, get_or, sym, ◌∙◌, ap, refl, true, Some, arith, length-drop, string_bytes}
use Rattle.std.proofs.lemmas.List.{take-append-drop, drop-drop}
use Rattle.std.proofs.Math.ListN.{drop_of_length-le}
use Rattle.std.specs.Str.{bytes_eq}
use Rattle.std.specs.declared.vec.Vec.{Vec}
use Rattle.std.specs.declared.string.String.{String}
use Rattle.std.specs.declared.alloc.Global.{Global}
use Rattle.bt_io.specs.Memory.{file_named, files_in}
use Rattle.bt_io.specs.Code.Kept.{bytes_at}

-- a read returns the front of the unread bytes, and returns none only at the end
pub read_front : (file buf : List ℕ) (at count cut : ℕ) → take count buf ≡ take count (drop at file) → count ≡ min (min cut (length buf)) (length (drop at file)) → 0 < cut
    → (drop at file ≡ take count buf ++ drop (at + count) file) × (count ≡ 0 → 0 < length buf → drop (at + count) file ≡ [])
read_front file buf at count cut front is some =
    let rest : length (drop at file) ≡ length file - at = length-drop at file in (
      rw front (rw (sym (drop-drop count at file)) (sym (take-append-drop count (drop at file)))),
      λ none room. drop_of_length-le file (omega arith),
    )

-- if the file at `place` has the name, it is the first one so named from `place` on
pub named_at : (pairs : List (String Global × Vec ℕ Global)) (name : List ℕ) (place : ℕ) (pair : String Global × Vec ℕ Global) → place < length pairs → pair ≡ get_or pairs place pair → bytes_eq (string_bytes pair.0) name ≡ true
    → file_named (files_in (drop place pairs)) name ≡ Some (bytes_at (files_in pairs) place)
named_at [] name place pair within is same = absurd (omega arith)
named_at (first ∷ pairs) name zero pair within is same =
    let named : bytes_eq (string_bytes first.0) name ≡ true = ap (λ (other : String Global × Vec ℕ Global). bytes_eq (string_bytes other.0) name) (sym is) ∙ same in rw named refl
named_at (first ∷ pairs) name (suc place) pair within is same = named_at pairs name place pair (omega arith) is same
