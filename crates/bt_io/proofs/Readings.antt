-- Which bytes have been consumed after one more read.
use Rattle.std.proofs.Common.{◌≡◌, ℕ, ◌+◌, List, ◌++◌, length, take, ap, sym, ◌∙◌, Option, length-append}
use Rattle.std.specs.Io.KnownBytes.{Consumes}
use Rattle.std.proofs.KnownBytes.{Consumes-trans}
use Rattle.bt_io.specs.Bytes.{ConsumesCount}

-- a read of `count` bytes after a consumed front
pub count_gone : (old mid new : Option (List ℕ)) (front buf : List ℕ) (count : ℕ) → Consumes old mid front → Consumes mid new (take count buf) → count ≡ length (take count buf)
    → ConsumesCount old new (length front + count)
count_gone old mid new front buf count first second given = (
  front ++ take count buf,
  Consumes-trans old mid new front (take count buf) first second,
  length-append front (take count buf) ∙ ap (λ more. length front + more) (sym given),
)
