use Prim.Native.Nat.{◌≤◌, ◌+◌, ◌*◌}
use mathlib.Core.Path.{◌≡◌}
use lib.ListN.{drop}
use Rattle.format.specs.TableOfNumbers.{eight_of}
use Rattle.listing.specs.Steps.{byte_fields}
use Rattle.listing.proofs.TextLaws.{Left}
use Rattle.listing.proofs.put_bytes.Given as goal

abbrev pub invariant-loop-byte : goal.invariant-loop-byte
invariant-loop-byte l =
    (l.byte-items ≡ eight_of l.number) × Left l.initial.text l.text (byte_fields (eight_of l.number) l.left) (byte_fields (drop l.byte-index l.byte-items) l.rest) × (l.text.used ≤ l.initial.text.used + 4 * l.byte-index)
