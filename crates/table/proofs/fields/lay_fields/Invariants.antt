use Rattle.std.proofs.Common.{ℕ, ◌+◌, ◌*◌, ◌≤◌}
use Rattle.bits.specs.Places.{order_of}
use Rattle.table.proofs.FieldLaws.{Going}
use Rattle.table.proofs.fields.lay_fields.Given as goal

abbrev pub invariant-loop-i : goal.invariant-loop-i
invariant-loop-i l = let a = l.fn.reader in (n : ℕ) → l.there ≤ n → Going (order_of a.order) l.kind l.width a.body.now a.table.now a.index n a.place.0 l.there l.table (a.place.0 + l.i * l.width) l.i l.sum
