-- `items::in_range` meets its contract: each kind's test is that of `range_fault`.
use Rattle.std.proofs.Common.{◌≡◌, ℕ, ◌⊎◌, inl, inr, sym, ◌∙◌, arith, le-leb}
use Rattle.items.specs.declared.Item.{Item}
use Rattle.items.specs.declared.Item.TheVariants.{U32, I32, Time, Float, Uint16, Byte}
use borrow.Author.Tests.{lt-leb}
use Rattle.items.specs.Kinds.{range_fault}
use Rattle.items.proofs.in_range.Goals as goal

pub returns-then-value-from : goal.returns-then-value-from
unfolding range_fault
returns-then-value-from c = rw (c.in-Enum.is, le-leb c.args.value c.in-Enum.top (omega (arith, c.from.ensures, c.if-value-from.true)))

pub returns-else-value-from : goal.returns-else-value-from
unfolding range_fault
returns-else-value-from c = rw (c.in-Enum.is, lt-leb c.args.value c.in-Enum.top (omega (arith, c.from.ensures, c.if-value-from.false)))

pub returns-then-value-le16 : goal.returns-then-value-le16
unfolding range_fault
returns-then-value-le16 c = rw (c.in-BlendMode.is, le-leb c.args.value _ c.if-value-le16.true)

pub returns-then-between : goal.returns-then-between
unfolding range_fault
returns-then-between c = rw (c.in-BlendMode.is, lt-leb c.args.value _ c.if-value-le16.false, sym c.between.ensures ∙ c.if-between.true)

pub returns-else-between : goal.returns-else-between
unfolding range_fault
returns-else-between c = rw (c.in-BlendMode.is, lt-leb c.args.value _ c.if-value-le16.false, sym c.between.ensures ∙ c.if-between.false)

pub returns-then-between-2 : goal.returns-then-between-2
unfolding range_fault
returns-then-between-2 c = rw (c.in-Count.is, ← c.from-in-Count.ensures, sym c.between-in-Count.ensures ∙ c.if-between-2.true)

pub returns-else-between-2 : goal.returns-else-between-2
unfolding range_fault
returns-else-between-2 c = rw (c.in-Count.is, ← c.from-in-Count.ensures, sym c.between-in-Count.ensures ∙ c.if-between-2.false)

-- the other kinds have no range
free : (k : Item) (v : ℕ) → (k ≡ U32) ⊎ ((k ≡ I32) ⊎ ((k ≡ Time) ⊎ ((k ≡ Float) ⊎ ((k ≡ Uint16) ⊎ (k ≡ Byte))))) → 0 ≡ range_fault k v
unfolding range_fault
free k v (inl e) = rw e
free k v (inr (inl e)) = rw e
free k v (inr (inr (inl e))) = rw e
free k v (inr (inr (inr (inl e)))) = rw e
free k v (inr (inr (inr (inr (inl e))))) = rw e
free k v (inr (inr (inr (inr (inr e))))) = rw e

pub returns-in-U32 : goal.returns-in-U32
returns-in-U32 c = free c.args.kind c.args.value c.in-U32.is
