-- What the methods of a writer do: a format is written with the writer's values from its index on, over its output, and it stands behind it then.
use Rattle.std.specs.Prelude.{◌≡◌, ℕ, suc, pred, ◌-◌, ◌*◌, ◌≤◌, List, length, take, drop, Result, Ok, Err}
use Rattle.format.specs.Formats.{Format, item, the}
use Rattle.format.specs.Formats as formats
use Rattle.format.specs.Possible.{Possible, this, cannot}
use Rattle.format.specs.WritingItems.{spell_ub, single, undo, write_item}
use Rattle.bits.specs.Places.{order_of}
use Rattle.sink.specs.Laying.{State, at}
use Rattle.sink.specs.declared.Impossible.{Impossible}
use Rattle.table.specs.Fields.{announced}
use Rattle.table.specs.declared.fields.Field.{Field}
use Rattle.spelling.specs.Writing.{Seen, here, ran}
use Rattle.spelling.specs.declared.writer.Writer.{Writer}

-- its output with its sink
abbrev pub state : Writer → State
state a = at a.out.now a.sink

-- the code's answer, with the state and the index that it leaves; where no file has the values, nothing is said of them
abbrev pub seen_of : {T : Type 0} → Writer → Result T Impossible → Possible Seen
seen_of b (Ok x) = this (here (state b) b.index)
seen_of b (Err e) = cannot

-- the same writer: of the same values, over the same output
pub record Onward (a b : Writer) : Type 0 where
  pub order : b.order ≡ a.order
  pub values : b.values.now ≡ a.values.now
  pub lent : b.out.ghost_name ≡ a.out.ghost_name
  pub size : length b.out.now ≡ length a.out.now

-- the format f was written; or no file has the values
pub record Writes {T : Type 0} (a b : Writer) (r : Result T Impossible) (f : Format) : Type 0 where
  pub onward : Onward a b
  pub told : seen_of b r ≡ ran (order_of a.order) a.values.now (state a) a.index f

-- the answer of what cannot fail
abbrev pub done : Result (Unit {0}) Impossible
done = Ok tt

-- the values that were used up
abbrev pub used : Writer → Writer → List ℕ
used a b = take (b.index - a.index) (drop a.index a.values.now)

-- the answer is the one number that was used up, from lo to most
abbrev pub Counts : ℕ → ℕ → Writer → Writer → Result ℕ Impossible → Type 0
Counts lo most a b (Ok n) = (n ≡ the (used a b)) × (lo ≤ n) × (n ≤ most)
Counts lo most a b (Err e) = Unit {0}

-- a run of n fields announces m signed fields; nothing is said where no file has the run
abbrev pub Announces : Field → Writer → Writer → ℕ → Result ℕ Impossible → Type 0
Announces f a b n (Ok m) = (m ≡ announced f (used a b)) × (m ≤ 6 * n)
Announces f a b n (Err e) = Unit {0}

-- each item whose number is spelt one less, in n bits, was written so
abbrev pub WritesLessOne : ℕ → Writer → Writer → Result ℕ Impossible → Type 0
WritesLessOne n a b r = (i : formats.Item) → ((ns : List ℕ) (p : ℕ) → write_item (order_of a.order) i ns p ≡ single (undo suc pred (spell_ub (order_of a.order) n)) ns) → Writes a b r (item i)
