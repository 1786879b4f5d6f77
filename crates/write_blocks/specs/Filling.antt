-- A block's contents over an output and a sink, with the flags that were gathered on the way; and the flags put before them.
use Rattle.std.specs.Prelude.{ℕ, ◌+◌, List, ◌++◌, Bool, leb, length, take, drop, Result, Ok, Err}
use Rattle.std.proofs.lemmas.List.Edits.{sets}
use Rattle.format.specs.Tests.{pick}
use Rattle.format.specs.Bits.{Order}
use Rattle.format.specs.Bodies.{Attribute, rows}
use Rattle.format.specs.Possible.{Possible, this, cannot}
use Rattle.format.specs.WritingBodies.{flags_in}
use Rattle.sink.specs.Lain.{Lain, lain, longest}
use Rattle.sink.specs.Laying.{State}
use Rattle.sink.specs.declared.Impossible.{Impossible}
use Rattle.spelling.specs.Writing.{Seen, here, ran}
use Rattle.spelling.specs.Writer.{state}
use Rattle.spelling.specs.declared.writer.Writer.{Writer}
use Rattle.write_blocks.specs.Flags.{flag_bits, bits_of}
use Rattle.write_blocks.specs.declared.field.Flags.{Flags}

-- the flags' bits, the state after the contents, and the index of the next value
pub data Both : Type 0 where
  both : List Bool → State → ℕ → Both

abbrev pub both_of : Possible (List Bool) → Possible Seen → Possible Both
both_of (this bs) (this (here st k)) = this (both bs st k)
both_of (this bs) cannot = cannot
both_of cannot x = cannot

-- the attributes' flags, and their contents, of the values t from the first on
abbrev pub fills : Order → List Attribute → List ℕ → State → Possible Both
fills o ks t st = both_of (flag_bits o ks (flags_in o ks t)) (ran o t st 0 (rows ks (flags_in o ks t)))

-- by the flags that the code answers, and the writer that it leaves
abbrev pub filled : Order → Writer → Result Flags Impossible → Possible Both
filled o b (Ok f) = this (both (bits_of o f) (state b) b.index)
filled o b (Err e) = cannot

-- the n bytes that stand one after a, with the bytes xs of their flags before them
abbrev pub under_flags : List ℕ → ℕ → List ℕ → ℕ → Possible Lain
under_flags l a xs n = pick (leb (a + length xs + n) longest) (this (lain (sets l a (xs ++ take n (drop (a + 1) l))) (a + length xs + n))) cannot
