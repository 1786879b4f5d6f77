-- What building an index of tags leaves, with its answer as a plain struct.
use Rattle.std.specs.Prelude.{ℕ, List, ◌≡◌}
use Rattle.tag_index.specs.Index.{Built}
use Rattle.pag.specs.declared.PagAnswer.{PagAnswer}
use Rattle.pag.specs.Plain.{plain_of}

-- m and x: what the memory lent for the tag table and for the index holds afterwards. r: the answer
abbrev pub leaves_both : List ℕ → List ℕ → PagAnswer → Built → Type 0
leaves_both m x r b = (r ≡ plain_of b.answer) × (m ≡ b.tags) × (x ≡ b.index)
