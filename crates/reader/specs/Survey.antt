-- What the run that counts answers.
use Rattle.std.specs.Prelude.{◌+◌, length, Result, Ok, Err}
use Rattle.format.specs.FileAndTags.{Walk}
use Rattle.format.specs.TableOfNumbers.{numbers, tag_table}
use Rattle.reasons.specs.Numbers.{number_of}
use Rattle.lists.specs.Lists.{walked_of}
use Rattle.lists.specs.Walks.{Walked, Next, Fault}
use Rattle.lists.specs.declared.Fault.{Fault as Refusal}
use Rattle.reader.specs.declared.Counts.{Counts}

-- the numbers of the table, compression byte included, and of the tag table; or the refusal
abbrev pub surveyed : Walk → Walked
surveyed w = walked_of (1 + length (numbers w.tags)) (length (tag_table w.tags)) w.ended

-- the same as the code has it
abbrev pub counted : Result Counts Refusal → Walked
counted (Ok c) = Next c.numbers c.rows
counted (Err f) = Fault (number_of f.why) f.place
