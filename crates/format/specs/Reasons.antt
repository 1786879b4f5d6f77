-- Document 01, 'Reasons': the answers of the three calls. The level, the file, the table and the lent memory are arbitrary.
--
-- No. | given when                                          | second number             | where
--   1 | level above 1023                                    | 0                         | `start_fault`, `Writes`
--  24 | a bit order that is neither (C-18), tried after 1   | 0                         | `start_fault`, `Writes`
--   2 | fewer than 9 bytes                                  | 0                         | `start_fault`
--   3 | signature wrong                                     | 0                         | `start_fault`
--   4 | version not 1                                       | 0                         | `start_fault`
--   5 | length field wrong, or over the limit               | 0                         | `start_fault`
--   6 | the end of its list's room cuts a header            | its place                 | `raw_head` of FileAndTags
--   7 | list room is used up without End                    | container's place; file   | `walk` of FileAndTags
--     |                                                     | length at depth 0         |
--   8 | not given (C-11: a long header takes any length)    |                           |
--   9 | body longer than the list's rest                    | tag's place               | `passes` of FileAndTags
--  10 | End with a body                                     | tag's place               | `passes` of FileAndTags
--  11 | bytes after End                                     | container's place; first  | `at_end` of FileAndTags
--     |                                                     | such byte at depth 0      |
--  12 | container at depth 8                                | tag's place               | `passes` of FileAndTags
--  13 | an item runs past the body                          | tag's place               | `read_var`, `read_le`, `show_text`, `read_ub`, `read_flag` of Items
--  14 | spelling of U32, U64, I32                           | tag's place               | `read_var`, `carry`, `not_one` of Items
--  15 | skipped bit not zero                                | tag's place               | `read_align` of Items
--  16 | unlisted enum, Bool, interpolation 0, byte over 255 | tag's place               | `enum` of Items; `blend_mode`, `interpolation`, `values` of Bodies
--  17 | count outside its range                             | tag's place               | `count` of Items
--  18 | body of a read tag not used up                      | tag's place               | `used_up` of Bodies
--  19 | table too short                                     | numbers needed            | `into`
--  20 | writer: no file at this level has this table        | 0                         | `Writes`
--  21 | writer: output too short                            | bytes needed              | `Writes`
-- (13 to 18 get the tag's place from `end_at` and `opened`, a header's reason from `one_tag`, 7 and 11 their number from `blame`, all of FileAndTags.)
use Rattle.std.specs.Prelude.{ℕ, ◌≤◌, ◌<◌, List, ◌++◌, ◌≡◌, length, drop, ltb, leb, eqb}
use Rattle.format.specs.Tests.{pick}
use Rattle.format.specs.Bits.{AllBytes, order_named}
use Rattle.format.specs.FileAndTags.{signature_right, version_right, length_right, class_of, Outcome, whole, fault, Walk, broken, file, walk_list}
use Rattle.format.specs.TableOfNumbers.{table, plain_table, tag_table}

-- ---- 1 to 5 are tried in this order (0: none of them). (C-18) Refusals: 24 for an order that is neither, tried after 1. An order is a number
-- here, as in a call.
unfoldable pub start_fault : ℕ → ℕ → List ℕ → ℕ
start_fault order level f =
    pick (ltb 1023 level) 1
    (pick (ltb 1 order) 24
    (pick (ltb (length f) 9) 2
    (pick (signature_right f)
    (pick (version_right f)
    (pick (length_right f) 0
    5)
    4)
    3)))

-- ---- After that the first fault in file order counts: the walk of the tags at depth 0, which follow the header's 9 bytes; 8 depths may lie
-- below them. At one tag header 6, 9, 10 and then 12 are tried in this order (`read_head` of FileAndTags).
-- For an item: skipped bits (15), its bytes (13), its spelling (14), its range (16, 17) (`run` of Items).
unfoldable pub walk_file : ℕ → ℕ → List ℕ → Walk
walk_file order level f =
    pick (eqb (start_fault order level f) 0) (walk_list (order_named order) (class_of level) 8 file 9 (drop 9 f)) (broken (start_fault order level f) 0)

-- what a file gives: the numbers of a table, or a reason and its second number
pub data Result : Type 0 where
  gives : List ℕ → Result
  refuses : ℕ → ℕ → Result

abbrev pub result : List ℕ → Outcome → Result
result ns whole = gives ns
result ns (fault e n) = refuses e n

-- its table of numbers, and its tag table
unfoldable pub read_file : ℕ → ℕ → List ℕ → Result
read_file order level f = result (table f (walk_file order level f)) (walk_file order level f).ended

-- (C-17) its plain table: `read` and `write` speak of the packed one, which `pack` makes of this
unfoldable pub read_plain : ℕ → ℕ → List ℕ → Result
read_plain order level f = result (plain_table f (walk_file order level f)) (walk_file order level f).ended

unfoldable pub read_tags : ℕ → ℕ → List ℕ → Result
read_tags order level f = result (tag_table (walk_file order level f).tags) (walk_file order level f).ended

-- ---- An answer is one of two cases: accepted with its count, or refused with reason and number.
pub data Answer : Type 0 where
  accepted : ℕ → Answer
  refused : ℕ → ℕ → Answer

-- what a call leaves behind: its answer, and what the lent memory then holds
pub record Left : Type 0 where
  pub answer : Answer
  pub lent : List ℕ

-- ---- An acceptance gives the count of numbers or bytes used; lent memory past these stays. A refusal changes nothing lent.
abbrev pub accepts : List ℕ → List ℕ → Left
accepts m ns = record { answer = accepted (length ns); lent = ns ++ drop (length ns) m }

abbrev pub refuses_with : List ℕ → ℕ → ℕ → Left
refuses_with m e n = record { answer = refused e n; lent = m }

-- ---- 19 comes only when nothing else is wrong: the numbers do not fit into the lent memory m. This is the promise of `read` and of `tags`:
-- `read` leaves `into m (read_file order level f)`, and `tags` leaves `into m (read_tags order level f)`.
abbrev pub into : List ℕ → Result → Left
into m (gives ns) = pick (leb (length ns) (length m)) (accepts m ns) (refuses_with m 19 (length ns))
into m (refuses e n) = refuses_with m e n

-- ---- The writer tries 1, 20, 21; the whole lent table slice is the table. (C-18) 24 is tried after 1.

-- a file is a list of bytes. Every `&[u8]` is one, as `is_file` of crate answers shows: in a contract its list is one of numbers, and that they are
-- below 256 is known where code looks at one of them
abbrev pub IsFile : List ℕ → Type 0
IsFile f = AllBytes f

-- f is a file that this order and level read as exactly the table t
pub record FileOf (order level : ℕ) (t f : List ℕ) : Type 0 where
  pub bytes : IsFile f
  pub reads : read_file order level f ≡ gives t

-- what `write` may leave, by the reader's definition alone: for the table t and the lent output m
pub data Writes (order level : ℕ) (t m : List ℕ) : Left → Type 0 where
  too_high : 1023 < level → Writes order level t m (refuses_with m 1 0)
  neither : level ≤ 1023 → 1 < order → Writes order level t m (refuses_with m 24 0)
  impossible : level ≤ 1023 → order ≤ 1 → ((f : List ℕ) → FileOf order level t f → ⊥) → Writes order level t m (refuses_with m 20 0)
  too_short : (f : List ℕ) → FileOf order level t f → length m < length f → Writes order level t m (refuses_with m 21 (length f))
  written : (f : List ℕ) → FileOf order level t f → length f ≤ length m → Writes order level t m (accepts m f)
