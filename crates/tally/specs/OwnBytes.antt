-- (C-19) Each tag's header bytes and the body bytes that belong to no tag inside it: a tag's own bytes.
use Rattle.std.specs.Prelude.{ℕ, zero, suc, ◌+◌, List, [], ◌∷◌, Bool, false, ltb, leb}
use Rattle.format.specs.Tests.{pick, ◌and◌, ◌or◌}
use Rattle.format.specs.FileAndTags.{Tag}
use Rattle.format.specs.Levels.{end_of}

-- the byte at place p is the tag's: one of its header or of its body
abbrev pub has : Tag → ℕ → Bool
has t p = leb t.place p and ltb p (end_of t)

-- it belongs to one of the tags
abbrev pub belongs : List Tag → ℕ → Bool
belongs [] p = false
belongs (t ∷ ts) p = has t p or belongs ts p

-- how many of the n bytes from place p on belong to none of them
abbrev pub belonging_to_none : List Tag → ℕ → ℕ → ℕ
belonging_to_none ts p zero = 0
belonging_to_none ts p (suc n) = pick (belongs ts p) 0 1 + belonging_to_none ts (suc p) n

-- ts are the tags that follow t in file order. Those among them that have a byte of its body are the tags inside it: a tag that starts after t, and has a
-- byte of t's body, starts in that body
unfoldable pub own_bytes : Tag → List Tag → ℕ
own_bytes t ts = t.header_size + belonging_to_none ts (t.place + t.header_size) t.body_length
