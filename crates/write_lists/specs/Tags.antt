-- One tag, as this crate's functions write it: first what stands in it, then for a container its list, last the header before it.
use Rattle.std.specs.Prelude.{ℕ, ◌+◌, ◌-◌, ◌≤◌, Bool, true, false, List, [], ◌∷◌, ◌++◌, ◌≡◌, leb, eqb, length, get_or, take, drop, Result, Ok, Err}
use Rattle.format.specs.Tests.{pick, ◌and◌}
use Rattle.format.specs.Bits.{Order}
use Rattle.format.specs.Bodies.{fixed}
use Rattle.format.specs.FileAndTags.{is_read, has_list}
use Rattle.format.specs.Possible.{Possible, this, cannot}
use Rattle.format.specs.WritingBodies.{write_body}
use Rattle.format.specs.WritingFiles.{Made, made, unpacked_as, body_of, fits_head, spell_head}
use Rattle.classes.specs.declared.Class.{Class}
use Rattle.classes.specs.declared.Class.TheVariants.{Opaque, End, Container, Fixed, Attributes}
use Rattle.classes.specs.Classes.{bare, contains}
use Rattle.fixed.specs.Fixed.{fixed_of}
use Rattle.bodies.specs.Leaf.{is_block, leaf_body}
use Rattle.sink.specs.declared.Impossible.{Impossible}
use Rattle.sink.specs.Lain.{longest}
use Rattle.write_heads.specs.Heads.{under_head}
use Rattle.write_lists.specs.Stood.{Stood, stood}

-- whether a tag of this class is opaque
abbrev pub hidden : Class → Bool
hidden Opaque = true
hidden End = false
hidden Container = false
hidden Fixed = false
hidden Attributes = false

-- what a tag's values are written as; of a container they stand before its list
abbrev pub values_in : Order → Class → ℕ → List ℕ → Possible (List ℕ)
values_in o Opaque code vs = unpacked_as vs
values_in o End code vs = pick (eqb (length vs) 0) (this []) cannot
values_in o Container code vs = write_body o (leaf_body code) vs
values_in o Fixed code vs = write_body o (fixed (fixed_of code)) vs
values_in o Attributes code vs = write_body o (leaf_body code) vs

-- whether a list follows the values of a tag
abbrev pub list_in : Class → ℕ → List ℕ → Bool
list_in Opaque code vs = false
list_in End code vs = false
list_in Container code vs = has_list (leaf_body code) vs
list_in Fixed code vs = false
list_in Attributes code vs = false

-- the same by its last number: a container has one, but for a block, whose last flag says so
abbrev pub list_by : Class → ℕ → ℕ → Bool
list_by Opaque code last = false
list_by End code last = false
list_by Container code last = pick (is_block code) (eqb last 1) true
list_by Fixed code last = false
list_by Attributes code last = false

-- a container without a depth for a list, whether it has one or not
abbrev pub too_deep : Class → ℕ → Bool
too_deep class left = contains class and eqb left 0

-- if the state is the class's, with 2 more where the long header is claimed
abbrev pub body_in : Order → Bool → Class → ℕ → ℕ → List ℕ → Possible (List ℕ)
body_in o claim class code s vs = pick (eqb s (is_read (bare class) + pick claim 2 0)) (values_in o class code vs) cannot

-- a tag without its header, and a container without its list too
abbrev pub begun : Order → Bool → Class → List ℕ → Possible Made
begun o claim class [] = cannot
begun o claim class (code ∷ []) = cannot
begun o claim class (code ∷ s ∷ []) = cannot
begun o claim class (code ∷ s ∷ n ∷ ns) = pick (leb n (length ns)) (body_of (code ∷ s ∷ n ∷ take n ns) (body_in o claim class code s (take n ns)) (drop n ns)) cannot

-- whether a list follows it
abbrev pub list_of : Class → List ℕ → Bool
list_of class [] = false
list_of class (code ∷ []) = false
list_of class (code ∷ s ∷ []) = false
list_of class (code ∷ s ∷ n ∷ ns) = list_in class code (take n ns)

-- and with its header
abbrev pub shut : Bool → ℕ → Possible Made → Possible Made
shut claim code (this (made xs b ys)) = pick (fits_head claim code (length b)) (this (made xs (spell_head claim code (length b) ++ b) ys)) cannot
shut claim code cannot = cannot

-- the n bytes that stand behind those kept from a on, with their header before them; unless no header with this claim has such a length, or the
-- file would be too long
abbrev pub head_at : List ℕ → ℕ → Bool → ℕ → ℕ → ℕ → Possible Stood
head_at l a claim code n j =
    pick (fits_head claim code n)
    (pick (leb (a + length (spell_head claim code n) + n) longest) (this (stood (under_head l a claim code n) (a + length (spell_head claim code n) + n) j)) cannot)
    cannot

-- the values of the tag at index k of the table t end before index e: all of them are there, and the state is one of its class
pub record ValuesThere (claim : Bool) (class : Class) (t : List ℕ) (k e : ℕ) : Type 0 where
  pub some : 3 ≤ length t - k
  pub all : get_or t (k + 2) 0 ≤ length t - k - 3
  pub state : get_or t (k + 1) 0 ≡ is_read (bare class) + pick claim 2 0
  pub end : e ≡ k + 3 + get_or t (k + 2) 0

-- by the code's answer; where it is not so, nothing has begun
abbrev pub ValuesEnd : Bool → Class → List ℕ → ℕ → Result ℕ Impossible → Type 0
ValuesEnd claim class t k (Ok e) = ValuesThere claim class t k e
ValuesEnd claim class t k (Err z) = (o : Order) → begun o claim class (drop k t) ≡ cannot
