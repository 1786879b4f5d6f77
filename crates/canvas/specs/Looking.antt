-- What the functions of the walk that stops leave.
use Rattle.std.specs.Prelude.{ℕ, ◌+◌, ◌-◌, ◌*◌, ◌/◌, ◌≤◌, List, [], ◌∷◌, ◌≡◌, Bool, true, false, not, length, take, drop, eqb, Option, Some, None, Result, Ok, Err}
use Rattle.format.specs.Tests.{pick, ◌and◌}
use Rattle.format.specs.Bits.{Order}
use Rattle.format.specs.Reading.{Ending, At, Fault}
use Rattle.format.specs.Items.{to_byte}
use Rattle.format.specs.Bodies.{composition_attributes, fixed, read_body}
use Rattle.format.specs.FileAndTags as paper
use Rattle.format.specs.FileAndTags.{le16, is_read}
use Rattle.reasons.specs.declared.Reason.{Reason}
use Rattle.reasons.specs.Numbers.{number_of}
use Rattle.bits.specs.declared.BytePlace.{BytePlace}
use Rattle.classes.specs.Classes as classes
use Rattle.classes.specs.declared.Class.{Class}
use Rattle.classes.specs.declared.Class.TheVariants as class
use Rattle.headers.specs.Heads.{head_by}
use Rattle.lists.specs.Lists.{byte_at}
use Rattle.lists.specs.declared.Fault.{Fault as Refused}
use Rattle.tags.specs.Lent.{class_in}
use Rattle.tags.specs.Shown.{values_of, list_of}
use Rattle.canvas.specs.Canvas as wanted
use Rattle.canvas.specs.declared.CanvasSize.{CanvasSize}
use Rattle.canvas.specs.declared.Refusal.{Refusal}
use Rattle.canvas.specs.declared.Span.{Span}
use Rattle.canvas.specs.declared.Judged.{Judged}
use Rattle.canvas.specs.declared.Judged.TheVariants as judged

-- a reason with a second number
abbrev pub refusal : Reason → ℕ → Refusal
refusal e n = record { reason = e; number = n }

-- from start up to stop
abbrev pub span : ℕ → ℕ → Span
span start stop = record { start = byte_at start; stop = byte_at stop }

-- ---- one tag

-- a tag of this class and code is the one that is looked for
abbrev pub is_looked : Class → ℕ → Bool
is_looked class code = eqb code 3 and not (eqb (is_read (classes.bare class)) 0)

-- any other tag, by its class, if it has no list; it ends at `stop`
abbrev pub judged_class : Class → BytePlace → Judged
judged_class class.Opaque stop = judged.Next stop
judged_class class.End stop = judged.Last stop
judged_class class.Container stop = judged.Next stop
judged_class class.Fixed stop = judged.Next stop
judged_class class.Attributes stop = judged.Next stop

-- by whether it has a list, which stands p bytes behind the body's start
abbrev pub judged_list : Class → Span → Option BytePlace → Judged
judged_list class body (Some p) = judged.Open (span (body.start.0 + p.0) body.stop.0)
judged_list class body None = judged_class class body.stop

abbrev pub judged_by : Class → ℕ → Span → Option BytePlace → Judged
judged_by class code body list = pick (is_looked class code) (judged.Canvas body) (judged_list class body list)

-- the place p of a list in a body, if there is one
abbrev pub list_at : Bool → ℕ → Option BytePlace
list_at list p = pick list (Some (byte_at p)) None

-- how the values of a tag ended, and whether a list is read after them, as the code tells it
abbrev pub Valued : Ending → Bool → Result (Option BytePlace) Reason → Type 0
Valued (At p) list (Ok (Some q)) = (list ≡ true) × (p ≡ 8 * q.0)
Valued (At p) list (Ok None) = list ≡ false
Valued (At p) list (Err r) = ⊥
Valued (Fault e) list (Ok q) = ⊥
Valued (Fault e) list (Err r) = e ≡ number_of r

-- an answer with the paper's number of a reason
abbrev pub numbered : {A : Type 0} → Result A Reason → Result A ℕ
numbered (Ok x) = Ok x
numbered (Err r) = Err (number_of r)

-- a tag with this header was judged: 1 if its header passed, 0 if not; and what is told of it
pub record Judgement : Type 0 where
  pub passed : ℕ
  pub judged : Result Judged ℕ

-- its body stands from `start` up to `stop`, and ended so
abbrev pub judged_end : Class → Bool → ℕ → ℕ → ℕ → Ending → Result Judged ℕ
judged_end class list code start stop (At p) = Ok (judged_by class code (span start stop) (list_at list (to_byte p)))
judged_end class list code start stop (Fault e) = Err e

-- the tag at i of the list r, by its header
abbrev pub judged_at : Order → Class → List ℕ → ℕ → paper.Head → Judgement
judged_at o class r i (paper.no_head e) = record { passed = 0; judged = Err e }
judged_at o class r i (paper.head code len size) = record {
  passed = 1;
  judged = judged_end class (list_of o class code (take len (drop size (drop i r)))) code (i + size) (i + size + len) (values_of o class code (take len (drop size (drop i r)))).ended;
}

-- by its header, and the class that its code has among these
abbrev pub judged_in : Order → List Class → ℕ → List ℕ → ℕ → Judgement
judged_in o cs depths r i = judged_at o (class_in cs (le16 (drop i r) / 64)) r i (head_by (class_in cs (le16 (drop i r) / 64)) depths (drop i r))

-- with h headers read before it, and n with it
pub record Judges (h n : ℕ) (a : Result Judged Reason) (j : Judgement) : Type 0 where
  pub headers : n ≡ h + j.passed
  pub told : numbered a ≡ j.judged

-- ---- a list

-- from start up to stop of the list at place a, whose room is r
abbrev pub body_at : ℕ → List ℕ → ℕ → ℕ → List ℕ
body_at a r start stop = take (stop - start) (drop (start - a) r)

-- a CompositionAttributes with a good body, which stands from start up to stop of the file, in the list at place a
pub record Stands (o : Order) (a : ℕ) (r : List ℕ) (start stop : ℕ) : Type 0 where
  pub after : a ≤ start
  pub order : start ≤ stop
  pub inside : stop ≤ a + length r
  pub place : ℕ
  pub good : (read_body o (fixed composition_attributes) (body_at a r start stop)).ended ≡ At place

-- what is told of a list at place a, whose room is r; s is what looking in it gives
abbrev pub Sees : Order → ℕ → List ℕ → Result (Option Span) Refused → wanted.Seen → Type 0
Sees o a r (Ok None) s = s ≡ wanted.none
Sees o a r (Ok (Some b)) s = Stands o a r b.start.0 b.stop.0 × (s ≡ wanted.found (read_body o (fixed composition_attributes) (body_at a r b.start.0 b.stop.0)).shown)
Sees o a r (Err f) s = s ≡ wanted.refused (number_of f.why) f.place.0

-- h headers were read before it, and n with it; c is what looking in it gives
pub record Looks (o : Order) (a : ℕ) (r : List ℕ) (h n : ℕ) (y : Result (Option Span) Refused) (c : wanted.Canvas) : Type 0 where
  pub sees : Sees o a r y c.seen
  pub headers : n ≡ h + c.headers

-- ---- the whole answer
abbrev pub zeros : List ℕ
zeros = 0 ∷ 0 ∷ 0 ∷ 0 ∷ 0 ∷ 0 ∷ 0 ∷ []

-- what is answered, in the words of the definitions
abbrev pub seen_of : Result (Option (List ℕ)) Refusal → wanted.Seen
seen_of (Ok (Some vs)) = wanted.found vs
seen_of (Ok None) = wanted.none
seen_of (Err e) = wanted.refused (number_of e.reason) e.number

abbrev pub answered : CanvasSize → wanted.Canvas
answered c = wanted.canvas (seen_of c.size) c.headers

-- the same, with the headers counted apart
abbrev pub Answers : ℕ → Result (Option (List ℕ)) Refusal → wanted.Canvas → Type 0
Answers n y c = wanted.canvas (seen_of y) n ≡ c
