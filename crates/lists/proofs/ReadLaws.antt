-- A list, read tag by tag, in the words of the code: what it lends, and what its steps left.
use Prim.Native.Nat.{ℕ, ◌+◌, ◌-◌, ◌^◌, ◌≤◌, ◌<◌}
use mathlib.Core.Path.{◌≡◌, refl, ap, sym, ◌∙◌}
use native.Mathlib.Omega.{arith}
use lib.ListN.{length}
use Rattle.std.proofs.Common.{Result, Ok, Err}
use Rattle.format.specs.Bits.{Order}
use Rattle.format.specs.FileAndTags as paper
use Rattle.format.specs.FileAndTags.{blame, walk_list}
use Rattle.reasons.specs.declared.Reason.{Reason}
use Rattle.reasons.specs.Numbers.{number_of}
use Rattle.bits.specs.Places.{order_of}
use Rattle.bits.specs.declared.BytePlace.{BytePlace}
use Rattle.tags.specs.Lent.{classes_in, Tabled}
use Rattle.lists.specs.Lists.{owner_of, step_as, tag_in, last_of, ended_by, Listed, listed, walked_of, walk_over, SameTables, Steps, Walks, Bounds}
use Rattle.lists.specs.Walks as walked
use Rattle.lists.specs.declared.Fault.{Fault}
use Rattle.lists.specs.declared.Lent.{Lent}
use Rattle.lists.specs.declared.Step.{Step as Told}
use Rattle.lists.specs.declared.Step.TheVariants.{Next, Last, Open}
use Rattle.lists.specs.declared.tag_list.TagList.{TagList}
use Rattle.lists.specs.declared.walk.Walk.{Walk as Rules}
use Rattle.lists.proofs.ListLaws.{piece, Going, going_start, passed_room, used_up_lem, tag_fault, tag_stops, tag_last, tag_next, Opens, tag_open, open_bounds, open_next, open_fault}

pub same_tables : {a b c : Lent} → SameTables a b → SameTables b c → SameTables a c
same_tables h k = record { table = k.table ∙ h.table; rows = k.rows ∙ h.rows }

-- the list l, by the rules s; a is what was lent at its start
module _ (s : Rules) (l : TagList) (a : Lent) where
  abbrev o : Order
  o = order_of s.order

  -- up to the place i of its room it was read, and b is what is lent then
  pub record Here (b : Lent) (i : ℕ) : Type 0 where
    pub same : SameTables a b
    pub going : Going o s.classes.now l.depths (owner_of l.owner) l.at.0 l.room.now a.table.now a.index a.rows.now a.row b.table.now b.rows.now i b.index b.row

  abbrev all : Listed
  all = walk_over a.table.now a.index a.rows.now a.row (walk_list o (classes_in s.classes.now) l.depths (owner_of l.owner) l.at.0 l.room.now)

  pub here_start : Here a 0
  here_start = record {
    same = record { table = refl; rows = refl };
    going = going_start o s.classes.now l.depths (owner_of l.owner) l.at.0 l.room.now a.table.now a.index a.rows.now a.row;
  }

  pub here_room : Tabled s.classes.now → Bounds l.depths l.at.0 (length l.room.now) a.index a.row → {b : Lent} {i : ℕ} → Here b i → (b.index < 2 ^ 60) × (b.row < 2 ^ 60)
  here_room tabled bounds h =
      let u : _ = passed_room o s.classes.now l.depths (owner_of l.owner) l.at.0 l.room.now a.table.now a.index a.rows.now a.row tabled _ h.going.passed in
      (omega (arith, u.0, bounds.index, l.inside), omega (arith, u.1, bounds.row, l.inside))

  -- the room is used up
  pub here_over : {b : Lent} {i : ℕ} {f : Fault} → Here b i → length l.room.now ≤ i → number_of f.why ≡ 7 → f.place.0 ≡ blame (owner_of l.owner) (l.at.0 + length l.room.now) → Walks a b (Err f) all
  here_over {b} {f = f} h le why e = record {
    same = h.same;
    left = ap (λ (n : ℕ). listed b.table.now b.rows.now (walked.Fault n f.place)) why ∙ used_up_lem o s.classes.now l.depths (owner_of l.owner) l.at.0 l.room.now a.table.now a.index a.rows.now a.row h.going le e;
  }

  -- the tag at i was read, and left c; its row is counted behind it
  module _ {b c : Lent} {i : ℕ} {r : Result Told Reason} (h : Here b i) (some : i < length l.room.now)
      (ran : Steps b c r (tag_in o s.classes.now l.depths l.at.0 l.room.now i b.table.now b.index b.rows.now b.row)) where
    abbrev after : Lent
    after = record { table = c.table; index = c.index; rows = c.rows; row = c.row + 5 }

    pub same_after : SameTables a after
    same_after = let k : SameTables a c = same_tables h.same ran.same in record { table = k.table; rows = k.rows }

    row_after : c.row + 5 ≡ b.row + 5
    row_after = ap (λ (n : ℕ). n + 5) ran.row

    pub tag_err : {e : Reason} → r ≡ Err e → Walks a c (Err (record { why = e; place = record { 0 = l.at.0 + i } })) all
    tag_err e = record {
      same = same_tables h.same ran.same;
      left = tag_fault o s.classes.now l.depths (owner_of l.owner) l.at.0 l.room.now a.table.now a.index a.rows.now a.row h.going some (step_as c.index r) refl ran.left (ap (step_as c.index) e);
    }

    -- End
    module _ {p : BytePlace} (e : r ≡ Ok (Last p)) where
      pub last_stops : p.0 ≤ length l.room.now
      last_stops = tag_stops o s.classes.now l.depths (owner_of l.owner) l.at.0 l.room.now a.table.now a.index a.rows.now a.row h.going some (step_as c.index r) refl ran.left (ap (step_as c.index) e)

      pub last_walks : {t : Result Unit Fault} → ended_by t ≡ last_of l.owner l.at.0 p.0 (length l.room.now) → Walks a after t all
      last_walks {t} k = record {
        same = same_after;
        left = tag_last o s.classes.now l.depths (owner_of l.owner) l.at.0 l.room.now a.table.now a.index a.rows.now a.row h.going some (step_as c.index r) refl ran.left l.owner refl (ap (step_as c.index) e)
            (ap (λ (n : ℕ). walked_of c.index n (ended_by t)) row_after ∙ ap (walked_of c.index (b.row + 5)) k);
      }

    -- another tag may follow
    module _ {p : BytePlace} (e : r ≡ Ok (Next p)) where
      next_is : (i < p.0) × Going o s.classes.now l.depths (owner_of l.owner) l.at.0 l.room.now a.table.now a.index a.rows.now a.row c.table.now c.rows.now p.0 c.index (b.row + 5)
      next_is = tag_next o s.classes.now l.depths (owner_of l.owner) l.at.0 l.room.now a.table.now a.index a.rows.now a.row h.going some (step_as c.index r) refl ran.left (ap (step_as c.index) e)

      pub next_ahead : (i < p.0) × (p.0 ≤ length l.room.now)
      next_ahead = (next_is.0, next_is.1.inside)

      pub next_here : Here after p.0
      next_here = record { same = same_after; going = rw row_after next_is.1 }

    -- its own list stands in it, from f up to p
    module _ {f p : BytePlace} (e : r ≡ Ok (Open f p)) where
      pub open_is : Opens o s.classes.now l.depths (owner_of l.owner) l.at.0 l.room.now a.table.now a.index a.rows.now a.row c.table.now c.rows.now i f.0 p.0 c.index (b.row + 5)
      open_is = tag_open o s.classes.now l.depths (owner_of l.owner) l.at.0 l.room.now a.table.now a.index a.rows.now a.row h.going some (step_as c.index r) refl ran.left (record { list = f; stop = p; behind = c.index }) (ap (step_as c.index) e)

      pub inner_bounds : Tabled s.classes.now → Bounds l.depths l.at.0 (length l.room.now) a.index a.row → Bounds (l.depths - 1) (l.at.0 + f.0) (length (piece f.0 p.0 l.room.now)) c.index (c.row + 5)
      inner_bounds tabled bounds =
          let u : Bounds (l.depths - 1) (l.at.0 + f.0) (length (piece f.0 p.0 l.room.now)) c.index (b.row + 5) = open_bounds o s.classes.now l.depths (owner_of l.owner) l.at.0 l.room.now a.table.now a.index a.rows.now a.row h.going some (step_as c.index r) refl ran.left (record { list = f; stop = p; behind = c.index }) (ap (step_as c.index) e) tabled bounds in
          rw row_after u

      -- it was read, and left d
      module _ {d : Lent} {t : Result Unit Fault} (k : Walks after d t (walk_over c.table.now c.index c.rows.now (c.row + 5) (walk_list o (classes_in s.classes.now) (l.depths - 1) (paper.inside (l.at.0 + i)) (l.at.0 + f.0) (piece f.0 p.0 l.room.now)))) where
        same_inner : SameTables a d
        same_inner = same_tables same_after k.same

        read_inner : listed d.table.now d.rows.now (walked_of d.index d.row (ended_by t)) ≡ walk_over c.table.now c.index c.rows.now (b.row + 5) (walk_list o (classes_in s.classes.now) (l.depths - 1) (paper.inside (l.at.0 + i)) (l.at.0 + f.0) (piece f.0 p.0 l.room.now))
        read_inner = k.left ∙ ap (λ (n : ℕ). walk_over c.table.now c.index c.rows.now n (walk_list o (classes_in s.classes.now) (l.depths - 1) (paper.inside (l.at.0 + i)) (l.at.0 + f.0) (piece f.0 p.0 l.room.now))) row_after

        pub inner_here : {u : Unit} → t ≡ Ok u → Here d p.0
        inner_here z = record {
          same = same_inner;
          going = (open_next o s.classes.now l.depths (owner_of l.owner) l.at.0 l.room.now a.table.now a.index a.rows.now a.row h.going some (step_as c.index r) refl ran.left (record { list = f; stop = p; behind = c.index }) (ap (step_as c.index) e)
              (walked_of d.index d.row (ended_by t)) read_inner (ap (λ (x : Result Unit Fault). walked_of d.index d.row (ended_by x)) z)).1;
        }

        pub inner_err : {u : Result Unit Fault} {x : Fault} → t ≡ Err x → u ≡ Err x → Walks a d u all
        inner_err {u} {x} z v = record {
          same = same_inner;
          left = ap (λ (y : Result Unit Fault). listed d.table.now d.rows.now (walked_of d.index d.row (ended_by y))) (v ∙ sym z)
              ∙ open_fault o s.classes.now l.depths (owner_of l.owner) l.at.0 l.room.now a.table.now a.index a.rows.now a.row h.going some (step_as c.index r) refl ran.left (record { list = f; stop = p; behind = c.index }) (ap (step_as c.index) e)
              (walked_of d.index d.row (ended_by t)) read_inner (ap (λ (y : Result Unit Fault). walked_of d.index d.row (ended_by y)) z);
        }
