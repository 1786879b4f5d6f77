-- Every refusal has a reason: `read_reason` and `tags_reason` (1 to 7, 9 to 18, or 24) and `answer_reason` (19 too), at the end. None is 0, which
-- means 'accepted' to a host, and none is 8 (C-11).
use Prim.Native.Nat.{ℕ, zero, suc, pred, ◌+◌, ◌-◌, ◌*◌, ◌/◌, ◌%◌, ◌≤◌}
use mathlib.Core.List.{List, [], ◌∷◌}
use mathlib.Core.Path.{◌≡◌, refl, subst}
use mathlib.Core.Bool.{Bool, true, false}
use mathlib.Core.Logic.{◌⊎◌, inl, inr}
use lib.ListN.{length, get_or, take, drop}
use lib.Dec.{T, ltb, leb, eqb}
use borrow.Author.Tests.{leb-true, eqb-false}
use native.Mathlib.Omega.{arith}
use Rattle.format.specs.Tests.{pick, ◌and◌, ◌or◌}
use Rattle.format.specs.Bits.{Order, ub, order_named}
use Rattle.format.specs.Reading.{Ending, At, Fault, Reading, follow}
use Rattle.format.specs.Formats.{Item, Format, nothing, item, only, ◌▹◌, ◌▸◌, times, the}
use Rattle.format.specs.Items.{skipped, room, Num, num, bad, show_num, map_num, sign_extend, read_ub, carry, read_var, sign, not_one, exist, read_flag, above, read_le, Text, text, cut, read_text, show_text, read_align, read_item, judge, run, byte_item, u32, i32, time, color, count, coordinates, scaled, path, uint16, gradient_color}
use Rattle.format.specs.Bodies.{font_tables, composition_attributes, solid_color, Kind, Value, Fixed, BitFlag, Simple, Discrete, MultiDimension, Spatial, Custom, DataType, U32s, Times, Floats, Ratios, Bools, Bytes, BlendModes, Paths, Points, Colors, GradientColors, Enums, Dashes, TagBlocks, Attribute, flags_of, value, values, interpolation, interpolations, how_many, points, curves, spatial, has_spatial, animated, aligned, dashes, keyframed, content_of, all_flags, rows, hand_on, read_block, Body, fixed, attributes, read_part, to_end, used_up, read_body}
use Rattle.format.specs.FileAndTags.{signature_right, version_right, length_right, Class, opaque, end, container, known, codes, class_of, is_end, is_container, Tag, Outcome, whole, fault, Walk, broken, chain, state_of, Head, head, no_head, le16, raw_head, passes, read_head, Owner, file, inside, TagInside, end_at, has_list, opened, within, after_tag, one_tag, walk, walk_list}
use Rattle.format.specs.TableOfNumbers.{table, tag_table}
use Rattle.format.specs.Reasons.{start_fault, walk_file, Result, gives, refuses, result, read_file, read_tags, Answer, accepted, refused, Left, into}
use Rattle.format.proofs.Absurd.{either_way}

-- a reason that the reader gives: 1 to 7, 9 to 18, or 24
abbrev pub IsReason : ℕ → Type 0
IsReason e = ((1 ≤ e) × (e ≤ 7)) ⊎ ((9 ≤ e) × (e ≤ 18)) ⊎ (e ≡ 24)

-- for a number that is written out: `reason tt`
reason : {e : ℕ} → T ((leb 1 e and leb e 7) or (leb 9 e and leb e 18)) → IsReason e
reason {e} h = go (leb 1 e) refl (leb e 7) refl (leb 9 e) refl (leb e 18) refl h
  where
    go : (a : Bool) → leb 1 e ≡ a → (b : Bool) → leb e 7 ≡ b → (c : Bool) → leb 9 e ≡ c → (d : Bool) → leb e 18 ≡ d
        → T ((a and b) or (c and d)) → IsReason e
    go true p true q c r d s h = inl (leb-true 1 e p, leb-true e 7 q)
    go true p false q true r true s h = inr (inl (leb-true 9 e r, leb-true e 18 s))
    go true p false q true r false s h = absurd h
    go true p false q false r d s h = absurd h
    go false p b q true r true s h = inr (inl (leb-true 9 e r, leb-true e 18 s))
    go false p b q true r false s h = absurd h
    go false p b q false r d s h = absurd h

-- ---- endings: a fault has a reason
abbrev pub NamedEnd : Ending → Type 0
NamedEnd (At p) = Unit {0}
NamedEnd (Fault e) = IsReason e

named_follow : (xs : List ℕ) (z : Ending) (k : List ℕ → ℕ → Reading) → NamedEnd z → ((p : ℕ) → NamedEnd (k xs p).ended) → NamedEnd (follow xs z k).ended
named_follow xs (At p) k h l = l p
named_follow xs (Fault e) k h l = h

named_judge : (t : List ℕ → Bool) (e : ℕ) (xs : List ℕ) (z : Ending) → IsReason e → NamedEnd z → NamedEnd (judge t e xs z).ended
named_judge t e xs (At p) h k = either_way (λ (r : Reading). NamedEnd r.ended) (t xs) tt h
named_judge t e xs (Fault e') h k = k

-- ---- what items read: 13 and 14; skipped bits are 15
abbrev NamedNum : Num → Type 0
NamedNum r = NamedEnd (show_num r).ended

named_map : (f : ℕ → ℕ) (r : Num) → NamedNum r → NamedNum (map_num f r)
named_map f (num v p) h = tt
named_map f (bad e) h = h

named_carry : (x : ℕ) (r : Num) → NamedNum r → NamedNum (carry x r)
named_carry x (num zero p) h = reason tt
named_carry x (num (suc v) p) h = tt
named_carry x (bad e) h = h

named_not_one : (r : Num) → NamedNum r → NamedNum (not_one r)
named_not_one (num d p) h = either_way NamedNum (eqb d 1) (reason tt) tt
named_not_one (bad e) h = h

named_above : (x : ℕ) (r : Num) → NamedNum r → NamedNum (above x r)
named_above x (num v p) h = tt
named_above x (bad e) h = h

named_exist : (r : Num) → NamedNum r → NamedNum (exist r)
named_exist (num v p) h = tt
named_exist (bad e) h = h

named_text : (t : Text) → NamedEnd (show_text t).ended
named_text (text xs p) = tt
named_text (cut xs) = reason tt

module _ (o : Order) where
  module _ (b : List ℕ) where
    named_ub : (p n : ℕ) → NamedNum (read_ub o b p n)
    named_ub p n = either_way NamedNum (room b p n) tt (reason tt)

    named_var : (c p k : ℕ) → NamedNum (read_var o b c p k)
    unfolding read_var
    named_var c p zero = either_way NamedNum (room b p 8) (either_way NamedNum (leb (ub o b p 8) c) tt (reason tt)) (reason tt)
    named_var c p (suc k) = either_way NamedNum (room b p 8)
        (either_way NamedNum (ltb (ub o b p 8) 128) tt (named_carry (ub o b p 8) (read_var o b c (p + 8) k) (named_var c (p + 8) k))) (reason tt)

    named_le : (p n : ℕ) → NamedNum (read_le o b p n)
    unfolding read_le
    named_le p zero = tt
    named_le p (suc n) = either_way NamedNum (room b p 8) (named_above (ub o b p 8) (read_le o b (p + 8) n) (named_le (p + 8) n)) (reason tt)

    named_flag : (p n : ℕ) → NamedNum (read_flag o b p n)
    unfolding read_flag
    named_flag p zero = tt
    named_flag p (suc n) = either_way NamedNum (room b p 1)
        (either_way NamedNum (eqb (ub o b p 1) 0) tt (named_exist (read_flag o b (p + 1) n) (named_flag (p + 1) n))) (reason tt)

    named_align : (p : ℕ) → NamedEnd (read_align o b p).ended
    named_align p = either_way (λ (r : Reading). NamedEnd r.ended) (eqb (ub o b p (skipped p)) 0) tt (reason tt)

  -- ---- formats: the faults of a reading have reasons, wherever it starts
  pub record Named (f : Format) : Type 0 where
    pub ends : (b : List ℕ) (p : ℕ) → NamedEnd (run o b f p).ended

  item_ends : (i : Item) (b : List ℕ) (p : ℕ) → NamedEnd (read_item o b i p).ended
  unfolding read_item
  item_ends Item.U32 b p = named_var b 15 p 4
  item_ends Item.U64 b p = named_var b 1 p 9
  item_ends Item.I32 b p = named_map sign (not_one (read_var o b 15 p 4)) (named_not_one (read_var o b 15 p 4) (named_var b 15 p 4))
  item_ends (Item.Le n) b p = named_le b p n
  item_ends Item.string b p = named_text (read_text o b p (length b))
  item_ends (Item.UB n) b p = named_ub b p n
  item_ends (Item.SB n) b p = named_map (sign_extend n) (read_ub o b p n) (named_ub b p n)
  item_ends Item.width b p = named_map suc (read_ub o b p 5) (named_ub b p 5)
  item_ends Item.dash_length b p = named_map suc (read_ub o b p 3) (named_ub b p 3)
  item_ends Item.align b p = named_align b p
  item_ends (Item.flag n) b p = named_flag b p n
  item_ends (Item.echo n) b p = tt

  pub named_item : (i : Item) → Named (item i)
  unfolding run
  named_item i = record { ends = λ b p. item_ends i b p }

  pub named_nothing : Named nothing
  unfolding run
  named_nothing = record { ends = λ b p. tt }

  pub named_only : {t : List ℕ → Bool} {e : ℕ} {f : Format} → IsReason e → Named f → Named (only t e f)
  unfolding run
  named_only {t} {e} {f} h k = record { ends = λ b p. named_judge t e (run o b f p).shown (run o b f p).ended h (k.ends b p) }

  pub named_then : {f : Format} {g : List ℕ → Format} → Named f → ((xs : List ℕ) → Named (g xs)) → Named (f ▹ g)
  unfolding run
  named_then {f} {g} h k = record {
    ends = λ b p. named_follow (run o b f p).shown (run o b f p).ended (λ xs q. run o b (g xs) q) (h.ends b p) (λ q. (k (run o b f p).shown).ends b q);
  }

  pub named_seq : {f g : Format} → Named f → Named g → Named (f ▸ g)
  named_seq h k = named_then h (λ xs. k)

  pub named_times : (n : ℕ) {f : Format} → Named f → Named (times n f)
  unfolding times
  named_times zero h = named_nothing
  named_times (suc n) h = named_seq h (named_times n h)

  -- ---- the formats of document 01; a number out of its range is 16 or 17
  named_byte : (i : Item) → Named (byte_item i)
  named_byte i = named_seq (named_item Item.align) (named_item i)

  named_count : (lo hi : ℕ) → Named (count lo hi)
  named_count lo hi = named_only (reason tt) (named_byte Item.U32)

  named_color : Named color
  named_color = named_times 3 (named_byte (Item.UB 8))

  -- a width, and n fields of that width
  named_fields : (n : ℕ) → Named (scaled n)
  named_fields n = named_then (named_item Item.width) (λ w. named_times n (named_item (Item.SB (the w))))

  named_path : Named path
  named_path = named_then (named_count 0 4096) (λ n. named_then (named_times (the n) (named_item (Item.UB 3))) (λ verbs. named_fields (coordinates verbs)))

  named_gradient : Named gradient_color
  named_gradient = named_then (named_count 0 4096) (λ alphas. named_then (named_count 0 4096) (λ colors.
      named_seq (named_times (the alphas) (stop_of_lem (named_byte (Item.UB 8)))) (named_times (the colors) (stop_of_lem named_color))))
    where
      stop_of_lem : {f : Format} → Named f → Named (uint16 ▸ uint16 ▸ f)
      stop_of_lem h = named_seq (named_byte (Item.Le 2)) (named_seq (named_byte (Item.Le 2)) h)

  named_dashes : Named dashes
  named_dashes = named_seq (named_item Item.align) (named_seq (named_item Item.dash_length) (named_then (named_item (Item.UB 1)) (λ exist. named_times (the exist) (named_item (Item.UB 1)))))

  named_value : (d : DataType) → Named (value d)
  named_value U32s = named_byte Item.U32
  named_value Times = named_byte Item.U64
  named_value Floats = named_byte (Item.Le 4)
  named_value Ratios = named_seq (named_byte Item.I32) (named_byte Item.U32)
  named_value Bools = named_only (reason tt) (named_byte (Item.UB 8))
  named_value Bytes = named_byte (Item.UB 8)
  named_value BlendModes = named_only (reason tt) (named_byte (Item.UB 8))
  named_value Paths = named_path
  named_value Points = named_seq (named_byte (Item.Le 4)) (named_byte (Item.Le 4))
  named_value Colors = named_color
  named_value GradientColors = named_gradient
  named_value (Enums top) = named_only (reason tt) (named_byte (Item.UB 8))
  named_value Dashes = named_dashes
  named_value TagBlocks = named_nothing

  named_points : (k : Kind) (n : ℕ) → Named (points k n)
  named_points Value n = named_times n (named_value Points)
  named_points Fixed n = named_times n (named_value Points)
  named_points BitFlag n = named_times n (named_value Points)
  named_points Simple n = named_times n (named_value Points)
  named_points Discrete n = named_times n (named_value Points)
  named_points MultiDimension n = named_times n (named_value Points)
  named_points Custom n = named_times n (named_value Points)
  named_points Spatial n = named_then (named_item Item.width) (λ w. named_times (n * 2) (named_item (Item.UB (the w))))

  named_values : (k : Kind) (d : DataType) (n : ℕ) → Named (values k d n)
  named_values k U32s n = named_times n (named_value U32s)
  named_values k Times n = named_times n (named_value Times)
  named_values k Floats n = named_times n (named_value Floats)
  named_values k Ratios n = named_times n (named_value Ratios)
  named_values k Bools n = named_times n (named_item (Item.UB 1))
  named_values k Bytes n = named_then (named_item Item.width) (λ w. named_times n (named_only (reason tt) (named_item (Item.UB (the w)))))
  named_values k BlendModes n = named_times n (named_value BlendModes)
  named_values k Paths n = named_times n named_path
  named_values k Points n = named_points k n
  named_values k Colors n = named_times n named_color
  named_values k GradientColors n = named_times n named_gradient
  named_values k (Enums top) n = named_times n (named_value (Enums top))
  named_values k Dashes n = named_times n named_dashes
  named_values k TagBlocks n = named_times n named_nothing

  named_types : (n : ℕ) → Named (times n interpolation)
  named_types n = named_times n (named_only (reason tt) (named_item (Item.UB 2)))

  named_interpolations : (k : Kind) (n : ℕ) → Named (interpolations k n)
  named_interpolations Value n = named_nothing
  named_interpolations Fixed n = named_nothing
  named_interpolations BitFlag n = named_nothing
  named_interpolations Simple n = named_types n
  named_interpolations Discrete n = named_nothing
  named_interpolations MultiDimension n = named_types n
  named_interpolations Spatial n = named_types n
  named_interpolations Custom n = named_nothing

  named_aligned : {f : Format} → Named f → Named (aligned ▸ f)
  named_aligned h = named_seq (named_item Item.align) h

  named_spatial : (n : ℕ) → Named (spatial n)
  named_spatial n = named_aligned (named_then (named_times (n * 2) (named_item (Item.UB 1))) (λ flags. named_fields (how_many 1 flags * 2)))

  named_keyframed : (k : Kind) (d : DataType) (φ : ℕ) → Named (keyframed k d φ)
  named_keyframed k d φ = named_then (named_count 1 4096) (λ n.
      named_then (named_aligned (named_interpolations k (the n))) (λ kinds.
      named_seq (named_times (suc (the n)) (named_value Times))
      (named_aligned (named_seq (named_values k d (suc (the n)))
      (named_aligned (named_seq (named_fields (how_many 2 kinds * 4 * curves k d)) (either_way Named (has_spatial φ) (named_spatial (the n)) named_nothing)))))))

  named_animated : (k : Kind) (d : DataType) (φ : ℕ) → Named (animated k d φ)
  named_animated k d φ = either_way Named (eqb φ 0) named_nothing (either_way Named (eqb φ 1) (named_value d) (named_keyframed k d φ))

  named_content : (k : Kind) (d : DataType) (φ : ℕ) → Named (content_of k d φ)
  named_content Value d φ = either_way Named (eqb φ 0) named_nothing (named_value d)
  named_content Fixed d φ = named_value d
  named_content BitFlag d φ = named_nothing
  named_content Simple d φ = named_animated Simple d φ
  named_content Discrete d φ = named_animated Discrete d φ
  named_content MultiDimension d φ = named_animated MultiDimension d φ
  named_content Spatial d φ = named_animated Spatial d φ
  named_content Custom d φ = either_way Named (eqb φ 0) named_nothing (named_value d)

  -- ---- attribute blocks, whatever their attributes
  named_flags : (attrs : List Attribute) → Named (all_flags attrs)
  unfolding all_flags
  named_flags [] = named_nothing
  named_flags (a ∷ attrs) = named_seq (named_item (flags_of a.kind)) (named_flags attrs)

  named_rows : (attrs : List Attribute) (φs : List ℕ) → Named (rows attrs φs)
  unfolding rows
  named_rows [] φs = named_nothing
  named_rows (a ∷ attrs) [] = named_nothing
  named_rows (a ∷ attrs) (φ ∷ φs) = named_seq (named_item (Item.echo φ)) (named_seq (named_content a.kind a.data_type φ) (named_rows attrs φs))

  pub named_block : (attrs : List Attribute) (b : List ℕ) (p : ℕ) → NamedEnd (read_block o b attrs p).ended
  unfolding read_block
  named_block attrs b p = go (run o b (all_flags attrs) p).shown (run o b (all_flags attrs) p).ended ((named_flags attrs).ends b p)
    where
      go : (φs : List ℕ) (z : Ending) → NamedEnd z → NamedEnd (hand_on φs z (λ φs q. run o b (rows attrs φs) q)).ended
      go φs (At q) h = (named_rows attrs φs).ends b q
      go φs (Fault e) h = h

  -- ---- bodies: 15 and 18 at the end
  abbrev pub NamedBody : Body → Type 0
  NamedBody (fixed f) = Named f
  NamedBody (attributes attrs) = Unit {0}

  named_part : (y : Body) → NamedBody y → (b : List ℕ) (p : ℕ) → NamedEnd (read_part o b y p).ended
  unfolding read_part
  named_part (fixed f) h b p = h.ends b p
  named_part (attributes attrs) h b p = named_block attrs b p

  pub named_end : (y : Body) → NamedBody y → (b : List ℕ) → NamedEnd (to_end o b y).ended
  named_end y h b = named_follow (read_part o b y 0).shown (read_part o b y 0).ended (λ xs p. read_align o b p) (named_part y h b 0) (λ p. named_align b p)

  pub named_body : (y : Body) → NamedBody y → (b : List ℕ) → NamedEnd (read_body o y b).ended
  unfolding read_body
  named_body y h b = go (to_end o b y).shown (to_end o b y).ended (named_end y h b)
    where
      go : (xs : List ℕ) (z : Ending) → NamedEnd z → NamedEnd (used_up (8 * length b) xs z).ended
      go xs (At p) h = either_way NamedEnd (eqb p (8 * length b)) tt (reason tt)
      go xs (Fault e) h = h

  -- ---- classes: each code's, at each level
  abbrev pub NamedClass : Class → Type 0
  NamedClass opaque = Unit {0}
  NamedClass end = Unit {0}
  NamedClass (container y) = NamedBody y
  NamedClass (known y) = NamedBody y

  abbrev NamedAll : List Class → Type 0
  NamedAll [] = Unit {0}
  NamedAll (c ∷ cs) = NamedClass c × NamedAll cs

  named_at : (cs : List Class) → NamedAll cs → (n : ℕ) → NamedClass (get_or cs n opaque)
  named_at [] h n = tt
  named_at (c ∷ cs) h zero = h.0
  named_at (c ∷ cs) h (suc n) = named_at cs h.1 n

  named_codes : NamedAll codes
  named_codes = (tt, (fonts, (u, (composition, (tt, (named_seq (named_byte (Item.UB 8)) u, (tt, (solid, (tt, (tt, (tt, (u, (named_seq u t, (tt, (tt, shapes)))))))))))))))
    where
      shapes : NamedAll (drop 15 codes)
      shapes = (tt, (tt, (tt, (tt, (tt, (tt, (tt, (tt, (tt, (tt, (tt, (tt, (tt, tt)))))))))))))

      u : Named u32
      u = named_byte Item.U32

      i : Named i32
      i = named_byte Item.I32

      t : Named time
      t = named_byte Item.U64

      fonts : Named font_tables
      fonts = named_then (named_count 0 4096) (λ n. named_times (the n) (named_seq (named_byte Item.string) (named_byte Item.string)))

      composition : Named composition_attributes
      composition = named_seq i (named_seq i (named_seq t (named_seq (named_byte (Item.Le 4)) named_color)))

      solid : Named solid_color
      solid = named_seq named_color (named_seq i i)

  pub named_class : (level code : ℕ) → NamedClass (class_of level code)
  unfolding class_of
  named_class level code = either_way NamedClass (ltb level code) tt (named_at codes named_codes code)

-- ---- headers: 6, 9, 10, 12
abbrev pub NamedHead : Head → Type 0
NamedHead (head code len size) = Unit {0}
NamedHead (no_head e) = IsReason e

named_raw : (r : List ℕ) → NamedHead (raw_head r)
named_raw r =
    either_way NamedHead (ltb (length r) 2) (reason tt)
    (either_way NamedHead (eqb (le16 r % 64) 63)
    (either_way NamedHead (ltb (length r) 6) (reason tt) tt)
    tt)

pub named_head : (class : ℕ → Class) (left : ℕ) (r : List ℕ) → NamedHead (read_head class left r)
named_head class left r = go (raw_head r) (named_raw r)
  where
    go : (g : Head) → NamedHead g → NamedHead (passes class left r g)
    go (no_head e) h = h
    go (head code len size) h =
        either_way NamedHead (ltb (length (drop size r)) len) (reason tt)
        (either_way NamedHead (is_end (class code) and ltb 0 len) (reason tt)
        (either_way NamedHead (is_container (class code) and eqb left 0) (reason tt) tt))

-- ---- walks: 7, 11, and what stands inside
abbrev pub NamedOutcome : Outcome → Type 0
NamedOutcome whole = Unit {0}
NamedOutcome (fault e n) = IsReason e

abbrev pub NamedWalk : Walk → Type 0
NamedWalk w = NamedOutcome w.ended

named_end_at : (a : ℕ) (z : Ending) → NamedEnd z → NamedOutcome (end_at a z)
named_end_at a (At p) h = tt
named_end_at a (Fault e) h = h

named_chain : (ts : List Tag) (z : Outcome) (w : Walk) → NamedOutcome z → NamedWalk w → NamedWalk (chain ts z w)
named_chain ts whole w h k = k
named_chain ts (fault e n) w h k = h

named_after : (e : Bool) (c : Owner) (a : ℕ) (r : List ℕ) (next : ℕ → List ℕ → Walk) → NamedWalk (next a r) → NamedWalk (after_tag e c a r next)
named_after false c a r next h = h
named_after true c a [] next h = tt
named_after true c a (x ∷ r) next h = reason tt

module _ (o : Order) where
  named_within : (R : Owner → ℕ → List ℕ → Walk) → ((c : Owner) (a : ℕ) (r : List ℕ) → NamedWalk (R c a r)) → (cl : Class) → NamedClass o cl
      → (a s : ℕ) (body : List ℕ) → NamedWalk (within o R cl a s body).walk
  named_within R u opaque h a s body = tt
  named_within R u end h a s body = tt
  named_within R u (known y) h a s body = named_end_at a (read_body o y body).ended (named_body o y h body)
  named_within R u (container y) h a s body = either_way (λ (i : TagInside). NamedWalk i.walk) (has_list y (to_end o body y).shown)
      (go (to_end o body y).shown (to_end o body y).ended (named_end o y h body)) (named_end_at a (read_body o y body).ended (named_body o y h body))
    where
      go : (xs : List ℕ) (z : Ending) → NamedEnd z → NamedWalk (opened R a s body xs z).walk
      go xs (At p) h = u (inside a) (s + p / 8) (drop (p / 8) body)
      go xs (Fault e) h = h

  pub named_walk : (class : ℕ → Class) → ((code : ℕ) → NamedClass o (class code)) → (k left : ℕ) (c : Owner) (a : ℕ) (r : List ℕ) → NamedWalk (walk o class k left c a r)
  unfolding walk
  named_walk class h zero left c a r = reason tt
  named_walk class h (suc k) left c a [] = reason tt
  named_walk class h (suc k) left c a (x ∷ r) = one (λ left c a r. named_walk class h k left c a r) (read_head class left (x ∷ r)) (named_head class left (x ∷ r))
    where
      R : ℕ → Owner → ℕ → List ℕ → Walk
      R = walk o class k

      one : ((left : ℕ) (c : Owner) (a : ℕ) (r : List ℕ) → NamedWalk (R left c a r)) → (g : Head) → NamedHead g → NamedWalk (one_tag o class R left c a (x ∷ r) g)
      one u (no_head e) g = g
      one u (head code len size) g =
          let t : Tag = record { depth = 8 - left; code = code; place = a; header_size = size; body_length = len; state = state_of (class code) size len; values = (within o (R (pred left)) (class code) a (a + size) (take len (drop size (x ∷ r)))).values } in
          named_chain (t ∷ (within o (R (pred left)) (class code) a (a + size) (take len (drop size (x ∷ r)))).walk.tags) (within o (R (pred left)) (class code) a (a + size) (take len (drop size (x ∷ r)))).walk.ended
          (after_tag (is_end (class code)) c (a + size + len) (drop (size + len) (x ∷ r)) (R left c))
          (named_within (R (pred left)) (u (pred left)) (class code) (h code) a (a + size) (take len (drop size (x ∷ r))))
          (named_after (is_end (class code)) c (a + size + len) (drop (size + len) (x ∷ r)) (R left c) (u left c (a + size + len) (drop (size + len) (x ∷ r))))

-- ---- files: 1 to 5 and 24 before the walk
abbrev NoneOr : ℕ → Type 0
NoneOr e = (e ≡ 0) ⊎ IsReason e

start_reason : (order level : ℕ) (f : List ℕ) → NoneOr (start_fault order level f)
unfolding start_fault
start_reason order level f =
    way (ltb 1023 level) (inr (reason tt))
    (way (ltb 1 order) (inr (inr (inr refl)))
    (way (ltb (length f) 9) (inr (reason tt))
    (way (signature_right f)
    (way (version_right f)
    (way (length_right f) (inl refl)
    (inr (reason tt)))
    (inr (reason tt)))
    (inr (reason tt)))))
  where
    way : (c : Bool) {x y : ℕ} → NoneOr x → NoneOr y → NoneOr (pick c x y)
    way c h k = either_way NoneOr c h k

named_file : (order level : ℕ) (f : List ℕ) → NamedWalk (walk_file order level f)
unfolding walk_file
named_file order level f = go (eqb (start_fault order level f) 0) refl
  where
    start : (start_fault order level f ≡ 0 → ⊥) → NoneOr (start_fault order level f) → IsReason (start_fault order level f)
    start n (inl z) = absurd (n z)
    start n (inr h) = h

    go : (c : Bool) → eqb (start_fault order level f) 0 ≡ c → NamedWalk (pick c (walk_list (order_named order) (class_of level) 8 file 9 (drop 9 f)) (broken (start_fault order level f) 0))
    go true e = named_walk (order_named order) (class_of level) (λ code. named_class (order_named order) level code) (length (drop 9 f)) 8 file 9 (drop 9 f)
    go false e = start (eqb-false (start_fault order level f) 0 e) (start_reason order level f)

-- what refuses is a fault, with its reason
abbrev NamedResult : Result → Type 0
NamedResult (gives ns) = Unit {0}
NamedResult (refuses e n) = IsReason e

named_result : (ns : List ℕ) (z : Outcome) → NamedOutcome z → NamedResult (result ns z)
named_result ns whole h = tt
named_result ns (fault e n) h = h

named_read : (order level : ℕ) (f : List ℕ) → NamedResult (read_file order level f)
unfolding read_file
named_read order level f = named_result (table f (walk_file order level f)) (walk_file order level f).ended (named_file order level f)

named_tags : (order level : ℕ) (f : List ℕ) → NamedResult (read_tags order level f)
unfolding read_tags
named_tags order level f = named_result (tag_table (walk_file order level f).tags) (walk_file order level f).ended (named_file order level f)

pub read_reason : (order level : ℕ) (f : List ℕ) {e n : ℕ} → read_file order level f ≡ refuses e n → IsReason e
read_reason order level f q = subst NamedResult q (named_read order level f)

pub tags_reason : (order level : ℕ) (f : List ℕ) {e n : ℕ} → read_tags order level f ≡ refuses e n → IsReason e
tags_reason order level f q = subst NamedResult q (named_tags order level f)

-- ---- answers, with lent memory m: 19 too
abbrev NamedAnswer : Answer → Type 0
NamedAnswer (accepted n) = Unit {0}
NamedAnswer (refused e n) = IsReason e ⊎ (e ≡ 19)

named_into : (m : List ℕ) (r : Result) → ((e n : ℕ) → r ≡ refuses e n → IsReason e) → NamedAnswer (into m r).answer
named_into m (gives ns) h = either_way (λ (l : Left). NamedAnswer l.answer) (leb (length ns) (length m)) tt (inr refl)
named_into m (refuses e n) h = inl (h e n refl)

pub answer_reason : (m : List ℕ) (r : Result) → ((e n : ℕ) → r ≡ refuses e n → IsReason e) → {e n : ℕ} → (into m r).answer ≡ refused e n → IsReason e ⊎ (e ≡ 19)
answer_reason m r h q = subst NamedAnswer q (named_into m r h)

-- no refusal has reason 0
pub reason_pos : {e : ℕ} → IsReason e ⊎ (e ≡ 19) → 1 ≤ e
reason_pos (inl (inl h)) = h.0
reason_pos (inl (inr (inl h))) = omega (arith, h.0)
reason_pos (inl (inr (inr h))) = omega (arith, h)
reason_pos (inr h) = omega (arith, h)

-- and none of a file is 19, or (C-11) 8
pub not_19 : {e : ℕ} → IsReason e → e ≡ 19 → ⊥
not_19 (inl h) q = absurd (omega (arith, h.1, q))
not_19 (inr (inl h)) q = absurd (omega (arith, h.1, q))
not_19 (inr (inr h)) q = absurd (omega (arith, h, q))

pub not_8 : {e : ℕ} → IsReason e → e ≡ 8 → ⊥
not_8 (inl h) q = absurd (omega (arith, h.1, q))
not_8 (inr (inl h)) q = absurd (omega (arith, h.0, q))
not_8 (inr (inr h)) q = absurd (omega (arith, h, q))
