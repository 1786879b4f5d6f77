-- How many numbers a reading shows (C-21), for every ending: a number takes at least a bit, but for the flag number of a Fixed attribute.
use Prim.Native.Nat.{ℕ, zero, suc, ◌+◌, ◌*◌, ◌≤◌, ◌<◌}
use mathlib.Core.List.{List, [], ◌++◌}
use mathlib.Core.Path.{◌≡◌, refl}
use mathlib.Core.Bool.{Bool, true, false}
use lib.ListN.{length, length-append}
use lib.Dec.{ltb, leb, eqb}
use borrow.Author.Tests.{leb-true}
use native.Mathlib.Omega.{arith}
use Rattle.format.specs.Tests.{pick}
use Rattle.format.specs.Bits.{Order, ub}
use Rattle.format.specs.Reading.{Ending, At, Fault, Reading, shows, stop, follow}
use Rattle.format.specs.Formats.{Item, Format, nothing, item, only, ◌▹◌, ◌▸◌, times, the}
use Rattle.format.specs.Items.{sign_extend, skipped, room, Num, num, bad, show_num, map_num, read_ub, carry, read_var, sign, not_one, exist, read_flag, above, read_le, Text, text, cut, add_text, read_text, show_text, read_item, judge, run, byte_item, u32, i32, time, float, byte, color, ratio, enum, count, coordinates, point, scaled, path, uint16, alpha_stop, color_stop, gradient_color}
use Rattle.format.specs.Bodies.{Kind, Value, Fixed, BitFlag, Simple, Discrete, MultiDimension, Spatial, Custom, DataType, U32s, Times, Floats, Ratios, Bools, Bytes, BlendModes, Paths, Points, Colors, GradientColors, Enums, Dashes, TagBlocks, dashes, blend_mode, value, values, interpolation, interpolations, how_many, points, curves, spatial, has_spatial, animated, aligned, keyframed, content_of}
use Rattle.format.proofs.WalkLaws.{run_le}
use Rattle.format.proofs.Absurd.{clash}

-- n numbers were shown from p on, in a body of L bits, with s numbers for nothing
abbrev pub FairEnd : ℕ → ℕ → ℕ → ℕ → Ending → Type 0
FairEnd s L p n (At q) = n + p ≤ q + s
FairEnd s L p n (Fault e) = n + p ≤ L + 1 + s

abbrev pub FairReading : ℕ → ℕ → ℕ → Reading → Type 0
FairReading s L p r = FairEnd s L p (length r.shown) r.ended

abbrev pub Fair : Order → ℕ → Format → Type 0
Fair o s f = (b : List ℕ) (p : ℕ) → p ≤ 8 * length b → FairReading s (8 * length b) p (run o b f p)

fair_stop : (s L p e : ℕ) → p ≤ L → FairReading s L p (stop e)
fair_stop s L p e l = omega arith

-- ---- numbers that take a bit at least
abbrev Past : ℕ → Num → Type 0
Past p (num v q) = p < q
Past p (bad e) = Unit {0}

past_fair : (s L p : ℕ) (r : Num) → p ≤ L → Past p r → FairReading s L p (show_num r)
past_fair s L p (num v q) l h = omega arith
past_fair s L p (bad e) l h = omega arith

past_map : (f : ℕ → ℕ) (p : ℕ) (r : Num) → Past p r → Past p (map_num f r)
past_map f p (num v q) h = h
past_map f p (bad e) h = tt

past_pick : (c : Bool) (p : ℕ) (r r' : Num) → Past p r → Past p r' → Past p (pick c r r')
past_pick true p r r' h l = h
past_pick false p r r' h l = l

module _ (o : Order) (b : List ℕ) where
  past_ub : (p n : ℕ) → 0 < n → Past p (read_ub o b p n)
  past_ub p n h = past_pick (room b p n) p (num (ub o b p n) (p + n)) (bad 13) (omega arith) tt

  past_var : (c p k : ℕ) → Past p (read_var o b c p k)
  unfolding read_var
  past_var c p zero = past_pick (room b p 8) p _ (bad 13) (past_pick (leb (ub o b p 8) c) p (num (ub o b p 8) (p + 8)) (bad 14) (omega arith) tt) tt
  past_var c p (suc k) = past_pick (room b p 8) p _ (bad 13)
      (past_pick (ltb (ub o b p 8) 128) p (num (ub o b p 8) (p + 8)) (carry (ub o b p 8) (read_var o b c (p + 8) k)) (omega arith) (go (read_var o b c (p + 8) k) (past_var c (p + 8) k))) tt
    where
      go : (r : Num) → Past (p + 8) r → Past p (carry (ub o b p 8) r)
      go (num zero q) h = tt
      go (num (suc v) q) h = omega arith
      go (bad e) h = tt

  past_not_one : (p : ℕ) (r : Num) → Past p r → Past p (not_one r)
  past_not_one p (num d q) h = past_pick (eqb d 1) p (bad 14) (num d q) tt h
  past_not_one p (bad e) h = tt

  -- flags and bytes that may be none
  abbrev From : ℕ → Num → Type 0
  From p (num v q) = p ≤ q
  From p (bad e) = Unit {0}

  from_flag : (p n : ℕ) → From p (read_flag o b p n)
  unfolding read_flag
  from_flag p zero = omega arith
  from_flag p (suc n) = go (room b p 1) (eqb (ub o b p 1) 0) (read_flag o b (p + 1) n) (from_flag (p + 1) n)
    where
      go : (c d : Bool) (r : Num) → From (p + 1) r → From p (pick c (pick d (num 0 (p + 1)) (exist r)) (bad 13))
      go false d r h = tt
      go true true r h = omega arith
      go true false (num v q) h = omega arith
      go true false (bad e) h = tt

  past_flag : (p n : ℕ) → Past p (read_flag o b p (suc n))
  unfolding read_flag
  past_flag p n = go (room b p 1) (eqb (ub o b p 1) 0) (read_flag o b (p + 1) n) (from_flag (p + 1) n)
    where
      go : (c d : Bool) (r : Num) → From (p + 1) r → Past p (pick c (pick d (num 0 (p + 1)) (exist r)) (bad 13))
      go false d r h = tt
      go true true r h = omega arith
      go true false (num v q) h = omega arith
      go true false (bad e) h = tt

  from_le : (p n : ℕ) → From p (read_le o b p n)
  unfolding read_le
  from_le p zero = omega arith
  from_le p (suc n) = go (room b p 8) (read_le o b (p + 8) n) (from_le (p + 8) n)
    where
      go : (c : Bool) (r : Num) → From (p + 8) r → From p (pick c (above (ub o b p 8) r) (bad 13))
      go false r h = tt
      go true (num v q) h = omega arith
      go true (bad e) h = tt

  past_le : (p n : ℕ) → Past p (read_le o b p (suc n))
  unfolding read_le
  past_le p n = go (room b p 8) (read_le o b (p + 8) n) (from_le (p + 8) n)
    where
      go : (c : Bool) (r : Num) → From (p + 8) r → Past p (pick c (above (ub o b p 8) r) (bad 13))
      go false r h = tt
      go true (num v q) h = omega arith
      go true (bad e) h = tt

  -- a String's bytes
  abbrev TxtFair : ℕ → ℕ → Text → Type 0
  TxtFair L p (text xs q) = length xs + 1 + p ≤ q
  TxtFair L p (cut xs) = length xs + p ≤ L

  fair_txt : (p k : ℕ) → p ≤ 8 * length b → TxtFair (8 * length b) p (read_text o b p k)
  unfolding read_text
  fair_txt p zero l = omega arith
  fair_txt p (suc k) l = go (room b p 8) refl (eqb (ub o b p 8) 0) (read_text o b (p + 8) k) (λ m. fair_txt (p + 8) k m)
    where
      go : (c : Bool) → room b p 8 ≡ c → (d : Bool) (t : Text) → (p + 8 ≤ 8 * length b → TxtFair (8 * length b) (p + 8) t)
          → TxtFair (8 * length b) p (pick c (pick d (text [] (p + 8)) (add_text (ub o b p 8) t)) (cut []))
      go false e d t h = omega arith
      go true e true t h = omega arith
      go true e false (text xs q) h = omega (arith, h (leb-true (p + 8) (8 * length b) e))
      go true e false (cut xs) h = omega (arith, h (leb-true (p + 8) (8 * length b) e))

-- ---- the items that show no number for nothing
abbrev pub Costs : Item → Type 0
Costs Item.align = Unit {0}
Costs (Item.UB n) = 0 < n
Costs (Item.SB n) = 0 < n
Costs Item.width = Unit {0}
Costs Item.dash_length = Unit {0}
Costs Item.U32 = Unit {0}
Costs Item.U64 = Unit {0}
Costs Item.I32 = Unit {0}
Costs (Item.flag n) = 0 < n
Costs (Item.echo n) = ⊥
Costs (Item.Le n) = 0 < n
Costs Item.string = Unit {0}

module _ (o : Order) where
  pub fair_item : (i : Item) → Costs i → Fair o 0 (item i)
  unfolding run read_item
  fair_item Item.align h b p l = go (eqb (ub o b p (skipped p)) 0)
    where
      go : (c : Bool) → FairReading 0 (8 * length b) p (pick c (shows [] (p + skipped p)) (stop 15))
      go true = omega arith
      go false = omega arith
  fair_item (Item.UB n) h b p l = past_fair 0 (8 * length b) p (read_ub o b p n) l (past_ub o b p n h)
  fair_item (Item.SB n) h b p l = past_fair 0 (8 * length b) p (map_num (sign_extend n) (read_ub o b p n)) l (past_map (sign_extend n) p (read_ub o b p n) (past_ub o b p n h))
  fair_item Item.dash_length h b p l = past_fair 0 (8 * length b) p (map_num suc (read_ub o b p 3)) l (past_map suc p (read_ub o b p 3) (past_ub o b p 3 (omega arith)))
  fair_item Item.width h b p l = past_fair 0 (8 * length b) p (map_num suc (read_ub o b p 5)) l (past_map suc p (read_ub o b p 5) (past_ub o b p 5 (omega arith)))
  fair_item Item.U32 h b p l = past_fair 0 (8 * length b) p (read_var o b 15 p 4) l (past_var o b 15 p 4)
  fair_item Item.U64 h b p l = past_fair 0 (8 * length b) p (read_var o b 1 p 9) l (past_var o b 1 p 9)
  fair_item Item.I32 h b p l = past_fair 0 (8 * length b) p (map_num sign (not_one (read_var o b 15 p 4))) l
      (past_map sign p (not_one (read_var o b 15 p 4)) (past_not_one o b p (read_var o b 15 p 4) (past_var o b 15 p 4)))
  fair_item (Item.flag zero) h b p l = absurd (omega arith)
  fair_item (Item.flag (suc n)) h b p l = past_fair 0 (8 * length b) p (read_flag o b p (suc n)) l (past_flag o b p n)
  fair_item (Item.echo n) h b p l = absurd h
  fair_item (Item.Le zero) h b p l = absurd (omega arith)
  fair_item (Item.Le (suc n)) h b p l = past_fair 0 (8 * length b) p (read_le o b p (suc n)) l (past_le o b p n)
  fair_item Item.string h b p l = go (read_text o b p (length b)) (fair_txt o b p (length b) l)
    where
      go : (t : Text) → TxtFair o b (8 * length b) p t → FairReading 0 (8 * length b) p (show_text t)
      go (text xs q) h = omega arith
      go (cut xs) h = omega arith

  -- ---- formats
  pub fair_nothing : Fair o 0 nothing
  unfolding run
  fair_nothing b p l = omega arith

  pub fair_echo : (n : ℕ) → Fair o 1 (item (Item.echo n))
  unfolding run read_item
  fair_echo n b p l = omega arith

  pub fair_more : (s s' : ℕ) (f : Format) → s ≤ s' → Fair o s f → Fair o s' f
  fair_more s s' f m h b p l = go (run o b f p).ended (h b p l)
    where
      go : (z : Ending) → FairEnd s (8 * length b) p (length (run o b f p).shown) z → FairEnd s' (8 * length b) p (length (run o b f p).shown) z
      go (At q) h = omega arith
      go (Fault e) h = omega arith

  pub fair_only : (s : ℕ) (t : List ℕ → Bool) (e : ℕ) (f : Format) → Fair o s f → Fair o s (only t e f)
  unfolding run
  fair_only s t e f h b p l = go (run o b f p).shown (run o b f p).ended (h b p l) (t (run o b f p).shown) refl
    where
      go : (xs : List ℕ) (z : Ending) → FairEnd s (8 * length b) p (length xs) z → (c : Bool) → t xs ≡ c → FairReading s (8 * length b) p (judge t e xs z)
      go xs (Fault z) h c eq = h
      go xs (At q) h true eq = rw eq h
      go xs (At q) h false eq = rw eq (omega arith)

  pub fair_then : (s s' : ℕ) (f : Format) (g : List ℕ → Format) → Fair o s f
      → ((b : List ℕ) (p q : ℕ) → (run o b f p).ended ≡ At q → Fair o s' (g (run o b f p).shown)) → Fair o (s + s') (f ▹ g)
  unfolding run
  fair_then s s' f g h k b p l = go (run o b f p).ended refl (h b p l)
    where
      xs : List ℕ
      xs = (run o b f p).shown

      more : (q : ℕ) → length xs + p ≤ q + s → (r : Reading) → FairReading s' (8 * length b) q r → FairReading (s + s') (8 * length b) p (record { shown = xs ++ r.shown; ended = r.ended })
      more q m r u = at r.ended u
        where
          at : (z : Ending) → FairEnd s' (8 * length b) q (length r.shown) z → FairEnd (s + s') (8 * length b) p (length (xs ++ r.shown)) z
          at (At y) u = rw length-append (omega arith)
          at (Fault e) u = rw length-append (omega arith)

      go : (z : Ending) → (run o b f p).ended ≡ z → FairEnd s (8 * length b) p (length xs) z → FairReading (s + s') (8 * length b) p (follow xs z (λ ys q. run o b (g ys) q))
      go (Fault e) eq u = omega arith
      go (At q) eq u = more q u (run o b (g xs) q) (k b p q eq b q (run_le o b f p q l eq).1)

  pub fair_seq : (f g : Format) → Fair o 0 f → Fair o 0 g → Fair o 0 (f ▸ g)
  fair_seq f g h k = fair_then 0 0 f (λ xs. g) h (λ b p q e. k)

  pub fair_times : (n : ℕ) (f : Format) → Fair o 0 f → Fair o 0 (times n f)
  unfolding times
  fair_times zero f h = fair_nothing
  fair_times (suc n) f h = fair_seq f (times n f) h (fair_times n f h)

  pub fair_byte : (i : Item) → Costs i → Fair o 0 (byte_item i)
  fair_byte i h = fair_seq (item Item.align) (item i) (fair_item Item.align tt) (fair_item i h)

  -- ---- the formats of document 01
  -- a width is 1 at least, so that fields of that width take bits
  pub fair_width : (g : ℕ → Format) → ((n : ℕ) → Fair o 0 (g (suc n))) → Fair o 0 (item Item.width ▹ λ w. g (the w))
  unfolding run read_item
  fair_width g h = fair_then 0 0 (item Item.width) (λ w. g (the w)) (fair_item Item.width tt) (λ b p q e. at b p q e)
    where
      wide : (b : List ℕ) (p q : ℕ) (c : Bool) → (show_num (map_num suc (pick c (num (ub o b p 5) (p + 5)) (bad 13)))).ended ≡ At q
          → Fair o 0 (g (the (show_num (map_num suc (pick c (num (ub o b p 5) (p + 5)) (bad 13)))).shown))
      wide b p q true e = h (ub o b p 5)
      wide b p q false e = clash cc

      at : (b : List ℕ) (p q : ℕ) → (run o b (item Item.width) p).ended ≡ At q → Fair o 0 (g (the (run o b (item Item.width) p).shown))
      at b p q e = wide b p q (room b p 5) e

  fair_count : (lo hi : ℕ) → Fair o 0 (count lo hi)
  fair_count lo hi = fair_only 0 (λ ns. pick (leb lo (the ns)) (leb (the ns) hi) false) 17 u32 (fair_byte Item.U32 tt)

  fair_enum : (top : ℕ) → Fair o 0 (enum top)
  fair_enum top = fair_only 0 (λ ns. leb (the ns) top) 16 byte (fair_byte (Item.UB 8) (omega arith))

  fair_scaled : (n : ℕ) → Fair o 0 (scaled n)
  fair_scaled n = fair_width (λ w. times n (item (Item.SB w))) (λ w. fair_times n (item (Item.SB (suc w))) (fair_item (Item.SB (suc w)) (omega arith)))

  pub fair_path : Fair o 0 path
  fair_path = fair_then 0 0 (count 0 4096) _ (fair_count 0 4096) (λ b p q e.
      fair_then 0 0 (times (the (run o b (count 0 4096) p).shown) (item (Item.UB 3))) _ (fair_times (the (run o b (count 0 4096) p).shown) (item (Item.UB 3)) (fair_item (Item.UB 3) (omega arith))) (λ b' p' q' e'.
      fair_scaled (coordinates (run o b' (times (the (run o b (count 0 4096) p).shown) (item (Item.UB 3))) p').shown)))

  pub fair_color : Fair o 0 color
  fair_color = fair_times 3 byte (fair_byte (Item.UB 8) (omega arith))

  fair_uint16 : Fair o 0 uint16
  fair_uint16 = fair_byte (Item.Le 2) (omega arith)

  pub fair_gradient : Fair o 0 gradient_color
  fair_gradient = fair_then 0 0 (count 0 4096) _ (fair_count 0 4096) (λ b p q e. fair_then 0 0 (count 0 4096) _ (fair_count 0 4096) (λ b' p' q' e'.
      stops (the (run o b (count 0 4096) p).shown) (the (run o b' (count 0 4096) p').shown)))
    where
      stops : (n m : ℕ) → Fair o 0 (times n alpha_stop ▸ times m color_stop)
      stops n m = fair_seq (times n alpha_stop) (times m color_stop)
          (fair_times n alpha_stop (fair_seq uint16 _ fair_uint16 (fair_seq uint16 byte fair_uint16 (fair_byte (Item.UB 8) (omega arith)))))
          (fair_times m color_stop (fair_seq uint16 _ fair_uint16 (fair_seq uint16 color fair_uint16 fair_color)))

  pub fair_dashes : Fair o 0 dashes
  fair_dashes = fair_seq aligned _ (fair_item Item.align tt) (fair_seq (item Item.dash_length) _ (fair_item Item.dash_length tt)
      (fair_then 0 0 (item (Item.UB 1)) _ (fair_item (Item.UB 1) (omega arith)) (λ b p q e.
      fair_times (the (run o b (item (Item.UB 1)) p).shown) (item (Item.UB 1)) (fair_item (Item.UB 1) (omega arith)))))

  fair_ratio : Fair o 0 ratio
  fair_ratio = fair_seq i32 u32 (fair_byte Item.I32 tt) (fair_byte Item.U32 tt)

  fair_point : Fair o 0 point
  fair_point = fair_seq float float (fair_byte (Item.Le 4) (omega arith)) (fair_byte (Item.Le 4) (omega arith))

  fair_blend : Fair o 0 blend_mode
  fair_blend = fair_only 0 (λ ns. pick (leb (the ns) 16) true (pick (leb 21 (the ns)) (leb (the ns) 26) false)) 16 byte (fair_byte (Item.UB 8) (omega arith))

  pub fair_value : (d : DataType) → Fair o 0 (value d)
  fair_value U32s = fair_byte Item.U32 tt
  fair_value Times = fair_byte Item.U64 tt
  fair_value Floats = fair_byte (Item.Le 4) (omega arith)
  fair_value Ratios = fair_ratio
  fair_value Bools = fair_enum 1
  fair_value Bytes = fair_byte (Item.UB 8) (omega arith)
  fair_value BlendModes = fair_blend
  fair_value Paths = fair_path
  fair_value Points = fair_point
  fair_value Colors = fair_color
  fair_value GradientColors = fair_gradient
  fair_value (Enums top) = fair_enum top
  fair_value Dashes = fair_dashes
  fair_value TagBlocks = fair_nothing

  fair_points : (k : Kind) (n : ℕ) → Fair o 0 (points k n)
  fair_points Value n = fair_times n point fair_point
  fair_points Fixed n = fair_times n point fair_point
  fair_points BitFlag n = fair_times n point fair_point
  fair_points Simple n = fair_times n point fair_point
  fair_points Discrete n = fair_times n point fair_point
  fair_points MultiDimension n = fair_times n point fair_point
  fair_points Custom n = fair_times n point fair_point
  fair_points Spatial n = fair_width (λ w. times (n * 2) (item (Item.UB w))) (λ w. fair_times (n * 2) (item (Item.UB (suc w))) (fair_item (Item.UB (suc w)) (omega arith)))

  pub fair_values : (k : Kind) (d : DataType) (n : ℕ) → Fair o 0 (values k d n)
  fair_values k U32s n = fair_times n u32 (fair_value U32s)
  fair_values k Times n = fair_times n time (fair_value Times)
  fair_values k Floats n = fair_times n float (fair_value Floats)
  fair_values k Ratios n = fair_times n ratio fair_ratio
  fair_values k Bools n = fair_times n (item (Item.UB 1)) (fair_item (Item.UB 1) (omega arith))
  fair_values k Bytes n = fair_width (λ w. times n (only (λ ns. leb (the ns) 255) 16 (item (Item.UB w))))
      (λ w. fair_times n (only (λ ns. leb (the ns) 255) 16 (item (Item.UB (suc w)))) (fair_only 0 (λ ns. leb (the ns) 255) 16 (item (Item.UB (suc w))) (fair_item (Item.UB (suc w)) (omega arith))))
  fair_values k BlendModes n = fair_times n blend_mode fair_blend
  fair_values k Paths n = fair_times n path fair_path
  fair_values k Points n = fair_points k n
  fair_values k Colors n = fair_times n color fair_color
  fair_values k GradientColors n = fair_times n gradient_color fair_gradient
  fair_values k (Enums top) n = fair_times n (enum top) (fair_enum top)
  fair_values k Dashes n = fair_times n dashes fair_dashes
  fair_values k TagBlocks n = fair_times n nothing fair_nothing

  fair_types : (n : ℕ) → Fair o 0 (times n interpolation)
  fair_types n = fair_times n interpolation (fair_only 0 (λ ns. ltb 0 (the ns)) 16 (item (Item.UB 2)) (fair_item (Item.UB 2) (omega arith)))

  pub fair_interpolations : (k : Kind) (n : ℕ) → Fair o 0 (interpolations k n)
  fair_interpolations Value n = fair_nothing
  fair_interpolations Fixed n = fair_nothing
  fair_interpolations BitFlag n = fair_nothing
  fair_interpolations Simple n = fair_types n
  fair_interpolations Discrete n = fair_nothing
  fair_interpolations MultiDimension n = fair_types n
  fair_interpolations Spatial n = fair_types n
  fair_interpolations Custom n = fair_nothing

  pub fair_aligned : (f : Format) → Fair o 0 f → Fair o 0 (aligned ▸ f)
  fair_aligned f h = fair_seq aligned f (fair_item Item.align tt) h

  pub fair_easing : (m : ℕ) → Fair o 0 (aligned ▸ scaled m)
  fair_easing m = fair_aligned (scaled m) (fair_scaled m)

  pub fair_spatial : (n : ℕ) → Fair o 0 (spatial n)
  fair_spatial n = fair_aligned _ (fair_then 0 0 (times (n * 2) (item (Item.UB 1))) _ (fair_times (n * 2) (item (Item.UB 1)) (fair_item (Item.UB 1) (omega arith))) (λ b p q e.
      fair_scaled (how_many 1 (run o b (times (n * 2) (item (Item.UB 1))) p).shown * 2)))

  fair_pick : (c : Bool) (f g : Format) → Fair o 0 f → Fair o 0 g → Fair o 0 (pick c f g)
  fair_pick true f g h k = h
  fair_pick false f g h k = k

  pub fair_keyframed : (k : Kind) (d : DataType) (φ : ℕ) → Fair o 0 (keyframed k d φ)
  fair_keyframed k d φ = fair_then 0 0 (count 1 4096) _ (fair_count 1 4096) (λ b p q e. frames (the (run o b (count 1 4096) p).shown))
    where
      rest : (n m : ℕ) → Fair o 0 (times (suc n) time ▸ aligned ▸ values k d (suc n) ▸ aligned ▸ scaled m ▸ pick (has_spatial φ) (spatial n) nothing)
      rest n m = fair_seq (times (suc n) time) _ (fair_times (suc n) time (fair_value Times))
          (fair_aligned _ (fair_seq (values k d (suc n)) _ (fair_values k d (suc n))
          (fair_aligned _ (fair_seq (scaled m) _ (fair_scaled m) (fair_pick (has_spatial φ) (spatial n) nothing (fair_spatial n) fair_nothing)))))

      frames : (n : ℕ) → Fair o 0 ((aligned ▸ interpolations k n) ▹ λ kinds.
          times (suc n) time ▸ aligned ▸ values k d (suc n) ▸ aligned ▸ scaled (how_many 2 kinds * 4 * curves k d) ▸ pick (has_spatial φ) (spatial n) nothing)
      frames n = fair_then 0 0 (aligned ▸ interpolations k n) _ (fair_aligned (interpolations k n) (fair_interpolations k n)) (λ b p q e.
          rest n (how_many 2 (run o b (aligned ▸ interpolations k n) p).shown * 4 * curves k d))

  fair_animated : (k : Kind) (d : DataType) (φ : ℕ) → Fair o 0 (animated k d φ)
  fair_animated k d φ = fair_pick (eqb φ 0) nothing _ fair_nothing (fair_pick (eqb φ 1) (value d) (keyframed k d φ) (fair_value d) (fair_keyframed k d φ))

  pub fair_content : (k : Kind) (d : DataType) (φ : ℕ) → Fair o 0 (content_of k d φ)
  fair_content Value d φ = fair_pick (eqb φ 0) nothing (value d) fair_nothing (fair_value d)
  fair_content Fixed d φ = fair_value d
  fair_content BitFlag d φ = fair_nothing
  fair_content Simple d φ = fair_animated Simple d φ
  fair_content Discrete d φ = fair_animated Discrete d φ
  fair_content MultiDimension d φ = fair_animated MultiDimension d φ
  fair_content Spatial d φ = fair_animated Spatial d φ
  fair_content Custom d φ = fair_pick (eqb φ 0) nothing (value d) fair_nothing (fair_value d)
