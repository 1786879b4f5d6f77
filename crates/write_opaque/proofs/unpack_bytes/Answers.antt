-- `write_opaque::unpack_bytes` meets its contract: each answer is a case of the definition.
use mathlib.Core.Bool.{not}
use native.Mathlib.Omega.{arith}
use Prim.Native.Nat.{◌+◌, ◌*◌, ◌/◌, ◌%◌}
use mathlib.Core.Path.{ap, refl, ◌∙◌}
use lib.ListN.{get_or, drop}
use Rattle.write_opaque.proofs.PackLaws.{no_numbers, too_long_lem, wrong_count, wrong_filling, all_whole, some_left, spread_length, few_length, positive}
use Rattle.write_opaque.proofs.unpack_bytes.Goals as goal

pub returns-then-values-eq0 : goal.returns-then-values-eq0
returns-then-values-eq0 c = no_numbers c.args.out.now c.args.at.0 c.args.values.now c.if-values-eq0.true

pub overflow_sub-from : goal.overflow_sub-from
overflow_sub-from c = omega (arith, c.requires)

pub returns-then-from-length : goal.returns-then-from-length
returns-then-from-length c = too_long_lem c.args.out.now c.args.at.0 c.args.values.now (get_or c.args.values.now 0 0) c.if-values-eq0.false refl c.requires c.if-from-length.true

pub overflow_add-len : goal.overflow_add-len
overflow_add-len c = omega (arith, c.if-from-length.false, c.requires)

pub overflow_add-len-2 : goal.overflow_add-len-2
overflow_add-len-2 c = omega (arith, c.if-from-length.false, c.requires)

pub returns-then-values-len : goal.returns-then-values-len
returns-then-values-len c = wrong_count c.args.out.now c.args.at.0 c.args.values.now (get_or c.args.values.now 0 0) c.if-values-eq0.false refl c.if-values-len.true

pub is_filled-requires : goal.is_filled-requires
is_filled-requires c = c.if-values-len.false

pub returns-then-not-is_filled : goal.returns-then-not-is_filled
returns-then-not-is_filled c = wrong_filling c.args.out.now c.args.at.0 c.args.values.now (get_or c.args.values.now 0 0) c.if-values-eq0.false refl c.if-values-len.false c.is_filled.ensures (ap not c.if-not-is_filled.true)

pub overflow_add-stop : goal.overflow_add-stop
overflow_add-stop c = omega (arith, c.if-from-length.false, c.requires)

pub lay_eights-requires : goal.lay_eights-requires
lay_eights-requires c = (omega (arith, c.room_for-room.ensures, c.if-values-len.false), omega (arith, c.room_for-room.ensures))

pub shape_of-out-then-left-eq0 : goal.shape_of-out-then-left-eq0
shape_of-out-then-left-eq0 c = let a = c.args in spread_length a.out.now a.at.0 (drop 1 a.values.now) (c.room_for-room.result / 8) c.lay_eights.ensures

pub returns-then-left-eq0 : goal.returns-then-left-eq0
returns-then-left-eq0 c = all_whole c.args.out.now c.args.at.0 c.args.values.now (get_or c.args.values.now 0 0) c.if-values-eq0.false refl c.if-values-len.false c.shared_slice_known-2-1.given c.is_filled.ensures (ap not c.if-not-is_filled.false) c.requires c.if-from-length.false c.room_for-room.result c.room_for-room.ensures c.if-left-eq0.true c.lay_eights.ensures

pub overflow_mul-whole : goal.overflow_mul-whole
overflow_mul-whole c = omega (arith, c.room_for-room.ensures, c.if-from-length.false)

pub overflow_add-from : goal.overflow_add-from
overflow_add-from c = omega (arith, c.room_for-room.ensures, c.if-from-length.false, c.requires)

pub overflow_add-whole : goal.overflow_add-whole
overflow_add-whole c = omega (arith, c.room_for-room.ensures, c.if-from-length.false)

pub bounds-values-whole : goal.bounds-values-whole
bounds-values-whole c = omega (arith, positive _ c.if-left-eq0.false, c.room_for-room.ensures, c.if-values-len.false)

pub put_few-requires : goal.put_few-requires
put_few-requires c = let a = c.args in (omega (arith, positive _ c.if-left-eq0.false, c.room_for-room.ensures, spread_length a.out.now a.at.0 (drop 1 a.values.now) (c.room_for-room.result / 8) c.lay_eights.ensures), omega arith)

pub shape_of-out : goal.shape_of-out
shape_of-out c = let a = c.args in let m = c.room_for-room.result in few_length _ (a.at.0 + 8 * (m / 8)) _ (m % 8) c.put_few.ensures ∙ spread_length a.out.now a.at.0 (drop 1 a.values.now) (m / 8) c.lay_eights.ensures

pub returns : goal.returns
returns c = some_left c.args.out.now c.args.at.0 c.args.values.now (get_or c.args.values.now 0 0) c.if-values-eq0.false refl c.if-values-len.false c.shared_slice_known-2-1.given c.is_filled.ensures (ap not c.if-not-is_filled.false) c.requires c.if-from-length.false c.room_for-room.result c.room_for-room.ensures c.if-left-eq0.false c.lay_eights.ensures refl refl c.put_few.ensures
