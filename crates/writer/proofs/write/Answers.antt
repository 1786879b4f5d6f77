-- `writer::write` meets its contract: the classes that are made here are those of the level.
use mathlib.Core.List.{[]}
use native.Mathlib.Omega.{arith}
use Rattle.std.proofs.Common.{rules}
use Rattle.bits.specs.Places.{order_of}
use Rattle.writer.proofs.FileLaws.{tabled, lent, level_high, order_unknown, no_numbers, some, no_byte, no_list, small, numbers_left_lem, no_room, file_put}
use Rattle.writer.proofs.write.Goals as goal

pub returns-then-level-gt-HIGHEST_LEVEL : goal.returns-then-level-gt-HIGHEST_LEVEL
returns-then-level-gt-HIGHEST_LEVEL c = let a = c.args in level_high a.order a.level a.table.now c.if-level-gt-HIGHEST_LEVEL.true a.out.now

pub returns-in_default-first : goal.returns-in_default-first
returns-in_default-first c = let a = c.args in
    no_numbers a.order a.level a.table.now c.if-level-gt-HIGHEST_LEVEL.false c.in-Ok.ensures c.in_default-first.ensures.value a.out.now

pub returns-then-compression-gt-HIGHEST_BYTE : goal.returns-then-compression-gt-HIGHEST_BYTE
returns-then-compression-gt-HIGHEST_BYTE c = let a = c.args in
    no_byte a.order a.level a.table.now c.if-level-gt-HIGHEST_LEVEL.false c.in-Ok.ensures c.in-Some.ensures.value (omega (arith, c.if-compression-gt-HIGHEST_BYTE.true)) a.out.now

pub measure-requires : goal.measure-requires
measure-requires c = let a = c.args in
    (search (tabled, rules), some a.order a.level a.table.now c.if-level-gt-HIGHEST_LEVEL.false c.in-Ok.ensures c.in-Some.ensures.value)

pub returns-in_default-measure : goal.returns-in_default-measure
returns-in_default-measure c = let a = c.args in
    no_list a.order a.level a.table.now c.if-level-gt-HIGHEST_LEVEL.false c.in-Ok.ensures c.in-Some.ensures.value c.if-compression-gt-HIGHEST_BYTE.false
    (lent a.level c.fill_first.ensures (order_of c.in-Ok.order) a.table.now [] c.in_default-measure.ensures) a.out.now

pub returns-then-reached-table : goal.returns-then-reached-table
returns-then-reached-table c = let a = c.args in
    numbers_left_lem a.order a.level a.table.now c.if-level-gt-HIGHEST_LEVEL.false c.in-Ok.ensures c.in-Some.ensures.value c.if-compression-gt-HIGHEST_BYTE.false
    (lent a.level c.fill_first.ensures (order_of c.in-Ok.order) a.table.now [] c.in-Ok-measure.ensures) c.if-reached-table.true a.out.now

pub returns-then-out-length : goal.returns-then-out-length
returns-then-out-length c = let a = c.args in
    no_room a.order a.level a.table.now c.if-level-gt-HIGHEST_LEVEL.false c.in-Ok.ensures c.in-Some.ensures.value c.if-compression-gt-HIGHEST_BYTE.false
    (lent a.level c.fill_first.ensures (order_of c.in-Ok.order) a.table.now [] c.in-Ok-measure.ensures) c.if-reached-table.false a.out.now c.if-out-length.true

pub write_list-requires : goal.write_list-requires
write_list-requires c = let a = c.args in
    (search (tabled, rules), omega arith, some a.order a.level a.table.now c.if-level-gt-HIGHEST_LEVEL.false c.in-Ok.ensures c.in-Some.ensures.value)

pub put_start-requires : goal.put_start-requires
put_start-requires c = let a = c.args in
    let s = small a.order a.level a.table.now c.if-level-gt-HIGHEST_LEVEL.false c.in-Ok.ensures c.in-Some.ensures.value c.if-compression-gt-HIGHEST_BYTE.false
    (lent a.level c.fill_first.ensures (order_of c.in-Ok.order) a.table.now [] c.in-Ok-measure.ensures) in
    (omega (arith, s), omega (arith, c.if-compression-gt-HIGHEST_BYTE.false))

pub returns : goal.returns
returns c = let a = c.args in
    file_put a.order a.level a.table.now c.if-level-gt-HIGHEST_LEVEL.false c.in-Ok.ensures c.in-Some.ensures.value c.if-compression-gt-HIGHEST_BYTE.false
    (lent a.level c.fill_first.ensures (order_of c.in-Ok.order) a.table.now [] c.in-Ok-measure.ensures) c.if-reached-table.false a.out.now c.write_list.new.out _ c.write_list.result c.if-out-length.false
    (lent a.level c.fill_first.ensures (order_of c.in-Ok.order) a.table.now a.out.now c.write_list.ensures) c.put_start.ensures

pub returns-in_default : goal.returns-in_default
returns-in_default c = let a = c.args in
    order_unknown a.order a.level a.table.now c.if-level-gt-HIGHEST_LEVEL.false c.in_default.ensures a.out.now
