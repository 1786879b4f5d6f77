-- `bits::align` meets its contract: the skipped bits are the last of their byte.
use Rattle.std.proofs.Common.{◌-◌, ◌%◌, sym, ◌∙◌, arith}
use Rattle.bits.specs.Places.{order_of}
use Rattle.bits.proofs.FieldLaws.{skips_none, ub_in_byte, below_lt, aligned_clean, aligned_unclean}
use Rattle.bits.proofs.align.Goals as goal

pub returns-then-used-eq0 : goal.returns-then-used-eq0
returns-then-used-eq0 c =
    let w = c.next_byte.ensures in
    let e = c.if-used-eq0.true in
    aligned_clean (order_of c.args.order) c.args.bytes.now c.args.at.0 0 (omega (arith, e)) (skips_none _ _ _) (omega (arith, w, e))

pub cut-requires : goal.cut-requires
cut-requires c = (below_lt (order_of c.args.order) (c.args.at.0 % 8) 0 64 c.bits_below-below.ensures (omega arith) (omega arith), omega arith)

pub returns-then-cut-ne0 : goal.returns-then-cut-ne0
returns-then-cut-ne0 c =
    let b = c.args.bytes.now in
    let p = c.args.at.0 in
    let e = ub_in_byte (order_of c.args.order) b p (8 - p % 8) 0 c.byte_at.ensures (omega arith) c.bits_below-below.ensures c.cut.ensures.0 in
    aligned_unclean (order_of c.args.order) b p (8 - p % 8) (omega (arith, c.if-used-eq0.false)) (λ z. c.if-cut-ne0.true (sym e ∙ z))

pub returns : goal.returns
returns c =
    let b = c.args.bytes.now in
    let p = c.args.at.0 in
    let w = c.next_byte-2.ensures in
    let l = c.if-used-eq0.false in
    let e = ub_in_byte (order_of c.args.order) b p (8 - p % 8) 0 c.byte_at.ensures (omega arith) c.bits_below-below.ensures c.cut.ensures.0 in
    aligned_clean (order_of c.args.order) b p (8 - p % 8) (omega (arith, l)) (e ∙ c.if-cut-ne0.false) (omega (arith, w, l))
