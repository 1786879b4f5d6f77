-- `table::Reader::all_fields` meets its contract: what is not stored yet is what there is still room for.
use Rattle.std.proofs.Common.{arith}
use Rattle.bits.proofs.FieldLaws.{one_shl}
use Rattle.table.proofs.FieldLaws.{shown_by_lem, stand, told_room, laying_next, laying_end}
use Rattle.table.proofs.reader.Reader.all_fields.Goals as goal

pub loop-i-preserved : goal.loop-i-preserved
loop-i-preserved c = laying_next c.loop-i.invariant (omega (arith, c.loop-i-test.true, c.room_for-i-end.ensures)) c.field-raw.ensures.0 c.with_sign.ensures

pub returns : goal.returns
returns c = let a = c.args.self.now in let h = c.requires in let p = c.pass.ensures in
    let st = stand h.1 a.inside.0 c.fitting-whole.ensures in
    record {
      same = record { order = p.same.order; body = p.same.body; lent = p.same.lent };
      left = laying_end c.loop-i.invariant c.pass.new.self c.args.kind st h.4 (shown_by_lem c.args.kind c.args.width (one_shl c.args.width (omega (arith, h.2))) h.1 c.negatives_of-negatives.ensures) c.room_for-i-end.ensures c.loop-i-test.false p.table p.index p.place p.told;
      room = told_room c.fitting-whole.result c.pass.result c.args.self.now c.pass.new.self h.0 h.1 p.index p.place;
    }
