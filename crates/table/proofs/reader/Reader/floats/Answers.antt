-- `table::Reader::floats` meets its contract: on whole bytes the Floats are the bytes as they stand.
use Rattle.std.proofs.Common.{ℕ, ◌-◌, min, refl, sym, ap, ◌∙◌, arith}
use Rattle.bits.specs.Places.{order_of}
use Rattle.table.proofs.FloatLaws.{floating_size, floating_next, floating_done}
use Rattle.table.proofs.reader.Reader.floats.Goals as goal

pub loop-i-preserved : goal.loop-i-preserved
loop-i-preserved c = floating_next c.loop-i.invariant (omega (arith, c.loop-i-test.true, c.room_for-i-end.ensures)) c.float_at.ensures

pub returns : goal.returns
returns c = let a = c.args.self.now in
    record {
      same = record { order = refl; body = refl; lent = refl };
      room = omega (arith, c.requires.0, c.if-self-start.false);
      left = floating_done c.loop-i.invariant (order_of a.order) (c.if-self-start.false ∙ c.next_byte-start.result.same) (c.room_for-i-end.ensures ∙ ap (λ (n : ℕ). min c.args.count (n - a.index)) (sym (floating_size c.loop-i.invariant))) c.loop-i-test.false (omega (arith, c.if-self-start.false)) (omega (arith, c.if-self-end.false));
    }
