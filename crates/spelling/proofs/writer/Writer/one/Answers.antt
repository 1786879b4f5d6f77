-- `Writer::one` meets its contract.
use Rattle.std.proofs.Common.{refl, ◌∙◌, arith}
use Rattle.std.specs.Prelude.{Ok, Err}
use Rattle.bits.specs.Places.{order_of}
use Rattle.spelling.specs.Writer.{state}
use Rattle.spelling.proofs.RunLaws.{skip_place}
use Rattle.spelling.proofs.ByteLaws.{next_inside, one_aligned, on_whole}
use Rattle.spelling.proofs.WriteLaws.{missing}
use Rattle.spelling.proofs.writer.Writer.one.Goals as goal

pub spell_next-requires : goal.spell_next-requires
spell_next-requires c = let a = c.args.self.now in let s = skip_place (order_of a.order) (state a) a.fine.1 c.align-start.ensures in omega (arith, s.0, s.1)

pub returns-in_err-next : goal.returns-in_err-next
returns-in_err-next c = let a = c.args.self.now in let o = order_of a.order in record {
  writes = record {
    onward = record { order = refl; values = refl; lent = refl; size = c.spell_next.auto.out ∙ c.align-start.auto.out };
    told = rw (missing c.from_residual.result c.from_residual.ensures.0) (one_aligned o c.args.kind a.values.now (state a) a.index c.align-start.ensures c.spell_next.new.out (Err c.in_err-next.field-0.0) (c.in_err-next.ensures.writes o));
  };
}

pub overflow_add-self : goal.overflow_add-self
overflow_add-self c = let a = c.args.self.now in let o = order_of a.order in omega (arith, next_inside o c.args.kind a.values.now c.align-start.new.out c.align-start.result.byte.0 a.index c.spell_next.new.out c.in_ok-next.next (c.in_ok-next.ensures.writes o))

pub returns : goal.returns
returns c = let a = c.args.self.now in let o = order_of a.order in record {
  writes = record {
    onward = record { order = refl; values = refl; lent = refl; size = c.spell_next.auto.out ∙ c.align-start.auto.out };
    told = on_whole _ _ _ c.in_ok-next.next _ c.on_byte-self.ensures.0 c.on_byte-self.ensures.1 (one_aligned o c.args.kind a.values.now (state a) a.index c.align-start.ensures c.spell_next.new.out (Ok c.in_ok-next.next) (c.in_ok-next.ensures.writes o));
  };
}
