-- `Writer::items` meets its contract.
use Rattle.std.proofs.Common.{refl, sym, ap, ◌∙◌, arith}
use Rattle.std.specs.Prelude.{Ok, Err}
use Rattle.bits.specs.Places.{order_of}
use Rattle.items.specs.Kinds.{format_of}
use Rattle.spelling.specs.Writing.{ran}
use Rattle.spelling.proofs.RunLaws.{skip_place, ran_nothing, times_over}
use Rattle.spelling.proofs.ByteLaws.{all_aligned, on_whole}
use Rattle.spelling.specs.Writer.{state}
use Rattle.spelling.proofs.WriteLaws.{missing, onward_none}
use Rattle.spelling.proofs.writer.Writer.items.Goals as goal

pub returns-then-count-eq0 : goal.returns-then-count-eq0
returns-then-count-eq0 c = let a = c.args.self.now in let o = order_of a.order in record {
  writes = record {
    onward = onward_none a;
    told = sym (ap (ran o a.values.now (state a) a.index) (times_over (format_of c.args.kind) c.args.count c.if-count-eq0.true) ∙ ran_nothing o a.values.now (state a) a.index a.fine.1);
  };
}

pub spell_items-requires : goal.spell_items-requires
spell_items-requires c = let a = c.args.self.now in let s = skip_place (order_of a.order) (state a) a.fine.1 c.align-start.ensures in (omega (arith, s.0, s.1), omega (arith, c.if-count-eq0.false))

pub returns-in_err-end : goal.returns-in_err-end
returns-in_err-end c = let a = c.args.self.now in let o = order_of a.order in record {
  writes = record {
    onward = record { order = refl; values = refl; lent = refl; size = c.spell_items.auto.out ∙ c.align-start.auto.out };
    told = rw (missing c.from_residual.result c.from_residual.ensures.0) (all_aligned o c.args.kind a.values.now (state a) a.index c.align-start.ensures c.spell_items.new.out (Err c.in_err-end.field-0.0) c.args.count (omega (arith, c.if-count-eq0.false)) (c.in_err-end.ensures.writes o));
  };
}

pub returns : goal.returns
returns c = let a = c.args.self.now in let o = order_of a.order in record {
  writes = record {
    onward = record { order = refl; values = refl; lent = refl; size = c.spell_items.auto.out ∙ c.align-start.auto.out };
    told = on_whole _ _ _ c.in_ok-end.end _ c.on_byte-self.ensures.0 c.on_byte-self.ensures.1 (all_aligned o c.args.kind a.values.now (state a) a.index c.align-start.ensures c.spell_items.new.out (Ok c.in_ok-end.end) c.args.count (omega (arith, c.if-count-eq0.false)) (c.in_ok-end.ensures.writes o));
  };
}
