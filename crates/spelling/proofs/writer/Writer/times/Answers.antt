-- `Writer::times` meets its contract.
use Rattle.std.proofs.Common.{refl, ◌∙◌, arith}
use Rattle.std.specs.Prelude.{Ok, Err}
use Rattle.bits.specs.Places.{order_of}
use Rattle.items.specs.declared.Item.TheVariants.{Time}
use Rattle.spelling.proofs.RunLaws.{skip_place}
use Rattle.spelling.proofs.ByteLaws.{items_few, all_aligned, on_whole}
use Rattle.spelling.specs.Writer.{state}
use Rattle.spelling.proofs.WriteLaws.{missing, onward_none}
use Rattle.spelling.proofs.writer.Writer.times.Goals as goal

pub returns-then-saturating_sub-count : goal.returns-then-saturating_sub-count
returns-then-saturating_sub-count c = let a = c.args.self.now in record {
  writes = record { onward = onward_none a; told = items_few (order_of a.order) Time a.values.now (state a) a.index c.args.count (omega (arith, c.saturating_sub.ensures, c.if-saturating_sub-count.true)) };
}

pub spell_times-requires : goal.spell_times-requires
spell_times-requires c = let a = c.args.self.now in let s = skip_place (order_of a.order) (state a) a.fine.1 c.align-start.ensures in (omega (arith, s.0, s.1), omega (arith, c.saturating_sub.ensures, c.if-saturating_sub-count.false, c.requires))

pub returns-in_err-end : goal.returns-in_err-end
returns-in_err-end c = let a = c.args.self.now in let o = order_of a.order in record {
  writes = record {
    onward = record { order = refl; values = refl; lent = refl; size = c.spell_times.auto.out ∙ c.align-start.auto.out };
    told = rw (missing c.from_residual.result c.from_residual.ensures.0) (all_aligned o Time a.values.now (state a) a.index c.align-start.ensures c.spell_times.new.out (Err c.in_err-end.field-0.0) c.args.count c.requires (c.in_err-end.ensures.writes o));
  };
}

pub returns : goal.returns
returns c = let a = c.args.self.now in let o = order_of a.order in record {
  writes = record {
    onward = record { order = refl; values = refl; lent = refl; size = c.spell_times.auto.out ∙ c.align-start.auto.out };
    told = on_whole _ _ _ c.in_ok-end.end _ c.on_byte-self.ensures.0 c.on_byte-self.ensures.1 (all_aligned o Time a.values.now (state a) a.index c.align-start.ensures c.spell_times.new.out (Ok c.in_ok-end.end) c.args.count c.requires (c.in_ok-end.ensures.writes o));
  };
}
