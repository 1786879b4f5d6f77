-- `Writer::less_one` meets its contract.
use Rattle.std.proofs.Common.{get_or, refl, sym, ◌∙◌, arith}
use Rattle.bits.specs.Places.{order_of}
use Rattle.format.specs.Formats.{item}
use Rattle.spelling.specs.Writer.{state}
use Rattle.spelling.proofs.RunLaws.{one_none, one_bad, the_one, laid_holds}
use Rattle.spelling.proofs.FieldLaws.{less_one, less_is, less_zero, less_large, less_done}
use Rattle.spelling.proofs.WriteLaws.{err_seen, onward_none, onward_then}
use Rattle.spelling.proofs.writer.Writer.less_one.Goals as goal

pub returns-in_err-number-clause-writes : goal.returns-in_err-number-clause-writes
returns-in_err-number-clause-writes c = let a = c.args.self.now in let o = order_of a.order in let n = c.args.bits in λ i is. record {
  onward = onward_none a;
  told = err_seen a _ c.from_residual.ensures.0 (sym (one_none o (item i) (less_one o n) (less_is o n i is) a.values.now (state a) a.index c.in_err-number.ensures));
}

pub returns-then-number-eq0-clause-writes : goal.returns-then-number-eq0-clause-writes
returns-then-number-eq0-clause-writes c = let a = c.args.self.now in let o = order_of a.order in let n = c.args.bits in let v = c.in_ok-number.ensures in λ i is. record {
  onward = onward_none a;
  told = sym (one_bad o (item i) (less_one o n) (less_is o n i is) a.values.now (state a) a.index v.0 (less_zero o n a.sink.place.0 (get_or a.values.now a.index 0) (sym v.1 ∙ c.if-number-eq0.true)));
}

pub returns-then-power-less-clause-writes : goal.returns-then-power-less-clause-writes
returns-then-power-less-clause-writes c = let a = c.args.self.now in let o = order_of a.order in let n = c.args.bits in let v = c.in_ok-number.ensures in λ i is. record {
  onward = onward_none a;
  told = sym (one_bad o (item i) (less_one o n) (less_is o n i is) a.values.now (state a) a.index v.0 (less_large o n a.sink.place.0 (get_or a.values.now a.index 0) c.power.ensures.0 (λ e. c.if-number-eq0.false (v.1 ∙ e)) (omega (arith, v.1, c.if-power-less.true))));
}

pub go_on-requires : goal.go_on-requires
go_on-requires c = let a = c.args.self.now in laid_holds (order_of a.order) (state a) _ a.fine.0 c.put_bits-next.ensures

pub returns-in_err-go_on-clause-writes : goal.returns-in_err-go_on-clause-writes
returns-in_err-go_on-clause-writes c = let a = c.args.self.now in let o = order_of a.order in let n = c.args.bits in let v = c.in_ok-number.ensures in λ i is. record {
  onward = onward_then (record { order = refl; values = refl; lent = refl; size = c.put_bits-next.auto.out }) c.go_on.ensures.onward;
  told = err_seen c.go_on.new.self _ c.from_residual-in_err-go_on.ensures.0 (c.in_err-go_on.ensures.ended ∙ sym (less_done o n i is a.values.now (state a) a.index v.0 v.1 c.power.ensures.0 c.if-number-eq0.false c.if-power-less.false c.put_bits-next.ensures));
}

pub returns-clause-writes : goal.returns-clause-writes
returns-clause-writes c = let a = c.args.self.now in let o = order_of a.order in let n = c.args.bits in let v = c.in_ok-number.ensures in λ i is. record {
  onward = onward_then (record { order = refl; values = refl; lent = refl; size = c.put_bits-next.auto.out }) c.go_on.ensures.onward;
  told = c.in_ok-go_on.ensures.ended ∙ sym (less_done o n i is a.values.now (state a) a.index v.0 v.1 c.power.ensures.0 c.if-number-eq0.false c.if-power-less.false c.put_bits-next.ensures);
}

pub returns-clause-counts : goal.returns-clause-counts
returns-clause-counts c = let a = c.args.self.now in let v = c.in_ok-number.ensures in
    (v.1 ∙ sym (the_one a.values.now a.index c.go_on.new.self.index c.in_ok-go_on.ensures.placed v.0), omega (arith, c.if-number-eq0.false), omega (arith, c.power.ensures.0, c.if-power-less.false))
