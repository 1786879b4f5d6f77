-- `Writer::fields` meets its contract.
use Rattle.std.proofs.Common.{◌≡◌, ℕ, ◌-◌, List, length, take, drop, refl, ap, ◌∙◌, arith}
use Rattle.bits.specs.Places.{order_of}
use Rattle.table.specs.Fields.{announced}
use Rattle.spelling.specs.Writer.{state}
use Rattle.spelling.proofs.RunLaws.{laid_holds}
use Rattle.spelling.proofs.FieldLaws.{fields_few, fields_no, fields_done, counted_few, left_are, left_count}
use Rattle.spelling.proofs.WriteLaws.{err_seen, onward_none, onward_then}
use Rattle.spelling.proofs.writer.Writer.fields.Goals as goal

pub returns-then-left-count-clause-writes : goal.returns-then-left-count-clause-writes
returns-then-left-count-clause-writes c = let a = c.args.self.now in record { onward = onward_none a; told = fields_few (order_of a.order) c.args.kind c.args.width a.values.now (state a) a.index c.args.count (omega (arith, left_count a.values.now a.index c.min.result c.min.ensures, c.if-left-count.true)) }

pub returns-in_err-announced-clause-writes : goal.returns-in_err-announced-clause-writes
returns-in_err-announced-clause-writes c = let a = c.args.self.now in record {
  onward = onward_none a;
  told = err_seen a _ c.from_residual.ensures.0 (fields_no (order_of a.order) c.args.kind c.args.width a.values.now (state a) a.index c.args.count c.requires.1 (omega (arith, left_count a.values.now a.index c.min.result c.min.ensures, c.if-left-count.false)) (ap (take c.args.count) (left_are a.values.now a.index c.min.result c.min.ensures)) c.in_err-announced.ensures);
}

pub go_on-requires : goal.go_on-requires
go_on-requires c = let a = c.args.self.now in laid_holds (order_of a.order) (state a) _ a.fine.0 c.put_fields-last.ensures

pub returns-in_err-go_on-clause-writes : goal.returns-in_err-go_on-clause-writes
returns-in_err-go_on-clause-writes c = let a = c.args.self.now in record {
  onward = onward_then (record { order = refl; values = refl; lent = refl; size = c.put_fields-last.auto.out }) c.go_on.ensures.onward;
  told = err_seen c.go_on.new.self _ c.from_residual-in_err-go_on.ensures.0 (fields_done (order_of a.order) c.args.kind c.args.width a.values.now (state a) a.index c.args.count c.requires.1 (omega (arith, left_count a.values.now a.index c.min.result c.min.ensures, c.if-left-count.false)) (ap (take c.args.count) (left_are a.values.now a.index c.min.result c.min.ensures)) c.in_ok-announced.ensures.0 c.put_fields-last.ensures c.in_err-go_on.ensures.ended);
}

pub returns-clause-writes : goal.returns-clause-writes
returns-clause-writes c = let a = c.args.self.now in record {
  onward = onward_then (record { order = refl; values = refl; lent = refl; size = c.put_fields-last.auto.out }) c.go_on.ensures.onward;
  told = fields_done (order_of a.order) c.args.kind c.args.width a.values.now (state a) a.index c.args.count c.requires.1 (omega (arith, left_count a.values.now a.index c.min.result c.min.ensures, c.if-left-count.false)) (ap (take c.args.count) (left_are a.values.now a.index c.min.result c.min.ensures)) c.in_ok-announced.ensures.0 c.put_fields-last.ensures c.in_ok-go_on.ensures.ended;
}

pub returns-clause-counts : goal.returns-clause-counts
returns-clause-counts c = let a = c.args.self.now in let n = c.in_ok-announced.ensures in let m = c.min.result in
    let size : c.args.count ≡ c.go_on.new.self.index - a.index = omega (arith, c.in_ok-go_on.ensures.placed) in (
      n.1 ∙ ap (λ (xs : List ℕ). announced c.args.kind (take c.args.count xs)) (left_are a.values.now a.index m c.min.ensures) ∙ ap (λ (j : ℕ). announced c.args.kind (take j (drop a.index a.values.now))) size,
      counted_few c.args.kind (take (length a.values.now - m) (drop m a.values.now)) c.args.count c.in_ok-announced.announced n.1,
    )
