-- `Writer::string` meets its contract.
use Rattle.std.proofs.Common.{ℕ, ◌+◌, refl, sym, ap, ◌∙◌, arith}
use lib.Seq.{length-slice}
use Rattle.bits.specs.Places.{order_of}
use Rattle.sink.specs.Laying.{mk}
use Rattle.spelling.specs.Writing.{ends}
use Rattle.spelling.specs.Writer.{state}
use Rattle.spelling.proofs.RunLaws.{skip_place}
use Rattle.spelling.proofs.TextLaws.{string_none, string_long, string_cut, string_in, string_no}
use Rattle.spelling.proofs.WriteLaws.{err_seen, missing, onward_none, onward_then}
use Rattle.spelling.proofs.writer.Writer.string.Goals as goal

pub returns-in_err-length : goal.returns-in_err-length
returns-in_err-length c = let a = c.args.self.now in record {
  writes = record { onward = onward_none a; told = err_seen a _ c.from_residual.ensures.0 (sym (string_none (order_of a.order) a.values.now (state a) a.index c.in_err-length.ensures)) };
}

pub returns-then-length-gt16777216 : goal.returns-then-length-gt16777216
returns-then-length-gt16777216 c = let a = c.args.self.now in let n = c.in_ok-length.ensures in record {
  writes = record { onward = onward_none a; told = sym (string_long (order_of a.order) a.values.now (state a) a.index n.0 (omega (arith, n.1, c.if-length-gt16777216.true))) };
}

pub returns-then-values-first : goal.returns-then-values-first
returns-then-values-first c = let a = c.args.self.now in let n = c.in_ok-length.ensures in record {
  writes = record { onward = onward_none a; told = sym (string_cut (order_of a.order) a.values.now (state a) a.index n.0 (omega (arith, n.1, c.if-values-first.true))) };
}

pub spell_text-requires : goal.spell_text-requires
spell_text-requires c = let a = c.args.self.now in let s = skip_place (order_of a.order) (state a) a.fine.1 c.align-start.ensures in let n = c.in_ok-length.length in let f = a.index + 1 in
    (omega (arith, s.0, s.1), (let e = length-slice f (f + n) a.values.now (omega (arith, c.if-values-first.false, c.in_ok-length.ensures.0)) in omega (arith, e, c.if-length-gt16777216.false)))

pub returns-in_err-next : goal.returns-in_err-next
returns-in_err-next c = let a = c.args.self.now in let o = order_of a.order in let n = c.in_ok-length.ensures in let v = c.in_ok-length.length in record {
  writes = record {
    onward = record { order = refl; values = refl; lent = refl; size = c.spell_text.auto.out ∙ c.align-start.auto.out };
    told =
        rw (missing c.from_residual-in_err-next.result c.from_residual-in_err-next.ensures.0)
        (sym (string_no o a.values.now (state a) a.index n.0 (a.index + 1) (a.index + 1 + v) refl (ap (λ (x : ℕ). a.index + 1 + x) (sym n.1)) (omega (arith, n.1, c.if-values-first.false)) c.align-start.ensures c.spell_text.new.out c.spell_text.result (c.spell_text.ensures.writes o) c.in_err-next.was));
  };
}

pub first_bit-place-requires : goal.first_bit-place-requires
first_bit-place-requires c = let a = c.args.self.now in let s = skip_place (order_of a.order) (state a) a.fine.1 c.align-start.ensures in let n = c.in_ok-length.length in let f = a.index + 1 in
    let e = length-slice f (f + n) a.values.now (omega (arith, c.if-values-first.false, c.in_ok-length.ensures.0)) in omega (arith, e, s.0, s.1, c.if-length-gt16777216.false, c.in_ok-next.ensures.within)

pub returns : goal.returns
returns c = let a = c.args.self.now in let o = order_of a.order in let n = c.in_ok-length.ensures in let v = c.in_ok-length.length in record {
  writes = record {
    onward = onward_then (record { order = refl; values = refl; lent = refl; size = c.spell_text.auto.out ∙ c.align-start.auto.out }) c.go_on.ensures.onward;
    told =
        c.go_on.ensures.ended ∙ ap (λ (q : ℕ). ends (mk c.spell_text.new.out q 0) (a.index + 1 + v)) c.first_bit-place.ensures
        ∙ sym (string_in o a.values.now (state a) a.index n.0 (a.index + 1) (a.index + 1 + v) refl (ap (λ (x : ℕ). a.index + 1 + x) (sym n.1)) (omega (arith, n.1, c.if-values-first.false)) c.align-start.ensures c.spell_text.new.out c.spell_text.result (c.spell_text.ensures.writes o) c.in_ok-next.was);
  };
}
