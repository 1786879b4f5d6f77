-- `spelling::spell_next` meets its contract.
use Rattle.std.proofs.Common.{sym, ◌∙◌}
use Rattle.spelling.proofs.ByteLaws.{range_out, range_in, next_none, next_out, next_no, next_late, next_to, err_written}
use Rattle.spelling.proofs.spell_next.Goals as goal

pub returns-in_err-value-clause-writes : goal.returns-in_err-value-clause-writes
returns-in_err-value-clause-writes c = let a = c.args in λ o. err_written _ _ _ c.from_residual.ensures.0 (next_none o a.kind a.values.now a.out.now a.at a.from c.in_err-value.ensures)

pub returns-then-is_err-clause-writes : goal.returns-then-is_err-clause-writes
returns-then-is_err-clause-writes c = let a = c.args in let n = c.in_ok-value.ensures in λ o. next_out o a.kind a.values.now a.out.now a.at a.from n.0 n.1 c.in_range.ensures (range_out c.in_range.result (sym c.is_err.ensures.value ∙ c.if-is_err.true))

pub returns-in_err-next-clause-writes : goal.returns-in_err-next-clause-writes
returns-in_err-next-clause-writes c = let a = c.args in let n = c.in_ok-value.ensures in let s = c.spell_item in λ o. err_written _ _ _ c.from_residual-in_err-next.ensures.0 (next_no o a.kind a.values.now a.out.now a.at a.from n.0 n.1 c.in_range.ensures (range_in c.in_range.result (sym c.is_err.ensures.value ∙ c.if-is_err.false)) s.new.out s.result (s.ensures o) c.in_err-next.was)

pub returns-then-next-gt16777216-clause-writes : goal.returns-then-next-gt16777216-clause-writes
returns-then-next-gt16777216-clause-writes c = let a = c.args in let n = c.in_ok-value.ensures in let s = c.spell_item in λ o. next_late o a.kind a.values.now a.out.now a.at a.from n.0 n.1 c.in_range.ensures (range_in c.in_range.result (sym c.is_err.ensures.value ∙ c.if-is_err.false)) s.new.out s.result (s.ensures o) c.in_ok-next.was c.if-next-gt16777216.true

pub returns-clause-writes : goal.returns-clause-writes
returns-clause-writes c = let a = c.args in let n = c.in_ok-value.ensures in let s = c.spell_item in λ o. next_to o a.kind a.values.now a.out.now a.at a.from n.0 n.1 c.in_range.ensures (range_in c.in_range.result (sym c.is_err.ensures.value ∙ c.if-is_err.false)) s.new.out s.result (s.ensures o) c.in_ok-next.was c.if-next-gt16777216.false
