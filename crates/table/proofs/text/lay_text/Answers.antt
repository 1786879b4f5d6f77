-- `table::text::lay_text` meets its contract: the whole text is what is left of it after the bytes that were read.
use Rattle.std.proofs.Common.{◌≡◌, ℕ, ◌+◌, ◌<◌, length, set, ap, ◌∙◌, arith, None, Some, rules, tests}
use Rattle.std.proofs.lemmas.Iterator.{YieldsList-from_slice, IsFirst-from_position}
use Rattle.table.proofs.TextLaws.{rest_length, rest_byte, going_start, going_stored, going_ends, going_found, going_lost}
use Rattle.table.proofs.text.lay_text.Goals as goal

pub loop-count-init : goal.loop-count-init
loop-count-init c = λ o. let a = c.args in going_start o a.body.now a.table.now a.from a.at.byte.0 a.at.bit.0 a.at.same (omega (arith, a.at.same, c.requires.0.0))

pub returns-then-byte-eq0-clause-laid : goal.returns-then-byte-eq0-clause-laid
returns-then-byte-eq0-clause-laid c = let a = c.args in
    let there : a.at.byte.0 + c.loop-count.count < length a.body.now = omega (arith, c.loop-count-test.true, c.loop-count.auto.count-end, c.room_for-room.ensures, rest_length a.body.now a.at.byte.0) in
    λ o. going_ends o (c.loop-count.invariant o) there (rest_byte a.body.now a.at.byte.0 c.loop-count.count c.type_inv.body) c.if-byte-eq0.true c.put.ensures

pub loop-count-preserved : goal.loop-count-preserved
loop-count-preserved c = let a = c.args in
    let there : a.at.byte.0 + c.loop-count.count < length a.body.now = omega (arith, c.loop-count-test.true, c.loop-count.auto.count-end, c.room_for-room.ensures, rest_length a.body.now a.at.byte.0) in
    λ o. going_stored o (c.loop-count.invariant o) there (rest_byte a.body.now a.at.byte.0 c.loop-count.count c.type_inv.body) c.if-byte-eq0.false (ap (λ (v : ℕ). set c.loop-count.table (a.from + 1 + c.loop-count.count) v) c.from.ensures)

pub returns-in-Some-clause-laid : goal.returns-in-Some-clause-laid
returns-in-Some-clause-laid c = let a = c.args in
    let n : c.loop-count.count ≡ c.room_for-room.result = omega (arith, c.loop-count-test.false, c.loop-count.auto.count-end) in
    let first = IsFirst-from_position _ _ (Some c.in-Some.more) (λ b. b ≡ 0) (λ b. b ≡ 0 → ⊥) c.in-Some.ensures.ran (YieldsList-from_slice _ c.iter.ensures.rest) (λ x q k. search (rules, tests)) (λ x q k. search (rules, tests)) in
    λ o. going_found o (rw (← n) (c.loop-count.invariant o)) c.type_inv.body c.room_for-room.ensures c.in-Some.more first c.put-in-Some.ensures

pub returns-in-None-clause-laid : goal.returns-in-None-clause-laid
returns-in-None-clause-laid c = let a = c.args in
    let n : c.loop-count.count ≡ c.room_for-room.result = omega (arith, c.loop-count-test.false, c.loop-count.auto.count-end) in
    let first = IsFirst-from_position _ _ None (λ b. b ≡ 0) (λ b. b ≡ 0 → ⊥) c.in-None.ensures.ran (YieldsList-from_slice _ c.iter.ensures.rest) (λ x q k. search (rules, tests)) (λ x q k. search (rules, tests)) in
    λ o. going_lost o (rw (← n) (c.loop-count.invariant o)) c.type_inv.body c.room_for-room.ensures first (c.put-in-None.ensures ∙ ap (set c.loop-count.table a.from) (rest_length a.body.now a.at.byte.0))
