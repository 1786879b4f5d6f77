use Prim.Native.Nat.{ℕ, ◌+◌, min}
use mathlib.Core.Path.{ap, ap₂, ◌∙◌}
use lib.ListN.{length}
use Rattle.path_singles.proofs.TableLaws.{tag_opaque, tag_read}
use Rattle.path_singles.proofs.tags.convert_tag.Goals as goal

pub returns-then-state-eq0 : goal.returns-then-state-eq0
returns-then-state-eq0 c = tag_opaque _ _ _ _ c.if-state-eq0.true

pub returns : goal.returns
returns c = let a = c.args in
    let p = ap₂ (λ (x y : ℕ). x + y) c.from.ensures c.from-2.ensures in
    tag_read a.file.now a.values.now a.state _ _ _ _ _ c.if-state-eq0.false (c.up_to-start.ensures ∙ ap (λ (x : ℕ). min (0 + x) (length a.file.now)) p)
    (c.up_to-end.ensures ∙ ap (λ (x : ℕ). min (c.up_to-start.result + x) (length a.file.now)) c.from-3.ensures) c.convert_block.ensures
