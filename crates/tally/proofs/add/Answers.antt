-- `tally::add` meets its contract: a full tally; a refusal of the file; or a file that is added.
use mathlib.Core.List.{[]}
use mathlib.Core.Path.{◌≡◌, sym, ap, ◌∙◌}
use Rattle.std.proofs.Common.{rules}
use Rattle.format.specs.FileAndTags.{whole}
use Rattle.format.specs.Reasons.{walk_file}
use Rattle.tally.specs.Adding.{with_file}
use Rattle.tally.proofs.CountLaws.{not_full}
use Rattle.tally.proofs.PlaceLaws.{file_good, file_tags}
use Rattle.tally.proofs.AddLaws.{adding_full, adding_whole, adding_refused, no_room, room, order_there, order_is}
use Rattle.tally.proofs.add.Goals as goal
use Rattle.tally.proofs.add.Goals.{in-Refused+else-ne, in_default}

pub returns-then-is_full : goal.returns-then-is_full
returns-then-is_full c = let a = c.args in adding_full a.order a.level a.tally a.file.now (sym c.is_full.ensures ∙ c.if-is_full.true)

pub returns-then-ne : goal.returns-then-ne
returns-then-ne c = let a = c.args in adding_refused a.order a.level a.tally a.file.now [] _ _ c.tags-judged.ensures (sym c.is_full.ensures ∙ c.if-is_full.false) c.in-Refused.is (λ e. search rules)

pub unwrap-named-requires : goal.unwrap-named-requires
unwrap-named-requires c =
    let a = c.args in
    let w : (walk_file a.order a.level a.file.now).ended ≡ whole = (elim c.match-judged.branch [ in-Refused+else-ne w ↦ no_room a.order a.level a.tally a.file.now [] _ _ c.tags-judged.ensures w.in-Refused.is (search rules) | in_default w ↦ room a.order a.level a.tally a.file.now [] _ _ c.tags-judged.ensures w.in_default.is ]) in
    order_there a.order a.level a.file.now w c.try_from.result c.try_from.ensures

pub with_file-requires : goal.with_file-requires
with_file-requires c =
    let a = c.args in
    let n = not_full a.tally (sym c.is_full.ensures ∙ c.if-is_full.false) in
    let w : (walk_file a.order a.level a.file.now).ended ≡ whole = (elim c.match-judged.branch [ in-Refused+else-ne w ↦ no_room a.order a.level a.tally a.file.now [] _ _ c.tags-judged.ensures w.in-Refused.is (search rules) | in_default w ↦ room a.order a.level a.tally a.file.now [] _ _ c.tags-judged.ensures w.in_default.is ]) in
    (file_good a.order a.level a.file.now w (order_is a.order a.level a.file.now w c.try_from.ensures c.unwrap-named.ensures), c.is_file.ensures, n.1, n.0)

pub returns : goal.returns
returns c =
    let a = c.args in
    let w : (walk_file a.order a.level a.file.now).ended ≡ whole = (elim c.match-judged.branch [ in-Refused+else-ne w ↦ no_room a.order a.level a.tally a.file.now [] _ _ c.tags-judged.ensures w.in-Refused.is (search rules) | in_default w ↦ room a.order a.level a.tally a.file.now [] _ _ c.tags-judged.ensures w.in_default.is ]) in
    adding_whole a.order a.level a.tally a.file.now (sym c.is_full.ensures ∙ c.if-is_full.false) w
    (c.with_file.ensures ∙ ap (with_file a.tally) (file_tags a.order a.level a.file.now w (order_is a.order a.level a.file.now w c.try_from.ensures c.unwrap-named.ensures)))
