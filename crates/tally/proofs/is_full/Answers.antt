-- `tally::is_full` meets its contract: the two tests, one after the other.
use mathlib.Core.Path.{◌≡◌, ◌∙◌}
use borrow.Author.Tests.{le-leb}
use borrow.Author.Tests.{tests}
use Rattle.std.proofs.Common.{rules, nat_lt}
use Rattle.std.proofs.lemmas.Iterator.{YieldsList-from_slice}
use Rattle.std.proofs.lemmas.Iterator.Search.{any_from_yields_List}
use Rattle.std.specs.List.{list_any}
use Rattle.tally.proofs.CountLaws.{above_any, full_files, full_counts}
use Rattle.tally.proofs.is_full.Goals as goal

pub returns-then-tally-ge-HEADERS_LIMIT : goal.returns-then-tally-ge-HEADERS_LIMIT
returns-then-tally-ge-HEADERS_LIMIT c = le-leb 9000000 c.args.tally.now.headers c.if-tally-ge-HEADERS_LIMIT.true ∙ full_files c.args.tally.now c.if-tally-ge-HEADERS_LIMIT.true

pub returns-else-tally-ge-HEADERS_LIMIT : goal.returns-else-tally-ge-HEADERS_LIMIT
returns-else-tally-ge-HEADERS_LIMIT c =
    let e : c.any.result ≡ list_any (λ n. nat_lt 16777216000000 n) c.args.tally.now.counts = any_from_yields_List (λ n. nat_lt 16777216000000 n) _ _ c.any.result c.any.ensures.ran (YieldsList-from_slice c.args.tally.now.counts cc) (λ x b q k. search (rules, tests)) in
    full_counts c.args.tally.now c.if-tally-ge-HEADERS_LIMIT.false (e ∙ above_any 16777216000000 c.args.tally.now.counts)
