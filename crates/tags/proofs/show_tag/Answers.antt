-- `tags::show_tag` meets its contract: the values, and three numbers before them.
use Prim.Native.Nat.{ℕ, ◌+◌}
use mathlib.Core.List.{List}
use mathlib.Core.Path.{refl, ap, ◌∙◌}
use mathlib.Core.Bool.{Bool}
use lib.ListN.{length}
use Rattle.format.specs.Tests.{pick}
use Rattle.format.specs.FileAndTags.{is_read, long_on_short, state_of}
use Rattle.classes.specs.Classes.{bare}
use Rattle.tags.proofs.TagLaws.{index_le, headed_stored}
use Rattle.tags.proofs.show_tag.Goals as goal

pub overflow_sub-count : goal.overflow_sub-count
overflow_sub-count c = index_le c.read_tag_values-shown.ensures

pub returns : goal.returns
returns c = let a = c.args in
    headed_stored a.code (state_of (bare a.class) a.size (length a.reader.now.body.now)) c.from.ensures (c.state.ensures ∙ ap (λ (g : Bool). is_read (bare a.class) + pick g 2 0) (c.long_on_short-gains.ensures ∙ ap (λ (b : List ℕ). long_on_short a.size (length b)) c.read_tag_values-shown.ensures.lays.same.body)) c.read_tag_values-shown.ensures (record { order = refl; body = refl; lent = refl }) refl refl refl (record { order = refl; body = refl; lent = refl }) c.put_all.ensures refl refl
