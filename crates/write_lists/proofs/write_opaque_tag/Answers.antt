-- `write_lists::write_opaque_tag` meets its contract.
use Rattle.std.proofs.Common.{sym, ap, ◌∙◌}
use Rattle.std.specs.Prelude.{Result}
use Rattle.bits.specs.declared.BytePlace.{BytePlace}
use Rattle.classes.specs.declared.Class.TheVariants.{Opaque}
use Rattle.sink.specs.declared.Impossible.{Impossible}
use Rattle.write_lists.specs.Stood.{stood_as}
use Rattle.write_lists.proofs.TagLaws.{standing, whole_none, whole_put, err_stood}
use Rattle.write_lists.proofs.write_opaque_tag.Goals as goal

pub returns-in_err-behind : goal.returns-in_err-behind
returns-in_err-behind c = λ o. err_stood _ _ c.from_residual.ensures.0 (whole_none o c.args.claimed Opaque c.args.code c.args.table.now c.args.index c.args.out.now c.args.place.0 c.in_err-behind.ensures)

pub returns-in_err-next : goal.returns-in_err-next
returns-in_err-next c = λ o. let u = c.write_tag.new.out in err_stood u _ c.from_residual-in_err-next.ensures.0 (ap (λ (R : Result BytePlace Impossible). stood_as u (standing c.in_ok-behind.behind R)) (sym c.in_err-next.was) ∙ whole_put o c.args.claimed Opaque c.args.table.now c.args.index c.in_ok-behind.ensures c.args.code c.requires.2 c.args.out.now u c.args.place.0 c.write_tag.result c.write_tag.ensures)

pub returns : goal.returns
returns c = λ o. let u = c.write_tag.new.out in ap (λ (R : Result BytePlace Impossible). stood_as u (standing c.in_ok-behind.behind R)) (sym c.in_ok-next.was) ∙ whole_put o c.args.claimed Opaque c.args.table.now c.args.index c.in_ok-behind.ensures c.args.code c.requires.2 c.args.out.now u c.args.place.0 c.write_tag.result c.write_tag.ensures
