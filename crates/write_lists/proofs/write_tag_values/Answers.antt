use native.Mathlib.Omega.{arith}
use Rattle.bits.specs.Places.{order_of}
use Rattle.classes.specs.declared.Class.TheVariants.{End, Container, Fixed, Attributes}
use Rattle.write_lists.proofs.ValueLaws.{values_of_lem, end_none, end_some, none_hidden}
use Rattle.write_lists.proofs.write_tag_values.Goals as goal

pub returns-in-Opaque : goal.returns-in-Opaque
returns-in-Opaque c = none_hidden (order_of c.args.order) c.args.out.now c.args.at.0 c.args.values.now c.args.code c.in-Opaque.is c.requires.1

pub returns-then-values-eq0 : goal.returns-then-values-eq0
returns-then-values-eq0 c = values_of_lem (order_of c.args.order) c.args.out.now c.args.at.0 c.args.values.now c.args.code End c.in-End.is (end_none (order_of c.args.order) c.args.out.now c.args.at.0 c.args.values.now c.args.code c.requires.0 (omega (arith, c.if-values-eq0.true)))

pub returns-else-values-eq0 : goal.returns-else-values-eq0
returns-else-values-eq0 c = values_of_lem (order_of c.args.order) c.args.out.now c.args.at.0 c.args.values.now c.args.code End c.in-End.is (end_some (order_of c.args.order) c.args.out.now c.args.at.0 c.args.values.now c.args.code c.if-values-eq0.false)

pub returns-in-Container : goal.returns-in-Container
returns-in-Container c = values_of_lem (order_of c.args.order) c.args.out.now c.args.at.0 c.args.values.now c.args.code Container c.in-Container.is c.write_plain.ensures

pub returns-in-Fixed : goal.returns-in-Fixed
returns-in-Fixed c = values_of_lem (order_of c.args.order) c.args.out.now c.args.at.0 c.args.values.now c.args.code Fixed c.in-Fixed.is c.write_items.ensures

pub returns-in-Attributes : goal.returns-in-Attributes
returns-in-Attributes c = values_of_lem (order_of c.args.order) c.args.out.now c.args.at.0 c.args.values.now c.args.code Attributes c.in-Attributes.is c.write_body.ensures
