-- `canvas::judge_values` meets its contract, by the class that the `match` tells.
use Rattle.std.proofs.Common.{rules}
use Rattle.bits.specs.Places.{order_of}
use Rattle.reasons.proofs.NumberLaws.{passed_on}
use Rattle.classes.specs.declared.Class.TheVariants.{Container}
use Rattle.canvas.proofs.JudgeLaws.{valued, valued_told, leaf_ok, leaf_err}
use Rattle.canvas.proofs.judge_values.Goals as goal

pub returns-in-Container : goal.returns-in-Container
returns-in-Container c = let a = c.args in valued_told (order_of a.order) a.body.now a.code _ Container c.in-Container.is (valued c.read_container.ensures)

pub returns-in_err-read_leaf-in-Fixed : goal.returns-in_err-read_leaf-in-Fixed
returns-in_err-read_leaf-in-Fixed c = leaf_err c.args.code c.args.class c.in-Fixed.is (λ e. search rules) (λ e. search rules) c.read_leaf.ensures.lays c.in_err-read_leaf-in-Fixed.was (passed_on c.from_residual.result c.from_residual.ensures.1)

pub returns-in_ok-read_leaf-in-Fixed : goal.returns-in_ok-read_leaf-in-Fixed
returns-in_ok-read_leaf-in-Fixed c = leaf_ok c.args.code c.args.class c.in-Fixed.is (λ e. search rules) (λ e. search rules) c.read_leaf.ensures.lays c.in_ok-read_leaf-in-Fixed.was
