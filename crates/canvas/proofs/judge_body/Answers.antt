-- `canvas::judge_body` meets its contract: what its values tell, by the class.
use Rattle.bits.specs.Places.{order_of}
use Rattle.canvas.proofs.JudgeLaws.{judged_ok, judged_fits}
use Rattle.canvas.proofs.judge_body.Goals as goal

pub by_class-requires : goal.by_class-requires
by_class-requires c = let a = c.args in judged_fits (order_of a.order) a.class a.room.now a.place.0 a.header c.judge_values.ensures c.in_ok-list.was c.requires.0 c.requires.1

pub returns : goal.returns
returns c = let a = c.args in judged_ok (order_of a.order) a.class a.room.now a.place.0 a.header c.judge_values.ensures c.in_ok-list.was c.by_class.ensures
