use mathlib.Core.Path.{sym, ◌∙◌}
use Rattle.bits.specs.Places.{order_of}
use Rattle.opacity.proofs.MaskLaws.{none_shown, one_there, one_shown, frames_shown, framed}
use Rattle.opacity.proofs.places.Mask.opacity.Goals as goal

pub returns-then-flag-eq0 : goal.returns-then-flag-eq0
returns-then-flag-eq0 c = none_shown (order_of c.args.self.now.order) c.args.self.now.body.now c.args.t c.find-found.ensures c.if-flag-eq0.true

pub item_at-one-requires : goal.item_at-one-requires
item_at-one-requires c = ((c.find-found.ensures.place, c.find-found.ensures.few), one_there (order_of c.args.self.now.order) c.args.self.now.body.now c.args.t c.find-found.ensures c.if-flag-eq0.false c.if-flag-eq1.true)

pub returns-then-flag-eq1 : goal.returns-then-flag-eq1
returns-then-flag-eq1 c = one_shown (order_of c.args.self.now.order) c.args.self.now.body.now c.args.t c.find-found.ensures c.if-flag-eq0.false c.if-flag-eq1.true c.item_at-one.ensures.0

pub keyframed-requires : goal.keyframed-requires
keyframed-requires c = framed (order_of c.args.self.now.order) c.args.self.now.body.now c.args.t c.find-found.ensures c.if-flag-eq0.false c.if-flag-eq1.false

pub returns : goal.returns
returns c = c.keyframed.ensures ∙ sym (frames_shown (order_of c.args.self.now.order) c.args.self.now.body.now c.args.t c.find-found.ensures c.if-flag-eq0.false c.if-flag-eq1.false)
