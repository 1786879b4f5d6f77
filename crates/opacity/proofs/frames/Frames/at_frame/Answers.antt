use mathlib.Core.Path.{ap, ◌∙◌}
use native.Mathlib.Omega.{arith}
use Rattle.bits.specs.Places.{order_of}
use Rattle.opacity.specs.Inner.{mask_frames}
use Rattle.opacity.specs.Opacity.{over1}
use Rattle.opacity.proofs.FrameLaws.{frame_before, frame_behind, frame_inside, some_covers, seen_within}
use Rattle.opacity.proofs.frames.Frames.at_frame.Goals as goal

pub returns-then-t-walk : goal.returns-then-t-walk
returns-then-t-walk c = ap over1 c.value_at.ensures.0 ∙ frame_before (mask_frames (order_of c.args.self.now.mask.order) c.args.self.now.mask.body.now) c.args.self.now.count c.args.t c.args.self.now.parts.count (omega (arith, c.if-t-walk.true, c.requires.0.first))

pub returns-then-walk-t : goal.returns-then-walk-t
returns-then-walk-t c = ap over1 c.value_at-then-walk-t.ensures.0 ∙ frame_behind (mask_frames (order_of c.args.self.now.mask.order) c.args.self.now.mask.body.now) c.args.self.now.count c.args.t c.args.self.now.parts.count (omega (arith, c.if-t-walk.false, c.requires.0.first)) (omega (arith, c.if-walk-t.true, c.requires.0.last))

pub unwrap-span-requires : goal.unwrap-span-requires
unwrap-span-requires c = some_covers (mask_frames (order_of c.args.self.now.mask.order) c.args.self.now.mask.body.now) c.args.self.now.count c.args.t c.args.self.now.parts.count c.requires.0.saw (omega (arith, c.if-t-walk.false, c.requires.0.first)) (omega (arith, c.if-walk-t.false, c.requires.0.last))

pub in_frame-requires : goal.in_frame-requires
in_frame-requires c = seen_within (mask_frames (order_of c.args.self.now.mask.order) c.args.self.now.mask.body.now) c.args.self.now.count c.args.t c.args.self.now.parts.count c.requires.0.saw (omega (arith, c.if-t-walk.false, c.requires.0.first)) (omega (arith, c.if-walk-t.false, c.requires.0.last)) c.requires.1 c.unwrap-span.ensures

pub returns : goal.returns
returns c = c.in_frame.ensures ∙ frame_inside (mask_frames (order_of c.args.self.now.mask.order) c.args.self.now.mask.body.now) c.args.self.now.count c.args.t c.args.self.now.parts.count (seen_within (mask_frames (order_of c.args.self.now.mask.order) c.args.self.now.mask.body.now) c.args.self.now.count c.args.t c.args.self.now.parts.count c.requires.0.saw (omega (arith, c.if-t-walk.false, c.requires.0.first)) (omega (arith, c.if-walk-t.false, c.requires.0.last)) c.requires.1 c.unwrap-span.ensures) (omega (arith, c.if-t-walk.false, c.requires.0.first)) (omega (arith, c.if-walk-t.false, c.requires.0.last))
