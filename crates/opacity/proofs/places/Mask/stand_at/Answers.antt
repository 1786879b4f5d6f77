use mathlib.Core.Path.{◌∙◌}
use Rattle.bits.specs.Places.{order_of}
use Rattle.opacity.specs.Inner.{mask_frames}
use Rattle.opacity.proofs.FrameLaws.{late_frame, late_time, falling, rising}
use Rattle.opacity.proofs.StandLaws.{end_small, parts_here}
use Rattle.opacity.proofs.places.Mask.stand_at.Goals as goal

pub returns-then-t-gt-LAST_TIME : goal.returns-then-t-gt-LAST_TIME
returns-then-t-gt-LAST_TIME c = late_frame (mask_frames (order_of c.args.self.now.order) c.args.self.now.body.now) c.args.count c.args.t c.requires.parts.count c.if-t-gt-LAST_TIME.true

pub returns-then-walk : goal.returns-then-walk
returns-then-walk c = late_time (mask_frames (order_of c.args.self.now.order) c.args.self.now.body.now) c.args.count c.args.t c.requires.parts.count c.if-t-gt-LAST_TIME.false c.walk_times-walk.ensures.saw.saw c.if-walk.true

pub returns-then-walk-2 : goal.returns-then-walk-2
returns-then-walk-2 c = falling (mask_frames (order_of c.args.self.now.order) c.args.self.now.body.now) c.args.count c.args.t c.requires.parts.count c.if-t-gt-LAST_TIME.false c.walk_times-walk.ensures.saw.saw c.if-walk.false c.if-walk-2.true

pub next_byte-behind-requires : goal.next_byte-behind-requires
next_byte-behind-requires c = end_small (order_of c.args.self.now.order) c.args.self.now.body.now (mask_frames (order_of c.args.self.now.order) c.args.self.now.body.now) c.requires c.walk_times-walk.ensures.ends

pub invariant_of-frames : goal.invariant_of-frames
invariant_of-frames c = record { parts = parts_here (order_of c.args.self.now.order) c.args.self.now.body.now (mask_frames (order_of c.args.self.now.order) c.args.self.now.body.now) c.requires c.walk_times-walk.ensures.ends c.next_byte-behind.ensures }

pub at_frame-requires : goal.at_frame-requires
at_frame-requires c = (c.walk_times-walk.ensures.saw, c.if-walk.false)

pub returns : goal.returns
returns c = c.at_frame.ensures ∙ rising (mask_frames (order_of c.args.self.now.order) c.args.self.now.body.now) c.args.count c.args.t c.requires.parts.count c.if-t-gt-LAST_TIME.false c.walk_times-walk.ensures.saw.saw c.if-walk.false c.if-walk-2.false
