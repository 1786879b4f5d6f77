use mathlib.Core.Path.{refl}
use Rattle.bits.specs.Places.{order_of}
use Rattle.opacity.specs.Inner.{mask_frames}
use Rattle.opacity.proofs.WalkLaws.{first_there, next_there, going_start, going_next, going_done}
use Rattle.opacity.proofs.places.Mask.walk_times.Goals as goal

pub item_at-one-requires : goal.item_at-one-requires
item_at-one-requires c = ((c.requires.0.place, c.requires.0.few), first_there (order_of c.args.self.now.order) c.args.self.now.body.now (mask_frames (order_of c.args.self.now.order) c.args.self.now.body.now) c.args.count c.requires.0)

pub loop-frame-init : goal.loop-frame-init
loop-frame-init c = going_start (order_of c.args.self.now.order) c.args.self.now.body.now (mask_frames (order_of c.args.self.now.order) c.args.self.now.body.now) c.args.count c.args.t c.requires.0 c.item_at-one.ensures.0 c.item_at-one.ensures.1 refl

pub item_at-one-requires-in-loop-frame : goal.item_at-one-requires-in-loop-frame
item_at-one-requires-in-loop-frame c = ((c.loop-frame.invariant.place, c.loop-frame.invariant.few), next_there (order_of c.args.self.now.order) c.args.self.now.body.now (mask_frames (order_of c.args.self.now.order) c.args.self.now.body.now) c.args.count c.args.t c.loop-frame.invariant c.loop-frame-test.true)

pub loop-frame-preserved : goal.loop-frame-preserved
loop-frame-preserved c = going_next (order_of c.args.self.now.order) c.args.self.now.body.now (mask_frames (order_of c.args.self.now.order) c.args.self.now.body.now) c.args.count c.args.t c.loop-frame.invariant c.loop-frame-test.true c.item_at-one-in-loop-frame.ensures.0 c.item_at-one-in-loop-frame.ensures.1 c.note-seen.ensures

pub returns : goal.returns
returns c =
    let r = going_done (order_of c.args.self.now.order) c.args.self.now.body.now (mask_frames (order_of c.args.self.now.order) c.args.self.now.body.now) c.args.count c.args.t c.requires.0 c.item_at-one.ensures.0 c.item_at-one.ensures.1 c.loop-frame.invariant c.loop-frame-test.false in
    record { saw = r.0; ends = r.1 }
