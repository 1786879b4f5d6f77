use Rattle.bits.specs.Places.{order_of}
use Rattle.opacity.specs.Inner.{mask_frames}
use Rattle.opacity.proofs.WalkLaws.{Going}
use Rattle.opacity.proofs.places.Mask.walk_times.Given as goal

abbrev pub invariant-loop-frame : goal.invariant-loop-frame
invariant-loop-frame l = Going (order_of l.self.order) l.self.body.now (mask_frames (order_of l.self.order) l.self.body.now) l.count l.t l.initial.place.0 l.start l.place.0 l.seen l.frame
