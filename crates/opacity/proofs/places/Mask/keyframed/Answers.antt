use Rattle.bits.specs.Places.{order_of}
use Rattle.opacity.proofs.StandLaws.{count_there, framed_stands, count_small}
use Rattle.opacity.proofs.places.Mask.keyframed.Goals as goal

pub item_at-counted-requires : goal.item_at-counted-requires
item_at-counted-requires c = ((c.requires.finds.place, c.requires.finds.few), count_there (order_of c.args.self.now.order) c.args.self.now.body.now c.requires)

pub next_byte-behind-requires : goal.next_byte-behind-requires
next_byte-behind-requires c = (count_small (order_of c.args.self.now.order) c.args.self.now.body.now c.requires c.item_at-counted.ensures.0 c.item_at-counted.ensures.1).1

pub stand_at-requires : goal.stand_at-requires
stand_at-requires c = framed_stands (order_of c.args.self.now.order) c.args.self.now.body.now c.requires c.item_at-counted.ensures.0 c.item_at-counted.ensures.1 c.next_byte-behind.ensures
