use native.Mathlib.Omega.{arith}
use mathlib.Core.Path.{refl}
use Rattle.listing.proofs.TextLaws.{adds_word}
use Rattle.listing.proofs.fields.Text.word.Goals as goal

pub returns : goal.returns
returns c = adds_word c.args.self.now _ c.copy_from_slice.new.self c.args.word.now _ _ refl refl c.copy_from_slice.ensures.after (omega arith) c.requires refl refl
