-- What the functions over a `Text` leave in it.
use Rattle.std.specs.Prelude.{ℕ, ◌+◌, List, ◌≡◌, length}
use Rattle.std.proofs.lemmas.List.Edits.{sets}
use Rattle.listing.specs.declared.fields.Text.{Text}
use Rattle.listing.specs.declared.Cursor.{Cursor}
use Rattle.listing.specs.Steps.{Step}

-- the same lent bytes, with this text laid behind what was used of them
pub record Adds (old new : Text) (text : List ℕ) : Type 0 where
  pub lent : new.out.ghost_name ≡ old.out.ghost_name
  pub size : length new.out.now ≡ length old.out.now
  pub bytes : new.out.now ≡ sets old.out.now old.used text
  pub used : new.used ≡ old.used + length text

-- a step's text is laid, and this is where the next one starts
pub record Takes (old new : Text) (to : Cursor) (step : Step) : Type 0 where
  pub text : Adds old new step.text
  pub next : to ≡ step.to
