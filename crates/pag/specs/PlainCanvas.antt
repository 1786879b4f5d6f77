-- The canvas size as a plain struct: `found` is 1 only where there is such a tag, and the reason is 0 there and for "none".
use Rattle.std.specs.Prelude.{ℕ, List, Option, Some, None, Result, Ok, Err}
use Rattle.canvas.specs.Canvas as paper
use Rattle.canvas.specs.Looking.{zeros}
use Rattle.canvas.specs.declared.CanvasSize.{CanvasSize}
use Rattle.canvas.specs.declared.Refusal.{Refusal}
use Rattle.reasons.specs.Numbers.{number_of}
use Rattle.pag.specs.declared.canvas_size.PagCanvasAnswer.{PagCanvasAnswer}

-- what is seen, with h headers read; zeros stand for values where none is found
abbrev pub plain_seen : paper.Seen → ℕ → PagCanvasAnswer
plain_seen (paper.found vs) h = record { found = 1; reason = 0; number = 0; headers = h; values = vs }
plain_seen paper.none h = record { found = 0; reason = 0; number = 0; headers = h; values = zeros }
plain_seen (paper.refused e n) h = record { found = 0; reason = e; number = n; headers = h; values = zeros }

-- the paper's answer as a plain struct
abbrev pub plain_canvas : paper.Canvas → PagCanvasAnswer
plain_canvas c = plain_seen c.seen c.headers

-- the call's answer
abbrev pub plain_as : Result (Option (List ℕ)) Refusal → ℕ → PagCanvasAnswer
plain_as (Ok (Some vs)) h = record { found = 1; reason = 0; number = 0; headers = h; values = vs }
plain_as (Ok None) h = record { found = 0; reason = 0; number = 0; headers = h; values = zeros }
plain_as (Err r) h = record { found = 0; reason = number_of r.reason; number = r.number; headers = h; values = zeros }

abbrev pub plain_size : CanvasSize → PagCanvasAnswer
plain_size c = plain_as c.size c.headers
