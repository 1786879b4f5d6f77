-- The canvas size as a plain struct: nothing is lost.
use mathlib.Core.Path.{◌≡◌}
use Rattle.format.proofs.Promises.{one_answer}
use Rattle.canvas.specs.Canvas as paper
use Rattle.pag.specs.declared.canvas_size.PagCanvasAnswer.{PagCanvasAnswer}
use Rattle.pag.specs.PlainCanvas.{plain_canvas}

-- no second answer fits
pub canvas_one : (c : paper.Canvas) (r r' : PagCanvasAnswer) → r ≡ plain_canvas c → r' ≡ plain_canvas c → r ≡ r'
canvas_one c = one_answer (λ r. r) (λ r r' e. e) (plain_canvas c)
