-- `values::keyframes::read_keyframed` meets its contract: the count, the interpolations, and the parts that follow them.
use Rattle.std.proofs.Common.{ℕ, ◌*◌, ap, ap₂}
use Rattle.attributes.specs.Rows.{kind_of, type_of}
use Rattle.table.specs.Fields.{reason_told}
use Rattle.table.proofs.ReaderLaws.{reads_then, reads_item}
use Rattle.values.specs.Parts.{frames_of}
use Rattle.values.proofs.ValueLaws.{reads_is}
use Rattle.values.proofs.keyframes.read_keyframed.Goals as goal

pub returns : goal.returns
returns c =
    let a = c.args in
    let n = c.in_ok-frames.frames in
    reads_item _ c.item.ensures.reads c.in_ok-frames.was c.in_ok-frames.ensures.shown
    (reads_then _ c.read_interpolations.ensures.reads (ap reason_told c.in_ok-beziers.was)
    (reads_is (ap (frames_of (kind_of a.kind) (type_of a.what) a.flag n) (ap₂ (λ (x y : ℕ). x * y) c.in_ok-beziers.ensures.counts.0 c.curves.ensures.0)) c.read_frames.ensures))
