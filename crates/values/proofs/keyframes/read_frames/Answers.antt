-- `values::keyframes::read_frames` meets its contract: the times, the values, the easing and the spatial part, one after the other.
use Rattle.attributes.specs.Rows.{kind_of, type_of}
use Rattle.reasons.proofs.NumberLaws.{passed_on}
use Rattle.table.proofs.ReaderLaws.{reads_then, reads_stop}
use Rattle.values.proofs.ValueLaws.{frames_is}
use Rattle.values.proofs.keyframes.read_frames.Goals as goal

pub returns-in_err-read_values_part : goal.returns-in_err-read_values_part
returns-in_err-read_values_part c = let a = c.args in frames_is (kind_of a.kind) (type_of a.what) a.flag a.frames a.easing
    (reads_then _ c.times.ensures c.in_ok-times.was
    (reads_stop _ c.read_values_part.ensures c.in_err-read_values_part.was (passed_on c.from_residual-in_err-read_values_part.result c.from_residual-in_err-read_values_part.ensures.1)))

pub returns-in_err-read_easing : goal.returns-in_err-read_easing
returns-in_err-read_easing c = let a = c.args in frames_is (kind_of a.kind) (type_of a.what) a.flag a.frames a.easing
    (reads_then _ c.times.ensures c.in_ok-times.was
    (reads_then _ c.read_values_part.ensures c.in_ok-read_values_part.was
    (reads_stop _ c.read_easing.ensures c.in_err-read_easing.was (passed_on c.from_residual-in_err-read_easing.result c.from_residual-in_err-read_easing.ensures.1))))

pub returns : goal.returns
returns c = let a = c.args in frames_is (kind_of a.kind) (type_of a.what) a.flag a.frames a.easing
    (reads_then _ c.times.ensures c.in_ok-times.was
    (reads_then _ c.read_values_part.ensures c.in_ok-read_values_part.was
    (reads_then _ c.read_easing.ensures c.in_ok-read_easing.was c.read_spatial.ensures)))
