use mathlib.Core.Path.{ap}
use native.Mathlib.Omega.{arith}
use lib.ListN.{length}
use Rattle.listing.proofs.TextLaws.{byte_field}
use Rattle.listing.proofs.PackedLaws.{bytes_next, bytes_last, bytes_all}
use Rattle.listing.proofs.put_bytes.Goals as goal

pub returns-then-rest-eq0 : goal.returns-then-rest-eq0
returns-then-rest-eq0 c =
    (bytes_last _ c.loop-byte.byte-index _ c.loop-byte.invariant.1 c.if-rest-eq0.true, omega (arith, ap length c.loop-byte.invariant.0, c.loop-byte.invariant.2))

pub loop-byte-preserved : goal.loop-byte-preserved
loop-byte-preserved c = (
  c.loop-byte.invariant.0,
  bytes_next _ c.loop-byte.byte-index _ c.loop-byte.invariant.1 c.from.result c.ender_of.result (omega arith) (omega (arith, c.if-rest-eq0.false)) c.from.ensures c.ender_of.ensures c.field.ensures.0,
  omega (arith, c.field.ensures.0.used, byte_field c.from.result c.ender_of.result (omega (arith, c.from.ensures, c.loop-byte-test.element_fits.fits)), c.loop-byte.invariant.2),
)

pub returns : goal.returns
returns c = (bytes_all _ c.loop-byte.byte-index _ c.loop-byte.invariant.1 (omega arith), omega (arith, ap length c.loop-byte.invariant.0, c.loop-byte.invariant.2))
