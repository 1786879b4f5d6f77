use mathlib.Core.Path.{refl, sym, ◌∙◌}
use native.Mathlib.Omega.{arith}
use lib.ListN.{get_or}
use Rattle.format.proofs.Absurd.{clash}
use Rattle.write_opaque.proofs.TagLaws.{tag_none, tag_long, tag_claim, tag_late, tag_put}
use Rattle.write_opaque.proofs.write_tag.Goals as goal
use Rattle.write_opaque.proofs.write_tag.Goals.{then-claimed+else-length-gt62, else-claimed}

pub returns-then-values-eq0 : goal.returns-then-values-eq0
returns-then-values-eq0 c = tag_none c.args.out.now c.args.place.0 c.args.values.now c.args.claimed c.args.code c.if-values-eq0.true

pub returns-then-length-gt16777216 : goal.returns-then-length-gt16777216
returns-then-length-gt16777216 c = tag_long c.args.out.now c.args.place.0 c.args.values.now c.args.claimed c.args.code (get_or c.args.values.now 0 0) refl (omega (arith, c.if-length-gt16777216.true))

pub returns-then-length-gt62 : goal.returns-then-length-gt62
returns-then-length-gt62 c = tag_claim c.args.out.now c.args.place.0 c.args.values.now c.args.claimed c.args.code (get_or c.args.values.now 0 0) refl c.if-claimed.true (omega (arith, c.if-length-gt62.true))

pub put_head-at-requires : goal.put_head-at-requires
put_head-at-requires c = (omega (arith, c.requires.0), c.requires.1, omega (arith, c.if-length-gt16777216.false))

pub returns-then-at-gt16777216 : goal.returns-then-at-gt16777216
returns-then-at-gt16777216 c = tag_late c.args.out.now c.args.place.0 c.args.values.now c.args.claimed c.args.code (get_or c.args.values.now 0 0) refl c.requires.1 (omega (arith, c.if-length-gt16777216.false)) (λ e. elim c.if-claimed.branch [ then-claimed+else-length-gt62 w ↦ omega (arith, w.if-length-gt62.false) | else-claimed w ↦ let f = sym e ∙ w.if-claimed.false in clash cc ]) c.put_head-at.ensures (omega (arith, c.if-at-gt16777216.true))

pub unpack_bytes-requires : goal.unpack_bytes-requires
unpack_bytes-requires c = omega (arith, c.if-at-gt16777216.false)

pub returns : goal.returns
returns c = c.unpack_bytes.ensures ∙ tag_put c.args.out.now c.args.place.0 c.args.values.now c.args.claimed c.args.code (get_or c.args.values.now 0 0) refl c.requires.1 (omega (arith, c.if-length-gt16777216.false)) (λ e. elim c.if-claimed.branch [ then-claimed+else-length-gt62 w ↦ omega (arith, w.if-length-gt62.false) | else-claimed w ↦ let f = sym e ∙ w.if-claimed.false in clash cc ]) c.put_head-at.ensures
