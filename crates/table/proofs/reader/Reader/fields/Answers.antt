-- `table::Reader::fields` meets its contract: the fields that stand in the body, and what is left of the whole.
use Rattle.std.proofs.Common.{ℕ, ◌+◌, ◌*◌, List, sym, ap, ap₂, ◌∙◌, arith}
use Rattle.format.specs.Reading.{Fault}
use Rattle.reasons.specs.Numbers.{number_of}
use Rattle.reasons.specs.declared.Reason.{Reason}
use Rattle.table.specs.Readers.{state_of}
use Rattle.table.proofs.EngineLaws.{state}
use Rattle.table.proofs.ReaderLaws.{same_then, kept_place}
use Rattle.table.proofs.FieldLaws.{stand, more_bits, fields_end, told_going}
use Rattle.table.proofs.reader.Reader.fields.Goals as goal

pub lay_fields-requires : goal.lay_fields-requires
lay_fields-requires c = let h = c.requires in let st = stand h.1 c.args.self.now.inside.0 c.fitting-there.ensures in (h.0, h.1, h.2, omega (arith, st.upto, h.3), st.inside, h.4)

pub returns-in-Ok-pass-clause-reads : goal.returns-in-Ok-pass-clause-reads
returns-in-Ok-pass-clause-reads c = let a = c.args.self.now in let k = c.in-Ok.ensures.0 in let p = c.pass.ensures in
    let st = stand c.requires.1 a.inside.0 c.fitting-there.ensures in
    let r = fields_end st (told_going c.in-Ok.ensures.1 c.args.count st.upto) c.pass.new.self p.table (p.index ∙ ap (λ (j : ℕ). j + c.fitting-there.result) k.index) (p.place ∙ ap (λ (j : ℕ). j + c.fitting-there.result * c.args.width) (kept_place k)) p.told in
    record { same = same_then k.same p.same; left = sym (ap (state_of c.pass.new.self) c.in-Ok-pass.is) ∙ r.0; room = omega (arith, c.requires.0, p.index, p.place, k.index, kept_place k, more_bits c.fitting-there.result c.args.width c.requires.1) }

pub returns-in-Ok-pass-clause-counts : goal.returns-in-Ok-pass-clause-counts
returns-in-Ok-pass-clause-counts c = let a = c.args.self.now in let k = c.in-Ok.ensures.0 in let p = c.pass.ensures in
    let st = stand c.requires.1 a.inside.0 c.fitting-there.ensures in
    (fields_end st (told_going c.in-Ok.ensures.1 c.args.count st.upto) c.pass.new.self p.table (p.index ∙ ap (λ (j : ℕ). j + c.fitting-there.result) k.index) (p.place ∙ ap (λ (j : ℕ). j + c.fitting-there.result * c.args.width) (kept_place k)) p.told).1

pub returns-in-Err-pass-clause-reads : goal.returns-in-Err-pass-clause-reads
returns-in-Err-pass-clause-reads c = let a = c.args.self.now in let k = c.in-Ok.ensures.0 in let p = c.pass.ensures in
    let st = stand c.requires.1 a.inside.0 c.fitting-there.ensures in
    let r = fields_end st (told_going c.in-Ok.ensures.1 c.args.count st.upto) c.pass.new.self p.table (p.index ∙ ap (λ (j : ℕ). j + c.fitting-there.result) k.index) (p.place ∙ ap (λ (j : ℕ). j + c.fitting-there.result * c.args.width) (kept_place k)) p.told in
    record { same = same_then k.same p.same; left = sym (ap (state_of c.pass.new.self) c.in-Err-pass.is) ∙ r.0; room = tt }

pub returns-in-Err-pass-clause-counts : goal.returns-in-Err-pass-clause-counts
returns-in-Err-pass-clause-counts c = let a = c.args.self.now in let k = c.in-Ok.ensures.0 in let p = c.pass.ensures in
    let st = stand c.requires.1 a.inside.0 c.fitting-there.ensures in
    (fields_end st (told_going c.in-Ok.ensures.1 c.args.count st.upto) c.pass.new.self p.table (p.index ∙ ap (λ (j : ℕ). j + c.fitting-there.result) k.index) (p.place ∙ ap (λ (j : ℕ). j + c.fitting-there.result * c.args.width) (kept_place k)) p.told).1

pub returns-in-Err-clause-reads : goal.returns-in-Err-clause-reads
returns-in-Err-clause-reads c = let a = c.args.self.now in let k = c.in-Err.ensures.0 in let s = c.stop-why.ensures in
    let st = stand c.requires.1 a.inside.0 c.fitting-there.ensures in
    record {
      same = same_then k.same s.same;
      left = ap (λ (e : Reason). state c.stop-why.new.self.table.now c.stop-why.new.self.index (Fault (number_of e))) s.told ∙ ap₂ (λ (t : List ℕ) (j : ℕ). state t j (Fault 16)) s.table (s.index ∙ ap (λ (j : ℕ). j + c.in-Err.passed) k.index) ∙ (c.in-Err.ensures.1.1 c.args.count st.upto).0;
      room = tt;
    }

pub returns-in-Err-clause-counts : goal.returns-in-Err-clause-counts
returns-in-Err-clause-counts c = let st = stand c.requires.1 c.args.self.now.inside.0 c.fitting-there.ensures in (c.in-Err.ensures.1.1 c.args.count st.upto).1
