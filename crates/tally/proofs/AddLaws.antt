-- A file that was judged, added tag by tag; and what a call answers.
use Prim.Native.Nat.{ℕ, ◌+◌, ◌-◌, ◌^◌, ◌≤◌, ◌<◌}
use mathlib.Core.List.{List, [], ◌∷◌}
use mathlib.Core.Path.{◌≡◌, refl, ap, sym, subst, ◌∙◌}
use mathlib.Core.Bool.{true, false}
use native.Mathlib.Omega.{arith}
use lib.ListN.{length, get_or, drop, set}
use Rattle.std.specs.Result.{IsOk}
use Rattle.std.proofs.Common.{Result, Ok, Err}
use Rattle.format.specs.Bits.{Order, order_named}
use Rattle.format.specs.FileAndTags.{class_of, Tag, Outcome, whole, head, no_head, raw_head}
use Rattle.format.specs.Reasons as paper
use Rattle.format.specs.Reasons.{IsFile, walk_file, read_tags, into}
use Rattle.format.proofs.Absurd.{clash}
use Rattle.answers.specs.Answers as answers
use Rattle.answers.specs.Answers.{answer_of}
use Rattle.answers.specs.declared.Answer.{Answer}
use Rattle.answers.specs.declared.Answer.TheVariants.{Accepted, Refused}
use Rattle.reasons.specs.declared.Reason.{Reason}
use Rattle.reasons.specs.declared.Reason.TheVariants.{TableTooShort}
use Rattle.reasons.specs.Numbers.{number_of}
use Rattle.reasons.proofs.NumberLaws.{number_one}
use Rattle.bits.specs.Places.{order_of, order_by}
use Rattle.bits.specs.declared.Order.{Order as Code}
use Rattle.bits.proofs.FieldLaws.{Named, order_told}
use Rattle.classes.specs.Classes.{class_at}
use Rattle.classes.specs.declared.Class.{Class}
use Rattle.headers.specs.Heads.{as_head}
use Rattle.headers.specs.declared.Header.{Header}
use Rattle.reader.proofs.Demands as demands
use Rattle.tally.specs.OwnBytes.{own_bytes}
use Rattle.tally.specs.Adding.{adds, with_file, is_full, by_outcome, adding}
use Rattle.tally.specs.Places.{next_by, NoneAbove, Good, tags_in}
use Rattle.tally.specs.declared.Tally.{Tally}
use Rattle.tally.proofs.WalkLaws.{Flat, First, flat_first, flat_over, flat_le}
use Rattle.tally.proofs.PlaceLaws.{good_flat, file_start, leads_by, code_below}
use Rattle.tally.proofs.CountLaws.{none_above_set, none_above_more}

-- ---- tag by tag: the tags that are left, added to the counts of now, give what all of them added to the first counts give
pub record Going (o : Order) (level : ℕ) (f counts₀ counts : List ℕ) (place : ℕ) : Type 0 where
  pub ts : List Tag
  pub flat : Flat o (class_of level) f place ts
  pub same : adds counts ts ≡ adds counts₀ (tags_in o level f)
  pub low : NoneAbove (16777216000000 + place) counts

module _ (o : Order) (level : ℕ) (f counts₀ : List ℕ) where
  pub going_start : Good o level f → NoneAbove 16777216000000 counts₀ → Going o level f counts₀ counts₀ 9
  going_start e h = record { ts = tags_in o level f; flat = good_flat e; same = refl; low = none_above_more 16777216000000 (16777216000000 + 9) counts₀ (omega arith) h }

  pub going_over : {counts : List ℕ} {place : ℕ} → Going o level f counts₀ counts place → length f ≤ place → counts ≡ adds counts₀ (tags_in o level f)
  unfolding adds
  going_over {counts} g l = go g.ts (flat_over o (class_of level) f g.flat l) g.same
    where
      go : (ts : List Tag) → ts ≡ [] → adds counts ts ≡ adds counts₀ (tags_in o level f) → counts ≡ adds counts₀ (tags_in o level f)
      go [] q e = e
      go (t ∷ ts) q e = clash cc

  -- the header H was found at a place
  module _ (counts : List ℕ) (place : ℕ) (H : Header) where
    -- the next tag is at n
    pub record Taken (n : ℕ) : Type 0 where
      pub later : place < n
      pub upto : n ≤ length f
      pub fits : get_or counts H.code 0 + (n - place) < 2 ^ 64
      pub goes : Going o level f counts₀ (set counts H.code (get_or counts H.code 0 + (n - place))) n

    pub record Found : Type 0 where
      pub coded : H.code < 1024
      pub fits : place + H.size + H.length ≤ length f
      pub taken : {c : Class} {n : ℕ} → c ≡ class_at level H.code → n ≡ next_by o c H.code H.length (place + H.size) f → Taken n

  module _ {counts : List ℕ} {place : ℕ} (good : Good o level f) (g : Going o level f counts₀ counts place) (inside : place < length f) where
    abbrev first : First o (class_of level) f place g.ts
    first = flat_first o (class_of level) f g.flat inside

    abbrev t : Tag
    t = first.t

    -- no header is cut
    pub never_cut : (y : Result Header Reason) → as_head y ≡ raw_head (drop place f) → IsOk y
    never_cut (Ok H) read = refl
    never_cut (Err e) read =
        let m : no_head (number_of e) ≡ head t.code t.body_length t.header_size = read ∙ first.at.header in
        clash cc

    pub found : IsFile f → {y : Result Header Reason} {H : Header} → as_head y ≡ raw_head (drop place f) → y ≡ Ok H → Found counts place H
    unfolding adds
    found bytes {y} {H} read q =
        let m : head H.code H.length H.size ≡ head t.code t.body_length t.header_size = sym (ap as_head q) ∙ read ∙ first.at.header in
        let h : H.code ≡ t.code = cc in
        let l : H.length ≡ t.body_length = cc in
        let s : H.size ≡ t.header_size = cc in
        let b : ℕ = first.b in
        let e : adds counts (t ∷ first.us) ≡ adds counts₀ (tags_in o level f) = ap (adds counts) (sym first.is) ∙ g.same in
        record {
          coded = rw h (code_below f place bytes first.at.header);
          fits = omega (arith, first.at.fits, first.at.place, l, s);
          taken = λ {c} {n} d i.
              let k : n ≡ b = i ∙ rw (d, h, l, s) (leads_by o level f t.code t.body_length (place + t.header_size) b first.at.next) in
              let v : set counts H.code (get_or counts H.code 0 + (n - place)) ≡ set counts t.code (get_or counts t.code 0 + own_bytes t first.us)
              = ap (λ (z : ℕ). set counts H.code (get_or counts H.code 0 + z)) (omega (arith, k, first.at.own)) ∙ ap (λ (z : ℕ). set counts z (get_or counts z 0 + own_bytes t first.us)) h in
              let u : n ≤ length f = omega (arith, k, flat_le o (class_of level) f first.rest) in
              record {
                later = omega (arith, first.at.later, k);
                upto = u;
                fits = omega (arith, g.low H.code, u, good.limit);
                goes = record {
                  ts = first.us;
                  flat = subst (λ (z : ℕ). Flat o (class_of level) f z first.us) (sym k) first.rest;
                  same = ap (λ (z : List ℕ). adds z first.us) v ∙ e;
                  low = subst (NoneAbove (16777216000000 + n)) (sym v) (none_above_set (16777216000000 + n) counts t.code (get_or counts t.code 0 + own_bytes t first.us)
                      (omega (arith, g.low t.code, first.at.later, first.at.own, k))
                      (none_above_more (16777216000000 + place) (16777216000000 + n) counts (omega (arith, first.at.later, k)) g.low));
                };
              };
        }

-- ---- the answer
module _ (order level : ℕ) (t : Tally) (f : List ℕ) where
  pub adding_full : is_full t ≡ true → record { tally = t; answer = paper.refused 25 0 } ≡ adding order level t f
  unfolding adding
  adding_full h = rw h

  pub adding_by : {z : Outcome} → is_full t ≡ false → (walk_file order level f).ended ≡ z → by_outcome t f (walk_file order level f).tags z ≡ adding order level t f
  unfolding adding
  adding_by h e = rw (h, e)

  pub adding_whole : {u : Tally} → is_full t ≡ false → (walk_file order level f).ended ≡ whole → u ≡ with_file t (walk_file order level f).tags
      → record { tally = u; answer = paper.accepted (length f) } ≡ adding order level t f
  adding_whole h e q = rw q (adding_by h e)

  -- by what the call `tags` answered
  module _ (m m' : List ℕ) (r : Answer) (judged : answers.leaves m' r ≡ into m (read_tags order level f)) where
    abbrev call : demands.Called order level f
    call = record { call = demands.tags; before = m; after = m'; answer = r; promise = judged }

    -- it refused the file
    pub adding_refused : {e : Reason} {n : ℕ} → is_full t ≡ false → r ≡ Refused e n → (e ≡ TableTooShort → ⊥) → record { tally = t; answer = paper.refused (number_of e) n } ≡ adding order level t f
    adding_refused {e} {n} h q k =
        (adding_by h (demands.was_refused call (record { refused = ap answer_of q; not_room = λ w. k (number_one e TableTooShort w) })))

    -- it had no room, or it had
    pub no_room : {e : Reason} {n : ℕ} → r ≡ Refused e n → e ≡ TableTooShort → (walk_file order level f).ended ≡ whole
    no_room q e = demands.was_read call (rw q (ap number_of e))

    pub room : {n : ℕ} → r ≡ Accepted n → (walk_file order level f).ended ≡ whole
    room q = demands.was_read call (rw q tt)

-- the order that its number names
module _ (order level : ℕ) (f : List ℕ) (judged : (walk_file order level f).ended ≡ whole) where
  pub order_there : (y : Result Code Reason) → y ≡ order_by order → IsOk y
  order_there y e = go y (order_told order e)
    where
      go : (y : Result Code Reason) → Named order y → IsOk y
      go (Ok o) k = refl
      go (Err x) k = absurd (omega (arith, k.1, (file_start order level f judged).ordered))

  pub order_is : {y : Result Code Reason} {o : Code} → y ≡ order_by order → y ≡ Ok o → order_of o ≡ order_named order
  order_is e q = (subst (Named order) q (order_told order e)).0
