-- From the promises of the reader's two calls: what the program has to print, and that no second answer fits the promises here.
use Prim.Native.Nat.{ℕ, ◌*◌, ◌≤◌, ◌<◌}
use mathlib.Core.List.{List, [], ◌∷◌}
use mathlib.Core.Path.{◌≡◌, refl, ap, sym, ◌∙◌}
use native.Mathlib.Omega.{arith}
use lib.ListN.{length, take, length-append}
use borrow.Author.Tests.{le-ltb, lt-ltb, le-leb}
use Rattle.format.specs.FileAndTags.{Tag, Outcome, whole, fault, Walk}
use Rattle.format.specs.TableOfNumbers.{numbers, table, tag_table}
use Rattle.format.specs.Reasons.{walk_file, Result, gives, result, read_file, read_tags, accepted, Left, accepts, refuses_with, into, IsFile}
use Rattle.format.proofs.StartLaws.{good_start, whole_start}
use Rattle.format.proofs.PlainLaws.{shown_file}
use Rattle.format.proofs.CallLaws.{Filled, filled, Why, faulty, full, kept}
use Rattle.format.proofs.Absurd.{clash}
use Rattle.listing.specs.declared.Part.{Part}
use Rattle.listing.specs.Listing.{listing, refusal, too_long, answered, printed}
use Rattle.listing.specs.Steps.{Laid, laid, AfterPart, part_leaves, table_listing}
use Rattle.listing.proofs.Listed.{listed}

-- ---- no second answer fits
pub part_one : (b c : List ℕ) (p q : Part) → part_leaves b p ≡ part_leaves c q → (b ≡ c) × (p ≡ q)
part_one b c p q e = (ap (λ (s : AfterPart). s.lent) e, λ i. record { used = (e i).used; to = (e i).to })

pub laid_one : (b c : List ℕ) (j k : ℕ) → laid b j ≡ laid c k → (b ≡ c) × (j ≡ k)
laid_one b c j k e = (ap (λ (s : Laid). s.lent) e, ap (λ (s : Laid). s.next) e)

-- what a call leaves that accepts with k
abbrev accept : ℕ → List ℕ → Left
accept k m = record { answer = accepted k; lent = m }

-- ---- a tag has three numbers at least, and its row five
tags_counted : (ts : List Tag) → (3 * length ts ≤ length (numbers ts)) × (length (tag_table ts) ≡ 5 * length ts)
tags_counted [] = (omega arith, refl)
tags_counted (t ∷ ts) =
    let h : (3 * length ts ≤ length (numbers ts)) × (length (tag_table ts) ≡ 5 * length ts) = tags_counted ts in
    (omega (arith, h.0, length-append t.values (numbers ts)), omega (arith, h.1))

-- ---- the program: the input f is not too long, `read` is lent m with room for 8,192 numbers, `tags` is lent g with room for 13,650
abbrev walked : List ℕ → Walk
walked f = walk_file 0 1023 f

module _ (f m g : List ℕ) (short : length f ≤ 32768) (room : length m ≡ 8192) (rows : 13650 ≤ length g) where
  printed_short : printed f ≡ answered f (read_file 0 1023 f)
  printed_short = rw (le-ltb 32768 (length f) short)

  printed_table : (ns : List ℕ) → length ns ≤ 8192 → read_file 0 1023 f ≡ gives ns → printed f ≡ listing f (walked f)
  printed_table ns h e = printed_short ∙ ap (answered f) e ∙ rw (le-ltb 8192 (length ns) h)

  -- `read` refused: the line of that refusal is all that is printed
  pub refusal_printed : (m' : List ℕ) (e n : ℕ) → into m (read_file 0 1023 f) ≡ refuses_with m' e n → refusal e n ≡ printed f
  refusal_printed m' e n h = go (read_file 0 1023 f) refl (kept m (read_file 0 1023 f) (sym h) refl).why
    where
      go : (R : Result) → read_file 0 1023 f ≡ R → Why m e n R → refusal e n ≡ printed f
      go R d faulty = sym (printed_short ∙ ap (answered f) d)
      go R d (full {ns = ns} a b c) = rw (a, b) (sym (printed_short ∙ ap (answered f) d ∙ rw (lt-ltb 8192 (length ns) (omega (arith, c)))))

  -- `read` accepted: the walk is whole, and its table stands in front
  module _ {m' : List ℕ} {k : ℕ} (read : into m (read_file 0 1023 f) ≡ accept k m') where
    table_left : ((walked f).ended ≡ whole) × (take k m' ≡ table f (walked f)) × (length (table f (walked f)) ≤ 8192)
    unfolding read_file
    table_left =
        let u : Filled m m' (read_file 0 1023 f) k = filled m (read_file 0 1023 f) (sym read) refl in
        go (walked f).ended u.shows u.count u.room
      where
        go : (z : Outcome) → result (table f (walked f)) z ≡ gives (take k m') → length (take k m') ≡ k → k ≤ length m
            → (z ≡ whole) × (take k m' ≡ table f (walked f)) × (length (table f (walked f)) ≤ 8192)
        go (fault e n) d c r = clash cc
        go whole d c r = let t : take k m' ≡ table f (walked f) = cc in (refl, t, omega (arith, ap length t, c, r))

    tags_are : read_tags 0 1023 f ≡ gives (tag_table (walked f).tags)
    unfolding read_tags
    tags_are = ap (result (tag_table (walked f).tags)) table_left.0

    -- `tags` accepts too
    pub tags_accepted : into g (read_tags 0 1023 f) ≡ accepts g (tag_table (walked f).tags)
    tags_accepted =
        let v : (3 * length (walked f).tags ≤ length (numbers (walked f).tags)) × (length (tag_table (walked f).tags) ≡ 5 * length (walked f).tags) = tags_counted (walked f).tags in
        ap (into g) tags_are ∙ rw (le-leb (length (tag_table (walked f).tags)) (length g) (omega (arith, table_left.2, v)))

    -- and the listing of what both left is printed. (Every input is bytes: `is_file` of crate answers.)
    pub listing_printed : (g' : List ℕ) (j : ℕ) → IsFile f → into g (read_tags 0 1023 f) ≡ accept j g' → table_listing (length f) (take k m') (take j g') ≡ printed f
    unfolding read_file
    listing_printed g' j b h =
        let a : gives (tag_table (walked f).tags) ≡ gives (take j g') = sym tags_are ∙ (filled g (read_tags 0 1023 f) (sym h) refl).shows in
        let v : take j g' ≡ tag_table (walked f).tags = cc in
        rw (table_left.1, v) (listed f (walked f) b (shown_file f 0 1023) (good_start 0 1023 f (whole_start 0 1023 f table_left.0)).version)
        ∙ sym (printed_table (table f (walked f)) table_left.2 (ap (result (table f (walked f))) table_left.0))

-- the input is longer
pub too_long_printed : (f : List ℕ) → 32768 < length f → too_long ≡ printed f
too_long_printed f h = rw (lt-ltb 32768 (length f) h)
