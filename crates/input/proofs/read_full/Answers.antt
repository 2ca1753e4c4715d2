-- What one read puts behind what was read before.
use Rattle.std.proofs.Common.{◌≡◌, ℕ, ◌+◌, ◌≤◌, List, ◌++◌, rules, length, take, drop, sym, ap, ◌∙◌, subst, le_refl, drop_at, length-take-le}
use Rattle.std.proofs.lemmas.Slice.{take-put_mid_below}
use Rattle.std.proofs.KnownBytes.{Consumes-trans}
use Rattle.std.specs.Io.KnownBytes.{Consumes}
use borrow.Rule.Slice.PartMut.{put_mid, post_of}
use lib.Seq.{take-add, take-append-le}
use Rattle.input.proofs.read_full.Goals as goal

-- the front of what a part was put into: what stood before the part, and the part's front
put-front : (a k n : ℕ) (xs ys : List ℕ) → a ≤ length xs → n ≤ length ys → take a xs ++ take n ys ≡ take (a + n) (put_mid a k xs ys)
put-front a k n xs ys within fits =
    let after = post_of a k xs in
    let before = take-put_mid_below a k xs ys a (le_refl a) within in
    let part = ap (take n) (drop_at (take a xs) (ys ++ after) a (length-take-le a xs within)) ∙ take-append-le n ys after fits in
    sym (take-add a n (put_mid a k xs ys) ∙ ap (λ l. l ++ take n (drop a (put_mid a k xs ys))) before ∙ ap (λ l. take a xs ++ l) part)

pub loop-n-preserved : goal.loop-n-preserved
loop-n-preserved g c =
    let front = put-front c.loop-n.n _ c.in_ok-count.count c.loop-n.room c.read.new.buf c.loop-n.invariant.within c.in_ok-count.ensures.bound.0 in
    record {
      within = search rules;
      same_length = search rules;
      bytes = subst (Consumes _ _) front (Consumes-trans _ _ _ _ _ c.loop-n.invariant.bytes c.in_ok-count.ensures.bytes.0);
    }
