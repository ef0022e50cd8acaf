-- What a read put behind the bytes that were read before. Assumes nothing.
use Rattle.std.proofs.Common.{ℕ, ◌+◌, ◌≤◌, Option, List, ◌++◌, length, take, drop, sym, ap, ◌∙◌, subst, le_refl, drop_at, length-take-le}
use Rattle.std.proofs.lemmas.Slice.{take-put_mid_below}
use Rattle.std.specs.Io.KnownBytes.{Consumes}
use Rattle.std.proofs.KnownBytes.{Consumes-trans}
use borrow.Rule.Slice.PartMut.{put_mid, post_of}
use lib.Seq.{take-add, take-append-le}

-- `part` was lent from the place `at` on, and a read put n bytes into it
pub read_more : (a b c : Option (List ℕ)) (at room n : ℕ) (xs part : List ℕ) → Consumes a b (take at xs) → Consumes b c (take n part)
    → at ≤ length xs → n ≤ length part → Consumes a c (take (at + n) (put_mid at room xs part))
read_more a b c at room n xs part before more within fits =
    let after = post_of at room xs in
    let all = put_mid at room xs part in
    let front = take-put_mid_below _ _ _ _ _ (le_refl _) within in
    let behind = ap (take n) (drop_at (take at xs) (part ++ after) at (length-take-le at xs within)) ∙ take-append-le n part after fits in
    let joined = take-add at n all ∙ ap (λ l. l ++ take n (drop at all)) front ∙ ap (λ l. take at xs ++ l) behind in
    subst (Consumes a c) (sym joined) (Consumes-trans a b c _ _ before more)
