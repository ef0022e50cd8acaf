-- Bytes that are printed one after another. Assumes nothing.
use Rattle.std.proofs.Common.{◌≡◌, ℕ, ◌+◌, ◌-◌, ◌≤◌, List, [], ◌++◌, length, take, drop, refl, sym, ap, ◌∙◌, arith, length-append, append_assoc, append-nil}
use borrow.Rule.Slice.PartMut.{put_mid}
use Rattle.lines.specs.Line.{Puts}
use Rattle.lines.proofs.PutLaw.{puts_none, room_after, puts_more}

-- `done` is printed of a whole text, and `left` is left
pub record Printing (whole before after : List ℕ) (to : ℕ) (left : List ℕ) : Type 0 where
  pub done : List ℕ
  pub parts : whole ≡ done ++ left
  pub room : length whole ≤ length before
  pub put : Puts done before after to

pub printing_starts : (whole before : List ℕ) → length whole ≤ length before → Printing whole before before 0 whole
printing_starts whole before h = record { done = []; parts = refl; room = h; put = puts_none before }

module _ {whole before after left : List ℕ} {to : ℕ} (p : Printing whole before after to left) where
  -- room for what is next
  pub printing_room : (bs more : List ℕ) → left ≡ bs ++ more → length bs ≤ length (take (length after - to) (drop to after))
  printing_room bs more e = room_after p.put (length bs) (omega (arith, p.room, ap length p.parts, ap length e, length-append p.done left, length-append bs more))

  pub printing_more : (bs more lent : List ℕ) (r : ℕ) → left ≡ bs ++ more → Puts bs (take (length after - to) (drop to after)) lent r
      → Printing whole before (put_mid to (length after - to) after lent) (to + r) more
  printing_more bs more lent r e q =
      record {
        done = p.done ++ bs;
        parts = p.parts ∙ ap (λ l. p.done ++ l) e ∙ sym (append_assoc p.done bs more);
        room = p.room;
        put = puts_more p.put bs lent r (omega (arith, p.room, ap length p.parts, ap length e, length-append p.done left, length-append bs more)) q;
      }

  pub printing_ends : left ≡ [] → Puts whole before after to
  printing_ends e = rw (p.parts, e, append-nil p.done) p.put
