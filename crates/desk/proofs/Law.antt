-- What is shown is the text of the whole input. Assumes nothing.
use mathlib.Core.Path.{◌≡◌, sym, ◌∙◌}
use mathlib.Core.List.{List, []}
use Prim.Native.Nat.{ℕ, ◌<◌, ◌≤◌}
use native.Mathlib.Omega.{arith}
use lib.ListN.{length, take}
use lib.Seq.{length-take-le, take-append_seam}
use Rattle.fields.specs.Bytes.{put_at}
use Rattle.replay.specs.Sizes.{decisive, text_room}
use Rattle.replay.specs.Text.{recording_text}
use Rattle.replay.proofs.TextLaw.{text_fits}
use Rattle.replay.proofs.Cut.{text_read}
use Rattle.lines.proofs.PutLaw.{put_long}
use Rattle.desk.specs.Shown.{Shown}

pub shown : (read out after : List ℕ) (n : ℕ) → text_room ≤ length out → n ≡ length (recording_text read)
    → after ≡ put_at out 0 (recording_text read) → Shown read after n
shown read out after n room e p =
    let front : take n after ≡ recording_text read = rw (p, e) (take-append_seam (recording_text read) _) in
    let long : length after ≡ length out = rw p (put_long out 0 (recording_text read) (omega (arith, text_fits read))) in
    let within : n ≤ length after = omega (arith, text_fits read) in
    record {
      text = λ (rest : List ℕ) (h : length read < decisive → rest ≡ []). front ∙ sym (text_read read rest h);
      within = within;
      part = sym (length-take-le n after within);
    }
