-- A recording that was written is read again. Assumes nothing.
use mathlib.Core.Path.{◌≡◌, refl, sym, ap, ◌∙◌}
use mathlib.Core.List.{List, [], ◌∷◌, ◌++◌}
use Prim.Native.Nat.{ℕ, zero, suc, ◌+◌, ◌<◌, ◌≤◌}
use native.Mathlib.Omega.{arith}
use borrow.Author.Tests.{le-leb, lt-leb}
use lib.ListN.{length, drop, length-append}
use lib.Seq.{drop_at, drop-drop}
use Rattle.records.specs.declared.call.Call.{Call}
use Rattle.records.specs.Config.{config_record}
use Rattle.records.specs.Call.{call_record}
use Rattle.replay.specs.Recording.{ends, recording, read_calls}
use Rattle.record_laws.specs.Recordings.{call_records, recording_of, CallsF32, placed, RecordingLaw}
use Rattle.record_laws.proofs.ConfigBack as config
use Rattle.record_laws.proofs.CallBack.{long, stands_at}

-- the calls whose records stand from a place on, to the end of the input
calls_back : (ks : List Call) (n : ℕ) (s : List ℕ) (at : ℕ) → CallsF32 ks → length ks ≤ n → drop at s ≡ call_records ks → at + length (call_records ks) ≡ length s
    → read_calls n s at ≡ record { calls = placed at ks; ending = ends }
unfolding read_calls call_records CallsF32 placed
calls_back [] zero s at f h e l = rw (le-leb (length s) at (omega arith))
calls_back [] (suc n) s at f h e l = rw (le-leb (length s) at (omega arith))
calls_back (k ∷ ks) zero s at f h e l = absurd (omega arith)
calls_back (k ∷ ks) (suc n) s at f h e l =
    let size : at + length (call_record k) + length (call_records ks) ≡ length s = omega (arith, length-append (call_record k) (call_records ks)) in
    let here : at < length s = omega (arith, long k) in
    let after : drop (at + length (call_record k)) s ≡ call_records ks =
    sym (drop-drop (length (call_record k)) at s) ∙ ap (drop (length (call_record k))) e ∙ drop_at (call_record k) (call_records ks) (length (call_record k)) refl in
    rw (
      lt-leb (length s) at here,
      stands_at s at k (call_records ks) (omega arith) e f.0,
      calls_back ks n s (at + length (call_record k)) f.1 (omega arith) after size,
    )

pub recording_law : RecordingLaw
unfolding recording recording_of
recording_law c ks f g h =
    let s = config_record c ++ call_records ks in
    let n = length (config_record c) in
    let z : 0 + n ≡ n = omega arith in
    let size : n + length (call_records ks) ≡ length s = sym (length-append (config_record c) (call_records ks)) in
    rw (config.stands_at s 0 c (call_records ks) (omega arith) refl f, z, calls_back ks 4096 s n g h (drop_at (config_record c) (call_records ks) n refl) size)
