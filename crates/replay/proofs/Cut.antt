-- The text of a recording's first 352,394 bytes is the text of the whole recording. Assumes nothing.
use mathlib.Core.Path.{◌≡◌, refl, sym, ap, ◌∙◌}
use mathlib.Core.Bool.{Bool, true, false, cond}
use mathlib.Core.List.{List, [], ◌++◌, append-nil}
use Prim.Native.Nat.{ℕ, zero, suc, ◌+◌, ◌-◌, ◌*◌, ◌<◌, ◌≤◌}
use native.Mathlib.Omega.{arith}
use borrow.Author.Tests.{lt-leb, leb-true, leb-false}
use lib.Dec.{leb}
use lib.ListN.{length, drop, take}
use lib.Seq.{take_all, take-take, length-take-le, take-append-le}
use Rattle.std.specs.Prelude.{Result, Ok, Err}
use Rattle.refusals.specs.declared.Refusal.{Refusal}
use Rattle.fields.specs.Bytes.{number_at}
use Rattle.fields.specs.Fields.{size_of}
use Rattle.fields.proofs.Window.{drop_take}
use Rattle.records.specs.Config.{config_fields, read_config}
use Rattle.records.specs.Call.{call_fields, read_call}
use Rattle.records.specs.declared.call.ReadCall.{ReadCall}
use Rattle.records.specs.declared.config.ReadConfig.{ReadConfig}
use Rattle.replay.specs.Sizes.{decisive}
use Rattle.replay.specs.Recording.{no_calls, with_call, on_read, on_config, read_calls, recording, ends}
use Rattle.replay.specs.Text.{recording_text}
use Rattle.replay.proofs.Window.{moved, call_at_lem, call_same, call_most, call_within, config_same, config_most, config_within}

module _ (n : ℕ) (s : List ℕ) where
  -- the end is seen from a place before the cut
  end_same : (at : ℕ) → at < n → leb (length (take n s)) at ≡ leb (length s) at
  end_same at h = go (leb n (length s)) refl
    where
      go : (b : Bool) → leb n (length s) ≡ b → leb (length (take n s)) at ≡ leb (length s) at
      go true e =
          let l : n ≤ length s = leb-true n (length s) e in
          rw (length-take-le n s l, lt-leb n at h, lt-leb (length s) at (omega arith))
      go false e = rw (take_all n s (omega (arith, leb-false n (length s) e)))

  -- so is a call that ends before it
  call_cut : (at : ℕ) → at < length s → at + 86 ≤ n → read_call (take n s) at ≡ read_call s at
  call_cut at h l = go (leb n (length s)) refl
    where
      go : (b : Bool) → leb n (length s) ≡ b → read_call (take n s) at ≡ read_call s at
      go true e =
          let long : n ≤ length s = leb-true n (length s) e in
          let size : length (take n s) ≡ n = length-take-le n s long in
          let alike : take 86 (drop at (take n s)) ≡ take 86 (drop at s) = ap (take 86) (drop_take at n s) ∙ take-take 86 (n - at) (drop at s) (omega arith) in
          let same : read_call (drop at (take n s)) 0 ≡ read_call (drop at s) 0 =
          call_same 86 (drop at (take n s)) (drop at s) alike (omega (arith, call_most (number_at 4 (drop at (take n s))))) in
          call_at_lem (take n s) at (omega arith) ∙ ap (moved at) same ∙ sym (call_at_lem s at (omega arith))
      go false e = rw (take_all n s (omega (arith, leb-false n (length s) e)))

  -- and the calls of which k may still come
  calls_cut : (k at : ℕ) → at + 86 * k < n → read_calls k (take n s) at ≡ read_calls k s at
  unfolding read_calls
  calls_cut zero at h = rw (end_same at (omega arith))
  calls_cut (suc k) at h = rw (end_same at (omega arith)) (go (leb (length s) at) refl (λ (next : ℕ). calls_cut k next))
    where
      Later : Type 0
      Later = (next : ℕ) → next + 86 * k < n → read_calls k (take n s) next ≡ read_calls k s next

      onward : at < length s → Later → (r : Result ReadCall Refusal) → read_call s at ≡ r
          → on_read at r (λ (next : ℕ). read_calls k (take n s) next) ≡ on_read at r (λ (next : ℕ). read_calls k s next)
      onward l later (Err why) q = refl
      onward l later (Ok r) q =
          let within : r.next ≡ at + (4 + size_of call_fields (number_at 4 (drop at s))) = (call_within s at r q).0 in
          ap (with_call (record { place = at; call = r.call })) (later r.next (omega (arith, call_most (number_at 4 (drop at s)))))

      go : (b : Bool) → leb (length s) at ≡ b → Later
          → cond b (no_calls ends) (on_read at (read_call (take n s) at) (λ (next : ℕ). read_calls k (take n s) next))
          ≡ cond b (no_calls ends) (on_read at (read_call s at) (λ (next : ℕ). read_calls k s next))
      go true e later = refl
      go false e later =
          let l : at < length s = leb-false (length s) at e in
          rw (call_cut at l (omega arith)) (onward l later (read_call s at) refl)

recording_cut : (s : List ℕ) → recording (take decisive s) ≡ recording s
unfolding recording
recording_cut s =
    rw (config_same 137 (take decisive s) s (take-take 137 decisive s (omega arith))
    (omega (arith, config_most (number_at 5 (take decisive s))))) (go (read_config s 0) refl)
  where
    go : (r : Result ReadConfig Refusal) → read_config s 0 ≡ r → on_config (take decisive s) r ≡ on_config s r
    go (Err why) e = refl
    go (Ok r) e =
        let within : r.next ≡ 5 + size_of config_fields (number_at 5 s) = (config_within s r e).0 in
        rw (calls_cut decisive s 4096 r.next (omega (arith, config_most (number_at 5 s))))

-- "decides every input"
pub text_cut : (s : List ℕ) → recording_text (take decisive s) ≡ recording_text s
unfolding recording_text
text_cut s = rw (recording_cut s)

-- bytes that were read, up to the first 352,394, and what follows them unread: nothing where they are fewer
pub text_read : (s rest : List ℕ) → (length s < decisive → rest ≡ []) → recording_text (s ++ rest) ≡ recording_text s
text_read s rest = go (leb decisive (length s)) refl
  where
    go : (b : Bool) → leb decisive (length s) ≡ b → (length s < decisive → rest ≡ []) → recording_text (s ++ rest) ≡ recording_text s
    go true e h =
        let l : decisive ≤ length s = leb-true decisive (length s) e in
        sym (text_cut (s ++ rest)) ∙ rw (take-append-le decisive s rest l) (text_cut s)
    go false e h = rw (h (leb-false decisive (length s) e), append-nil s)
