-- What the first pass decides, and what the second then leaves. Assumes nothing.
use mathlib.Core.Path.{◌≡◌, refl, sym, ap, ◌∙◌}
use mathlib.Core.Bool.{Bool, true, false}
use mathlib.Core.List.{List, ◌++◌}
use Prim.Native.Nat.{ℕ, ◌+◌, ◌-◌, ◌≤◌}
use native.Mathlib.Omega.{arith}
use borrow.Author.Tests.{eqb-true}
use lib.Dec.{eqb}
use lib.ListN.{length, take, replicate}
use lib.Seq.{length-take-le}
use Rattle.std.specs.Prelude.{Result, Ok, Err}
use Rattle.refusals.specs.declared.Refusal.{Refusal}
use Rattle.laws.specs.Config.{validate}
use Rattle.laws.specs.declared.config.InvalidConfig.{InvalidConfig}
use Rattle.laws.specs.declared.config.PlaneGuidanceConfig.{PlaneGuidanceConfig}
use Rattle.guidance.specs.Plane.{fresh, created}
use Rattle.guidance.specs.declared.plane.PlaneGuidance.{PlaneGuidance}
use Rattle.records.specs.Config.{read_config}
use Rattle.records.specs.declared.config.ReadConfig.{ReadConfig}
use Rattle.replay.specs.Recording.{Ending, ends, stops, read_calls, most_calls, recording}
use Rattle.replay.proofs.Window.{config_within}
use Rattle.compaction.specs.Compaction.{remaining, short, padded, compacted, bytes_after}
use Rattle.compaction.specs.declared.BadRecording.{BadRecording}
use Rattle.compaction.specs.declared.BadRecording.TheVariants as bad
use Rattle.compaction.specs.declared.Sound.{Sound}
use Rattle.compaction.specs.Code.Steps.{scanned, decided_calls, decided_new, decided_config, decided, Closed}
use Rattle.compaction.proofs.LawsProof.{config_front}

-- a recording that is read to its end
pub record Opening (s : List ℕ) (sound : Sound) : Type 0 where
  pub settings : PlaneGuidanceConfig
  pub starts : sound.guidance ≡ fresh settings
  pub valid : validate settings ≡ 0
  pub read : read_config s 0 ≡ Ok (record { config = settings; next = sound.next })
  pub ended : (read_calls most_calls s sound.next).ending ≡ ends

-- the answer and the buffer of a recording that is refused
abbrev pub Refuses : List ℕ → BadRecording → Type 0
Refuses s b = (Err b ≡ compacted s (recording s)) × (s ≡ bytes_after s (recording s))

abbrev pub Means : List ℕ → Result Sound BadRecording → Type 0
Means s (Err b) = Refuses s b
Means s (Ok sound) = Opening s sound

module _ (s : List ℕ) where
  config_refused : (why : Refusal) → read_config s 0 ≡ Err why → Refuses s (bad.Config why)
  unfolding recording compacted bytes_after
  config_refused why e = (rw e, rw e)

  module _ (r : ReadConfig) (e : read_config s 0 ≡ Ok r) where
    field_refused : eqb (validate r.config) 0 ≡ false → Refuses s (bad.InvalidConfig (record { field = validate r.config }))
    unfolding recording compacted bytes_after
    field_refused v = (rw (e, v), rw (e, v))

    call_refused : eqb (validate r.config) 0 ≡ true → (why : Refusal) → (read_calls most_calls s r.next).ending ≡ stops why
        → Refuses s (bad.Call (1 + length (read_calls most_calls s r.next).calls) why)
    unfolding recording compacted bytes_after
    call_refused v why q = (rw (e, v, q), rw (e, v, q))

    by_ending : eqb (validate r.config) 0 ≡ true → (x : Ending) → (read_calls most_calls s r.next).ending ≡ x → Means s (decided_calls s (fresh r.config) r.next)
    unfolding decided_calls scanned
    by_ending v ends q = rw q (record { settings = r.config; starts = refl; valid = eqb-true (validate r.config) 0 v; read = e; ended = q })
    by_ending v (stops why) q = rw q (call_refused v why q)

    by_valid : (b : Bool) → eqb (validate r.config) 0 ≡ b → Means s (decided_new s r.next (created r.config))
    unfolding created
    by_valid true v = rw v (by_ending v (read_calls most_calls s r.next).ending refl)
    by_valid false v = rw v (field_refused v)

  pub means : Means s (decided s)
  unfolding decided
  means = by_config (read_config s 0) refl
    where
      by_config : (x : Result ReadConfig Refusal) → read_config s 0 ≡ x → Means s (decided_config s x)
      by_config (Err why) e = config_refused why e
      by_config (Ok r) e = by_valid r e (eqb (validate r.config) 0) refl

-- ---- `decide`

module _ (s : List ℕ) (x : Result Sound BadRecording) where
  pub decides_config : (why : Refusal) × (read_config s 0 ≡ Err why) × (x ≡ Err (bad.Config why)) → x ≡ decided s
  unfolding decided
  decides_config (why, e, q) = rw (q, e)

  module _ (r : ReadConfig) (read : read_config s 0 ≡ Ok r) where
    pub decides_invalid : (f : InvalidConfig) × (created r.config ≡ Err f) × (x ≡ Err (bad.InvalidConfig f)) → x ≡ decided s
    unfolding decided
    decides_invalid (f, e, q) = rw (q, read, e)

    module _ (g : PlaneGuidance) (made : created r.config ≡ Ok g) where
      pub decides_call : (b : BadRecording) × (scanned 1 (read_calls most_calls s r.next) ≡ Err b) × (x ≡ Err b) → x ≡ decided s
      unfolding decided decided_calls
      decides_call (b, e, q) = rw (q, read, made, e)

      pub decides_sound : scanned 1 (read_calls most_calls s r.next) ≡ Ok tt → x ≡ Ok (record { guidance = g; next = r.next }) → x ≡ decided s
      unfolding decided decided_calls
      decides_sound e q = rw (q, read, made, e)

-- what `decide` answered, and `compact` then answers
pub refuses : (s : List ℕ) (x : Result ℕ BadRecording) → (b : BadRecording) × (decided s ≡ Err b) × (x ≡ Err b)
    → (x ≡ compacted s (recording s)) × (s ≡ bytes_after s (recording s))
refuses s x (b, e, q) = let m : Refuses s b = rw e at (means s) in (q ∙ m.0, m.1)

pub opens : (s : List ℕ) (sound : Sound) → decided s ≡ Ok sound → Opening s sound
opens s sound e = rw e at (means s)

-- ---- after the second pass

module _ {s : List ℕ} {sound : Sound} (o : Opening s sound) where
  abbrev next : ℕ
  next = sound.next

  abbrev g : PlaneGuidance
  g = sound.guidance

  pub asks : (next ≤ length s) × ((read_calls most_calls s next).ending ≡ ends)
  asks = ((config_within s (record { config = o.settings; next = next }) o.read).1, o.ended)

  abbrev Short : List ℕ
  Short = short s o.settings (read_calls most_calls s next).calls

  answer_is : compacted s (recording s) ≡ Ok (length Short)
  unfolding recording compacted
  answer_is = rw (o.read, o.valid, o.ended)

  bytes_are : bytes_after s (recording s) ≡ padded (length s) Short
  unfolding recording bytes_after
  bytes_are = rw (o.read, o.valid, o.ended)

  -- the gaps are closed
  front_is : (after : List ℕ) (r : ℕ) → Closed next g s after r → take r after ≡ Short
  unfolding short remaining
  front_is after r f = rw (config_front s o.settings next o.read, o.starts) at f.is

  pub finished : (after cleared : List ℕ) (r : ℕ) → Closed next g s after r → cleared ≡ take r after ++ replicate (length after - r) 0
      → (Ok r ≡ compacted s (recording s)) × (cleared ≡ bytes_after s (recording s))
  unfolding padded
  finished after cleared r f q =
      let front : take r after ≡ Short = front_is after r f in
      let long : r ≡ length Short = sym (length-take-le r after f.within) ∙ ap length front in (
        ap (λ (n : ℕ). Ok n) long ∙ sym answer_is,
        q ∙ ap (λ (l : List ℕ). l ++ replicate (length after - r) 0) front ∙ ap (λ (n : ℕ). Short ++ replicate n 0) (count long f) ∙ sym bytes_are,
      )
    where
      count : r ≡ length Short → Closed next g s after r → length after - r ≡ length s - length Short
      count e f = omega (arith, f.long)
