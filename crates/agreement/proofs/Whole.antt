-- The answer of the two passes is the definition's. Assumes nothing.
use mathlib.Core.Path.{◌≡◌}
use mathlib.Core.Bool.{Bool, true, false, not}
use mathlib.Core.List.{List}
use Prim.Native.Nat.{ℕ}
use native.Mathlib.Omega.{arith}
use lib.ListN.{length}
use Rattle.std.specs.Prelude.{Result, Ok, Err}
use Rattle.guidance.specs.Plane.{fresh}
use Rattle.replay.specs.Recording.{recorded, recording, most_calls, read_calls}
use Rattle.compaction.specs.Compaction.{short, compacted}
use Rattle.compaction.specs.declared.BadRecording.{BadRecording}
use Rattle.compaction.specs.declared.Sound.{Sound}
use Rattle.compaction.specs.Code.Steps.{decided}
use Rattle.compaction.proofs.Deciding.{Opening, Means, means}
use Rattle.agreement.specs.Agreement.{same_list, config_values, settings, remaining, part_calls, parted, or_refused, agreement}
use Rattle.agreement.specs.declared.Agreement.{Agreement}
use Rattle.agreement.specs.declared.Agreement.TheVariants as answer
use Rattle.agreement.specs.declared.Refused.{Refused}
use Rattle.agreement.specs.declared.Side.{Side}
use Rattle.agreement.specs.declared.Side.TheVariants as side
use Rattle.agreement.specs.Code.Steps as step
use Rattle.agreement.specs.Code.Steps.{calls_from, calls_of_sound, decided_for}

-- ---- a recording that can be read

module _ {s : List ℕ} {d : Sound} (o : Opening s d) where
  reads : recording s ≡ recorded o.settings (read_calls most_calls s d.next)
  unfolding recording
  reads = rw o.read

  not_refused : compacted s (recording s) ≡ Ok (length (short s o.settings (read_calls most_calls s d.next).calls))
  unfolding recording compacted
  not_refused = rw (o.read, o.valid, o.ended)

  settings_are : config_values d.guidance.config ≡ settings (recording s)
  unfolding fresh
  settings_are = rw (o.starts, reads)

  calls_are : calls_of_sound s d ≡ remaining (recording s)
  unfolding calls_from
  calls_are = rw (o.starts, reads)

parted_is : (s t : List ℕ) {d e : Sound} → Opening s d → Opening t e → step.parted s d t e ≡ parted (recording s) (recording t)
unfolding step.parted parted
parted_is s t o p = rw (settings_are o, settings_are p, calls_are o, calls_are p)

-- ---- `part`

module _ (s : List ℕ) (d : Sound) (t : List ℕ) (e : Sound) where
  pub parted_differs : (r : Bool) → r ≡ same_list (config_values d.guidance.config) (config_values e.guidance.config) → not r ≡ true → answer.PartAtConfig ≡ step.parted s d t e
  unfolding step.parted
  parted_differs true h q = let z : ◌≡◌ {A = ℕ} 0 1 = cc in absurd (omega arith)
  parted_differs false h q = rw (← h)

  pub parted_same : (r : Bool) → r ≡ same_list (config_values d.guidance.config) (config_values e.guidance.config) → not r ≡ false
      → (x : Agreement) → x ≡ part_calls (calls_of_sound s d) (calls_of_sound t e) → x ≡ step.parted s d t e
  unfolding step.parted
  parted_same true h q x p = rw (← h) p
  parted_same false h q x p = let z : ◌≡◌ {A = ℕ} 0 1 = cc in absurd (omega arith)

-- ---- what `decide_for` answered

opened_as : (whose : Side) (s : List ℕ) (d : Sound) → Ok d ≡ decided_for whose (decided s) → Opening s d
opened_as whose s d = go (decided s) (means s)
  where
    go : (r : Result Sound BadRecording) → Means s r → Ok d ≡ decided_for whose r → Opening s d
    go (Ok x) m h = let q : d ≡ x = cc in rw q m
    go (Err b) m h = let z : ◌≡◌ {A = ℕ} 0 1 = cc in absurd (omega arith)

refused_as : (whose : Side) (s : List ℕ) (e : Refused) (x : Result Agreement Refused) → Err e ≡ decided_for whose (decided s)
    → Err e ≡ or_refused whose (compacted s (recording s)) x
refused_as whose s e x = go (decided s) (means s)
  where
    go : (r : Result Sound BadRecording) → Means s r → Err e ≡ decided_for whose r → Err e ≡ or_refused whose (compacted s (recording s)) x
    go (Ok d) m h = let z : ◌≡◌ {A = ℕ} 0 1 = cc in absurd (omega arith)
    go (Err b) m h = let q : e ≡ record { side = whose; why = b } = cc in rw (← m.0, q)

module _ (s t : List ℕ) where
  pub box_refused : (e : Refused) → Err e ≡ decided_for side.Box (decided s) → Err e ≡ agreement s t
  unfolding agreement
  box_refused e h = refused_as side.Box s e _ h

  module _ (d : Sound) (h : Ok d ≡ decided_for side.Box (decided s)) where
    pub display_refused : (e : Refused) → Err e ≡ decided_for side.Display (decided t) → Err e ≡ agreement s t
    unfolding agreement
    display_refused e k = rw (not_refused (opened_as side.Box s d h)) (refused_as side.Display t e _ k)

    pub both_read : (e : Sound) → Ok e ≡ decided_for side.Display (decided t) → (x : Agreement) → x ≡ step.parted s d t e → Ok x ≡ agreement s t
    unfolding agreement
    both_read e k x p =
        rw (p, not_refused (opened_as side.Box s d h), not_refused (opened_as side.Display t e k), parted_is s t (opened_as side.Box s d h) (opened_as side.Display t e k))
