-- The laws of compaction, for every buffer. Assumes nothing.
use mathlib.Core.Path.{◌≡◌, refl, sym, ap, ◌∙◌}
use mathlib.Core.Bool.{Bool, true, false, cond}
use mathlib.Core.List.{List, [], ◌∷◌, ◌++◌, append-nil}
use Prim.Native.Nat.{ℕ, ◌+◌, ◌-◌, ◌≤◌}
use native.Mathlib.Omega.{arith}
use lib.Dec.{eqb}
use lib.ListN.{length, take, drop, replicate, length-append, length-drop, take-append-drop}
use lib.Seq.{length-take-le, take_at, drop_at}
use Rattle.std.specs.Prelude.{Result, Ok, Err, None}
use Rattle.refusals.specs.declared.Refusal.{Refusal}
use Rattle.laws.specs.Config.{validate}
use Rattle.laws.specs.declared.config.PlaneGuidanceConfig.{PlaneGuidanceConfig}
use Rattle.guidance.specs.Plane.{fresh}
use Rattle.claims.specs.Calls.{replies, marks, unmarked}
use Rattle.claims.proofs.Demand3.{demand3}
use Rattle.records.specs.Config.{read_config}
use Rattle.records.specs.declared.config.ReadConfig.{ReadConfig}
use Rattle.replay.specs.Recording.{Recorded, Calls, Ending, ends, stops, Recording, bad_config, recorded, on_config, read_calls, most_calls, recording}
use Rattle.replay.specs.Text.{call_lines, run_lines, recording_lines, refused_line}
use Rattle.replay.proofs.Window.{config_same, config_within}
use Rattle.compaction.specs.Compaction.{config_at, record_at, records_at, calls_of, remaining, short, padded, compacted, bytes_after, compacted_calls, bytes_of_calls, refusal_lines}
use Rattle.compaction.specs.Laws.{Shortened, answer_lines, Laws}
use Rattle.compaction.specs.declared.BadRecording.{BadRecording}
use Rattle.compaction.specs.declared.BadRecording.TheVariants as bad
use Rattle.compaction.proofs.Again.{unmarked_none, marks_again}
use Rattle.compaction.proofs.Short.{AllRead, all_unmarked, fewer, calls_unmarked, calls_long, Whole, whole, placed, calls_placed, read_placed}

-- ---- a recording that is read, opened

pub record Opened (s : List ℕ) (c : PlaneGuidanceConfig) (calls : Calls) : Type 0 where
  pub next : ℕ
  pub config : read_config s 0 ≡ Ok (record { config = c; next = next })
  pub are : read_calls most_calls s next ≡ calls

pub opened : (s : List ℕ) (c : PlaneGuidanceConfig) (calls : Calls) → recording s ≡ recorded c calls → Opened s c calls
unfolding recording
opened s c calls = go (read_config s 0) refl
  where
    go : (x : Result ReadConfig Refusal) → read_config s 0 ≡ x → on_config s x ≡ recorded c calls → Opened s c calls
    go (Err why) e q = let z : ◌≡◌ {A = ℕ} 0 1 = cc in absurd (omega arith)
    go (Ok r) e q =
        let a : r.config ≡ c = cc in
        let b : read_calls most_calls s r.next ≡ calls = cc in
        record { next = r.next; config = rw a at e; are = b }

module _ (s : List ℕ) (c : PlaneGuidanceConfig) (next : ℕ) (e : read_config s 0 ≡ Ok (record { config = c; next = next })) where
  pub config_front : take next s ≡ config_at s
  unfolding config_at
  config_front = ap (λ (k : ℕ). take k s) (config_within s (record { config = c; next = next }) e).0

  pub config_long : length (config_at s) ≡ next
  config_long = ap length (sym config_front) ∙ length-take-le next s (config_within s (record { config = c; next = next }) e).1

records_fewer : (s : List ℕ) (ms : List Bool) (ks : List Recorded) → length (records_at s (unmarked ms ks)) ≤ length (records_at s ks)
unfolding records_at unmarked
records_fewer s [] ks = omega arith
records_fewer s (m ∷ ms) [] = omega arith
records_fewer s (true ∷ ms) (k ∷ ks) = omega (arith, records_fewer s ms ks, length-append (record_at s k.place) (records_at s ks))
records_fewer s (false ∷ ms) (k ∷ ks) =
    omega (arith, records_fewer s ms ks, length-append (record_at s k.place) (records_at s ks), length-append (record_at s k.place) (records_at s (unmarked ms ks)))

padded_whole : (bs : List ℕ) → padded (length bs) bs ≡ bs
unfolding padded
padded_whole bs = let z : length bs - length bs ≡ 0 = omega arith in rw z (append-nil bs)

module _ (s : List ℕ) (c : PlaneGuidanceConfig) (ks : List Recorded) (v : validate c ≡ 0) (o : Opened s c (record { calls = ks; ending = ends })) where
  abbrev Next : ℕ
  Next = o.next

  abbrev Kept : List Recorded
  Kept = remaining c ks

  abbrev T : List ℕ
  T = short s c ks

  config_fits : Next ≤ length s
  config_fits = (config_within s (record { config = c; next = Next }) o.config).1

  all : Whole s most_calls Next (record { calls = ks; ending = ends })
  all = rw o.are at (whole s most_calls Next config_fits)

  short_is : T ≡ config_at s ++ records_at s Kept
  unfolding short
  short_is = refl

  short_front : take Next T ≡ config_at s
  short_front = rw short_is (take_at (config_at s) (records_at s Kept) Next (config_long s c Next o.config))

  short_rest : drop Next T ≡ records_at s Kept
  short_rest = rw short_is (drop_at (config_at s) (records_at s Kept) Next (config_long s c Next o.config))

  short_long : length T ≡ Next + length (records_at s Kept)
  short_long = rw short_is (length-append (config_at s) (records_at s Kept) ∙ omega (arith, config_long s c Next o.config))

  no_longer : length T ≤ length s
  unfolding remaining
  no_longer =
      omega (arith, short_long, records_fewer s (marks (fresh c) (calls_of ks)) ks, ap length (all.fills refl), length-drop Next s, config_fits)

  -- the configuration again
  config_again : read_config T 0 ≡ Ok (record { config = c; next = Next })
  config_again =
      let alike : take Next s ≡ take Next T = config_front s c Next o.config ∙ sym short_front in
      sym (config_same Next s T alike (omega (arith, (config_within s (record { config = c; next = Next }) o.config).0))) ∙ o.config

  kept_read : AllRead s Kept
  unfolding remaining
  kept_read = all_unmarked (marks (fresh c) (calls_of ks)) all.read

  kept_few : length Kept ≤ most_calls
  unfolding remaining
  kept_few = omega (arith, fewer (marks (fresh c) (calls_of ks)) ks, all.few)

  abbrev Placed : List Recorded
  Placed = placed s Next Kept

  calls_again : read_calls most_calls T Next ≡ record { calls = Placed; ending = ends }
  calls_again = read_placed s T most_calls Next kept_read kept_few (omega (arith, short_long)) short_rest

  reads : recording T ≡ recorded c (record { calls = Placed; ending = ends })
  unfolding recording
  reads = rw (config_again, calls_again)

  remain : calls_of Placed ≡ unmarked (marks (fresh c) (calls_of ks)) (calls_of ks)
  unfolding remaining
  remain = calls_placed s Next (remaining c ks) ∙ calls_unmarked (marks (fresh c) (calls_of ks)) ks

  answers : replies (fresh c) (calls_of Placed) ≡ unmarked (marks (fresh c) (calls_of ks)) (replies (fresh c) (calls_of ks))
  answers = rw remain (demand3 c v (calls_of ks)).struck

  -- nothing more is dropped
  same_calls : remaining c Placed ≡ Placed
  unfolding remaining
  same_calls =
      rw (remain, marks_again c v (calls_of ks))
      (unmarked_none (unmarked (marks (fresh c) (calls_of ks)) (calls_of ks)) Placed (ap length (sym remain) ∙ calls_long Placed))

  same_bytes : short T c Placed ≡ T
  unfolding short
  same_bytes =
      let w : Whole T most_calls Next (record { calls = Placed; ending = ends }) = rw calls_again at (whole T most_calls Next (omega (arith, short_long))) in
      rw (same_calls, ← config_front T c Next config_again, w.fills refl) (take-append-drop Next T)

  again : compacted T (recording T) ≡ Ok (length T)
  unfolding compacted
  again = rw (reads, v, same_bytes)

  unchanged : bytes_after T (recording T) ≡ T
  unfolding bytes_after
  unchanged = rw (reads, v, same_bytes) (padded_whole T)

  shortened : Shortened s c ks
  shortened = record {
    no_longer = no_longer;
    calls = Placed;
    reads = reads;
    remain = remain;
    answers = answers;
    again = again;
    unchanged = unchanged;
  }

-- ---- refusals

refusal : (s : List ℕ) (r : Recording) → recording_lines r ≡ answer_lines r ++ refusal_lines (compacted s r)
unfolding recording_lines compacted run_lines
refusal s (bad_config why) = refl
refusal s (recorded c calls) = go (eqb (validate c) 0) calls.ending refl
  where
    go : (b : Bool) (e : Ending) → calls.ending ≡ e
        → cond b (run_lines 1 (fresh c) calls) (refused_line None (validate c) ∷ [])
        ≡ cond b (call_lines 1 (fresh c) calls.calls) []
        ++ refusal_lines (cond {A = Result ℕ BadRecording} b (compacted_calls s c calls.calls calls.ending) (Err (bad.InvalidConfig (record { field = validate c }))))
    go true ends q = rw q
    go true (stops why) q = rw q
    go false e q = refl

kept : (s : List ℕ) (r : Recording) → ((n : ℕ) → compacted s r ≡ Ok n → ⊥) → bytes_after s r ≡ s
unfolding compacted bytes_after
kept s (bad_config why) h = refl
kept s (recorded c calls) h = go (eqb (validate c) 0) calls.ending refl h
  where
    go : (b : Bool) (e : Ending) → calls.ending ≡ e
        → ((n : ℕ) → cond {A = Result ℕ BadRecording} b (compacted_calls s c calls.calls calls.ending) (Err (bad.InvalidConfig (record { field = validate c }))) ≡ Ok n
        → ⊥)
        → cond b (bytes_of_calls s c calls.calls calls.ending) s ≡ s
    go true ends q h = absurd (h (length (short s c calls.calls)) (rw q))
    go true (stops why) q h = rw q
    go false e q h = refl

-- the new length is within the buffer
pub within : (s : List ℕ) (n : ℕ) → compacted s (recording s) ≡ Ok n → n ≤ length (bytes_after s (recording s))
unfolding compacted bytes_after padded
within s n = go (recording s)
  where
    by_ending : (c : PlaneGuidanceConfig) (ks : List Recorded) (x : Ending) → compacted_calls s c ks x ≡ Ok n → n ≤ length (bytes_of_calls s c ks x)
    by_ending c ks ends p =
        let z : length (short s c ks) ≡ n = cc in
        omega (arith, length-append (short s c ks) (replicate (length s - length (short s c ks)) 0))
    by_ending c ks (stops why) p = let z : ◌≡◌ {A = ℕ} 0 1 = cc in absurd (omega arith)

    by_valid : (c : PlaneGuidanceConfig) (calls : Calls) (b : Bool) → cond {A = Result ℕ BadRecording} b (compacted_calls s c calls.calls calls.ending) (Err (bad.InvalidConfig (record { field = validate c }))) ≡ Ok n
        → n ≤ length (cond b (bytes_of_calls s c calls.calls calls.ending) s)
    by_valid c calls true p = by_ending c calls.calls calls.ending p
    by_valid c calls false p = let z : ◌≡◌ {A = ℕ} 0 1 = cc in absurd (omega arith)

    go : (r : Recording) → compacted s r ≡ Ok n → n ≤ length (bytes_after s r)
    go (bad_config why) p = let z : ◌≡◌ {A = ℕ} 0 1 = cc in absurd (omega arith)
    go (recorded c calls) p = by_valid c calls (eqb (validate c) 0) p

pub laws : (s : List ℕ) → Laws s
laws s = record {
  shortened = λ c ks v e. shortened s c ks v (opened s c (record { calls = ks; ending = ends }) e);
  refusal = refusal s (recording s);
  kept = kept s (recording s);
}
