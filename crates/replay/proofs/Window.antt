-- A record is read from its own bytes, wherever it stands and whatever follows it. Assumes nothing.
use mathlib.Core.Path.{◌≡◌, refl, sym, ap}
use mathlib.Core.Bool.{Bool, true, false, cond, not}
use mathlib.Core.List.{List}
use Prim.Native.Nat.{ℕ, ◌+◌, ◌/◌, ◌≤◌}
use native.Mathlib.Omega.{arith}
use native.Mathlib.Nat.{zero-add}
use borrow.Author.Tests.{leb-true}
use lib.Dec.{leb}
use lib.ListN.{length, drop, take, get_or}
use lib.Seq.{drop-drop}
use Rattle.std.specs.Prelude.{Result, Ok, Err}
use Rattle.refusals.specs.declared.Refusal.{Refusal}
use Rattle.refusals.specs.declared.Refusal.TheVariants as refusal
use Rattle.fields.specs.Bytes.{number_at, has_bytes}
use Rattle.fields.specs.Fields.{named, size_of, values_at}
use Rattle.fields.proofs.Window.{same_map, same_room, same_values, room_at}
use Rattle.fields.specs.Numbers.{floats_of}
use Rattle.fields.proofs.FieldLaw.{ones_le}
use Rattle.records.specs.Config.{config_fields, read_config}
use Rattle.records.specs.Call.{call_fields, complete, unknown, regime_of, call_at, read_call}
use Rattle.records.proofs.CallLaw as call-law
use Rattle.records.proofs.ConfigLaw as config-law
use Rattle.records.specs.declared.call.Call.{Call}
use Rattle.records.specs.declared.call.ReadCall.{ReadCall}
use Rattle.records.specs.declared.config.ReadConfig.{ReadConfig}

-- ---- calls

-- the answer of a reader that began at 0, for one that began at a place
abbrev pub moved : ℕ → Result ReadCall Refusal → Result ReadCall Refusal
moved at (Err why) = Err why
moved at (Ok r) = Ok (record { call = r.call; next = at + r.next })

-- the tests of a reader in their order, and what it read
abbrev tests : {A : Type 0} → Bool → Bool → Bool → Bool → A → Result A Refusal
tests a b c d x =
    cond (not a) (Err refusal.TooFewBytes) (cond (not b) (Err refusal.UnknownMap)
    (cond (not c) (Err refusal.TooFewBytes) (cond d (Err refusal.UnknownKind) (Ok x))))

pub call_at_lem : (s : List ℕ) (at : ℕ) → at ≤ length s → read_call s at ≡ moved at (read_call (drop at s) 0)
unfolding read_call
call_at_lem s at h =
    let map = number_at 4 (drop at s) in
    let size = 4 + size_of call_fields map in
    let values = values_at call_fields map (drop 4 (drop at s)) in
    rw (room_at s at 4 h, room_at s at size h, ← drop-drop 4 at s)
    (go (has_bytes (drop at s) 0 4) (complete map) (has_bytes (drop at s) 0 size) (unknown (get_or values 0 0) (get_or values 1 0))
    (call_at (get_or values 0 0) (regime_of (get_or values 1 0)) map (floats_of (drop 2 values))) size)
  where
    go : (a b c d : Bool) (k : Call) (n : ℕ)
        → tests {A = ReadCall} a b c d (record { call = k; next = at + n }) ≡ moved at (tests {A = ReadCall} a b c d (record { call = k; next = 0 + n }))
    go false b c d k n = refl
    go true false c d k n = refl
    go true true false d k n = refl
    go true true true true k n = refl
    go true true true false k n = rw (zero-add n)

-- strings that begin alike, as far as the map demands, are read alike
pub call_same : (n : ℕ) (s t : List ℕ) → take n s ≡ take n t → 4 + size_of call_fields (number_at 4 s) ≤ n → read_call s 0 ≡ read_call t 0
unfolding read_call
call_same n s t e h =
    let w : 4 ≤ n = omega arith in
    rw (same_room 4 n s t e w 4 w, same_room 4 n s t e w _ h, same_values 4 n s t e w call_fields _ h, same_map 4 n s t e w)

pub call_most : (m : ℕ) → size_of call_fields m ≤ 82
call_most m = rw (call-law.size_is m) (omega (arith, ones_le 20 (m / 4)))

-- what passes the tests passes each of them
tests_passed : {A : Type 0} (a b c d : Bool) (x y : A) → tests a b c d x ≡ Ok y → (c ≡ true) × (x ≡ y)
tests_passed false b c d x y q = let z : ◌≡◌ {A = ℕ} 0 1 = cc in absurd (omega arith)
tests_passed true false c d x y q = let z : ◌≡◌ {A = ℕ} 0 1 = cc in absurd (omega arith)
tests_passed true true false d x y q = let z : ◌≡◌ {A = ℕ} 0 1 = cc in absurd (omega arith)
tests_passed true true true true x y q = let z : ◌≡◌ {A = ℕ} 0 1 = cc in absurd (omega arith)
tests_passed true true true false x y q = (refl, cc)

-- what was read lies in the string, and is at most 86 bytes
pub call_within : (s : List ℕ) (at : ℕ) (r : ReadCall) → read_call s at ≡ Ok r
    → (r.next ≡ at + (4 + size_of call_fields (number_at 4 (drop at s)))) × (r.next ≤ length s)
unfolding read_call
call_within s at r q =
    let map = number_at 4 (drop at s) in
    let end = at + (4 + size_of call_fields map) in
    let values = values_at call_fields map (drop (at + 4) s) in
    let p = tests_passed {A = ReadCall} (has_bytes s at 4) (complete map) (leb end (length s)) (unknown (get_or values 0 0) (get_or values 1 0))
    (record { call = call_at (get_or values 0 0) (regime_of (get_or values 1 0)) map (floats_of (drop 2 values)); next = end }) r q in
    let e : r.next ≡ end = sym (ap (λ (k : ReadCall). k.next) p.1) in
    (e, omega (arith, e, leb-true end (length s) p.0))

-- ---- the configuration

pub config_same : (n : ℕ) (s t : List ℕ) → take n s ≡ take n t → 5 + size_of config_fields (number_at 5 s) ≤ n → read_config s 0 ≡ read_config t 0
unfolding read_config
config_same n s t e h =
    let w : 5 ≤ n = omega arith in
    rw (same_room 5 n s t e w 5 w, same_room 5 n s t e w _ h, same_values 5 n s t e w config_fields _ h, same_map 5 n s t e w)

pub config_most : (m : ℕ) → size_of config_fields m ≤ 132
config_most m = rw (config-law.size_is m) (omega (arith, ones_le 33 m))

pub config_within : (s : List ℕ) (r : ReadConfig) → read_config s 0 ≡ Ok r
    → (r.next ≡ 5 + size_of config_fields (number_at 5 s)) × (r.next ≤ length s)
unfolding read_config
config_within s r q =
    let map = number_at 5 s in
    let end = 0 + (5 + size_of config_fields map) in
    let p = tests_passed {A = ReadConfig} (has_bytes s 0 5) (named config_fields map) (leb end (length s)) false
    _ r q in
    let e : r.next ≡ end = sym (ap (λ (k : ReadConfig). k.next) p.1) in
    (omega (arith, e), omega (arith, e, leb-true end (length s) p.0))
