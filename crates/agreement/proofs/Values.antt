-- Equal values are equal calls and configurations, of records that were read. Assumes nothing.
use mathlib.Core.Path.{◌≡◌, refl, sym, ap, ◌∙◌}
use mathlib.Core.Bool.{Bool, true, false}
use mathlib.Core.List.{List, [], ◌∷◌, ◌++◌}
use Prim.Native.Nat.{ℕ, ◌+◌}
use native.Mathlib.Omega.{arith}
use lib.ListN.{length, take, drop, replicate}
use lib.Dec.{eqb}
use Rattle.std.specs.Prelude.{map, Result, Ok}
use Rattle.refusals.specs.declared.Refusal.{Refusal}
use Rattle.records.specs.declared.config.ReadConfig.{ReadConfig}
use Rattle.records.specs.declared.call.ReadCall.{ReadCall}
use Rattle.laws.specs.declared.config.PlaneGuidanceConfig.{PlaneGuidanceConfig}
use Rattle.laws.specs.declared.types.ControlInput.TheVariants as Input
use Rattle.fields.specs.Bytes.{bytes_of}
use Rattle.fields.specs.Fields.{bit_of, map_of, body_of}
use Rattle.fields.specs.Numbers.{bits_of}
use Rattle.records.specs.Config.{config_fields, config_map, config_record, read_config}
use Rattle.records.specs.Call.{call_fields, command_parts, waypoint_parts, parts_of, values_of, map_of_parts, call_record, read_call}
use Rattle.records.specs.declared.call.Call.{Call}
use Rattle.records.specs.declared.call.Call.TheVariants.{Prime, Attitude, Rate, Waypoint, AbsoluteAttitude, Land, AbsoluteRate}
use Rattle.record_laws.proofs.ConfigBack.{config_laws}
use Rattle.record_laws.proofs.CallBack.{call_laws}
use Rattle.claims.specs.Calls as claims
use Rattle.claims.specs.Calls.{unmarked}
use Rattle.calls.specs.Calls.{call_of}
use Rattle.replay.specs.Recording.{Recorded}
use Rattle.compaction.specs.Compaction.{calls_of}
use Rattle.compaction.proofs.Short.{AllRead, none, one}
use Rattle.agreement.specs.Agreement.{config_values, call_values, Numbered, numbered}

-- ---- one configuration, one call

-- a record is made of the values
abbrev config_bytes : List ℕ → List ℕ
config_bytes v =
    let m = map_of config_fields (replicate 33 false) v in
    bytes_of 5 m ++ body_of config_fields m v

config_record_lem : (c : PlaneGuidanceConfig) → config_record c ≡ config_bytes (config_values c)
unfolding config_record config_map config_values
config_record_lem c = refl

pub config_eq : (s t : List ℕ) (c d : PlaneGuidanceConfig) (m n : ℕ) → read_config s 0 ≡ Ok (record { config = c; next = m })
    → read_config t 0 ≡ Ok (record { config = d; next = n }) → config_values c ≡ config_values d → c ≡ d
config_eq s t c d m n p q e =
    let records : config_record c ≡ config_record d = config_record_lem c ∙ ap config_bytes e ∙ sym (config_record_lem d) in
    let a : read_config (config_record c) 0 ≡ Ok (record { config = c; next = length (config_record c) }) = (config_laws.again s 0 c m p).1 in
    let b : read_config (config_record d) 0 ≡ Ok (record { config = d; next = length (config_record d) }) = (config_laws.again t 0 d n q).1 in
    let z : ◌≡◌ {A = Result ReadConfig Refusal} (Ok (record { config = c; next = length (config_record c) })) (Ok (record { config = d; next = length (config_record d) })) = sym a ∙ ap (λ (l : List ℕ). read_config l 0) records ∙ b in
    let same : ◌≡◌ {A = ReadConfig} (record { config = c; next = length (config_record c) }) (record { config = d; next = length (config_record d) }) = cc in
    ap (λ (r : ReadConfig). r.config) same

values_front : (k : Call) → take 22 (call_values k) ≡ values_of (parts_of k)
unfolding call_values values_of parts_of command_parts waypoint_parts bits_of
values_front Prime = refl
values_front (Attitude r dt c) = refl
values_front (Rate r dt c) = refl
values_front (Waypoint r dt c s cap) = refl
values_front (AbsoluteAttitude r dt c) = refl
values_front (Land r dt) = refl
values_front (AbsoluteRate r dt c) = refl

-- a bit as a Bool
abbrev truth : ℕ → Bool
truth b = eqb b 1

truth_of_bits : (ks : List Bool) → map truth (map bit_of ks) ≡ ks
truth_of_bits [] = refl
truth_of_bits (true ∷ ks) = ap (λ (l : List Bool). true ∷ l) (truth_of_bits ks)
truth_of_bits (false ∷ ks) = ap (λ (l : List Bool). false ∷ l) (truth_of_bits ks)

values_bits : (k : Call) → drop 22 (call_values k) ≡ map bit_of (parts_of k).keeps
unfolding call_values values_of parts_of command_parts waypoint_parts bits_of
values_bits Prime = refl
values_bits (Attitude r dt c) = refl
values_bits (Rate r dt c) = refl
values_bits (Waypoint r dt c s p) = refl
values_bits (AbsoluteAttitude r dt c) = refl
values_bits (Land r dt) = refl
values_bits (AbsoluteRate r dt c) = refl

values_rest : (k : Call) → map truth (drop 22 (call_values k)) ≡ (parts_of k).keeps
values_rest k = rw (values_bits k) (truth_of_bits (parts_of k).keeps)

abbrev call_bytes : List ℕ → List ℕ
call_bytes v =
    let m = map_of call_fields (true ∷ false ∷ map truth (drop 22 v)) (take 22 v) in
    bytes_of 4 m ++ body_of call_fields m (take 22 v)

call_record_lem : (k : Call) → call_record k ≡ call_bytes (call_values k)
unfolding call_record map_of_parts
call_record_lem k = rw (values_front k, values_rest k)

pub call_eq : (s t : List ℕ) (a b : ℕ) (c d : Call) (m n : ℕ) → read_call s a ≡ Ok (record { call = c; next = m }) → read_call t b ≡ Ok (record { call = d; next = n })
    → call_values c ≡ call_values d → c ≡ d
call_eq s t a b c d m n p q e =
    let records : call_record c ≡ call_record d = call_record_lem c ∙ ap call_bytes e ∙ sym (call_record_lem d) in
    let x : read_call (call_record c) 0 ≡ Ok (record { call = c; next = length (call_record c) }) = (call_laws.again s a c m p).1 in
    let y : read_call (call_record d) 0 ≡ Ok (record { call = d; next = length (call_record d) }) = (call_laws.again t b d n q).1 in
    let z : ◌≡◌ {A = Result ReadCall Refusal} (Ok (record { call = c; next = length (call_record c) })) (Ok (record { call = d; next = length (call_record d) })) = sym x ∙ ap (λ (l : List ℕ). read_call l 0) records ∙ y in
    let same : ◌≡◌ {A = ReadCall} (record { call = c; next = length (call_record c) }) (record { call = d; next = length (call_record d) }) = cc in
    ap (λ (r : ReadCall). r.call) same

-- ---- lists of calls

-- a record's call, from the call on a guidance that it carries
abbrev record_call : claims.Call → Call
record_call (claims.guide dt r (Input.Attitude c) s cap) = Attitude r dt c
record_call (claims.guide dt r (Input.Rate c) s cap) = Rate r dt c
record_call (claims.guide dt r (Input.Waypoint c) s cap) = Waypoint r dt c s cap
record_call (claims.guide dt r (Input.AbsoluteAttitude c) s cap) = AbsoluteAttitude r dt c
record_call (claims.guide dt r Input.Land s cap) = Land r dt
record_call (claims.guide dt r (Input.AbsoluteRate c) s cap) = AbsoluteRate r dt c
record_call claims.prime = Prime
record_call (claims.set_config c) = Prime
record_call claims.take_back = Prime

call_back : (k : Call) → record_call (call_of k) ≡ k
call_back Prime = refl
call_back (Attitude r dt c) = refl
call_back (Rate r dt c) = refl
call_back (Waypoint r dt c s cap) = refl
call_back (AbsoluteAttitude r dt c) = refl
call_back (Land r dt) = refl
call_back (AbsoluteRate r dt c) = refl

-- the values of calls
unfoldable pub values_of_calls : List claims.Call → List (List ℕ)
values_of_calls [] = []
values_of_calls (k ∷ ks) = call_values (record_call k) ∷ values_of_calls ks

unfoldable pub values_of_numbered : List Numbered → List (List ℕ)
values_of_numbered [] = []
values_of_numbered (x ∷ xs) = call_values x.call ∷ values_of_numbered xs

-- numbers are no values
pub numbered_values : (ms : List Bool) (n : ℕ) (ks : List Recorded) → values_of_numbered (unmarked ms (numbered n ks)) ≡ values_of_calls (unmarked ms (calls_of ks))
unfolding unmarked numbered calls_of values_of_numbered values_of_calls
numbered_values [] n [] = refl
numbered_values [] n (k ∷ ks) = rw (call_back k.call) (ap (λ (l : List (List ℕ)). call_values k.call ∷ l) (numbered_values [] (n + 1) ks))
numbered_values (m ∷ ms) n [] = refl
numbered_values (true ∷ ms) n (k ∷ ks) = numbered_values ms (n + 1) ks
numbered_values (false ∷ ms) n (k ∷ ks) = rw (call_back k.call) (ap (λ (l : List (List ℕ)). call_values k.call ∷ l) (numbered_values ms (n + 1) ks))

-- calls that were read, with equal values, are equal
pub calls_eq : (s t : List ℕ) {ks ls : List Recorded} → AllRead s ks → AllRead t ls
    → values_of_calls (calls_of ks) ≡ values_of_calls (calls_of ls) → calls_of ks ≡ calls_of ls
unfolding calls_of values_of_calls
calls_eq s t none none e = refl
calls_eq s t none (one {k} {ks} r b) e = let z : ◌≡◌ {A = ℕ} 0 1 = cc in absurd (omega arith)
calls_eq s t (one {k} {ks} r a) none e = let z : ◌≡◌ {A = ℕ} 0 1 = cc in absurd (omega arith)
calls_eq s t (one {k} {ks} r a) (one {k = l} {ks = ls} q b) e =
    let head : call_values (record_call (call_of k.call)) ≡ call_values (record_call (call_of l.call)) = cc in
    let tail : values_of_calls (calls_of ks) ≡ values_of_calls (calls_of ls) = cc in
    let same : k.call ≡ l.call =
    call_eq s t k.place l.place k.call l.call r.next q.next r.is q.is
    (rw (call_back k.call, call_back l.call) at head) in
    rw (same, calls_eq s t a b tail)
