-- The laws of the call record. Assumes nothing.
use Rattle.std.specs.Prelude.{Option, Some, None, Float}
use mathlib.Core.Path.{◌≡◌, refl, sym, ap, subst, ◌∙◌}
use mathlib.Core.Bool.{Bool, true, false, cond, not}
use mathlib.Core.List.{List, [], ◌∷◌, ◌++◌, append_assoc}
use Prim.Native.Nat.{ℕ, zero, suc, ◌+◌, ◌-◌, ◌*◌, ◌/◌, ◌%◌, ◌<◌, ◌≤◌, ◌^◌}
use native.Mathlib.Omega.{arith}
use native.Mathlib.Nat.{pow-suc, mul_comm, div-div-eq-div-mul}
use borrow.Author.Tests.{le-leb, le-ltb, lt-ltb, eq-eqb}
use lib.Dec.{T, eqb, lit<}
use lib.Pow.{pow-add}
use lib.ListN.{length, drop, get_or, replicate, get_or-replicate, length-append, length-drop}
use lib.Seq.{drop-drop}
use lib.Ieee.{Float, nan, binary32, fits, of_bits, to_bits}
use lib.Ieee.Bits.{of_bits-fits}
use Rattle.laws.specs.declared.types.WaypointCommand.{WaypointCommand}
use Rattle.laws.specs.declared.types.VehicleState.{VehicleState}
use Rattle.laws.specs.declared.types.FlightRegime.{FlightRegime}
use Rattle.laws.specs.declared.types.FlightRegime.TheVariants.{Copter, Plane}
use Rattle.fields.specs.Bytes.{number_at, bytes_of, has_bytes}
use Rattle.fields.specs.Fields.{stands, size_of, values_at, is_written, bit_of, body_of, number_fields, Held}
use Rattle.fields.specs.Numbers.{floats_of, bits_of, AreF32}
use Rattle.fields.proofs.NumberLaw.{number_back, drop_bytes}
use Rattle.fields.proofs.MapLaw.{floats_length}
use Rattle.fields.proofs.FieldLaw.{ones_le, values_long}
use Rattle.fields.proofs.RecordLaw.{map_bit, field_at, fields_back, Within, size_within, halved, value_missing, floats_back, floats_are, bits_held, get_d_mapped}
use Rattle.fields.proofs.LawsProof.{laws}
use Rattle.records.specs.declared.call.Kind.{Kind}
use Rattle.records.specs.declared.call.Kind.TheVariants as kind
use Rattle.records.specs.declared.call.Call.{Call}
use Rattle.records.specs.declared.call.Call.TheVariants.{Prime, Attitude, Rate, Waypoint, AbsoluteAttitude, Land, AbsoluteRate}
use Rattle.records.specs.declared.call_writer.Parts.{Parts}
use Rattle.std.specs.Prelude.{Err}
use Rattle.arithmetic.specs.declared.vector.Vec2.{Vec2}
use Rattle.records.specs.declared.call.ReadCall.{ReadCall}
use Rattle.std.specs.Bool.{then_some}
use Rattle.refusals.specs.declared.Refusal.TheVariants as refusal
use Rattle.records.specs.Call.{
  call_fields,
  number_of,
  complete,
  unknown,
  regime_of,
  option_of,
  leg_of,
  attitude_at,
  rate_at,
  absolute_attitude_at,
  absolute_rate_at,
  waypoint_at,
  state_at,
  call_at,
  read_call,
  regime_byte,
  number_or0,
  has_number,
  leg_north,
  leg_east,
  has_leg,
  command_parts,
  waypoint_parts,
  parts_of,
  values_of,
  map_of_parts,
  call_record,
}
use Rattle.records.specs.Call as spec
use Rattle.records.specs.Code.Steps.{regime_at}
use Rattle.record_laws.specs.Laws.{CallF32, call_read, CallLaws, CallLongest}
use Rattle.records.proofs.CallLaw.{fields_long, fields_are, size_is, Numbers, parts_long, values_are, complete_gives, Flags, Values, Map, flags_long, call_values_long, map_by_fields, map_below, call_is, call_long}

-- ---- the parts of a call

kind_small : (k : Kind) → number_of k ≤ 6
kind_small kind.Prime = omega arith
kind_small kind.Attitude = omega arith
kind_small kind.Rate = omega arith
kind_small kind.Waypoint = omega arith
kind_small kind.AbsoluteAttitude = omega arith
kind_small kind.Land = omega arith
kind_small kind.AbsoluteRate = omega arith

regime_small : (r : FlightRegime) → regime_byte r ≤ 1
regime_small Copter = omega arith
regime_small Plane = omega arith

pub values_held : (c : Call) → CallF32 c → Held call_fields (Values c)
unfolding Held values_of
values_held c f = rw fields_are (omega (arith, kind_small (parts_of c).kind), (omega (arith, regime_small (parts_of c).regime), bits_held (replicate 20 0) (parts_of c).numbers (parts_long c).0 f))

-- ---- the map of a call is complete

-- +0 is left out, unless it must be written
zero_out : is_written false (to_bits binary32 spec.zero) 0 ≡ false
unfolding to_bits of_bits
zero_out = refl

-- bit n of the map of a call
bit_is : (c : Call) (n : ℕ) → n < 22 → Map c / 2 ^ n % 2 ≡ bit_of (is_written (get_or (Flags c) n false) (get_or (Values c) n 0) (field_at call_fields n).missing)
bit_is c n h = rw (map_by_fields c) (map_bit n call_fields (Flags c) (Values c) (rw fields_long h) (flags_long c) (call_values_long c))

-- a leg's two parts are written or left out together
leg_alike : (l : Option Vec2) → is_written (has_leg l) (to_bits binary32 (leg_north l)) 0 ≡ is_written (has_leg l) (to_bits binary32 (leg_east l)) 0
leg_alike None = refl
leg_alike (Some l) = refl

alike : (c : Call) → is_written (get_or (Flags c) 9 false) (get_or (Values c) 9 0) 0 ≡ is_written (get_or (Flags c) 10 false) (get_or (Values c) 10 0) 0
unfolding values_of bits_of parts_of command_parts waypoint_parts
alike Prime = refl
alike (Attitude r dt c) = refl
alike (Rate r dt c) = refl
alike (Waypoint r dt c s cap) = leg_alike c.velocity_mps
alike (AbsoluteAttitude r dt c) = refl
alike (Land r dt) = refl
alike (AbsoluteRate r dt c) = refl

missing_9 : (field_at call_fields 9).missing ≡ 0
unfolding call_fields number_fields
missing_9 = refl

missing_10 : (field_at call_fields 10).missing ≡ 0
unfolding call_fields number_fields
missing_10 = refl

missing_20 : (field_at call_fields 20).missing ≡ 0
unfolding call_fields number_fields
missing_20 = refl

missing_21 : (field_at call_fields 21).missing ≡ 0
unfolding call_fields number_fields
missing_21 = refl

kind_stands : (c : Call) → stands (Map c) ≡ true
kind_stands c =
    let b : Map c / 2 ^ 0 % 2 ≡ 1 = bit_is c 0 (lit< tt) in
    eq-eqb (Map c % 2) 1 (omega arith)

pub complete_is : (c : Call) → complete (Map c) ≡ true
unfolding complete
complete_is c =
    let nine = rw missing_9 at (bit_is c 9 (lit< tt)) in
    let ten = rw missing_10 at (bit_is c 10 (lit< tt)) in
    rw (fields_long, lt-ltb (Map c) (2 ^ 22) (map_below c), kind_stands c, eq-eqb _ _ (nine ∙ ap bit_of (alike c) ∙ sym ten))

-- ---- a call comes back from its parts

regime_back : (r : FlightRegime) → regime_of (regime_byte r) ≡ r
unfolding regime_of
regime_back Copter = refl
regime_back Plane = refl

plane_is : regime_of 1 ≡ Plane
unfolding regime_of
plane_is = refl

leg_back : (l : Option Vec2) (m : ℕ) → m % 2 ≡ bit_of (is_written (has_leg l) (to_bits binary32 (leg_north l)) 0) → leg_of m (leg_north l) (leg_east l) ≡ l
unfolding leg_of
leg_back None m e = rw (e, zero_out)
leg_back (Some l) m e = rw e

option_back : (x : Option Float) (m : ℕ) → m % 2 ≡ bit_of (is_written (has_number x) (to_bits binary32 (number_or0 x)) 0) → option_of m (number_or0 x) ≡ x
unfolding option_of
option_back None m e = rw (e, zero_out)
option_back (Some x) m e = rw e

-- the bits of a waypoint's leg, airspeed and cap
module _ (r : FlightRegime) (dt : Float) (c : WaypointCommand) (s : VehicleState) (cap : Option Float) where
  abbrev W : Call
  W = Waypoint r dt c s cap

  leg_bit : Map W / 2 ^ 9 % 2 ≡ bit_of (is_written (has_leg c.velocity_mps) (to_bits binary32 (leg_north c.velocity_mps)) 0)
  unfolding values_of bits_of parts_of waypoint_parts
  leg_bit = rw missing_9 at (bit_is W 9 (lit< tt))

  airspeed_bit : Map W / 2 ^ 20 % 2 ≡ bit_of (is_written (has_number s.airspeed_mps) (to_bits binary32 (number_or0 s.airspeed_mps)) 0)
  unfolding values_of bits_of parts_of waypoint_parts
  airspeed_bit = rw missing_20 at (bit_is W 20 (lit< tt))

  cap_bit : Map W / 2 ^ 21 % 2 ≡ bit_of (is_written (has_number cap) (to_bits binary32 (number_or0 cap)) 0)
  unfolding values_of bits_of parts_of waypoint_parts
  cap_bit = rw missing_21 at (bit_is W 21 (lit< tt))

  waypoint_back : (m : ℕ) → m ≡ Map W → call_at 3 (regime_of (regime_byte r)) m (parts_of W).numbers ≡ W
  unfolding call_at waypoint_at state_at parts_of waypoint_parts
  waypoint_back m e =
      rw (
        regime_back r,
        leg_back c.velocity_mps (m / 2 ^ 9) (rw e leg_bit),
        option_back s.airspeed_mps (m / 2 ^ 20) (rw e airspeed_bit),
        option_back cap (m / 2 ^ 21) (rw e cap_bit),
      )

call_back : (c : Call) (m : ℕ) → m ≡ Map c → call_at (number_of (parts_of c).kind) (regime_of (regime_byte (parts_of c).regime)) m (parts_of c).numbers ≡ c
unfolding call_at attitude_at rate_at absolute_attitude_at absolute_rate_at parts_of command_parts waypoint_parts
call_back Prime m e = refl
call_back (Attitude r dt c) m e = rw (regime_back r)
call_back (Rate r dt c) m e = rw (regime_back r)
call_back (Waypoint r dt c s cap) m e = waypoint_back r dt c s cap m e
call_back (AbsoluteAttitude r dt c) m e = rw (regime_back r)
call_back (Land r dt) m e = rw (regime_back r)
call_back (AbsoluteRate r dt c) m e = rw (regime_back r)

-- ---- where a record stands

abbrev Body : Call → List ℕ
Body c = body_of call_fields (Map c) (Values c)

pub long : (c : Call) → length (call_record c) ≡ 4 + size_of call_fields (Map c)
long = call_long

values_back : (c : Call) (rest : List ℕ) → CallF32 c → values_at call_fields (Map c) (Body c ++ rest) ≡ Values c
values_back c rest f = rw (map_by_fields c) (fields_back call_fields (Flags c) (Values c) rest (flags_long c) (values_held c f))

values_split : (p : Parts) → values_of p ≡ number_of p.kind ∷ regime_byte p.regime ∷ bits_of p.numbers
unfolding values_of
values_split p = refl

known : (k : Kind) (r : FlightRegime) → unknown (number_of k) (regime_byte r) ≡ false
unfolding unknown
known k r = rw (le-ltb 6 (number_of k) (kind_small k), le-ltb 1 (regime_byte r) (regime_small r))

pub stands_at : (s : List ℕ) (at : ℕ) (c : Call) (rest : List ℕ) → at ≤ length s → drop at s ≡ call_record c ++ rest → CallF32 c
    → read_call s at ≡ call_read c (at + length (call_record c))
unfolding read_call
stands_at s at c rest h e f =
    let m = Map c in
    let below : m < 256 ^ 4 = omega (arith, map_below c) in
    let whole : drop at s ≡ bytes_of 4 m ++ (Body c ++ rest) = e ∙ rw (call_is c) (append_assoc (bytes_of 4 m) (Body c) rest) in
    let map_at : number_at 4 (drop at s) ≡ m = rw whole (number_back 4 m (Body c ++ rest) below) in
    let after : drop (at + 4) s ≡ Body c ++ rest = sym (drop-drop 4 at s) ∙ rw whole (drop_bytes 4 m (Body c ++ rest)) in
    let size : length s - at ≡ length (call_record c) + length rest = sym (length-drop at s) ∙ ap length e ∙ length-append (call_record c) rest in
    let room : at + length (call_record c) ≤ length s = omega arith in
    rw (
      le-leb (at + 4) (length s) (omega (arith, long c)),
      map_at,
      complete_is c,
      ← long c,
      le-leb (at + length (call_record c)) (length s) room,
      after,
      values_back c rest f,
      values_split (parts_of c),
      known (parts_of c).kind (parts_of c).regime,
      floats_back (parts_of c).numbers f,
      call_back c m refl,
    )

-- ---- what was read

-- an answer that gives a call has one call and one place
pub same_read : (v w : Call) (a b : ℕ) → call_read v a ≡ call_read w b → (v ≡ w) × (a ≡ b)
same_read v w a b e =
    let r : ◌≡◌ {A = ReadCall} (record { call = v; next = a }) (record { call = w; next = b }) = cc in
    (ap (λ (x : ReadCall). x.call) r, ap (λ (x : ReadCall). x.next) r)

-- a reader's answer that is no refusal
inverted : (a b d u : Bool) (v c : Call) (n next : ℕ)
    → cond (not a) (Err refusal.TooFewBytes) (cond (not b) (Err refusal.UnknownMap) (cond (not d) (Err refusal.TooFewBytes) (cond u (Err refusal.UnknownKind) (call_read v n)))) ≡ call_read c next
    → (b ≡ true) × (v ≡ c) × (n ≡ next)
inverted true true true false v c n next e = let r = same_read v c n next e in (refl, r.0, r.1)
inverted true true true true v c n next e = absurd cc
inverted true true false u v c n next e = absurd cc
inverted true false d u v c n next e = absurd cc
inverted false b d u v c n next e = absurd cc

-- what holds of the call of each kind
of_each : (P : Call → Type 0) (kind : ℕ) (r : FlightRegime) (m : ℕ) (v : List Float)
    → P Prime → P (Attitude r (spec.at v 2) (attitude_at v)) → P (Rate r (spec.at v 2) (rate_at v))
    → P (Waypoint r (spec.at v 2) (waypoint_at m v) (state_at m v) (option_of (m / 2 ^ 21) (spec.at v 21)))
    → P (AbsoluteAttitude r (spec.at v 2) (absolute_attitude_at v)) → P (Land r (spec.at v 2)) → P (AbsoluteRate r (spec.at v 2) (absolute_rate_at v))
    → P (call_at kind r m v)
unfolding call_at
of_each P kind r m v p₀ p₁ p₂ p₃ p₄ p₅ p₆ = go (eqb kind 0) (eqb kind 1) (eqb kind 2) (eqb kind 3) (eqb kind 4) (eqb kind 5)
  where
    go : (a b c d e f : Bool) → P (cond a Prime
        (cond b (Attitude r (spec.at v 2) (attitude_at v))
        (cond c (Rate r (spec.at v 2) (rate_at v))
        (cond d (Waypoint r (spec.at v 2) (waypoint_at m v) (state_at m v) (option_of (m / 2 ^ 21) (spec.at v 21)))
        (cond e (AbsoluteAttitude r (spec.at v 2) (absolute_attitude_at v))
        (cond f (Land r (spec.at v 2))
        (AbsoluteRate r (spec.at v 2) (absolute_rate_at v))))))))
    go true b c d e f = p₀
    go false true c d e f = p₁
    go false false true d e f = p₂
    go false false false true e f = p₃
    go false false false false true f = p₄
    go false false false false false true = p₅
    go false false false false false false = p₆

zero_fits : T (fits binary32 spec.zero)
zero_fits = of_bits-fits binary32 0

-- an element of a list of f32s
at_fits : (v : List Float) (k : ℕ) → AreF32 v → k < length v → T (fits binary32 (get_or v k nan))
unfolding AreF32
at_fits [] k h l = absurd (omega arith)
at_fits (x ∷ v) zero h l = h.0
at_fits (x ∷ v) (suc k) h l = at_fits v k h.1 (omega arith)

option_fits : (m : ℕ) (x : Float) → T (fits binary32 x) → T (fits binary32 (number_or0 (option_of m x)))
unfolding option_of
option_fits m x h = go (stands m)
  where
    go : (b : Bool) → T (fits binary32 (number_or0 (then_some b x)))
    go true = h
    go false = zero_fits

legs_fit : (m : ℕ) (x y : Float) → T (fits binary32 x) → T (fits binary32 y) → T (fits binary32 (leg_north (leg_of m x y))) × T (fits binary32 (leg_east (leg_of m x y)))
unfolding leg_of
legs_fit m x y h k = go (stands m)
  where
    go : (b : Bool)
        → T (fits binary32 (leg_north (then_some b (record { x = x; y = y }))))
        × T (fits binary32 (leg_east (then_some b (record { x = x; y = y }))))
    go true = (h, k)
    go false = (zero_fits, zero_fits)

command_fits : (k : Kind) (g : FlightRegime) (dt a b c d : Float) → T (fits binary32 dt) → T (fits binary32 a) → T (fits binary32 b) → T (fits binary32 c) → T (fits binary32 d)
    → AreF32 (command_parts k g dt (a ∷ b ∷ c ∷ d ∷ [])).numbers
unfolding AreF32 command_parts
command_fits k g dt a b c d f₀ f₁ f₂ f₃ f₄ = (
  f₀,
  (
    f₁,
    (
      f₂,
      (
        f₃,
        (
          f₄,
          (
            zero_fits,
            (
              zero_fits,
              (
                zero_fits,
                (
                  zero_fits,
                  (
                    zero_fits,
                    (
                      zero_fits,
                      (zero_fits, (zero_fits, (zero_fits, (zero_fits, (zero_fits, (zero_fits, (zero_fits, (zero_fits, (zero_fits, tt))))))))),
                    ),
                  ),
                ),
              ),
            ),
          ),
        ),
      ),
    ),
  ),
)

module _ (m : ℕ) (v : List Float) (h : AreF32 v) (l : length v ≡ 20) where
  fit_at : (k : ℕ) → k < 20 → T (fits binary32 (get_or v k nan))
  fit_at k i = at_fits v k h (omega arith)

  leg_fits : T (fits binary32 (leg_north (leg_of (m / 2 ^ 9) (spec.at v 9) (spec.at v 10)))) × T (fits binary32 (leg_east (leg_of (m / 2 ^ 9) (spec.at v 9) (spec.at v 10))))
  leg_fits = legs_fit (m / 2 ^ 9) (spec.at v 9) (spec.at v 10) (fit_at 7 (lit< tt)) (fit_at 8 (lit< tt))

  waypoint_fits : (g : FlightRegime) → AreF32 (waypoint_parts g (spec.at v 2) (waypoint_at m v) (state_at m v) (option_of (m / 2 ^ 21) (spec.at v 21))).numbers
  unfolding AreF32 waypoint_parts waypoint_at state_at
  waypoint_fits g = (
    fit_at 0 (lit< tt),
    (
      zero_fits,
      (
        zero_fits,
        (
          zero_fits,
          (
            zero_fits,
            (
              fit_at 5 (lit< tt),
              (
                fit_at 6 (lit< tt),
                (
                  leg_fits.0,
                  (
                    leg_fits.1,
                    (
                      fit_at 9 (lit< tt),
                      (
                        fit_at 10 (lit< tt),
                        (
                          fit_at 11 (lit< tt),
                          (
                            fit_at 12 (lit< tt),
                            (
                              fit_at 13 (lit< tt),
                              (
                                fit_at 14 (lit< tt),
                                (
                                  fit_at 15 (lit< tt),
                                  (
                                    fit_at 16 (lit< tt),
                                    (
                                      fit_at 17 (lit< tt),
                                      (
                                        option_fits (m / 2 ^ 20) (spec.at v 20) (fit_at 18 (lit< tt)),
                                        (option_fits (m / 2 ^ 21) (spec.at v 21) (fit_at 19 (lit< tt)), tt),
                                      ),
                                    ),
                                  ),
                                ),
                              ),
                            ),
                          ),
                        ),
                      ),
                    ),
                  ),
                ),
              ),
            ),
          ),
        ),
      ),
    ),
  )

  call_fits : (kind : ℕ) (r : FlightRegime) → CallF32 (call_at kind r m v)
  unfolding parts_of attitude_at rate_at absolute_attitude_at absolute_rate_at
  call_fits kind r =
      let t = fit_at 0 (lit< tt) in
      let a = fit_at 1 (lit< tt) in
      let b = fit_at 2 (lit< tt) in
      let c = fit_at 3 (lit< tt) in
      let d = fit_at 4 (lit< tt) in
      let z = zero_fits in
      of_each CallF32 kind r m v
      (command_fits _ Plane _ _ _ _ _ z z z z z)
      (command_fits _ r _ _ _ _ _ t a b c z)
      (command_fits _ r _ _ _ _ _ t a b c d)
      (waypoint_fits r)
      (command_fits _ r _ _ _ _ _ t a b c z)
      (command_fits _ r _ _ _ _ _ t z z z z)
      (command_fits _ r _ _ _ _ _ t a b c d)

-- ---- a call that was read is written with no more fields than it had

-- +0 that need not be written is not
left : {b : Bool} → b ≡ false → is_written false (to_bits binary32 spec.zero) 0 ≡ false
left e = zero_out

option_left : (m : ℕ) (x : Float) → stands m ≡ false → is_written (has_number (option_of m x)) (to_bits binary32 (number_or0 (option_of m x))) 0 ≡ false
unfolding option_of
option_left m x e = rw e zero_out

legs_left : (m : ℕ) (x y : Float) → stands m ≡ false
    → (is_written (has_leg (leg_of m x y)) (to_bits binary32 (leg_north (leg_of m x y))) 0 ≡ false)
    × (is_written (has_leg (leg_of m x y)) (to_bits binary32 (leg_east (leg_of m x y))) 0 ≡ false)
unfolding leg_of
legs_left m x y e = (rw e zero_out, rw e zero_out)

halved_is : (k n : ℕ) → halved k n ≡ n / 2 ^ k
halved_is zero n = omega arith
halved_is (suc k) n =
    let two : 2 ^ suc k ≡ 2 * 2 ^ k = pow-suc 2 k ∙ mul_comm (2 ^ k) 2 in
    halved_is k (n / 2) ∙ rw (two, ← div-div-eq-div-mul n 2 (2 ^ k))

-- a field of a map of numbers that begins at bit 2
third_on : (m k : ℕ) → m / 2 / 2 / 2 ^ k ≡ m / 2 ^ (2 + k)
third_on m k =
    let four : 2 ^ (2 + k) ≡ 2 * (2 * 2 ^ k) = pow-add 2 2 k ∙ omega arith in
    rw (four, ← div-div-eq-div-mul m 2 (2 * 2 ^ k), ← div-div-eq-div-mul (m / 2) 2 (2 ^ k))

-- the numbers v were read with the map m from the bytes s
module _ (m : ℕ) (s : List ℕ) (v : List Float) (ev : v ≡ floats_of (values_at Numbers (m / 2 / 2) s)) where
  read_long : length (values_at Numbers (m / 2 / 2) s) ≡ 20
  unfolding number_fields
  read_long = values_long Numbers (m / 2 / 2) s

  -- a plain number that does not stand is +0
  read_zero : (k : ℕ) → k < 20 → stands (halved k (m / 2 / 2)) ≡ false → get_or v k nan ≡ spec.zero
  unfolding floats_of
  read_zero k h e =
      let none : get_or (values_at Numbers (m / 2 / 2) s) k 0 ≡ 0 = value_missing k (replicate 20 0) (m / 2 / 2) s e ∙ get_or-replicate 20 k 0 0 h in
      rw ev (get_d_mapped (of_bits binary32) (values_at Numbers (m / 2 / 2) s) k 0 nan (omega (arith, read_long)) ∙ ap (of_bits binary32) none)

  used : (k : ℕ) → k < 20 → stands (halved k (m / 2 / 2)) ≡ false → is_written false (to_bits binary32 (get_or v k nan)) 0 ≡ false
  used k h e = rw (read_zero k h e) zero_out

  command_within : (k : Kind) (g : FlightRegime) (dt a b c d : Float)
      → (stands (halved 0 (m / 2 / 2)) ≡ false → is_written false (to_bits binary32 dt) 0 ≡ false)
      → (stands (halved 1 (m / 2 / 2)) ≡ false → is_written false (to_bits binary32 a) 0 ≡ false)
      → (stands (halved 2 (m / 2 / 2)) ≡ false → is_written false (to_bits binary32 b) 0 ≡ false)
      → (stands (halved 3 (m / 2 / 2)) ≡ false → is_written false (to_bits binary32 c) 0 ≡ false)
      → (stands (halved 4 (m / 2 / 2)) ≡ false → is_written false (to_bits binary32 d) 0 ≡ false)
      → let p = command_parts k g dt (a ∷ b ∷ c ∷ d ∷ []) in Within Numbers p.keeps (bits_of p.numbers) (m / 2 / 2)
  unfolding Within number_fields bits_of command_parts
  command_within k g dt a b c d e₀ e₁ e₂ e₃ e₄ = (
    e₀,
    (
      e₁,
      (e₂, (e₃, (e₄, (left, (left, (left, (left, (left, (left, (left, (left, (left, (left, (left, (left, (left, (left, (left, tt)))))))))))))))))),
    ),
  )

  -- the leg is whole, or none
  module _ (q : m / 2 ^ 9 % 2 ≡ m / 2 ^ 10 % 2) where
    at_bit : (k n : ℕ) → 2 + k ≡ n → stands (halved k (m / 2 / 2)) ≡ stands (m / 2 ^ n)
    at_bit k n e = rw (halved_is k (m / 2 / 2), third_on m k, e)

    leg_left :
        (stands (halved 7 (m / 2 / 2)) ≡ false
        → is_written (has_leg (leg_of (m / 2 ^ 9) (spec.at v 9) (spec.at v 10)))
        (to_bits binary32 (leg_north (leg_of (m / 2 ^ 9) (spec.at v 9) (spec.at v 10)))) 0 ≡ false)
        × (stands (halved 8 (m / 2 / 2)) ≡ false
        → is_written (has_leg (leg_of (m / 2 ^ 9) (spec.at v 9) (spec.at v 10)))
        (to_bits binary32 (leg_east (leg_of (m / 2 ^ 9) (spec.at v 9) (spec.at v 10)))) 0 ≡ false)
    leg_left = (
      λ e. (legs_left (m / 2 ^ 9) (spec.at v 9) (spec.at v 10) (sym (at_bit 7 9 refl) ∙ e)).0,
      λ e. (legs_left (m / 2 ^ 9) (spec.at v 9) (spec.at v 10) (ap (λ (x : ℕ). eqb x 1) q ∙ sym (at_bit 8 10 refl) ∙ e)).1,
    )

    airspeed_left : stands (halved 18 (m / 2 / 2)) ≡ false
        → is_written (has_number (option_of (m / 2 ^ 20) (spec.at v 20))) (to_bits binary32 (number_or0 (option_of (m / 2 ^ 20) (spec.at v 20)))) 0 ≡ false
    airspeed_left e = option_left (m / 2 ^ 20) (spec.at v 20) (sym (at_bit 18 20 refl) ∙ e)

    cap_left : stands (halved 19 (m / 2 / 2)) ≡ false
        → is_written (has_number (option_of (m / 2 ^ 21) (spec.at v 21))) (to_bits binary32 (number_or0 (option_of (m / 2 ^ 21) (spec.at v 21)))) 0 ≡ false
    cap_left e = option_left (m / 2 ^ 21) (spec.at v 21) (sym (at_bit 19 21 refl) ∙ e)

    waypoint_within : (g : FlightRegime)
        → let p =
        waypoint_parts g (spec.at v 2) (waypoint_at m v) (state_at m v) (option_of (m / 2 ^ 21) (spec.at v 21)) in Within Numbers
        p.keeps (bits_of p.numbers) (m / 2 / 2)
    unfolding Within number_fields bits_of waypoint_parts waypoint_at state_at
    waypoint_within g = (
      used 0 (lit< tt),
      (
        left,
        (
          left,
          (
            left,
            (
              left,
              (
                used 5 (lit< tt),
                (
                  used 6 (lit< tt),
                  (
                    leg_left.0,
                    (
                      leg_left.1,
                      (
                        used 9 (lit< tt),
                        (
                          used 10 (lit< tt),
                          (
                            used 11 (lit< tt),
                            (
                              used 12 (lit< tt),
                              (
                                used 13 (lit< tt),
                                (
                                  used 14 (lit< tt),
                                  (used 15 (lit< tt), (used 16 (lit< tt), (used 17 (lit< tt), (airspeed_left, (cap_left, tt))))),
                                ),
                              ),
                            ),
                          ),
                        ),
                      ),
                    ),
                  ),
                ),
              ),
            ),
          ),
        ),
      ),
    )

    numbers_within : (kind : ℕ) (r : FlightRegime) → Within Numbers (parts_of (call_at kind r m v)).keeps (bits_of (parts_of (call_at kind r m v)).numbers) (m / 2 / 2)
    unfolding parts_of attitude_at rate_at absolute_attitude_at absolute_rate_at
    numbers_within kind r =
        let t = used 0 (lit< tt) in
        let a = used 1 (lit< tt) in
        let b = used 2 (lit< tt) in
        let c = used 3 (lit< tt) in
        let d = used 4 (lit< tt) in
        of_each (λ (k : Call). Within Numbers (parts_of k).keeps (bits_of (parts_of k).numbers) (m / 2 / 2)) kind r m v
        (command_within _ Plane _ _ _ _ _ left left left left left)
        (command_within _ r _ _ _ _ _ t a b c left)
        (command_within _ r _ _ _ _ _ t a b c d)
        (waypoint_within r)
        (command_within _ r _ _ _ _ _ t a b c left)
        (command_within _ r _ _ _ _ _ t left left left left)
        (command_within _ r _ _ _ _ _ t a b c d)

    -- plane is left out
    regime_within : (kind : ℕ) → is_written false (regime_byte (parts_of (call_at kind Plane m v)).regime) 1 ≡ false
    unfolding parts_of command_parts waypoint_parts
    regime_within kind = of_each (λ (k : Call). is_written false (regime_byte (parts_of k).regime) 1 ≡ false) kind Plane m v refl refl refl refl refl refl refl

    within : (kind g : ℕ) → stands m ≡ true → (stands (m / 2) ≡ false → g ≡ 1)
        → let c = call_at kind (regime_of g) m v in Within call_fields (Flags c) (Values c) m
    unfolding Within values_of
    within kind g k e =
        rw fields_are (
          λ (x : stands m ≡ false). absurd (subst T (sym k ∙ x) tt),
          (λ (x : stands (m / 2) ≡ false). rw (e x, plane_is) (regime_within kind), numbers_within kind (regime_of g)),
        )

-- ---- the laws

module _ (s : List ℕ) (at : ℕ) where
  -- the map that was read, the two bytes and the numbers
  abbrev map_number : ℕ
  map_number = number_at 4 (drop at s)

  abbrev KindByte : ℕ
  KindByte = get_or (drop at s) 4 0

  abbrev RegimeByte : ℕ
  RegimeByte = regime_at (drop at s) map_number

  abbrev Rest : List ℕ
  Rest = drop (5 + map_number / 2 % 2) (drop at s)

  abbrev Floats : List Float
  Floats = floats_of (values_at Numbers (map_number / 2 / 2) Rest)

  values_read : stands map_number ≡ true → values_at call_fields map_number (drop (at + 4) s) ≡ KindByte ∷ RegimeByte ∷ values_at Numbers (map_number / 2 / 2) Rest
  values_read k =
      let quarter : map_number / 2 / 2 ≡ map_number / 4 = omega arith in
      rw (← drop-drop 4 at s, quarter) (values_are (drop at s) map_number k)

  regime_read : stands (map_number / 2) ≡ false → RegimeByte ≡ 1
  regime_read e = rw e

  floats_long : length Floats ≡ 20
  unfolding number_fields
  floats_long = floats_length (values_at Numbers (map_number / 2 / 2) Rest) ∙ values_long Numbers (map_number / 2 / 2) Rest

  module _ (c : Call) (next : ℕ) (e : read_call s at ≡ call_read c next) where
    abbrev Found : List ℕ
    Found = values_at call_fields map_number (drop (at + 4) s)

    answered : (complete map_number ≡ true) × (call_at (get_or Found 0 0) (regime_of (get_or Found 1 0)) map_number (floats_of (drop 2 Found)) ≡ c) × (at + (4 + size_of call_fields map_number) ≡ next)
    unfolding read_call
    answered =
        inverted (has_bytes s at 4) (complete map_number) (has_bytes s at (4 + size_of call_fields map_number)) (unknown (get_or Found 0 0) (get_or Found 1 0)) _ c _ next e

    given : (stands map_number ≡ true) × (map_number / 2 ^ 9 % 2 ≡ map_number / 2 ^ 10 % 2)
    given = complete_gives map_number answered.0

    call_found : call_at KindByte (regime_of RegimeByte) map_number Floats ≡ c
    call_found = rw (values_read given.0) at answered.1

    pub held : CallF32 c
    held = subst CallF32 call_found (call_fits map_number Floats (floats_are (values_at Numbers (map_number / 2 / 2) Rest)) floats_long KindByte (regime_of RegimeByte))

    no_longer : at + length (call_record c) ≤ next
    no_longer =
        let w = within map_number Rest Floats refl given.1 KindByte RegimeByte given.0 regime_read in
        let read = call_at KindByte (regime_of RegimeByte) map_number Floats in
        let size : size_of call_fields (Map read) ≤ size_of call_fields map_number = rw (map_by_fields read) (size_within call_fields (Flags read) (values_of (parts_of read)) map_number w) in
        let size_c : size_of call_fields (Map c) ≤ size_of call_fields map_number = subst (λ (k : Call). size_of call_fields (Map k) ≤ size_of call_fields map_number) call_found size in
        omega (arith, long c, size_c, answered.2)

one : (v w : Call) (a b : ℕ) → call_read v a ≡ call_read w b → v ≡ w
one v w a b e = (same_read v w a b e).0

pub call_laws : CallLaws
call_laws = laws CallF32 call_record read_call call_read stands_at held no_longer one

-- ---- the greatest length

size-le : (m : ℕ) → size_of call_fields m ≤ 82
size-le m = rw (size_is m) (omega (arith, ones_le 20 (m / 4)))

-- a prime in whose map every named bit stands
longest : List ℕ
longest = 255 ∷ 255 ∷ 63 ∷ replicate 83 0

longest_read : read_call longest 0 ≡ call_read Prime 86
unfolding longest read_call complete unknown call_fields number_fields size_of values_at number_at regime_of call_at floats_of
longest_read = refl

pub call_longest : CallLongest
call_longest =
    record {
      written = λ c. omega (arith, long c, size-le (Map c));
      stepped = λ s at c next e. omega (arith, (answered s at c next e).2, size-le (map_number s at));
      reached = (longest, Prime, longest_read);
    }
