-- Document 02's K5: at a tie straight back the angle steered is FRAC_PI_2 to the right, and the acceleration over gravity is above 0 but
-- for what is named.
use Rattle.std.specs.Prelude.{Option, Some, None, Float}
use mathlib.Core.Path.{◌≡◌, refl, sym, ◌∙◌}
use mathlib.Core.Bool.{Bool, true, false, cond, not, ◌||◌}
use Prim.Native.Nat.{ℕ, ◌^◌}
use native.Mathlib.Omega.{arith}
use lib.Dec.{T}
use lib.Pow.{pow_pos}
use lib.Ieee.{Float, nan, inf, fin, binary32, fits, is_nan, neg, lt, le, eq, of_bits, add, sub, mul, div}
use Rattle.std.proofs.lemmas.Bool.{or_parts}
use Rattle.arithmetic.specs.Constants.{◌+ᶠ◌, ◌-ᶠ◌, ◌·ᶠ◌, ◌/ᶠ◌, n0, n1, pi, frac_pi2, frac_pi4}
use Rattle.arithmetic.specs.Order.{clamp, finite, choose}
use Rattle.arithmetic.specs.Trigonometry.{sine}
use Rattle.arithmetic.proofs.Bounds.{never, never', le_of_not_lt, le_of_lt, clamped_low, clamped_high, unclamped, right_number, nan_is}
use Rattle.arithmetic.proofs.Bounds.{finite_number, lt_right, zero_or_above}
use Rattle.arithmetic.proofs.Sums.{le_trans, le_not_lt, le_neg, sub_mono, neg_finite, between_finite}
use Rattle.arithmetic.proofs.Within.{Within, AtLeast, held, is_above, from_1, f32_within, mul_least, div_least, both_least}
use Rattle.laws.specs.Math.{limit_or_zero, clamp_symmetric}
use Rattle.arithmetic.specs.Vector.{norm, cross, normalise}
use Rattle.arithmetic.specs.declared.vector.Vec2.{Vec2}
use Rattle.laws.specs.Navigation.{n4, max_capture, difference, l1, tie, course, capture, steered_rad, track_along, centripetal}
use Rattle.laws.specs.Navigation.{least_leg, least_offset, along, right_of, no_course, level, track_by, track_accel, loiter_by, loiter_accel}
use Rattle.laws.specs.Types.{gravity}
use Rattle.laws.proofs.Bank.{over_gravity}
use Rattle.laws.proofs.Plus.{plus, plus_mul, plus_div, plus_add, plus_choose, plus_from_1, plus_above_0, zero_plus}

-- ---- constants

-- the least angle before it is clamped: 3/4 PI, rounded
abbrev least : Float
least = neg frac_pi4 -ᶠ neg pi

left_finite : finite (neg frac_pi4) ≡ true
unfolding finite neg of_bits
left_finite = refl

right_finite : finite frac_pi4 ≡ true
unfolding finite of_bits
right_finite = refl

back_finite : finite (neg pi) ≡ true
unfolding finite neg of_bits
back_finite = refl

ordered : le (neg frac_pi4) frac_pi4 ≡ true
unfolding le neg of_bits
ordered = refl

above : le least frac_pi2 ≡ false
unfolding le neg of_bits sub
above = refl

above_too : le least (neg frac_pi2) ≡ false
unfolding le neg of_bits sub
above_too = refl

limit_is : limit_or_zero frac_pi2 ≡ frac_pi2
unfolding limit_or_zero le of_bits
limit_is = refl

twice : neg (neg frac_pi4) ≡ frac_pi4
unfolding neg of_bits
twice = refl

quarter_number : is_nan frac_pi2 ≡ false
unfolding is_nan of_bits
quarter_number = refl

-- ---- an angle past FRAC_PI_2 is clamped to it

clamped_to : (a : Float) → le least a ≡ true → clamp_symmetric a frac_pi2 ≡ frac_pi2
unfolding clamp_symmetric clamp
clamped_to a h = rw limit_is (go (lt a (neg frac_pi2)) (lt frac_pi2 a) refl refl)
  where
    go : (b d : Bool) → lt a (neg frac_pi2) ≡ b → lt frac_pi2 a ≡ d → cond b (neg frac_pi2) (cond d frac_pi2 a) ≡ frac_pi2
    go true d p q = never' (sym (le_trans least a (neg frac_pi2) h (le_of_lt a (neg frac_pi2) p)) ∙ above_too)
    go false true p q = refl
    go false false p q =
        never' (sym (le_trans least a frac_pi2 h (le_of_not_lt frac_pi2 a quarter_number (right_number least a h) q)) ∙ above)

-- ---- the angle steered

-- back from a course of -PI, with a capture angle that is no NaN
from_back : (x : Float) → is_nan x ≡ false → clamp_symmetric (neg (clamp x (neg max_capture) max_capture) -ᶠ neg pi) frac_pi2 ≡ frac_pi2
from_back x number =
    clamped_to (neg c -ᶠ neg pi) (sub_mono (neg frac_pi4) (neg c) (neg pi) left_finite (neg_finite c c_finite) back_finite turned)
  where
    c : Float
    c = clamp x (neg max_capture) max_capture

    from : le (neg frac_pi4) c ≡ true
    from = clamped_low x (neg frac_pi4) frac_pi4 number ordered

    to : le c frac_pi4 ≡ true
    to = clamped_high x (neg frac_pi4) frac_pi4 number ordered

    c_finite : finite c ≡ true
    c_finite = between_finite (neg frac_pi4) c frac_pi4 left_finite right_finite from to

    turned : le (neg frac_pi4) (neg c) ≡ true
    turned = le_neg c frac_pi4 to

module _ (position velocity point direction : Vec2) where
  -- the capture angle, which is NaN where cross-track over L1 distance is
  abbrev pub capture_of : Float → Float
  capture_of distance = capture (cross direction (difference position point)) distance

  -- At a tie the angle steered is FRAC_PI_2 to the right, wherever the plane is, and whatever the sign of the zero.
  pub steers_right :
      (distance : Float) → tie direction velocity ≡ true → is_nan (capture_of distance) ≡ false →
      steered_rad position velocity point direction distance ≡ frac_pi2
  unfolding course capture
  steers_right distance straight number = rw straight (from_back _ (unclamped _ (neg max_capture) max_capture number))

zero_finite : finite n0 ≡ true
unfolding finite of_bits
zero_finite = refl

-- ---- a capture angle that is NaN gives no acceleration

nan_product : (k : Float) → k ·ᶠ nan ≡ nan
unfolding mul
nan_product nan = refl
nan_product (inf s) = refl
nan_product (fin s m e) = refl

no_angle : (x : Float) → clamp_symmetric (neg nan -ᶠ x) frac_pi2 ≡ nan
unfolding clamp_symmetric limit_or_zero clamp neg sub lt le of_bits
no_angle x = refl

no_sine : sine nan ≡ nan
unfolding sine mul
no_sine = refl

-- ---- the acceleration is never to the left

sine_plus : plus (sine frac_pi2) ≡ true
unfolding sine of_bits add sub mul div neg
sine_plus = refl

four_plus : plus n4 ≡ true
unfolding of_bits
four_plus = refl

pi_plus : plus pi ≡ true
unfolding of_bits
pi_plus = refl

level_bank : lt n0 (n0 /ᶠ gravity) ≡ false
unfolding of_bits div lt
level_bank = refl

module _ (position velocity point direction : Vec2) (speed period damping : Float) where
  abbrev distance : Float
  distance = damping ·ᶠ period ·ᶠ speed /ᶠ pi

  abbrev factor : Float
  factor = n4 ·ᶠ damping ·ᶠ damping ·ᶠ speed ·ᶠ speed /ᶠ distance

  -- document 02's K5: the law's acceleration at a tie is that of a quarter turn to the right
  pub at_a_tie :
      tie direction velocity ≡ true → is_nan (capture_of position velocity point direction distance) ≡ false →
      (track_along position velocity point direction speed period damping).accel_mps2
      ≡ choose (finite (factor ·ᶠ sine frac_pi2)) (factor ·ᶠ sine frac_pi2) n0
  unfolding track_along l1
  at_a_tie straight number = rw (steers_right position velocity point direction distance straight number)

  lost : is_nan (capture_of position velocity point direction distance) ≡ true → (track_along position velocity point direction speed period damping).accel_mps2 ≡ n0
  unfolding track_along l1 finite
  lost h = rw (nan_is (capture_of position velocity point direction distance) h, no_angle (course direction velocity), no_sine, nan_product factor)

  quarter_turn_plus : plus damping ≡ true → plus period ≡ true → plus speed ≡ true → plus (factor ·ᶠ sine frac_pi2) ≡ true
  quarter_turn_plus d p s = plus_mul factor (sine frac_pi2) factor_plus sine_plus
    where
      distance_plus : plus distance ≡ true
      distance_plus = plus_div (damping ·ᶠ period ·ᶠ speed) pi (plus_mul (damping ·ᶠ period) speed (plus_mul damping period d p) s) pi_plus

      gain_plus : plus (n4 ·ᶠ damping ·ᶠ damping) ≡ true
      gain_plus = plus_mul (n4 ·ᶠ damping) damping (plus_mul n4 damping four_plus d) d

      factor_plus : plus factor ≡ true
      factor_plus =
          plus_div (n4 ·ᶠ damping ·ᶠ damping ·ᶠ speed ·ᶠ speed) distance
          (plus_mul (n4 ·ᶠ damping ·ᶠ damping ·ᶠ speed) speed (plus_mul (n4 ·ᶠ damping ·ᶠ damping) speed gain_plus s) s) distance_plus

  pub never_left :
      tie direction velocity ≡ true → plus damping ≡ true → plus period ≡ true → plus speed ≡ true →
      plus (track_along position velocity point direction speed period damping).accel_mps2 ≡ true
  never_left straight d p s = go (is_nan (capture_of position velocity point direction distance)) refl
    where
      go : (b : Bool) → is_nan (capture_of position velocity point direction distance) ≡ b
          → plus (track_along position velocity point direction speed period damping).accel_mps2 ≡ true
      go true h = rw (lost h) zero_plus
      go false h =
          rw (at_a_tie straight h)
          (plus_choose (finite (factor ·ᶠ sine frac_pi2)) (factor ·ᶠ sine frac_pi2) (quarter_turn_plus d p s))

  -- the acceleration over gravity is above 0, unless the capture angle is NaN, or the quarter turn's acceleration is not finite or over
  -- gravity rounds to 0
  pub right_unless :
      tie direction velocity ≡ true → plus damping ≡ true → plus period ≡ true → plus speed ≡ true →
      lt n0 ((track_along position velocity point direction speed period damping).accel_mps2 /ᶠ gravity)
      ≡ not (is_nan (capture_of position velocity point direction distance) || not (finite (factor ·ᶠ sine frac_pi2))
      || eq (factor ·ᶠ sine frac_pi2 /ᶠ gravity) n0)
  right_unless straight d p s = go (is_nan (capture_of position velocity point direction distance)) refl
    where
      turn : Float
      turn = factor ·ᶠ sine frac_pi2

      by : (b : Bool) → finite turn ≡ b → lt n0 (choose b turn n0 /ᶠ gravity) ≡ not (false || not b || eq (turn /ᶠ gravity) n0)
      by true h = zero_or_above (turn /ᶠ gravity) (over_gravity turn (quarter_turn_plus d p s) (finite_number turn h))
      by false h = level_bank

      go : (b : Bool) → is_nan (capture_of position velocity point direction distance) ≡ b
          → lt n0 ((track_along position velocity point direction speed period damping).accel_mps2 /ᶠ gravity)
          ≡ not (b || not (finite turn) || eq (turn /ᶠ gravity) n0)
      go true h = rw (lost h) level_bank
      go false h = rw (at_a_tie straight h) (by (finite turn) refl)

-- a loiter adds its circle's acceleration, which is to the right too
pub loiter_never_left :
    (speed radius tracked : Float) → plus speed ≡ true → plus radius ≡ true → plus tracked ≡ true →
    plus (centripetal speed radius +ᶠ tracked) ≡ true
unfolding centripetal
loiter_never_left speed radius tracked s r t =
    plus_add (speed ·ᶠ speed /ᶠ radius) tracked (plus_div (speed ·ᶠ speed) radius (plus_mul speed speed s s) r) t

-- ---- the laws, for a valid damping, period and radius

chosen_finite : (x : Float) → finite (choose (finite x) x n0) ≡ true
chosen_finite x = go (finite x) refl
  where
    go : (b : Bool) → finite x ≡ b → finite (choose b x n0) ≡ true
    go true h = h
    go false h = zero_finite

not_at_most_0 : (x : Float) → lt n0 x ≡ true → le x n0 ≡ false
not_at_most_0 x h = go (le x n0) refl
  where
    go : (b : Bool) → le x n0 ≡ b → b ≡ false
    go true e = never' (sym h ∙ le_not_lt x n0 e)
    go false e = refl

gravity_within : Within 16 1 gravity
unfolding of_bits
gravity_within = omega arith

gravity_above : lt n0 gravity ≡ true
unfolding of_bits lt
gravity_above = refl

-- a finite number without a minus sign is at least 0
plus_least : (q : ℕ) (x : Float) → plus x ≡ true → finite x ≡ true → AtLeast 0 q x
unfolding finite
plus_least q nan p f = never f
plus_least q (inf s) p f = never f
plus_least q (fin true m e) p f = never p
plus_least q (fin false m e) p f = omega arith

module _ (position velocity point : Vec2) (radius period damping : Float) (d : lt n0 damping ≡ true) (p : lt n0 period ≡ true) where
  no_less : no_course (norm velocity) ≡ false → plus (norm velocity) ≡ true
  unfolding no_course
  no_less h =
      plus_from_1 (norm velocity) (or_parts (is_nan (norm velocity)) (lt (norm velocity) n1) h).0
      (or_parts (is_nan (norm velocity)) (lt (norm velocity) n1) h).1

  -- a leg: no acceleration to the left at a tie, wherever the plane is
  pub leg_never_left :
      (through leg direction : Vec2) → normalise leg least_leg ≡ Some direction → tie direction velocity ≡ true →
      plus (track_accel position velocity through leg period damping).accel_mps2 ≡ true
  unfolding track_accel track_by
  leg_never_left through leg direction n straight = rw n (go (no_course (norm velocity)) refl)
    where
      go : (b : Bool) → no_course (norm velocity) ≡ b
          → plus (cond b (level true) (track_along position velocity through direction (norm velocity) period damping)).accel_mps2 ≡ true
      go true h = zero_plus
      go false h =
          never_left position velocity through direction (norm velocity) period damping straight (plus_above_0 damping d)
          (plus_above_0 period p) (no_less h)

  -- a loiter's tangent
  pub tangent_never_left :
      (outward direction : Vec2) → normalise (difference position point) least_offset ≡ Some outward →
      normalise (right_of outward) least_leg ≡ Some direction → tie direction velocity ≡ true → lt n0 radius ≡ true →
      plus (loiter_accel position velocity point radius period damping).accel_mps2 ≡ true
  unfolding loiter_accel loiter_by
  tangent_never_left outward direction o n straight r = rw o (go (slow || is_nan radius || le radius n0) refl)
    where
      slow : Bool
      slow = no_course (norm velocity)

      tracked : plus (track_accel position velocity (along point outward radius) (right_of outward) period damping).accel_mps2 ≡ true
      tracked = leg_never_left (along point outward radius) (right_of outward) direction n straight

      around : slow ≡ false → plus (loiter_by position velocity point radius period damping (Some outward)).accel_mps2 ≡ true
      around h = loiter_never_left (norm velocity) radius _ (no_less h) (plus_above_0 radius r) tracked

      go : (b : Bool) → slow || is_nan radius || le radius n0 ≡ b
          → plus (cond b (level slow) (loiter_by position velocity point radius period damping (Some outward))).accel_mps2 ≡ true
      go true h = zero_plus
      go false h = around (or_parts slow (is_nan radius) (or_parts (slow || is_nan radius) (le radius n0) h).0).0

  -- ---- above 0

  at_least_1 : no_course (norm velocity) ≡ false → AtLeast 1 1 (norm velocity)
  unfolding no_course
  at_least_1 h =
      from_1 (norm velocity) (or_parts (is_nan (norm velocity)) (lt (norm velocity) n1) h).0 (or_parts (is_nan (norm velocity)) (lt (norm velocity) n1) h).1

  track_finite : (through : Vec2) (n : Option Vec2) → finite (track_by position velocity through period damping n).accel_mps2 ≡ true
  unfolding track_by track_along
  track_finite through None = zero_finite
  track_finite through (Some direction) = go (no_course (norm velocity))
    where
      go : (b : Bool) →
          finite (cond b (level true) (track_along position velocity through direction (norm velocity) period damping)).accel_mps2 ≡ true
      go true = zero_finite
      go false = chosen_finite _

  -- a leg: by the quarter turn's acceleration
  pub leg_right :
      (through leg direction : Vec2) → normalise leg least_leg ≡ Some direction → no_course (norm velocity) ≡ false → tie direction velocity ≡ true →
      let turn = factor position velocity through direction (norm velocity) period damping ·ᶠ sine frac_pi2 in
      lt n0 ((track_accel position velocity through leg period damping).accel_mps2 /ᶠ gravity)
      ≡ not (is_nan (capture_of position velocity through direction (distance position velocity through direction (norm velocity) period damping))
      || not (finite turn) || eq (turn /ᶠ gravity) n0)
  unfolding track_accel track_by
  leg_right through leg direction n course straight =
      rw (n, course)
      (right_unless position velocity through direction (norm velocity) period damping straight (plus_above_0 damping d) (plus_above_0 period p) (no_less course))

  pub leg_from_0 :
      (through leg direction : Vec2) → normalise leg least_leg ≡ Some direction → tie direction velocity ≡ true →
      le n0 ((track_accel position velocity through leg period damping).accel_mps2 /ᶠ gravity) ≡ true
  unfolding track_accel
  leg_from_0 through leg direction n straight =
      over_gravity _ (leg_never_left through leg direction n straight) (finite_number _ (track_finite through (normalise leg least_leg)))

  -- a loiter's tangent: at least 2 ^ -132, since the ground speed is at least 1 and the radius below 2 ^ 128
  pub tangent_right :
      (outward direction : Vec2) → normalise (difference position point) least_offset ≡ Some outward →
      normalise (right_of outward) least_leg ≡ Some direction → no_course (norm velocity) ≡ false → tie direction velocity ≡ true →
      lt n0 radius ≡ true → finite radius ≡ true → T (fits binary32 radius) →
      lt n0 ((loiter_accel position velocity point radius period damping).accel_mps2 /ᶠ gravity) ≡ true
  unfolding loiter_accel loiter_by centripetal track_accel
  tangent_right outward direction o n course straight r f h =
      rw (course, lt_right n0 radius r, not_at_most_0 radius r, o)
      (is_above 1 (2 ^ 132) _ (omega arith)
      (div_least 1 (2 ^ 128) 16 1 1 (2 ^ 132) _ gravity (pow_pos 132) (omega arith) (held 1 132 (omega arith) (omega arith)) around gravity_within gravity_above))
    where
      speed : Float
      speed = norm velocity

      tracked : Float
      tracked = (track_accel position velocity (along point outward radius) (right_of outward) period damping).accel_mps2

      tracked_finite : finite tracked ≡ true
      tracked_finite = track_finite (along point outward radius) (normalise (right_of outward) least_leg)

      circle : AtLeast 1 (2 ^ 128) (speed ·ᶠ speed /ᶠ radius)
      circle =
          div_least 1 1 (2 ^ 128) 1 1 (2 ^ 128) (speed ·ᶠ speed) radius (pow_pos 128) (omega arith) (held 1 128 (omega arith) (omega arith))
          (mul_least 1 1 1 1 1 1 speed speed (omega arith) (omega arith) (omega arith) (omega arith) (held 1 0 (omega arith) (omega arith))
          (at_least_1 course) (at_least_1 course))
          (f32_within radius f h) r

      around : AtLeast 1 (2 ^ 128) (speed ·ᶠ speed /ᶠ radius +ᶠ tracked)
      around =
          both_least 1 0 (2 ^ 128) (speed ·ᶠ speed /ᶠ radius) tracked (pow_pos 128) (omega arith) (held 1 128 (omega arith) (omega arith)) circle
          (plus_least (2 ^ 128) tracked (leg_never_left (along point outward radius) (right_of outward) direction n straight) tracked_finite)
