-- The limits of a waypoint answer, by the configuration in force and underspeed, both worked out from the calls and from
-- which of them were refused. Definitions only.
use Rattle.std.specs.Prelude.{◌≡◌, Bool, true, false, cond, T, List, [], ◌∷◌, Float, Option, Ok, Err}
use Rattle.std.specs.Float.Ieee as Ieee
use Rattle.std.specs.Float.{binary32}
use Rattle.std.specs.Float.Ieee.{neg, fits}
use Rattle.arithmetic.specs.Constants.{◌+ᶠ◌, ◌-ᶠ◌, ◌·ᶠ◌, n0}
use Rattle.arithmetic.specs.Order.{finite}
use Rattle.laws.specs.Types.{valid_airspeed}
use Rattle.laws.specs.declared.config.TecsConfig.{TecsConfig}
use Rattle.laws.specs.declared.config.PlaneGuidanceConfig.{PlaneGuidanceConfig}
use Rattle.laws.specs.declared.types.ControlInput.{ControlInput}
use Rattle.laws.specs.declared.types.ControlInput.TheVariants as Input
use Rattle.laws.specs.declared.types.WaypointCommand.{WaypointCommand}
use Rattle.laws.specs.declared.types.VehicleState.{VehicleState}
use Rattle.laws.specs.declared.types.Setpoint.{Setpoint}
use Rattle.laws.specs.declared.types.Setpoint.TheVariants as Set
use Rattle.guidance.specs.Plane.{no_former, capped, top_thrust, height_error, lateral_law, vertical_law, or_zero}
use Rattle.claims.specs.Calls.{Call, guide, prime, set_config, take_back, Reply, answered, done, field, back, refused}
use Rattle.guidance.specs.declared.plane.Former.{Former}
use Rattle.guidance.specs.declared.plane.VerticalLaw.{VerticalLaw}
use Rattle.guidance.specs.declared.plane.VerticalLaw.TheVariants.{Energy, Hold, Fallback}
use Rattle.guidance.specs.declared.plane.Laws.{Laws}
use Rattle.guidance.specs.declared.plane.Answer.TheVariants.{Commanded, Waypoint}

-- ---- the configuration in force, and underspeed

-- the configuration in force, the one before the last accepted change where it can be taken back, and whether underspeed stands
pub record InForce : Type 0 where
  pub config : PlaneGuidanceConfig
  pub former : Former
  pub underspeed : Bool

-- of a fresh guidance
abbrev pub at_start : PlaneGuidanceConfig → InForce
at_start c = record { config = c; former = no_former; underspeed = false }

-- An energy step whose airspeed is below share · least airspeed sets underspeed, one at or above least airspeed clears it,
-- any other keeps it.
unfoldable pub underspeed_at : Bool → TecsConfig → Float → Bool
underspeed_at stands t airspeed =
    cond (Ieee.lt airspeed (t.underspeed_share ·ᶠ t.min_airspeed_mps)) true
    (cond (Ieee.le t.min_airspeed_mps airspeed) false
    stands)

abbrev pub underspeed_by : VerticalLaw → InForce → VehicleState → Bool
underspeed_by Energy i s = underspeed_at i.underspeed i.config.tecs (or_zero (valid_airspeed s))
underspeed_by Hold i s = i.underspeed
underspeed_by Fallback i s = false

-- a fallback and an accepted command other than a waypoint clear it
abbrev pub underspeed_after : InForce → Float → ControlInput → VehicleState → Bool
underspeed_after i dt (Input.Attitude k) s = false
underspeed_after i dt (Input.Rate k) s = false
underspeed_after i dt (Input.Waypoint w) s = underspeed_by (vertical_law dt w s) i s
underspeed_after i dt (Input.AbsoluteAttitude k) s = false
underspeed_after i dt Input.Land s = false
underspeed_after i dt (Input.AbsoluteRate k) s = false

-- after a call, by whether it was refused; an accepted prime clears underspeed, all other calls keep it
abbrev pub in_force_after : InForce → Call → Bool → InForce
in_force_after i k true = i
in_force_after i (guide dt regime input s cap) false = record { config = i.config; former = i.former; underspeed = underspeed_after i dt input s }
in_force_after i prime false = record { config = i.config; former = i.former; underspeed = false }
in_force_after i (set_config c) false = record { config = c; former = record { kept = 1; config = i.config }; underspeed = i.underspeed }
in_force_after i take_back false = record { config = i.former.config; former = no_former; underspeed = i.underspeed }

-- ---- limits

-- x lies from low to high
pub record Between (low x high : Float) : Type 0 where
  pub from : Ieee.le low x ≡ true
  pub to : Ieee.le x high ≡ true

-- thrust from min_thrust to greatest(max_thrust, min_thrust)
abbrev pub InSpan : PlaneGuidanceConfig → Float → Type 0
InSpan c thrust = Between c.min_thrust thrust (top_thrust c)

-- Energy: pitch from -least(max_pitch_down_rad, cap) to least(max_pitch_up_rad, cap), thrust in its span, and equal as a
-- number to the top whenever underspeed stands.
pub record EnergyLimits (i : InForce) (cap : Option Float) (pitch thrust : Float) : Type 0 where
  pub pitch_within : Between (neg (capped i.config.max_pitch_down_rad cap)) pitch (capped i.config.max_pitch_up_rad cap)
  pub thrust_within : InSpan i.config thrust
  pub thrust_top : i.underspeed ≡ true → Ieee.eq thrust (top_thrust i.config) ≡ true

-- Hold: exactly trim and cruise thrust, unclamped.
pub record HoldLimits (c : PlaneGuidanceConfig) (pitch thrust : Float) : Type 0 where
  pub pitch_is : pitch ≡ c.trim_pitch_rad
  pub thrust_is : thrust ≡ c.cruise_thrust

-- Fallback's pitch: trim plus a correction, an f32, between -down - trim and up - trim, each rounded once.
pub record Corrected (c : PlaneGuidanceConfig) (cap : Option Float) (pitch : Float) : Type 0 where
  pub correction : Float
  pub an_f32 : T (fits binary32 correction)
  pub sum : pitch ≡ c.trim_pitch_rad +ᶠ correction
  pub within : Between (neg (capped c.max_pitch_down_rad cap) -ᶠ c.trim_pitch_rad) correction (capped c.max_pitch_up_rad cap -ᶠ c.trim_pitch_rad)

-- height error finite: corrected; else trim + 0
abbrev pub FallbackPitch : Bool → PlaneGuidanceConfig → Option Float → Float → Type 0
FallbackPitch true c cap pitch = Corrected c cap pitch
FallbackPitch false c cap pitch = pitch ≡ c.trim_pitch_rad +ᶠ n0

pub record FallbackLimits (c : PlaneGuidanceConfig) (w : WaypointCommand) (s : VehicleState) (cap : Option Float) (pitch thrust : Float) : Type 0 where
  pub pitch_within : FallbackPitch (finite (height_error w s)) c cap pitch
  pub thrust_within : InSpan c thrust

abbrev pub VerticalLimits : VerticalLaw → InForce → WaypointCommand → VehicleState → Option Float → Float → Float → Type 0
VerticalLimits Energy i w s cap pitch thrust = EnergyLimits i cap pitch thrust
VerticalLimits Hold i w s cap pitch thrust = HoldLimits i.config pitch thrust
VerticalLimits Fallback i w s cap pitch thrust = FallbackLimits i.config w s cap pitch thrust

-- roll within ±max_bank_rad, the vertical law's limits, and the names of the laws that the call's numbers give.
-- `i` holds what is in force after the call: its own airspeed counts before its thrust is judged.
pub record WaypointLimits (i : InForce) (dt : Float) (w : WaypointCommand) (s : VehicleState) (cap : Option Float) (laws : Laws) (roll pitch thrust : Float) : Type 0 where
  pub roll_within : Between (neg i.config.max_bank_rad) roll i.config.max_bank_rad
  pub vertical_within : VerticalLimits (vertical_law dt w s) i w s cap pitch thrust
  pub lateral_name : laws.lateral ≡ lateral_law w s
  pub vertical_name : laws.vertical ≡ vertical_law dt w s

abbrev pub SetpointLimits : InForce → Float → WaypointCommand → VehicleState → Option Float → Laws → Setpoint → Type 0
SetpointLimits i dt w s cap laws (Set.Plane roll pitch thrust) = WaypointLimits i dt w s cap laws roll pitch thrust
SetpointLimits i dt w s cap laws (Set.PlaneRate roll pitch yaw thrust) = ⊥

-- A waypoint call is refused, or its answer is a waypoint's with a plane setpoint within the limits.
abbrev pub WaypointObeys : InForce → Float → WaypointCommand → VehicleState → Option Float → Reply → Type 0
WaypointObeys i dt w s cap (answered (Err why)) = refused (answered (Err why)) ≡ true
WaypointObeys i dt w s cap (answered (Ok (Commanded t))) = ⊥
WaypointObeys i dt w s cap (answered (Ok (Waypoint a))) = SetpointLimits i dt w s cap a.laws a.setpoint
WaypointObeys i dt w s cap done = ⊥
WaypointObeys i dt w s cap (field n) = ⊥
WaypointObeys i dt w s cap (back n) = ⊥

abbrev pub Obeys : InForce → Call → Reply → Type 0
Obeys i (guide dt regime (Input.Attitude k) s cap) r = Unit {0}
Obeys i (guide dt regime (Input.Rate k) s cap) r = Unit {0}
Obeys i (guide dt regime (Input.Waypoint w) s cap) r = WaypointObeys i dt w s cap r
Obeys i (guide dt regime (Input.AbsoluteAttitude k) s cap) r = Unit {0}
Obeys i (guide dt regime Input.Land s cap) r = Unit {0}
Obeys i (guide dt regime (Input.AbsoluteRate k) s cap) r = Unit {0}
Obeys i prime r = Unit {0}
Obeys i (set_config c) r = Unit {0}
Obeys i take_back r = Unit {0}

-- every call of the list obeys
abbrev pub AllObey : InForce → List Call → List Reply → Type 0
AllObey i [] rs = Unit {0}
AllObey i (k ∷ ks) [] = ⊥
AllObey i (k ∷ ks) (r ∷ rs) = let j = in_force_after i k (refused r) in Obeys j k r × AllObey j ks rs
