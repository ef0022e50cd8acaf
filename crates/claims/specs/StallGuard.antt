-- Document 02, K12: what the stall guard's report says after a list of calls, and why. Definitions only.
use Rattle.std.specs.Prelude.{◌≡◌, Bool, true, false, cond, not, ◌&&◌, ◌||◌, List, [], ◌∷◌, ◌++◌, Float, Option, Ok}
use Rattle.std.specs.Float.Ieee as Ieee
use Rattle.arithmetic.specs.Constants.{◌·ᶠ◌, n0}
use Rattle.laws.specs.Types.{valid_airspeed}
use Rattle.laws.specs.declared.config.PlaneGuidanceConfig.{PlaneGuidanceConfig}
use Rattle.laws.specs.declared.types.ControlInput.TheVariants as Input
use Rattle.laws.specs.declared.types.WaypointCommand.{WaypointCommand}
use Rattle.laws.specs.declared.types.FlightRegime.{FlightRegime}
use Rattle.laws.specs.declared.types.VehicleState.{VehicleState}
use Rattle.laws.specs.declared.types.Setpoint.TheVariants as Set
use Rattle.guidance.specs.Plane.{fresh, is_waypoint, or_zero, top_thrust, stall_guard}
use Rattle.guidance.specs.declared.plane.PlaneGuidance.{PlaneGuidance}
use Rattle.guidance.specs.declared.plane.WaypointAnswer.{WaypointAnswer}
use Rattle.guidance.specs.declared.plane.Answer.TheVariants.{Waypoint}
use Rattle.claims.specs.Calls.{Call, guide, prime, set_config, take_back, answered, perform, refused, after, law_is, is_energy, is_fallback}

-- ---- the list as it was run

-- a call, the configuration in force as it came, and whether it was accepted
pub record Made : Type 0 where
  pub call : Call
  pub config : PlaneGuidanceConfig
  pub accepted : Bool

unfoldable pub made : PlaneGuidance → List Call → List Made
made g [] = []
made g (k ∷ ks) = record { call = k; config = g.config; accepted = not (refused (perform g k).reply) } ∷ made (perform g k).next ks

-- ---- lists, the latest first

-- xs backwards, before ys
unfoldable pub backwards : {A : Type 0} → List A → List A → List A
backwards [] ys = ys
backwards (x ∷ xs) ys = backwards xs (x ∷ ys)

-- the latest up to, and without, the first that passes the test
unfoldable pub since : {A : Type 0} → (A → Bool) → List A → List A
since test [] = []
since test (x ∷ xs) = cond (test x) [] (x ∷ since test xs)

-- those that pass the test
unfoldable pub those : {A : Type 0} → (A → Bool) → List A → List A
those test [] = []
those test (x ∷ xs) = cond (test x) (x ∷ those test xs) (those test xs)

-- ---- K12's words

-- an accepted prime, accepted non-waypoint command or fallback
abbrev pub starts_over : Call → Bool
starts_over (guide dt regime input s cap) = not (is_waypoint input) || law_is is_fallback dt input s
starts_over prime = true
starts_over (set_config c) = false
starts_over take_back = false

abbrev pub clearing : Made → Bool
clearing m = m.accepted && starts_over m.call

-- an energy step: accepted, on the energy path and no hold
abbrev pub steps : Call → Bool
steps (guide dt regime input s cap) = law_is is_energy dt input s
steps prime = false
steps (set_config c) = false
steps take_back = false

abbrev pub is_energy_step : Made → Bool
is_energy_step m = m.accepted && steps m.call

-- the airspeed of a guide call; no other is asked
abbrev pub airspeed_of : Call → Float
airspeed_of (guide dt regime input s cap) = or_zero (valid_airspeed s)
airspeed_of prime = n0
airspeed_of (set_config c) = n0
airspeed_of take_back = n0

-- the first sort: below share times least airspeed, by the step's own configuration
abbrev pub slow : Made → Bool
slow m = Ieee.lt (airspeed_of m.call) (m.config.tecs.underspeed_share ·ᶠ m.config.tecs.min_airspeed_mps)

-- at or above least airspeed
abbrev pub regains : Made → Bool
regains m = Ieee.le m.config.tecs.min_airspeed_mps (airspeed_of m.call)

abbrev pub is_kept : Made → Bool
is_kept m = slow m || regains m

-- one is kept, and the latest of these, the first of the list, is of the first sort
abbrev pub latest_slow : List Made → Bool
latest_slow [] = false
latest_slow (m ∷ ms) = slow m

-- what the report says after calls, of which the latest is the first of the list
unfoldable pub guard_stands : List Made → Bool
guard_stands ms = latest_slow (those is_kept (those is_energy_step (since clearing ms)))

-- ---- the claim

-- Of every list of demand 3's calls, run from a fresh guidance with the configuration c.
pub record StallGuardTold (c : PlaneGuidanceConfig) (calls : List Call) : Type 0 where
  -- the report stands exactly when one is kept and the latest kept is of the first sort
  pub stands : stall_guard (after (fresh c) calls) ≡ guard_stands (backwards (made (fresh c) calls) [])
  -- while it stands after an energy step, that step's thrust equals, as a number, the top of the span
  pub full_thrust :
      (before rest : List Call) (dt : Float) (regime : FlightRegime) (w : WaypointCommand) (s : VehicleState) (cap : Option Float) →
      let k = guide dt regime (Input.Waypoint w) s cap in
      let g = after (fresh c) before in
      calls ≡ before ++ (k ∷ rest) → steps k ≡ true →
      (a : WaypointAnswer) (roll pitch thrust : Float) → (perform g k).reply ≡ answered (Ok (Waypoint a)) → a.setpoint ≡ Set.Plane roll pitch thrust →
      stall_guard (perform g k).next ≡ true → Ieee.eq thrust (top_thrust g.config) ≡ true
