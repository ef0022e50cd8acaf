-- Lists of calls, for demand 3: what one call does, a run, which calls are struck. Definitions only.
use Rattle.std.specs.Prelude.{ℕ, Bool, true, false, cond, not, ◌&&◌, ◌||◌, List, [], ◌∷◌, eqb, Float, Option, Result, Ok, Err}
use Rattle.refusals.specs.Numbers.{number}
use Rattle.refusals.specs.declared.Refusal.{Refusal}
use Rattle.laws.specs.declared.config.InvalidConfig.{InvalidConfig}
use Rattle.laws.specs.declared.config.PlaneGuidanceConfig.{PlaneGuidanceConfig}
use Rattle.laws.specs.declared.types.ControlInput.{ControlInput}
use Rattle.laws.specs.declared.types.ControlInput.TheVariants as Input
use Rattle.laws.specs.declared.types.FlightRegime.{FlightRegime}
use Rattle.laws.specs.declared.types.VehicleState.{VehicleState}
use Rattle.guidance.specs.Plane.{fresh, guided, primed, configured, taken_back, vertical_law, is_waypoint, refusal_number}
use Rattle.guidance.specs.declared.plane.Former.{Former}
use Rattle.guidance.specs.declared.plane.PlaneGuidance.{PlaneGuidance}
use Rattle.guidance.specs.declared.plane.VerticalLaw.{VerticalLaw}
use Rattle.guidance.specs.declared.plane.VerticalLaw.TheVariants.{Energy, Hold, Fallback}
use Rattle.guidance.specs.declared.plane.Answer.{Answer}
use Rattle.guidance.specs.declared.plane.Guided.{Guided}

-- ---- one call

-- a guide call (time step, regime, command, sensors, cap), a prime, a set-configuration, or (document 02, K11) a taking back
pub data Call : Type 0 where
  guide : Float → FlightRegime → ControlInput → VehicleState → Option Float → Call
  prime : Call
  set_config : PlaneGuidanceConfig → Call
  take_back : Call

-- what the caller gets: a guide call's answer; nothing; 0 or the failing field; 0 or 14 of a taking back
pub data Reply : Type 0 where
  answered : Result Answer Refusal → Reply
  done : Reply
  field : ℕ → Reply
  back : ℕ → Reply

pub record Outcome : Type 0 where
  pub reply : Reply
  pub next : PlaneGuidance

abbrev pub answered_by : Guided → Outcome
answered_by o = record { reply = answered o.answer; next = o.guidance }

-- refused, the guidance before it stays
abbrev pub configured_by : PlaneGuidance → Result PlaneGuidance InvalidConfig → Outcome
configured_by g (Ok h) = record { reply = field 0; next = h }
configured_by g (Err e) = record { reply = field e.field; next = g }

abbrev pub taken_back_by : PlaneGuidance → Result PlaneGuidance Refusal → Outcome
taken_back_by g (Ok h) = record { reply = back 0; next = h }
taken_back_by g (Err why) = record { reply = back (number why); next = g }

-- what the contracts of guide_capped, prime, set_config and take_back say
unfoldable pub perform : PlaneGuidance → Call → Outcome
perform g (guide dt regime input s cap) = answered_by (guided g dt regime input s cap)
perform g prime = record { reply = done; next = primed g }
perform g (set_config c) = configured_by g (configured g c)
perform g take_back = taken_back_by g (taken_back g)

-- a refusal: 2, 3 or 4 of a guide call, 1 of a set-configuration, 14 of a taking back
abbrev pub refused : Reply → Bool
refused (answered a) = not (eqb (refusal_number a) 0)
refused done = false
refused (field n) = not (eqb n 0)
refused (back n) = not (eqb n 0)

-- ---- a run: each call gets the guidance that the one before it left

unfoldable pub replies : PlaneGuidance → List Call → List Reply
replies g [] = []
replies g (k ∷ ks) = (perform g k).reply ∷ replies (perform g k).next ks

unfoldable pub after : PlaneGuidance → List Call → PlaneGuidance
after g [] = g
after g (k ∷ ks) = after (perform g k).next ks

-- which calls were refused
unfoldable pub refusals : List Reply → List Bool
refusals [] = []
refusals (r ∷ rs) = refused r ∷ refusals rs

-- ---- energy step, hold and fallback: accepted waypoint calls, told apart by the call's own numbers

abbrev pub is_energy : VerticalLaw → Bool
is_energy Energy = true
is_energy Hold = false
is_energy Fallback = false

abbrev pub is_hold : VerticalLaw → Bool
is_hold Energy = false
is_hold Hold = true
is_hold Fallback = false

abbrev pub is_fallback : VerticalLaw → Bool
is_fallback Energy = false
is_fallback Hold = false
is_fallback Fallback = true

-- a test of the vertical law of a waypoint; any other command fails it
abbrev pub law_is : (VerticalLaw → Bool) → Float → ControlInput → VehicleState → Bool
law_is test dt (Input.Attitude k) s = false
law_is test dt (Input.Rate k) s = false
law_is test dt (Input.Waypoint w) s = test (vertical_law dt w s)
law_is test dt (Input.AbsoluteAttitude k) s = false
law_is test dt Input.Land s = false
law_is test dt (Input.AbsoluteRate k) s = false

-- a hold
abbrev pub holds : Call → Bool
holds (guide dt regime input s cap) = law_is is_hold dt input s
holds prime = false
holds (set_config c) = false
holds take_back = false

-- ---- striking: one step from left to right, with one Bool

-- whether the last accepted guide or prime call was a fallback, after this call
abbrev pub fell_back : Bool → Call → Bool → Bool
fell_back before k true = before
fell_back before (guide dt regime input s cap) false = law_is is_fallback dt input s
fell_back before prime false = false
fell_back before (set_config c) false = before
fell_back before take_back false = before

-- Struck: every refused call, and every hold unless the last accepted guide or prime call before it was a fallback.
abbrev pub struck : Bool → Call → Bool → Bool
struck before k refused = refused || (holds k && not before)

-- the marks of a list of calls, from which of them were refused in the list as first run
unfoldable pub strikes : Bool → List Call → List Bool → List Bool
strikes before [] rs = []
strikes before (k ∷ ks) [] = []
strikes before (k ∷ ks) (r ∷ rs) = struck before k r ∷ strikes (fell_back before k r) ks rs

-- what is not marked
unfoldable pub unmarked : {A : Type 0} → List Bool → List A → List A
unmarked [] xs = xs
unmarked (m ∷ ms) [] = []
unmarked (m ∷ ms) (x ∷ xs) = cond m (unmarked ms xs) (x ∷ unmarked ms xs)

-- the marks of a run from a fresh guidance, where no call came before
abbrev pub marks : PlaneGuidance → List Call → List Bool
marks g ks = strikes false ks (refusals (replies g ks))

-- ---- fresh start

-- an accepted prime, or an accepted command other than a waypoint
abbrev pub starts_fresh : Call → Bool → Bool
starts_fresh k true = false
starts_fresh (guide dt regime input s cap) false = not (is_waypoint input)
starts_fresh prime false = true
starts_fresh (set_config c) false = false
starts_fresh take_back false = false

-- what a fresh start takes from the guidance: the configuration and the kept configuration of that moment
pub record Settings : Type 0 where
  pub config : PlaneGuidanceConfig
  pub former : Former

abbrev pub settings_of : PlaneGuidance → Settings
settings_of g = record { config = g.config; former = g.former }

-- a fresh guidance with this configuration, and with this one kept
abbrev pub fresh_with : Settings → PlaneGuidance
fresh_with t =
    let g = fresh t.config in
    record { config = g.config; requested = g.requested; altitude = g.altitude; tecs = g.tecs; former = t.former }
