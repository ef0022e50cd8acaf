-- Why K9's claim names watchers and forbidden calls: of deckhands it is false, by computation. Assumes nothing.
use Rattle.std.specs.Prelude.{None, is_some}
use Prim.Native.Nat.{ℕ}
use mathlib.Core.Path.{◌≡◌, refl}
use mathlib.Core.Bool.{Bool, true, false}
use mathlib.Core.List.{List, [], ◌∷◌}
use lib.Dec.{eqb}
use lib.Ieee as Ieee
use lib.Ieee.{of_bits}
use Rattle.arithmetic.specs.Constants.{n0, n1}
use Rattle.arithmetic.specs.Order.{finite}
use Rattle.laws.specs.Config.{tecs_default, default}
use Rattle.laws.specs.Tecs.{reset}
use Rattle.laws.specs.declared.types.ControlInput.TheVariants as Input
use Rattle.laws.specs.declared.types.FlightRegime.TheVariants as Regime
use Rattle.laws.specs.declared.types.VehicleState.{VehicleState}
use Rattle.guidance.specs.Plane as Plane
use Rattle.guidance.specs.Plane.{fresh}
use Rattle.claims.specs.Calls.{guide, perform, unmarked}
use Rattle.rights.specs.Rights.{may}
use Rattle.rights_claims.specs.Runs.{answers, marks}
use Rattle.rights_claims.specs.Sent.{Held, call, mode, Told, reported, Sent, act, answer_to}

start : Held
start = record { guidance = fresh default; route = record { map = 0; number = 0 }; numbers = [] }

at_rest : VehicleState
at_rest = record {
  position_m = record { x = n0; y = n0; z = n0 };
  velocity_mps = record { x = n0; y = n0; z = n0 };
  roll_rad = n0;
  airspeed_mps = None;
}

-- a landing with copter requested, by this caller; then the skipper reads the mode
landing : ℕ → List Sent
landing who =
    record {
      caller = who;
      wants = call (guide n1 Regime.Copter Input.Land at_rest None);
    } ∷
    record { caller = 0; wants = mode } ∷
    []

-- whether the first report of the mode says that it is unsupported
unsupported : List Told → Bool
unsupported [] = false
unsupported (reported m ∷ rest) = is_some m.refusal
unsupported (_ ∷ rest) = unsupported rest

-- the report that the skipper gets in the list, and in the list without this caller's calls
first : ℕ → Bool
first who = unsupported (answers answer_to start (landing who))

without : ℕ → Bool
without who = unsupported (answers answer_to start (unmarked (marks (λ (k : Sent). eqb k.caller who) (landing who)) (landing who)))

told : List Bool
told = first 2 ∷ without 2 ∷ first 1 ∷ without 1 ∷ []

-- a watcher's landing changes no report; a deckhand's does
computed : told ≡ false ∷ false ∷ true ∷ false ∷ []
unfolding told first without unsupported landing start at_rest answers answer_to act marks unmarked may perform fresh
    default tecs_default reset finite Plane.flight_mode Plane.guided Plane.obeyed Plane.commanded Plane.cleared Plane.no_former Ieee.lt Ieee.le
    Ieee.eq of_bits
computed = refl
