-- Why K2's claim names accepted route calls that meet the test, and accepted loadings: of others it is false, by computation. Assumes nothing.
use Prim.Native.Nat.{ℕ}
use mathlib.Core.Path.{◌≡◌, refl}
use mathlib.Core.Bool.{Bool, true, false}
use mathlib.Core.List.{List, [], ◌∷◌, ◌++◌}
use lib.Ieee as Ieee
use lib.Ieee.{Float, of_bits, le, is_nan, to_bits}
use lib.ListN.{replicate}
use Rattle.arithmetic.specs.Constants.{n0, n1}
use Rattle.arithmetic.specs.Order.{least, greatest, clamp, finite}
use Rattle.arithmetic.specs.Root.{root_of}
use Rattle.arithmetic.specs.Vector.{norm, dot}
use Rattle.laws.specs.Config.{tecs_default, default, first_failing, validate}
use Rattle.laws.specs.Math.{limit_or_zero, clamp_symmetric}
use Rattle.laws.specs.Types.{valid_airspeed}
use Rattle.laws.specs.Navigation.{pi_pinned, pi_finite, pi_step}
use Rattle.laws.specs.Tecs.{reset}
use Rattle.config_numbers.specs.Numbers.{numbers_of, config_of}
use Rattle.fields.specs.Bytes.{number_at}
use Rattle.fields.specs.Fields.{ones, size_of, values_at, number_fields}
use Rattle.fields.specs.Numbers.{floats_of, bits_of}
use Rattle.guidance.specs.Plane as Plane
use Rattle.guidance.specs.Plane.{fresh}
use Rattle.records.specs.Config.{config_fields, read_config}
use Rattle.route_records.specs.Record as records
use Rattle.route_records.specs.Record.{number_count, check_map, one_map, read_maps, read_points, numbers_at, read_route, load_answer, load_buffer}
use Rattle.routes.specs.Route.{point_at, points_of, numbered, is_near, is_passed, meets, reached, waypoint_for, settled, counted, check_lent, fly}
use Rattle.call_numbers.specs.Call.{given}
use Rattle.rights.specs.Rights.{may}
use Rattle.host_answers.specs.Answer.{bare}
use Rattle.host.specs.Run as running
use Rattle.host.specs.Run.{run_by}
use Rattle.host_routes.specs.Route.{route_call_of, run_route, run_route_by, load_by, load_buffer_by}
use Rattle.host_claims.specs.Rights.{Held, run, route, load, Sent, step, refusal}
use Rattle.host_claims.specs.Routes.{meets_test}

-- nothing is loaded, and eight numbers are lent
start : Held
start = record { guidance = fresh default; map = 0; number = 0; numbers = replicate 8 n0 }

-- two points, the origin and 100 m north of it
load_pair : Sent
load_pair = record { caller = 0; asks = load (3 ∷ 0 ∷ 0 ∷ 0 ∷ (replicate 16 0 ++ (0 ∷ 0 ∷ 200 ∷ 66 ∷ replicate 12 0))) 0 }

-- a route record that is cut short
load_cut : Sent
load_cut = record { caller = 0; asks = load (3 ∷ 0 ∷ 0 ∷ 0 ∷ []) 0 }

-- a route call at rest at the origin, by this caller and with this time step
at_origin : ℕ → Float → Sent
at_origin who dt = record {
  caller = who;
  asks = route (record {
    map = 0;
    number = 0;
    regime = 1;
    dt = dt;
    position_m = record { x = n0; y = n0; z = n0 };
    velocity_mps = record { x = n0; y = n0; z = n0 };
    roll_rad = n0;
    has_airspeed = 0;
    airspeed_mps = n0;
    has_cap = 0;
    pitch_cap_rad = n0;
  });
}

-- a fresh guidance with the defaults
new : Sent
new = record { caller = 0; asks = run 2 (replicate 5 0) }

-- the number of each refusal, whether the test is met, and the route's number after it
walked : Held → List Sent → List (ℕ × Bool × ℕ)
walked h [] = []
walked h (k ∷ ks) = (refusal (step h k).answer, meets_test h k.asks, (step h k).left.number) ∷ walked (step h k).left ks

calls : List Sent
calls = load_pair ∷ at_origin 0 n0 ∷ at_origin 2 n1 ∷ at_origin 1 n1 ∷ at_origin 1 n1 ∷ new ∷ load_cut ∷ load_pair ∷ []

-- A route call that meets the test and is refused keeps the number, a watcher's too; so does an accepted one that does not meet it, a
-- fresh guidance, and a refused loading. Only the accepted loading at the end starts the route again.
computed :
    walked start calls
    ≡ (0, false, 1) ∷
    (2, true, 1) ∷
    (13, true, 1) ∷
    (0, true, 2) ∷
    (0, false, 2) ∷
    (0, false, 2) ∷
    (5, false, 2) ∷
    (0, false, 1) ∷
    []
unfolding walked start calls load_pair load_cut at_origin new fresh tecs_default default reset may load_by load_buffer_by load_answer load_buffer read_route
    read_maps one_map read_points number_count numbers_at number_at ones records.all_finite finite run_route_by run_route route_call_of given
    fly check_lent check_map counted points_of point_at settled reached meets is_near is_passed numbered waypoint_for norm dot root_of bare
    valid_airspeed limit_or_zero clamp_symmetric pi_pinned pi_finite pi_step least greatest clamp Plane.vertical_law Plane.on_energy_path
    Plane.limits_of Plane.top_thrust Plane.height_error Plane.fallback Plane.vertical Plane.all_finite Plane.waypoint Plane.obeyed Plane.guided
    run_by running.run running.run_new running.deed_of read_config config_fields size_of values_at number_fields numbers_of config_of floats_of bits_of
    first_failing validate Plane.created of_bits to_bits is_nan le Ieee.add Ieee.sub Ieee.mul Ieee.lt
computed = refl
