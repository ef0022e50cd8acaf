-- A route call: "before that it moves on by one point when .."; then the leg to the point reached is flown. Definitions only.
use Rattle.std.specs.Prelude.{Bool, false, cond, List, [], ◌∷◌, ℕ, zero, suc, ◌+◌, ◌-◌, ◌*◌, eqb, leb, length, drop, get_or, map, Float, Option, Some, None, Result, Ok, Err, is_ok, ⊤}
use Rattle.std.specs.Float.Ieee as Ieee
use Rattle.std.specs.Float.{nan}
use Rattle.std.specs.Result.{result_and}
use Rattle.refusals.specs.declared.Refusal.{Refusal}
use Rattle.refusals.specs.declared.Refusal.TheVariants as refusal
use Rattle.arithmetic.specs.Constants.{n0}
use Rattle.arithmetic.specs.Vector.{difference, norm, dot}
use Rattle.arithmetic.specs.declared.vector.Vec2.{Vec2}
use Rattle.laws.specs.Types.{north_east}
use Rattle.laws.specs.declared.types.ControlInput.TheVariants as Input
use Rattle.laws.specs.declared.types.WaypointCommand.{WaypointCommand}
use Rattle.fields.specs.Fields.{ones}
use Rattle.guidance.specs.Plane.{guided}
use Rattle.guidance.specs.declared.plane.PlaneGuidance.{PlaneGuidance}
use Rattle.guidance.specs.declared.plane.GuideCall.{GuideCall}
use Rattle.guidance.specs.declared.plane.Guided.{Guided}
use Rattle.route_records.specs.Record.{check_map, number_count}
use Rattle.routes.specs.declared.Point.{Point}
use Rattle.routes.specs.declared.Route.{Route}
use Rattle.routes.specs.declared.Flown.{Flown}

-- ---- points

-- "north, east, altitude, cruise speed", four numbers a point
unfoldable pub point_at : List Float → ℕ → Point
point_at v i = record {
  north_m = get_or v (4 * i) nan;
  east_m = get_or v (4 * i + 1) nan;
  altitude_m = get_or v (4 * i + 2) nan;
  cruise_speed_mps = get_or v (4 * i + 3) nan;
}

-- the first n points
unfoldable pub points_of : ℕ → List Float → List Point
points_of zero v = []
points_of (suc n) v = point_at v 0 ∷ points_of n (drop 4 v)

-- points as the code holds them, four numbers each
abbrev pub standing : List (List Float) → List Point
standing vs = map (λ v. point_at v 0) vs

-- what stands for a point where there is none
unfoldable pub no_point : Point
no_point = point_at [] 0

-- "Standing points are numbered from 1"
unfoldable pub numbered : List Point → ℕ → Point
numbered ps n = get_or ps (n - 1) no_point

-- ---- the test, by the number before the call

abbrev pub place : Point → Vec2
place p = record { x = p.north_m; y = p.east_m }

-- the position is at most the loiter radius from the point; NaN is not
unfoldable pub is_near : Point → Vec2 → Float → Bool
is_near p position radius = Ieee.le (norm (difference position (place p))) radius

-- the leg from the point before, point minus point
abbrev pub leg_to : Point → Point → Vec2
leg_to before p = difference (place p) (place before)

-- leg · (position - point) is at least 0; NaN is not
unfoldable pub is_passed : Point → Point → Vec2 → Bool
is_passed before p position = Ieee.le n0 (dot (leg_to before p) (difference position (place p)))

-- one past the last point it never moves on
unfoldable pub meets : Float → List Point → ℕ → Vec2 → Bool
meets radius ps n position =
    cond (eqb n 1) (is_near (numbered ps 1) position radius)
    (cond (leb n (length ps)) (is_passed (numbered ps (n - 1)) (numbered ps n) position)
    false)

-- the number that an accepted call reaches: "it moves on by one point"
unfoldable pub reached : Float → List Point → ℕ → Vec2 → ℕ
reached radius ps n position = cond (meets radius ps n position) (n + 1) n

-- ---- the waypoint of a number

abbrev pub fly_to : Point → Option Vec2 → WaypointCommand
fly_to p leg = record {
  position_m = place p;
  velocity_mps = leg;
  altitude_m = p.altitude_m;
  cruise_speed_mps = p.cruise_speed_mps;
}

-- "At 1 the first point is loitered at, one past the last the last point."
unfoldable pub waypoint_for : List Point → ℕ → WaypointCommand
waypoint_for ps n =
    cond (eqb n 1) (fly_to (numbered ps 1) None)
    (cond (leb n (length ps)) (fly_to (numbered ps n) (Some (leg_to (numbered ps (n - 1)) (numbered ps n))))
    (fly_to (numbered ps (length ps)) None))

-- ---- a route call

-- what comes with it; the waypoint is the route's
abbrev pub RouteCall : Type 0
RouteCall = GuideCall ⊤

-- a refused call keeps the number
unfoldable pub settled : ℕ → ℕ → Guided → Flown
settled kept wanted o = record { guidance = o.guidance; number = cond (is_ok o.answer) wanted kept; answer = o.answer }

-- the number that a call would reach, from number n of these points
abbrev pub wanted : PlaneGuidance → List Point → ℕ → RouteCall → ℕ
wanted g ps n call = reached g.config.loiter_radius_m ps n (north_east call.state.position_m)

-- the guidance's guide_capped for a number
abbrev pub guided_to : PlaneGuidance → List Point → ℕ → RouteCall → Guided
guided_to g ps n call = guided g call.dt call.regime (Input.Waypoint (waypoint_for ps n)) call.state call.cap

unfoldable pub route_call : PlaneGuidance → List Point → ℕ → RouteCall → Flown
route_call g ps n call = settled n (wanted g ps n call) (guided_to g ps (wanted g ps n call) call)

-- ---- a route that a host holds as numbers

-- a number of 0 counts as 1, one above one past the last point as that
unfoldable pub counted : ℕ → ℕ → ℕ
counted points number = cond (eqb number 0) 1 (cond (leb number (points + 1)) number (points + 1))

-- as a route's map is refused; then too few numbers for what it demands
unfoldable pub check_lent : ℕ → ℕ → Result (Unit {0}) Refusal
check_lent m long = result_and (check_map m) (cond (leb (number_count m) long) (Ok tt) (Err refusal.TooFewBytes))

-- refused numbers keep guidance and number
abbrev pub unless_refused : Result (Unit {0}) Refusal → PlaneGuidance → ℕ → Flown → Flown
unless_refused (Ok u) g number o = o
unless_refused (Err why) g number o = record { guidance = g; number = number; answer = Err why }

unfoldable pub fly : PlaneGuidance → Route → List Float → RouteCall → Flown
fly g route numbers call =
    let points = ones 64 route.map in
    let ps = points_of points numbers in
    let m = wanted g ps (counted points route.number) call in
    unless_refused (check_lent route.map (length numbers)) g route.number (settled route.number m (guided_to g ps m call))
