-- A call by the skipper, or by any caller who has the right, is the call without a caller. Assumes nothing.
use Prim.Native.Nat.{ℕ}
use mathlib.Core.Path.{◌≡◌, refl}
use mathlib.Core.Bool.{true}
use mathlib.Core.List.{List}
use lib.Ieee.{Float}
use Rattle.guidance.specs.declared.plane.PlaneGuidance.{PlaneGuidance}
use Rattle.route_records.specs.Record.{load_answer, load_buffer, write_answer, write_buffer}
use Rattle.rights.specs.Rights.{may}
use Rattle.rights.specs.declared.Deed.TheVariants as deed
use Rattle.rights_claims.specs.Skipper.{skipper}
use Rattle.rights_claims.proofs.Skipper.{may_all}
use Rattle.host_answers.specs.Place.{place_of}
use Rattle.host.specs.Run as running
use Rattle.host.specs.Run.{run, run_by}
use Rattle.host.specs.Mode as reports
use Rattle.host.specs.Mode.{reported, report_by}
use Rattle.host_routes.specs.Route.{loaded_of, run_route, run_route_by, load_by, load_buffer_by, write_by, write_buffer_by}
use Rattle.host_routes.specs.declared.route.RouteNumbers.{RouteNumbers}
use Rattle.host_claims.specs.Skipper.{CarriedOut, ActsAsSkipper}

runs : (caller : ℕ) (g : PlaneGuidance) (what : ℕ) (bytes : List ℕ) → may caller (running.deed_of what) ≡ true →
    run_by g caller what bytes ≡ run g what bytes
unfolding run_by
runs caller g what bytes e = rw (e) refl

reported_by : (caller : ℕ) (g : PlaneGuidance) (what : ℕ) → may caller (reports.deed_of what) ≡ true →
    report_by g caller what ≡ reported g (reports.deed_of what)
unfolding report_by
reported_by caller g what e = rw (e) refl

flies : (caller : ℕ) (g : PlaneGuidance) (k : RouteNumbers) (numbers : List Float) → may caller deed.RouteCall ≡ true →
    run_route_by g caller k numbers ≡ run_route g k numbers
unfolding run_route_by
flies caller g k numbers e = rw (e) refl

loads : (caller : ℕ) (s : List ℕ) (at : ℕ) (out : List Float) → may caller deed.LoadRoute ≡ true →
    (load_by caller s at out ≡ loaded_of (load_answer s at out)) × (load_buffer_by caller s at out ≡ load_buffer s at out)
unfolding load_by load_buffer_by
loads caller s at out e = rw (e) (refl, refl)

writes : (caller : ℕ) (out : List ℕ) (at map : ℕ) (numbers : List Float) → may caller deed.WriteRoute ≡ true →
    (write_by caller out at map numbers ≡ place_of (write_answer out at map numbers))
    × (write_buffer_by caller out at map numbers ≡ write_buffer out at map numbers)
unfolding write_by write_buffer_by
writes caller out at map numbers e = rw (e) (refl, refl)

carried_out : (caller : ℕ) → CarriedOut caller
carried_out caller = record {
  runs = runs caller;
  reports = reported_by caller;
  flies = flies caller;
  loads = loads caller;
  writes = writes caller;
}

pub holds : ActsAsSkipper
holds = record {
  may_all = may_all;
  runs = λ g what bytes. runs skipper g what bytes (may_all (running.deed_of what));
  reports = λ g what. reported_by skipper g what (may_all (reports.deed_of what));
  flies = λ g k numbers. flies skipper g k numbers (may_all deed.RouteCall);
  loads = λ s at out. loads skipper s at out (may_all deed.LoadRoute);
  writes = λ out at map numbers. writes skipper out at map numbers (may_all deed.WriteRoute);
  carried_out = carried_out;
}
