-- K9: "Whatever replays records or draws a path acts as the skipper": by the skipper, each function that takes a caller gives what its
-- definition without a caller gives; so it does by any caller who has the right.
use Rattle.std.specs.Prelude.{ℕ, ◌≡◌, true, List, Float}
use Rattle.guidance.specs.declared.plane.PlaneGuidance.{PlaneGuidance}
use Rattle.route_records.specs.Record.{load_answer, load_buffer, write_answer, write_buffer}
use Rattle.rights.specs.Rights.{may}
use Rattle.rights.specs.declared.Deed.{Deed}
use Rattle.rights.specs.declared.Deed.TheVariants as deed
use Rattle.rights_claims.specs.Skipper.{skipper}
use Rattle.host_answers.specs.Place.{place_of}
use Rattle.host.specs.Run as running
use Rattle.host.specs.Run.{run, run_by}
use Rattle.host.specs.Mode as reports
use Rattle.host.specs.Mode.{reported, report_by}
use Rattle.host_routes.specs.Route.{loaded_of, run_route, run_route_by, load_by, load_buffer_by, write_by, write_buffer_by}
use Rattle.host_routes.specs.declared.route.RouteNumbers.{RouteNumbers}

-- Of a caller, where it may do the deed.
pub record CarriedOut (caller : ℕ) : Type 0 where
  pub runs :
      (g : PlaneGuidance) (what : ℕ) (bytes : List ℕ) → may caller (running.deed_of what) ≡ true → run_by g caller what bytes ≡ run g what bytes
  pub reports :
      (g : PlaneGuidance) (what : ℕ) → may caller (reports.deed_of what) ≡ true → report_by g caller what ≡ reported g (reports.deed_of what)
  pub flies :
      (g : PlaneGuidance) (k : RouteNumbers) (numbers : List Float) → may caller deed.RouteCall ≡ true →
      run_route_by g caller k numbers ≡ run_route g k numbers
  pub loads :
      (s : List ℕ) (at : ℕ) (out : List Float) → may caller deed.LoadRoute ≡ true →
      (load_by caller s at out ≡ loaded_of (load_answer s at out)) × (load_buffer_by caller s at out ≡ load_buffer s at out)
  pub writes :
      (out : List ℕ) (at map : ℕ) (numbers : List Float) → may caller deed.WriteRoute ≡ true →
      (write_by caller out at map numbers ≡ place_of (write_answer out at map numbers))
      × (write_buffer_by caller out at map numbers ≡ write_buffer out at map numbers)

pub record ActsAsSkipper : Type 0 where
  pub may_all : (d : Deed) → may skipper d ≡ true
  pub runs : (g : PlaneGuidance) (what : ℕ) (bytes : List ℕ) → run_by g skipper what bytes ≡ run g what bytes
  pub reports : (g : PlaneGuidance) (what : ℕ) → report_by g skipper what ≡ reported g (reports.deed_of what)
  pub flies : (g : PlaneGuidance) (k : RouteNumbers) (numbers : List Float) → run_route_by g skipper k numbers ≡ run_route g k numbers
  pub loads :
      (s : List ℕ) (at : ℕ) (out : List Float) →
      (load_by skipper s at out ≡ loaded_of (load_answer s at out)) × (load_buffer_by skipper s at out ≡ load_buffer s at out)
  pub writes :
      (out : List ℕ) (at map : ℕ) (numbers : List Float) →
      (write_by skipper out at map numbers ≡ place_of (write_answer out at map numbers))
      × (write_buffer_by skipper out at map numbers ≡ write_buffer out at map numbers)
  pub carried_out : (caller : ℕ) → CarriedOut caller
