-- A call is struck by its answer as by its own numbers. Assumes nothing.
use Rattle.std.specs.Prelude.{Option, Float, Ok}
use mathlib.Core.Path.{◌≡◌, refl}
use mathlib.Core.Bool.{Bool, true, false, cond, not}
use lib.Dec.{eqb}
use Rattle.refusals.specs.Numbers.{number}
use Rattle.refusals.specs.declared.Refusal.{Refusal}
use Rattle.refusals.specs.declared.Refusal.TheVariants as reason
use Rattle.laws.specs.declared.types.WaypointCommand.{WaypointCommand}
use Rattle.laws.specs.declared.types.ControlInput.{ControlInput}
use Rattle.laws.specs.declared.types.ControlInput.TheVariants as Input
use Rattle.laws.specs.declared.types.FlightRegime.{FlightRegime}
use Rattle.laws.specs.declared.types.VehicleState.{VehicleState}
use Rattle.guidance.specs.Plane.{bad_time_step, bad_cap, all_finite, vertical, vertical_law, refusal, commanded, waypoint, obeyed, guided}
use Rattle.guidance.specs.declared.plane.PlaneGuidance.{PlaneGuidance}
use Rattle.guidance.specs.declared.plane.VerticalLaw.{VerticalLaw}
use Rattle.guidance.specs.declared.plane.VerticalLaw.TheVariants.{Energy, Hold, Fallback}
use Rattle.guidance.specs.declared.plane.WaypointAnswer.{WaypointAnswer}
use Rattle.guidance.specs.declared.plane.Answer.TheVariants as Answered
use Rattle.guidance.specs.declared.plane.Guided.{Guided}
use Rattle.claims.specs.Calls.{Call, guide, answered, perform, refused, fell_back, struck}
use Rattle.records.specs.declared.call.Call.{Call as Read}
use Rattle.records.specs.declared.call.Call.TheVariants as read
use Rattle.calls.specs.Calls.{call_of, unsensed, no_cap}
use Rattle.compaction.specs.declared.Judged.{Judged}
use Rattle.compaction.specs.Code.Steps.{judgement, judged_answer, judged}

-- what the marks of demand 3 say of a call that was refused or not
abbrev pub marked : Bool → Call → Bool → Judged
marked before k r = judgement (struck before k r) (fell_back before k r)

module _ (before : Bool) (dt : Float) (regime : FlightRegime) (s : VehicleState) (cap : Option Float) where
  record Agrees (i : ControlInput) (o : Guided) : Type 0 where
    is : judged_answer before o.answer ≡ marked before (guide dt regime i s cap) (refused (answered o.answer))

  either : {i : ControlInput} (b : Bool) {x y : Guided} → Agrees i x → Agrees i y → Agrees i (cond b x y)
  either true p q = p
  either false p q = q

  by_refusal : (i : ControlInput) (g : PlaneGuidance) (why : Refusal) → not (eqb (number why) 0) ≡ true → Agrees i (refusal g why)
  by_refusal i g why e = record { is = rw e }

  by_law : (w : WaypointCommand) (g : PlaneGuidance) (a : WaypointAnswer) (l : VerticalLaw) → vertical_law dt w s ≡ l → a.laws.vertical ≡ l
      → Agrees (Input.Waypoint w) (record { guidance = g; answer = Ok (Answered.Waypoint a) })
  by_law w g a Energy e q = record { is = rw (q, e) }
  by_law w g a Hold e q = record { is = rw (q, e) }
  by_law w g a Fallback e q = record { is = rw (q, e) }

  agrees : (g : PlaneGuidance) (i : ControlInput) → Agrees i (guided g dt regime i s cap)
  unfolding guided obeyed commanded waypoint
  agrees g (Input.Attitude k) = either (bad_time_step dt) (by_refusal _ g reason.TimeStep refl) (record { is = refl })
  agrees g (Input.Rate k) = either (bad_time_step dt) (by_refusal _ g reason.TimeStep refl) (record { is = refl })
  agrees g (Input.Waypoint w) =
      either (bad_time_step dt) (by_refusal _ g reason.TimeStep refl)
      (either (bad_cap cap) (by_refusal _ g reason.PitchCap refl)
      (either (all_finite (vertical (vertical_law dt w s) g.config g.altitude g.tecs dt w s cap))
      (by_law w _ _ (vertical_law dt w s) refl refl) (by_refusal _ g reason.NotFinite refl)))
  agrees g (Input.AbsoluteAttitude k) = either (bad_time_step dt) (by_refusal _ g reason.TimeStep refl) (record { is = refl })
  agrees g Input.Land = either (bad_time_step dt) (by_refusal _ g reason.TimeStep refl) (record { is = refl })
  agrees g (Input.AbsoluteRate k) = either (bad_time_step dt) (by_refusal _ g reason.TimeStep refl) (record { is = refl })

-- a recorded call is judged as demand 3 marks it
pub judged_is : (before : Bool) (g : PlaneGuidance) (c : Read) → judged before (perform g (call_of c)).reply ≡ marked before (call_of c) (refused (perform g (call_of c)).reply)
unfolding perform
judged_is before g read.Prime = refl
judged_is before g (read.Attitude r dt c) = (agrees before dt r unsensed no_cap g (Input.Attitude c)).is
judged_is before g (read.Rate r dt c) = (agrees before dt r unsensed no_cap g (Input.Rate c)).is
judged_is before g (read.Waypoint r dt c s cap) = (agrees before dt r s cap g (Input.Waypoint c)).is
judged_is before g (read.AbsoluteAttitude r dt c) = (agrees before dt r unsensed no_cap g (Input.AbsoluteAttitude c)).is
judged_is before g (read.Land r dt) = (agrees before dt r unsensed no_cap g Input.Land).is
judged_is before g (read.AbsoluteRate r dt c) = (agrees before dt r unsensed no_cap g (Input.AbsoluteRate c)).is
