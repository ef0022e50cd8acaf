-- A record's call as a call on a guidance, and what carrying it out gives. Definitions only.
use Rattle.std.specs.Prelude.{Option, None, Some, Float, Result}
use Rattle.arithmetic.specs.Constants.{n0}
use Rattle.refusals.specs.declared.Refusal.{Refusal}
use Rattle.guidance.specs.declared.plane.Answer.{Answer}
use Rattle.laws.specs.declared.types.VehicleState.{VehicleState}
use Rattle.laws.specs.declared.types.ControlInput.{ControlInput}
use Rattle.laws.specs.declared.types.ControlInput.TheVariants as Input
use Rattle.guidance.specs.declared.plane.GuideCall.{GuideCall}
use Rattle.claims.specs.Calls.{Call, guide, prime, Reply, answered, done, Outcome}
use Rattle.records.specs.declared.call.Call.{Call as Read}
use Rattle.records.specs.declared.call.Call.TheVariants as read
use Rattle.calls.specs.declared.Performed.{Performed}

-- sensors and cap of a command that reads none
abbrev pub unsensed : VehicleState
unsensed = record {
  position_m = record { x = n0; y = n0; z = n0 };
  velocity_mps = record { x = n0; y = n0; z = n0 };
  roll_rad = n0;
  airspeed_mps = None;
}

abbrev pub no_cap : Option Float
no_cap = None

-- the call that a record carries
abbrev pub call_of : Read → Call
call_of read.Prime = prime
call_of (read.Attitude r dt c) = guide dt r (Input.Attitude c) unsensed no_cap
call_of (read.Rate r dt c) = guide dt r (Input.Rate c) unsensed no_cap
call_of (read.Waypoint r dt c s cap) = guide dt r (Input.Waypoint c) s cap
call_of (read.AbsoluteAttitude r dt c) = guide dt r (Input.AbsoluteAttitude c) unsensed no_cap
call_of (read.Land r dt) = guide dt r Input.Land unsensed no_cap
call_of (read.AbsoluteRate r dt c) = guide dt r (Input.AbsoluteRate c) unsensed no_cap

-- ---- the code's own values

abbrev pub guide_of : GuideCall ControlInput → Call
guide_of k = guide k.dt k.regime k.command k.state k.cap

abbrev pub as_call : Option (GuideCall ControlInput) → Call
as_call None = prime
as_call (Some k) = guide_of k

abbrev pub as_reply : Option (Result Answer Refusal) → Reply
as_reply (Some a) = answered a
as_reply None = done

abbrev pub as_outcome : Performed → Outcome
as_outcome o = record { reply = as_reply o.reply; next = o.guidance }
