-- Document 01's number and values of each answer, as a host gets them. Definitions only.
use Rattle.std.specs.Prelude.{ℕ, cond, eqb, Float, Result, Ok, Err}
use Rattle.refusals.specs.Numbers.{number}
use Rattle.refusals.specs.declared.Refusal.{Refusal}
use Rattle.arithmetic.specs.Constants.{n0}
use Rattle.laws.specs.declared.types.Setpoint.{Setpoint}
use Rattle.laws.specs.declared.types.Setpoint.TheVariants as Set
use Rattle.claims.specs.Calls.{Reply, answered, done, field, back}
use Rattle.guidance.specs.declared.plane.LateralLaw.{LateralLaw}
use Rattle.guidance.specs.declared.plane.LateralLaw.TheVariants.{Track, Loiter, Idle}
use Rattle.guidance.specs.declared.plane.VerticalLaw.{VerticalLaw}
use Rattle.guidance.specs.declared.plane.VerticalLaw.TheVariants.{Energy, Hold, Fallback}
use Rattle.guidance.specs.declared.plane.Answer.{Answer}
use Rattle.guidance.specs.declared.plane.Answer.TheVariants.{Commanded, Waypoint}
use Rattle.host_answers.specs.declared.answer.RunAnswer.{RunAnswer}

-- no setpoint: a refusal's number, of number 1 its field, and the place after the record
unfoldable pub bare : ℕ → ℕ → ℕ → RunAnswer
bare refusal failing next = record {
  refusal = refusal;
  field = failing;
  setpoint = 0;
  lateral = 0;
  vertical = 0;
  roll = n0;
  pitch = n0;
  yaw = n0;
  thrust = n0;
  cross_track_m = n0;
  next = next;
}

-- 1 track, 2 loiter, 3 idle
abbrev pub lateral_number : LateralLaw → ℕ
lateral_number Track = 1
lateral_number Loiter = 2
lateral_number Idle = 3

-- 1 energy, 2 hold, 3 fallback
abbrev pub vertical_number : VerticalLaw → ℕ
vertical_number Energy = 1
vertical_number Hold = 2
vertical_number Fallback = 3

-- 1 plane setpoint: roll, pitch, thrust; 2 plane rate setpoint: roll, pitch, yaw, thrust
abbrev pub of_setpoint : Setpoint → ℕ → ℕ → Float → ℕ → RunAnswer
of_setpoint (Set.Plane roll pitch thrust) lateral vertical off next = record {
  refusal = 0;
  field = 0;
  setpoint = 1;
  lateral = lateral;
  vertical = vertical;
  roll = roll;
  pitch = pitch;
  yaw = n0;
  thrust = thrust;
  cross_track_m = off;
  next = next;
}
of_setpoint (Set.PlaneRate roll pitch yaw thrust) lateral vertical off next = record {
  refusal = 0;
  field = 0;
  setpoint = 2;
  lateral = lateral;
  vertical = vertical;
  roll = roll;
  pitch = pitch;
  yaw = yaw;
  thrust = thrust;
  cross_track_m = off;
  next = next;
}

-- a refusal with its number; a setpoint; a waypoint's setpoint with its two laws and the distance off its line, else +0
abbrev pub of_answer : Result Answer Refusal → ℕ → RunAnswer
of_answer (Err why) next = bare (number why) 0 next
of_answer (Ok (Commanded s)) next = of_setpoint s 0 0 n0 next
of_answer (Ok (Waypoint a)) next =
    of_setpoint a.setpoint (lateral_number a.laws.lateral) (vertical_number a.laws.vertical) a.cross_track_m next

-- number 1 with its field, where a field fails
unfoldable pub of_field : ℕ → ℕ → RunAnswer
of_field n next = cond (eqb n 0) (bare 0 0 next) (bare 1 n next)

abbrev pub of_reply : Reply → ℕ → RunAnswer
of_reply (answered a) next = of_answer a next
of_reply done next = bare 0 0 next
of_reply (field n) next = of_field n next
of_reply (back n) next = bare n 0 next
