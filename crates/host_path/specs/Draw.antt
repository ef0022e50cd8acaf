-- The drawn path for a host: a waypoint call as numbers, and no other command. Definitions only.
use Rattle.std.specs.Prelude.{ℕ, cond, List, eqb, ltb, Float, Option, Result, Ok, Err}
use Rattle.refusals.specs.declared.Refusal.{Refusal}
use Rattle.refusals.specs.declared.Refusal.TheVariants as why
use Rattle.guidance.specs.declared.plane.PlaneGuidance.{PlaneGuidance}
use Rattle.path.specs.Path.{answer, buffer, refusal_number, step_number, reason_number}
use Rattle.path.specs.declared.draw.Drawn.{Drawn as Path}
use Rattle.path.specs.declared.draw.Stopped.{Stopped}
use Rattle.host_path.specs.declared.Drawn.{Drawn}
use Rattle.call_numbers.specs.Call.{waypoint_call}
use Rattle.call_numbers.specs.declared.CallNumbers.{CallNumbers}

-- a refusal with its number: nothing is drawn
abbrev pub refused : Refusal → Drawn
refused why = record { refusal = refusal_number (Err why); reason = 0; drawn = 0; stopped = 0 }

-- how many points were drawn, and the step that stopped the path, with its reason
abbrev pub ended : ℕ → Option Stopped → Drawn
ended drawn s = record { refusal = 0; reason = reason_number s; drawn = drawn; stopped = step_number s }

abbrev pub drawn_of : Result Path Refusal → Drawn
drawn_of (Err why) = refused why
drawn_of (Ok p) = ended p.drawn p.stopped

-- 255 for another kind, 7 for a regime above 1, before 12 and 8; by how many numbers the buffer has
unfoldable pub path_answer : PlaneGuidance → CallNumbers → ℕ → ℕ → Drawn
path_answer g k steps room =
    cond (eqb k.kind 3) (cond (ltb 1 k.regime) (refused why.UnknownKind) (drawn_of (answer g (waypoint_call k) steps room))) (refused why.UnknownRequest)

-- every refusal keeps the buffer
unfoldable pub path_buffer : PlaneGuidance → CallNumbers → ℕ → List Float → List Float
path_buffer g k steps out = cond (eqb k.kind 3) (cond (ltb 1 k.regime) out (buffer g (waypoint_call k) steps out)) out
