-- Document 02, K4: the points of the written-out model, step by step, the answer and the lent buffer. Definitions only.
use Rattle.std.specs.Prelude.{ℕ, zero, suc, ◌+◌, ◌*◌, Bool, cond, ◌||◌, List, [], ◌∷◌, ◌++◌, eqb, ltb, Float, Option, Some, None, Result, Ok, Err, length, drop}
use Rattle.refusals.specs.Numbers.{number}
use Rattle.refusals.specs.declared.Refusal.{Refusal}
use Rattle.refusals.specs.declared.Refusal.TheVariants as refusal
use Rattle.laws.specs.declared.types.Vec3.{Vec3}
use Rattle.guidance.specs.Plane.{WaypointCall}
use Rattle.guidance.specs.declared.plane.PlaneGuidance.{PlaneGuidance}
use Rattle.path.specs.Model.{step, stop_number}
use Rattle.path.specs.declared.model.Model.{Model}
use Rattle.path.specs.declared.model.Stop.{Stop}
use Rattle.path.specs.declared.draw.Drawn.{Drawn}
use Rattle.path.specs.declared.draw.Stopped.{Stopped}

-- ---- the path

-- the points that are drawn; if not each step was, why the next one stopped
pub record Path : Type 0 where
  pub points : List Vec3
  pub stopped : Option Stop

abbrev pub none : Path
none = record { points = []; stopped = None }

-- nothing is drawn for the step that stops
abbrev pub stopped_here : Stop → Path
stopped_here why = record { points = []; stopped = Some why }

abbrev pub onward : Vec3 → Path → Path
onward p rest = record { points = p ∷ rest.points; stopped = rest.stopped }

-- by what the next step gives, and the path from each model
abbrev pub next : Result Model Stop → (Model → Path) → Path
next (Ok m) rest = onward m.state.position_m (rest m)
next (Err why) rest = stopped_here why

-- n steps from a model: the path stops at the first refusal, or position or velocity number that isn't finite
unfoldable pub path : ℕ → WaypointCall → Model → Path
path zero k m = none
path (suc n) k m = next (step k m) (path n k)

-- the model starts from the guidance and the call's own sensors
abbrev pub start : PlaneGuidance → WaypointCall → Model
start g k = record { guidance = g; state = k.state }

-- ---- the buffer

-- Points go as north, east, height.
abbrev pub numbers_of : Vec3 → List Float
numbers_of p = p.x ∷ p.y ∷ p.z ∷ []

-- the rest of the buffer is kept
unfoldable pub put : List Vec3 → List Float → List Float
put [] out = out
put (p ∷ ps) out = numbers_of p ++ put ps (drop 3 out)

-- ---- refusals, in checking order

-- Number 12: the step count is 0 or above 600.
abbrev pub bad_steps : ℕ → Bool
bad_steps n = eqb n 0 || ltb 600 n

-- Number 8: the buffer has fewer than 3 numbers a step.
abbrev pub too_short : ℕ → ℕ → Bool
too_short room n = ltb room (3 * n)

-- the step that stopped is counted from 1
abbrev pub stop_after : ℕ → Option Stop → Option Stopped
stop_after n None = None
stop_after n (Some why) = Some (record { step = n + 1; why = why })

abbrev pub told : Path → Drawn
told p = record { drawn = length p.points; stopped = stop_after (length p.points) p.stopped }

-- the answer, by how many numbers the buffer has
unfoldable pub answer : PlaneGuidance → WaypointCall → ℕ → ℕ → Result Drawn Refusal
answer g k n room =
    cond (bad_steps n) (Err refusal.StepCount)
    (cond (too_short room n) (Err refusal.TooLittleRoom)
    (Ok (told (path n k (start g k)))))

-- the buffer afterwards; 12 and 8 keep every number of it
unfoldable pub buffer : PlaneGuidance → WaypointCall → ℕ → List Float → List Float
buffer g k n out = cond (bad_steps n) out (cond (too_short (length out) n) out (put (path n k (start g k)).points out))

-- ---- document 02's numbers of an answer

-- 0, 12 or 8
abbrev pub refusal_number : Result Drawn Refusal → ℕ
refusal_number (Ok d) = 0
refusal_number (Err why) = number why

-- 0, or the step at which the path stopped
abbrev pub step_number : Option Stopped → ℕ
step_number None = 0
step_number (Some s) = s.step

-- that step's refusal, 0 for a number that isn't finite
abbrev pub reason_number : Option Stopped → ℕ
reason_number None = 0
reason_number (Some s) = stop_number s.why
