-- What holds in each turn of the loop that draws: the points so far, followed by what the buffer held. Assumes nothing.
use Rattle.std.specs.Prelude.{Some, None, Result, Ok, Err}
use mathlib.Core.Path.{◌≡◌, refl, sym, ap, ◌∙◌}
use mathlib.Core.List.{List, [], ◌∷◌, ◌++◌, append_assoc, append-nil}
use Prim.Native.Nat.{ℕ, suc, ◌+◌, ◌-◌, ◌*◌, ◌<◌, ◌≤◌}
use native.Mathlib.Omega.{arith}
use native.Mathlib.Nat.{sub-zero}
use borrow.Rule.Slice.PartMut.{put_mid, Post-is}
use lib.Ieee.{Float}
use lib.ListN.{length, take, drop, length-append, length-drop, take-append-drop}
use lib.Seq.{take_all, take_at, drop_at, drop-length, length-take-le}
use Rattle.laws.specs.declared.types.Vec3.{Vec3}
use Rattle.guidance.specs.Plane.{WaypointCall}
use Rattle.path.specs.Model.{step, moved, whether_moved}
use Rattle.path.specs.Path.{Path, none, stopped_here, onward, next, path, numbers_of, put, stop_after, told}
use Rattle.path.specs.declared.model.Model.{Model}
use Rattle.path.specs.declared.model.Stop.{Stop}

-- the rest of a buffer, as a part of it is lent
rest_is : (s : List Float) (at : ℕ) → take (length s - at) (drop at s) ≡ drop at s
rest_is s at = take_all (length s - at) (drop at s) (simp length-drop (omega arith))

-- the rest of a buffer, lent and come back as p
rest_back : (out p : List Float) (at : ℕ) → at ≤ length out → put_mid at (length out - at) out p ≡ take at out ++ p
rest_back out p at h = rw (Post-is at (length out) out h, drop-length out, append-nil p)

-- ---- the path from a model, by its next step

pub moves : (n : ℕ) (k : WaypointCall) (m after : Model) → Ok after ≡ step k m → path (suc n) k m ≡ onward after.state.position_m (path n k after)
unfolding path
moves n k m after e = rw (sym e)

pub stops : (n : ℕ) (k : WaypointCall) (m : Model) (why : Stop) → Err why ≡ step k m → path (suc n) k m ≡ stopped_here why
unfolding path
stops n k m why e = rw (sym e)

-- what a step gave, by what it did in place
stopped_step : (r : Result Model Stop) (why : Stop) → Err why ≡ whether_moved r → Err why ≡ r
stopped_step (Ok next) why e = cc
stopped_step (Err w) why e = cc

moved_step : (m after : Model) (r : Result Model Stop) → after ≡ moved m r → Ok tt ≡ whether_moved r → Ok after ≡ r
moved_step m after (Ok next) is ok = ap Ok is
moved_step m after (Err why) is ok = cc

path_none : (k : WaypointCall) (m : Model) → path 0 k m ≡ none
unfolding path
path_none k m = refl

put_none : (out : List Float) → put [] out ≡ out
unfolding put
put_none out = refl

put_next : (p : Vec3) (ps : List Vec3) (out : List Float) → put (p ∷ ps) out ≡ numbers_of p ++ put ps (drop 3 out)
unfolding put
put_next p ps out = refl

-- ---- the loop

-- what is left to do, m being the model after n steps
pub record Drawing (k : WaypointCall) (steps : ℕ) (out₀ : List Float) (m₀ : Model) (out : List Float) (m : Model) (n : ℕ) : Type 0 where
  pub long : length out ≡ length out₀
  pub numbers : take (3 * n) out ++ put (path (steps - n) k m).points (drop (3 * n) out) ≡ put (path steps k m₀).points out₀
  pub count : n + length (path (steps - n) k m).points ≡ length (path steps k m₀).points
  pub stopped : (path (steps - n) k m).stopped ≡ (path steps k m₀).stopped

pub starts : (k : WaypointCall) (steps : ℕ) (out : List Float) (m : Model) → Drawing k steps out m out m 0
starts k steps out m = record {
  long = refl;
  numbers = rw (sub-zero steps);
  count = rw (sub-zero steps) (omega arith);
  stopped = rw (sub-zero steps);
}

module _ {k : WaypointCall} {steps : ℕ} {out₀ : List Float} {m₀ : Model} {out : List Float} {m : Model} {n : ℕ} (d : Drawing k steps out₀ m₀ out m n) where
  no_more : n + 0 ≡ n
  no_more = omega arith

  -- where the path ends, nothing more is put
  ended : (p : Path) → path (steps - n) k m ≡ p → p.points ≡ [] →
      (record { drawn = n; stopped = stop_after n p.stopped } ≡ told (path steps k m₀)) × (out ≡ put (path steps k m₀).points out₀)
  ended p e z =
      let all : n ≡ length (path steps k m₀).points =
      sym (ap (λ (ps : List Vec3). n + length ps) (ap (λ (q : Path). q.points) e ∙ z) ∙ no_more) ∙ d.count in
      let why : p.stopped ≡ (path steps k m₀).stopped = ap (λ (q : Path). q.stopped) (sym e) ∙ d.stopped in (
        rw (why, all),
        sym (ap (λ (ps : List Vec3). take (3 * n) out ++ put ps (drop (3 * n) out)) (ap (λ (q : Path). q.points) e ∙ z)
            ∙ rw (put_none (drop (3 * n) out)) (take-append-drop (3 * n) out)) ∙ d.numbers,
      )

  pub done : n ≡ steps → (record { drawn = steps; stopped = None } ≡ told (path steps k m₀)) × (out ≡ put (path steps k m₀).points out₀)
  done h =
      let z : steps - n ≡ 0 = omega arith in
      let p = ended none (rw z (path_none k m)) refl in
      (ap (λ (x : ℕ). record { drawn = x; stopped = None }) (sym h) ∙ p.0, p.1)

  module _ (more : n < steps) where
    left : steps - n ≡ suc (steps - (n + 1))
    left = omega arith

    pub halt : (why : Stop) → Err why ≡ whether_moved (step k m) →
        (record { drawn = n; stopped = Some (record { step = n + 1; why = why }) } ≡ told (path steps k m₀))
        × (out ≡ put (path steps k m₀).points out₀)
    halt why e = ended (stopped_here why) (rw left (stops (steps - (n + 1)) k m why (stopped_step (step k m) why e))) refl

    module _ (room : 3 * steps ≤ length out₀) (after : Model) (is : after ≡ moved m (step k m)) (ok : Ok tt ≡ whether_moved (step k m)) where
      abbrev point : Vec3
      point = after.state.position_m

      abbrev rest : Path
      rest = path (steps - (n + 1)) k after

      onward_is : path (steps - n) k m ≡ onward point rest
      onward_is = rw left (moves (steps - (n + 1)) k m after (moved_step m after (step k m) is ok))

      abbrev front : List Float
      front = take (3 * n) out ++ numbers_of point

      here : 3 * n ≤ length out
      here = omega (arith, d.long, room)

      front_long : length front ≡ 3 * (n + 1)
      front_long = rw (length-append (take (3 * n) out) (numbers_of point), length-take-le (3 * n) out here) (omega arith)

      one_more : n + 1 + length rest.points ≡ n + suc (length rest.points)
      one_more = omega arith

      -- the buffer after the turn: the point stands where the rest of the buffer began
      onto : (out₁ : List Float) → out₁ ≡ take (3 * n) out ++ (numbers_of point ++ drop 3 (drop (3 * n) out)) →
          Drawing k steps out₀ m₀ out₁ after (n + 1)
      onto out₁ e₁ =
          let behind : List Float = drop 3 (drop (3 * n) out) in
          let as_front : out₁ ≡ front ++ behind = e₁ ∙ sym (append_assoc (take (3 * n) out) (numbers_of point) behind) in
          record {
            long = rw (as_front, length-append front behind, front_long, length-drop 3 (drop (3 * n) out), length-drop (3 * n) out) (omega (arith, d.long, room));
            numbers =
                rw (as_front, take_at front behind (3 * (n + 1)) front_long, drop_at front behind (3 * (n + 1)) front_long)
                (append_assoc (take (3 * n) out) (numbers_of point) (put rest.points behind)
                ∙ ap (λ (l : List Float). take (3 * n) out ++ l) (sym (put_next point rest.points (drop (3 * n) out)))
                ∙ ap (λ (p : Path). take (3 * n) out ++ put p.points (drop (3 * n) out)) (sym onward_is)
                ∙ d.numbers);
            count = one_more ∙ ap (λ (p : Path). n + length p.points) (sym onward_is) ∙ d.count;
            stopped = ap (λ (p : Path). p.stopped) (sym onward_is) ∙ d.stopped;
          }

      pub turn : (last : List Float) → last ≡ numbers_of point ++ drop 3 (take (length out - 3 * n) (drop (3 * n) out)) →
          Drawing k steps out₀ m₀ (put_mid (3 * n) (length out - 3 * n) out last) after (n + 1)
      turn last e = onto _ (rest_back out last (3 * n) here ∙ rw (e, rest_is out (3 * n)))
