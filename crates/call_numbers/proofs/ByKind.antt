-- A call by its kind's name is the call by its number. Assumes nothing.
use Rattle.std.proofs.Common.{arith, ℕ, zero, suc, ◌≡◌, refl, cond, eqb, Result, Ok, Err}
use Rattle.refusals.specs.declared.Refusal.{Refusal}
use Rattle.records.specs.Call.{kind_of}
use Rattle.records.specs.declared.call.Call.{Call}
use Rattle.records.specs.declared.call.Call.TheVariants as call
use Rattle.records.specs.declared.call.Kind.{Kind}
use Rattle.records.specs.declared.call.Kind.TheVariants as kind
use Rattle.call_numbers.specs.Call.{regime_of, waypoint_of, from_numbers}
use Rattle.call_numbers.specs.declared.CallNumbers.{CallNumbers}

abbrev pub of_kind : CallNumbers → Result Kind Refusal → Call
of_kind k (Ok kind.Prime) = call.Prime
of_kind k (Ok kind.Attitude) = call.Attitude (regime_of k.regime) k.dt (record { throttle = k.third; roll = k.first; pitch = k.second })
of_kind k (Ok kind.Rate) =
    call.Rate (regime_of k.regime) k.dt (record { throttle = k.fourth; roll_rate = k.first; pitch_rate = k.second; yaw_rate = k.third })
of_kind k (Ok kind.Waypoint) = waypoint_of k
of_kind k (Ok kind.AbsoluteAttitude) =
    call.AbsoluteAttitude (regime_of k.regime) k.dt (record { roll_rad = k.first; pitch_rad = k.second; thrust = k.third })
of_kind k (Ok kind.Land) = call.Land (regime_of k.regime) k.dt
of_kind k (Ok kind.AbsoluteRate) =
    call.AbsoluteRate (regime_of k.regime) k.dt
    (record { roll_radps = k.first; pitch_radps = k.second; yaw_radps = k.third; thrust = k.fourth })
of_kind k (Err e) =
    call.AbsoluteRate (regime_of k.regime) k.dt
    (record { roll_radps = k.first; pitch_radps = k.second; yaw_radps = k.third; thrust = k.fourth })

pub by_kind : (k : CallNumbers) → from_numbers k ≡ of_kind k (kind_of k.kind)
unfolding from_numbers
by_kind k = go k.kind
  where
    go : (n : ℕ) →
        cond (eqb n 0) (of_kind k (Ok kind.Prime))
        (cond (eqb n 1) (of_kind k (Ok kind.Attitude))
        (cond (eqb n 2) (of_kind k (Ok kind.Rate))
        (cond (eqb n 3) (of_kind k (Ok kind.Waypoint))
        (cond (eqb n 4) (of_kind k (Ok kind.AbsoluteAttitude))
        (cond (eqb n 5) (of_kind k (Ok kind.Land))
        (of_kind k (Ok kind.AbsoluteRate))))))) ≡ of_kind k (kind_of n)
    go zero = refl
    go (suc zero) = refl
    go (suc (suc zero)) = refl
    go (suc (suc (suc zero))) = refl
    go (suc (suc (suc (suc zero)))) = refl
    go (suc (suc (suc (suc (suc zero))))) = refl
    go (suc (suc (suc (suc (suc (suc zero)))))) = refl
    go (suc (suc (suc (suc (suc (suc (suc n))))))) = grind (arith)
