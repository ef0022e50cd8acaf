-- The reports that a host reads of its guidance: the mode, 0 none, 1 unsupported; the stall guard, 1 where it stands. Definitions only.
use Rattle.std.specs.Prelude.{ℕ, cond, eqb, Option, Some, None}
use Rattle.refusals.specs.Numbers.{number}
use Rattle.refusals.specs.declared.Refusal.{Refusal}
use Rattle.refusals.specs.declared.Refusal.TheVariants as reason
use Rattle.guidance.specs.Plane.{flight_mode, stall_guard}
use Rattle.guidance.specs.declared.plane.PlaneGuidance.{PlaneGuidance}
use Rattle.guidance.specs.declared.plane.ModeRefusal.{ModeRefusal}
use Rattle.guidance.specs.declared.plane.ModeRefusal.TheVariants as why
use Rattle.rights.specs.Rights.{may}
use Rattle.rights.specs.declared.Deed.{Deed}
use Rattle.rights.specs.declared.Deed.TheVariants as deed
use Rattle.host.specs.declared.mode.Report.{Report}

abbrev pub refusal_of : Option ModeRefusal → ℕ
refusal_of None = 0
refusal_of (Some why.Unsupported) = 1

abbrev pub mode_value : PlaneGuidance → ℕ
mode_value g = refusal_of (flight_mode g).refusal

abbrev pub guard_value : PlaneGuidance → ℕ
guard_value g = cond (stall_guard g) 1 0

-- 0 the mode report, 1 the stall guard's: the row of the table of rights
unfoldable pub deed_of : ℕ → Deed
deed_of what = cond (eqb what 0) deed.ModeReport (cond (eqb what 1) deed.GuardReport deed.Other)

abbrev pub told : ℕ → Report
told value = record { refusal = 0; value = value }

abbrev pub refused : Refusal → Report
refused why = record { refusal = number why; value = 0 }

-- any other number than these is refused with 255, which is none of document 01's numbers
abbrev pub reported : PlaneGuidance → Deed → Report
reported g deed.ModeReport = told (mode_value g)
reported g deed.GuardReport = told (guard_value g)
reported g d = refused reason.UnknownRequest

-- "13: the caller lacks the right, before every other check"
unfoldable pub report_by : PlaneGuidance → ℕ → ℕ → Report
report_by g caller what = cond (may caller (deed_of what)) (reported g (deed_of what)) (refused reason.NoRight)
