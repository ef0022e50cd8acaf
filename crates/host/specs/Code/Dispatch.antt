-- The code's own branch for changes: `run` and `run_by` without the case of a call record. Definitions only.
use Rattle.std.specs.Prelude.{ℕ, cond, List}
use Rattle.refusals.specs.declared.Refusal.TheVariants as why
use Rattle.guidance.specs.declared.plane.PlaneGuidance.{PlaneGuidance}
use Rattle.rights.specs.declared.Deed.{Deed}
use Rattle.rights.specs.declared.Deed.TheVariants as deed
use Rattle.host.specs.declared.run.Ran.{Ran}
use Rattle.host.specs.Run.{run_config, run_new, run_back, refused, deed_of, may_run}

abbrev pub change : PlaneGuidance → Deed → List ℕ → Ran
change g deed.SetConfig bytes = run_config g bytes
change g deed.New bytes = run_new g bytes
change g deed.TakeBack bytes = run_back g
change g d bytes = refused g why.UnknownRequest

unfoldable pub change_by : PlaneGuidance → ℕ → ℕ → List ℕ → Ran
change_by g caller what bytes = cond (may_run caller what) (change g (deed_of what) bytes) (refused g why.NoRight)
