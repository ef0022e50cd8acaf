-- K9 of every list of what a host hands to the functions that take a caller. Assumes nothing.
use Prim.Native.Nat.{ℕ}
use mathlib.Core.Path.{◌≡◌, refl, sym, ap, ◌∙◌}
use mathlib.Core.Bool.{Bool, true, false, cond, not}
use mathlib.Core.List.{List}
use lib.Dec.{eqb}
use borrow.Author.Tests.{eqb-true}
use Rattle.rights.specs.Rights.{may}
use Rattle.rights.specs.declared.Deed.TheVariants as deed
use Rattle.rights_claims.specs.Runs.{after}
use Rattle.rights_claims.proofs.TakenOut.{Keeps, taken_out}
use Rattle.host_answers.specs.Answer.{bare}
use Rattle.host.specs.Run as running
use Rattle.host.specs.Run.{run_by}
use Rattle.host.specs.Mode.{report_by}
use Rattle.host_routes.specs.Route.{run_route_by, load_by, load_buffer_by, write_by, write_buffer_by}
use Rattle.host_claims.specs.Rights.{Held, Ask, run, route, load, write, report, Sent, asked_by, step, deed_of, is_forbidden, is_watchers, refusal, lent_by, lent_after, HostRights}

-- ---- a forbidden call

abbrev Kept : Held → Sent → Type 0
Kept h k = (refusal (step h k).answer ≡ 13) × (lent_after (step h k).answer ≡ lent_by k.asks) × ((step h k).left ≡ h)

forbidden : (b : Bool) → not b ≡ true → b ≡ false
forbidden true e = sym e
forbidden false e = refl

kept_by : (h : Held) (caller : ℕ) (a : Ask) → may caller (deed_of a) ≡ false → Kept h (record { caller = caller; asks = a })
unfolding run_by run_route_by load_by load_buffer_by write_by write_buffer_by report_by bare
kept_by h caller (run what bytes) e = rw (e) (refl, refl, refl)
kept_by h caller (route k) e = rw (e) (refl, refl, refl)
kept_by h caller (load s at) e = rw (e) (refl, refl, refl)
kept_by h caller (write out at) e = rw (e) (refl, refl, refl)
kept_by h caller (report what) e = rw (e) (refl, refl, refl)

kept : (h : Held) (k : Sent) → is_forbidden k ≡ true → Kept h k
kept h k e = kept_by h k.caller k.asks (forbidden _ e)

forbidden_keeps : Keeps step is_forbidden
forbidden_keeps h k e = (kept h k e).2

-- ---- a watcher

-- nothing that `nuthkolla_run` does
watcher_runs_nothing : (what : ℕ) → may 2 (running.deed_of what) ≡ false
unfolding may running.deed_of
watcher_runs_nothing what = go (eqb what 0) (eqb what 1) (eqb what 2) (eqb what 3)
  where
    go : (a b c d : Bool) → may 2 (cond a deed.Guide (cond b deed.SetConfig (cond c deed.New (cond d deed.TakeBack deed.Other)))) ≡ false
    go true b c d = refl
    go false true c d = refl
    go false false true d = refl
    go false false false true = refl
    go false false false false = refl

watcher_keeps : (h : Held) (a : Ask) → (asked_by h 2 a).left ≡ h
unfolding may
watcher_keeps h (run what bytes) = (kept_by h 2 (run what bytes) (watcher_runs_nothing what)).2
watcher_keeps h (route k) = (kept_by h 2 (route k) refl).2
watcher_keeps h (load s at) = (kept_by h 2 (load s at) refl).2
watcher_keeps h (write out at) = refl
watcher_keeps h (report what) = refl

watchers_keep : Keeps step is_watchers
watchers_keep h k e = ap (λ (n : ℕ). (asked_by h n k.asks).left) (eqb-true k.caller 2 e) ∙ watcher_keeps h k.asks

pub host_rights : (h : Held) (sent : List Sent) → HostRights h sent
host_rights h sent = record {
  no_forbidden = taken_out step is_forbidden forbidden_keeps h sent;
  no_watchers = taken_out step is_watchers watchers_keep h sent;
  forbidden_kept = λ before k rest at. kept (after step h before) k;
}
