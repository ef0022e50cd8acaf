-- "The skipper does everything; a deckhand may guide, on a route too, prime and read the mode report; a watcher only reads it."
-- K12's report all callers may read. Whatever replays records or draws a path acts as the skipper: replay, compaction and path, and
-- what stands on them, take no caller. Definitions only.
use Rattle.std.specs.Prelude.{ℕ, Bool, true, false, cond, eqb, Result, Ok, Err}
use Rattle.rights.specs.declared.Caller.{Caller}
use Rattle.rights.specs.declared.Caller.TheVariants.{Skipper, Deckhand, Watcher}
use Rattle.rights.specs.declared.UnknownCaller.{UnknownCaller}
use Rattle.rights.specs.declared.Deed.{Deed}
use Rattle.rights.specs.declared.Deed.TheVariants as deed

-- who may do a deed
pub record Row : Type 0 where
  pub skipper : Bool
  pub deckhand : Bool
  pub watcher : Bool

abbrev pub row : Bool → Bool → Bool → Row
row s d w = record { skipper = s; deckhand = d; watcher = w }

abbrev pub yes : Bool
yes = true

abbrev pub no : Bool
no = false

-- The table of rights: skipper, deckhand, watcher.
abbrev pub rights : Deed → Row
rights deed.New = row yes no no
rights deed.Guide = row yes yes no
rights deed.Prime = row yes yes no
rights deed.SetConfig = row yes no no
rights deed.TakeBack = row yes no no
rights deed.LoadRoute = row yes no no
rights deed.WriteRoute = row yes no no
rights deed.RouteCall = row yes yes no
rights deed.ModeReport = row yes yes yes
rights deed.GuardReport = row yes yes yes
rights deed.Other = row yes no no

-- a caller's column
abbrev pub right : Caller → Deed → Bool
right Skipper d = (rights d).skipper
right Deckhand d = (rights d).deckhand
right Watcher d = (rights d).watcher

-- the caller of a number
abbrev pub caller_of : ℕ → Result Caller UnknownCaller
caller_of n = cond (eqb n 0) (Ok Skipper) (cond (eqb n 1) (Ok Deckhand) (cond (eqb n 2) (Ok Watcher) (Err record {})))

-- callers by number: skipper 0, deckhand 1, watcher 2; any other number has no right
unfoldable pub may : ℕ → Deed → Bool
may caller d =
    cond (eqb caller 0) (rights d).skipper
    (cond (eqb caller 1) (rights d).deckhand
    (cond (eqb caller 2) (rights d).watcher
    no))
