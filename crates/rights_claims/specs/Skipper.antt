-- K9: "Whatever replays records or draws a path acts as the skipper": what the skipper sends does what it does without a caller.
use Rattle.std.specs.Prelude.{ℕ, ◌≡◌, true, List, [], ◌∷◌, Ok}
use Rattle.rights.specs.Rights.{caller_of, may}
use Rattle.rights.specs.declared.Caller.TheVariants as who
use Rattle.rights.specs.declared.Deed.{Deed}
use Rattle.rights_claims.specs.Runs.{answers, after}
use Rattle.rights_claims.specs.Sent.{Held, Act, Sent, act, deed_of, answer_to}

-- the skipper's number
abbrev pub skipper : ℕ
skipper = 0

abbrev pub from_skipper : Act → Sent
from_skipper a = record { caller = skipper; wants = a }

-- calls without a caller, each sent by the skipper
unfoldable pub all_from_skipper : List Act → List Sent
all_from_skipper [] = []
all_from_skipper (a ∷ acts) = from_skipper a ∷ all_from_skipper acts

pub record SkipperDoesAll : Type 0 where
  pub is_the_skipper : caller_of skipper ≡ Ok who.Skipper
  -- "The skipper does everything"
  pub may_all : (d : Deed) → may skipper d ≡ true
  -- one call, on whatever is held; and lists of calls, which replay and path make without a caller
  pub same_call : (h : Held) (a : Act) → answer_to h (from_skipper a) ≡ act h a
  pub same_answers : (h : Held) (acts : List Act) → answers answer_to h (all_from_skipper acts) ≡ answers act h acts
  pub same_after : (h : Held) (acts : List Act) → after answer_to h (all_from_skipper acts) ≡ after act h acts
  -- a call that is not forbidden is carried out, whoever the caller
  pub carried_out : (h : Held) (k : Sent) → may k.caller (deed_of k.wants) ≡ true → answer_to h k ≡ act h k.wants
