-- The numbers of refusals, as documents 01 and 02 list them. Definitions only.
use Rattle.std.specs.Prelude.{ℕ}
use Rattle.refusals.specs.declared.Refusal.{Refusal}
use Rattle.refusals.specs.declared.Refusal.TheVariants as refusal

abbrev pub number : Refusal → ℕ
-- a guide call
number refusal.TimeStep = 2
number refusal.PitchCap = 3
number refusal.NotFinite = 4
-- a record: fewer bytes than its map demands, a map that no record has, a kind or a regime that none is
number refusal.TooFewBytes = 5
number refusal.UnknownMap = 6
number refusal.UnknownKind = 7
-- a buffer that is lent
number refusal.TooLittleRoom = 8
-- a recording with input left after its last call
number refusal.TooManyCalls = 9
-- a route
number refusal.NoPoint = 10
number refusal.PointNotFinite = 11
-- a drawn path
number refusal.StepCount = 12
-- a caller
number refusal.NoRight = 13
-- a change taken back
number refusal.NothingToTakeBack = 14
-- a record of the edition that was not asked for
number refusal.OtherEdition = 15
-- a host asks for what no function knows
number refusal.UnknownRequest = 255
