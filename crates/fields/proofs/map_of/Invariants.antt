-- `map_of` meets its contract: m is the map of fields i and up. Assumes nothing.
use Rattle.fields.proofs.FieldLaw.{Mapping}
use Rattle.fields.proofs.map_of.Given as goal

abbrev pub invariant-loop-i : goal.invariant-loop-i
invariant-loop-i l = Mapping l.keep l.v l.missing l.m l.i
