-- `numbers::read_group` meets its contract. Assumes nothing.
use mathlib.Core.Path.{◌≡◌, ap, ◌∙◌}
use native.Mathlib.Omega.{arith}
use lib.ListN.{length, length-drop}
use Rattle.fields.specs.Fields.{ones}
use Rattle.fields.proofs.FieldLaw.{rest_is}
use Rattle.fields.proofs.FloatLaw.{full, ones_full, numbers_full}
use Rattle.fields.proofs.numbers.read_group.Goals as goal

pub read_all-requires : goal.read_all-requires
read_all-requires c =
    let n = length c.args.v.now in
    let each : ones n c.args.map ≡ n = ap (ones n) (c.if-map-all.false ∙ c.requires.0) ∙ ones_full n in
    rw (rest_is c.args.s.now c.args.from) (simp length-drop (omega (arith, each)))

pub returns : goal.returns
returns c =
    let n = length c.args.v.now in
    let all : c.args.map ≡ full n = c.if-map-all.false ∙ c.requires.0 in
    let read = rw (rest_is c.args.s.now c.args.from) at c.read_all.ensures in
    (read ∙ rw all (numbers_full c.args.v.now _), rw (c.read_all.auto.v, all, ones_full n))
