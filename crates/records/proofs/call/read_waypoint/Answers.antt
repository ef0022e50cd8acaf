-- `call::read_waypoint` meets its contract: group after group is filled. Assumes nothing.
use mathlib.Core.Path.{refl}
use native.Mathlib.Omega.{arith}
use Rattle.fields.proofs.GroupLaw.{asks_first, asks_floats, asks_group, filled_first, filled_more, filled_long, filled_all}
use Rattle.records.proofs.call.read_waypoint.Goals as goal

pub read_values-second-requires : goal.read_values-second-requires
read_values-second-requires c = asks_first c.args.s.now _ _ 20 5 (omega arith) c.requires

pub read_group-third-requires : goal.read_group-third-requires
read_group-third-requires c =
    let f1 = filled_first _ _ _ 20 5 (omega arith) c.requires _ _ c.read_values-second.ensures in
    asks_group f1 2 (omega arith) 3 refl

pub slice_bounds-v-end-3 : goal.slice_bounds-v-end-3
slice_bounds-v-end-3 c =
    let f1 = filled_first _ _ _ 20 5 (omega arith) c.requires _ _ c.read_values-second.ensures in
    let f2 = filled_more f1 2 (omega arith) _ _ c.read_group-third.ensures in
    rw (filled_long f2 (omega arith)) (omega arith)

pub read_group-fourth-requires : goal.read_group-fourth-requires
read_group-fourth-requires c =
    let f1 =
    filled_first _ _ _ 20 5 (omega arith) c.requires _ _
    c.read_values-second.ensures in
    let f2 = filled_more f1 2 (omega arith) _ _ c.read_group-third.ensures in
    asks_group f2 2 (omega arith) 3 refl

pub slice_bounds-v-end-4 : goal.slice_bounds-v-end-4
slice_bounds-v-end-4 c =
    let f1 =
    filled_first _ _ _ 20 5 (omega arith) c.requires _ _
    c.read_values-second.ensures in
    let f2 = filled_more f1 2 (omega arith) _ _ c.read_group-third.ensures in
    let f3 = filled_more f2 2 (omega arith) _ _ c.read_group-fourth.ensures in
    rw (filled_long f3 (omega arith)) (omega arith)

pub read_group-fifth-requires : goal.read_group-fifth-requires
read_group-fifth-requires c =
    let f1 =
    filled_first _ _ _ 20 5 (omega arith)
    c.requires _ _
    c.read_values-second.ensures in
    let f2 = filled_more f1 2 (omega arith) _ _ c.read_group-third.ensures in
    let f3 = filled_more f2 2 (omega arith) _ _ c.read_group-fourth.ensures in
    asks_group f3 9 (omega arith) 511 refl

pub slice_bounds-v-end-5 : goal.slice_bounds-v-end-5
slice_bounds-v-end-5 c =
    let f1 =
    filled_first _ _ _ 20 5 (omega arith)
    c.requires _ _
    c.read_values-second.ensures in
    let f2 = filled_more f1 2 (omega arith) _ _ c.read_group-third.ensures in
    let f3 = filled_more f2 2 (omega arith) _ _ c.read_group-fourth.ensures in
    let f4 = filled_more f3 9 (omega arith) _ _ c.read_group-fifth.ensures in
    rw (filled_long f4 (omega arith)) (omega arith)

pub read_values-requires : goal.read_values-requires
read_values-requires c =
    let f1 =
    filled_first _ _ _ 20 5 (omega arith)
    c.requires _ _
    c.read_values-second.ensures in
    let f2 = filled_more f1 2 (omega arith) _ _ c.read_group-third.ensures in
    let f3 = filled_more f2 2 (omega arith) _ _ c.read_group-fourth.ensures in
    let f4 = filled_more f3 9 (omega arith) _ _ c.read_group-fifth.ensures in
    asks_floats f4 2 (omega arith)

pub returns : goal.returns
returns c =
    let f1 =
    filled_first _ _ _ 20 5 (omega arith)
    c.requires
    _ _
    c.read_values-second.ensures
    in
    let f2 = filled_more f1 2 (omega arith) _ _ c.read_group-third.ensures in
    let f3 = filled_more f2 2 (omega arith) _ _ c.read_group-fourth.ensures in
    let f4 = filled_more f3 9 (omega arith) _ _ c.read_group-fifth.ensures in
    let f5 = filled_more f4 2 (omega arith) _ _ c.read_values.ensures in
    filled_all f5
