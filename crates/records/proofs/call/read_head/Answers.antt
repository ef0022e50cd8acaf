use Rattle.std.proofs.Common.{◌≡◌, ◌+◌, ◌/◌, ◌%◌, refl, arith, ◌∙◌}
use Rattle.records.proofs.CallLaw.{bit_number, refused, cut, incomplete, short, IsFound, found}
use Rattle.records.proofs.call.read_head.Goals.{In_ok-record}
use Rattle.records.proofs.call.read_head.Goals as goal

pub returns-in_err-start : goal.returns-in_err-start
returns-in_err-start c = refused _ _ (cut _ _ c.in_err-start.ensures.0) c.in_err-start.ensures.1 c.from_residual.ensures.1

pub returns-then-not-is_complete : goal.returns-then-not-is_complete
returns-then-not-is_complete c =
    incomplete _ _ c.in_ok-start.ensures.0 _ c.in_ok-start.ensures.1 _ (c.from-map.ensures ∙ c.read_word.ensures) _ c.is_complete.ensures c.if-not-is_complete.true

pub returns-in_err-record : goal.returns-in_err-record
returns-in_err-record c =
    refused _ _
    (short _ _ c.in_ok-start.ensures.0 _ c.in_ok-start.ensures.1 _ (c.from-map.ensures ∙ c.read_word.ensures) _ c.is_complete.ensures c.if-not-is_complete.false _
    c.fields_size-size.ensures.0 c.in_err-record.ensures.0)
    c.in_err-record.ensures.1 c.from_residual-in_err-record.ensures.1

whole : (c : In_ok-record) → IsFound c.args.s.now c.args.at c.from-map.result c.fields_size-size.result c.in_ok-record.«record».now
whole c =
    found _ _ c.in_ok-start.ensures.0 _ c.in_ok-start.ensures.1 _ (c.from-map.ensures ∙ c.read_word.ensures) _ c.is_complete.ensures c.if-not-is_complete.false _
    c.fields_size-size.ensures.0 c.in_ok-record.ensures.0 _ c.in_ok-record.ensures.1

pub bounds-record-4 : goal.bounds-record-4
bounds-record-4 c = omega (arith, (whole (goal.at.bounds-record-4 c).In_ok-record).room_in_record)

pub read_regime-requires : goal.read_regime-requires
read_regime-requires c = omega (arith, (whole (goal.at.read_regime-requires c).In_ok-record).room_in_record)

pub returns-in_err-kind : goal.returns-in_err-kind
returns-in_err-kind c =
    let w = whole (goal.at.returns-in_err-kind c).In_ok-record in
    refused _ _ (w.answer ∙ rw (← c.from.ensures, ← c.in_err-kind.ensures)) refl c.from_residual-in_err-kind.ensures.1

pub returns-in_err-regime : goal.returns-in_err-regime
returns-in_err-regime c =
    let w = whole (goal.at.returns-in_err-regime c).In_ok-record in
    refused _ _ (w.answer ∙ rw (← c.from.ensures, ← c.in_ok-kind.ensures, ← c.in_err-regime.ensures)) refl c.from_residual-in_err-regime.ensures.1

pub returns : goal.returns
returns c =
    let w = whole (goal.at.returns c).In_ok-record in
    let n = bit_number 1 _ c.stands.ensures c.from-2.ensures in
    let i : c.args.at + 5 + c.from-2.result ≡ c.args.at + (5 + c.from-map.result / 2 % 2) = omega arith in
    rw i (w.answer ∙ rw (← c.from.ensures, ← c.in_ok-kind.ensures, ← c.in_ok-regime.ensures), omega (arith, w.room))
