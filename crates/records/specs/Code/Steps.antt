-- A call record's parts, read and written one at a time. Definitions only.
use Rattle.std.specs.Prelude.{false, cond, List, [], ◌∷◌, ◌++◌, ℕ, ◌+◌, ◌*◌, ◌/◌, Result, get_or, drop, replicate, Float}
use Rattle.std.specs.Result.{result_map_both}
use Rattle.laws.specs.declared.types.FlightRegime.{FlightRegime}
use Rattle.laws.specs.Types.{regime_from}
use Rattle.refusals.specs.declared.Refusal.{Refusal}
use Rattle.refusals.specs.declared.Refusal.TheVariants as refusal
use Rattle.fields.specs.Bytes.{bytes_of}
use Rattle.fields.specs.Fields.{bit, stands, values_at, is_written, bit_of, body_of, number_fields}
use Rattle.fields.specs.Numbers.{floats_of, bits_of}
use Rattle.records.specs.declared.call.Head.{Head}
use Rattle.records.specs.declared.call.ReadCall.{ReadCall}
use Rattle.records.specs.declared.call_writer.Parts.{Parts}
use Rattle.records.specs.declared.call_writer.Record.{Record}
use Rattle.records.specs.Call.{call_fields, number_of, regime_byte, call_at, map_of_parts}

-- the regime of a byte
abbrev pub regime_read : ℕ → Result FlightRegime Refusal
regime_read r = result_map_both (λ g. g) (λ _. refusal.UnknownKind) (regime_from r)

-- the regime's byte of a record with the map m, or what missing means
abbrev pub regime_at : List ℕ → ℕ → ℕ
regime_at s m = cond (bit 1 m) (get_or s 5 0) 1

-- the numbers of bits 2 to 21 from a place on; m has them from its lowest bit on
abbrev pub floats_at : List ℕ → ℕ → ℕ → List Float
floats_at s at m = floats_of (values_at (number_fields (replicate 20 0)) m (drop at s))

-- a call of which all but the numbers was read
abbrev pub call_from : List ℕ → Head → ReadCall
call_from s h = record { call = call_at (number_of h.kind) h.regime h.map (floats_at s h.numbers (h.map / 4)); next = h.next }

-- the map of what is written: the kind, a regime that is not plane, and the numbers of the map m
abbrev pub map_with : FlightRegime → ℕ → ℕ
map_with r m = 1 + 2 * (bit_of (is_written false (regime_byte r) 1) + 2 * m)

-- the map of a call's record and the values of its fields
abbrev pub record_of : Parts → Record
record_of p = record { map = map_of_parts p; kind = p.kind; regime = p.regime; numbers = bits_of p.numbers }

-- the bytes of a record
abbrev pub bytes_of_record : Record → List ℕ
bytes_of_record r = bytes_of 4 r.map ++ body_of call_fields r.map (number_of r.kind ∷ regime_byte r.regime ∷ r.numbers)

-- a field of one byte that is written where its bit, the lowest of a map, stands
unfoldable pub byte_of : ℕ → ℕ → List ℕ
byte_of m v = cond (stands m) (bytes_of 1 v) []
