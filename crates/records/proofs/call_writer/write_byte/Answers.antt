-- A byte is written or none.
use Rattle.std.proofs.Common.{arith}
use Rattle.records.proofs.CallLaw.{byte_written, byte_left}
use Rattle.records.proofs.call_writer.write_byte.Goals as goal

pub returns-then-map-eq0 : goal.returns-then-map-eq0
returns-then-map-eq0 c = (byte_left _ _ _ _ c.if-map-eq0.true, omega arith)

pub returns : goal.returns
returns c = (byte_written _ _ _ _ (omega arith) c.ranges.value.fits c.if-map-eq0.false, omega arith)
