-- What the program compact writes. Definitions only.
use Rattle.std.specs.Prelude.{List, [], ℕ, take, Result, Ok, Err}
use Rattle.replay.specs.Recording.{recording}
use Rattle.compaction.specs.Compaction.{compacted, bytes_after}
use Rattle.compaction.specs.declared.BadRecording.{BadRecording}

-- of a buffer after its compaction: the short recording, and nothing of one that is refused
abbrev pub written : Result ℕ BadRecording → List ℕ → List ℕ
written (Ok n) buffer = take n buffer
written (Err b) buffer = []

abbrev pub answer_to : List ℕ → Result ℕ BadRecording
answer_to s = compacted s (recording s)

abbrev pub output_of : List ℕ → List ℕ
output_of s = written (answer_to s) (bytes_after s (recording s))
