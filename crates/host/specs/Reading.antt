-- A configuration's record read for a host. Definitions only.
use Rattle.std.specs.Prelude.{ℕ, List, Result, Ok, Err}
use Rattle.laws.specs.Config.{default}
use Rattle.records.specs.Config.{read_config}
use Rattle.records.specs.declared.config.ReadConfig.{ReadConfig}
use Rattle.refusals.specs.Numbers.{number}
use Rattle.refusals.specs.declared.Refusal.{Refusal}
use Rattle.host.specs.declared.reading.ConfigRead.{ConfigRead}

abbrev pub config_of : Result ReadConfig Refusal → ConfigRead
config_of (Err why) = record { refusal = number why; next = 0; config = default }
config_of (Ok r) = record { refusal = 0; next = r.next; config = r.config }

unfoldable pub config_read : List ℕ → ℕ → ConfigRead
config_read bytes at = config_of (read_config bytes at)
