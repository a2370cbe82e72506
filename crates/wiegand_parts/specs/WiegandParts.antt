-- Document 02, T-05: facility and number of a Wiegand number, as numbers.
use Rattle.std.specs.Prelude.{List, ℕ}
use Rattle.binary.specs.Binary.{value}
use Rattle.wiegand.specs.Wiegand.{facility, number, record_bits}

-- "8 bits facility, 16 bits number", of a record
unfoldable pub facility_of : List ℕ → ℕ
facility_of r = value (facility (record_bits r))

unfoldable pub number_of : List ℕ → ℕ
number_of r = value (number (record_bits r))
