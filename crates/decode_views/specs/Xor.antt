-- What a place looks like where each byte is XORed with a mask.
use Rattle.std.specs.Prelude.{ℕ, List, map, bit_xor}
use Rattle.sbuf_nest.specs.Around.{Around}

-- each byte XORed with the mask
abbrev pub xored_bytes : ℕ → List ℕ → List ℕ
xored_bytes mask bytes = map (bit_xor mask) bytes

-- the bytes ahead of the place and those from it on, each XORed with the mask
unfoldable pub xored : ℕ → Around → Around
xored mask look = record { before = xored_bytes mask look.before; after = xored_bytes mask look.after }
