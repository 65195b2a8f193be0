use Rattle.std.proofs.Common.{◌≡◌, ◌≤◌, ◌+◌, ◌-◌, ◌++◌, length, take, drop, filter}
use Rattle.byte_kit.specs.Classes.{base64_class}
use Rattle.decode_base64.specs.Text.{letter_count}
use Rattle.decode_base64.proofs.value.gather_letters.Given as goal

-- the letters of the bytes passed stand in front
abbrev pub invariant-loop-at : goal.invariant-loop-at
invariant-loop-at l = record {
  within : l.at ≤ length l.text + 1;
  count : l.count ≡ letter_count (take l.at l.text);
  room : l.room ≡ filter base64_class (take l.at l.text) ++ drop l.count l.fn.room;
}

abbrev pub decreases-loop-at : goal.decreases-loop-at
decreases-loop-at l = length l.text + 1 - l.at
