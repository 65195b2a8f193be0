use Rattle.std.proofs.Common.{◌≡◌, ◌≤◌, ◌+◌, ◌-◌, ◌*◌, ◌==◌, suc, length, take, drop}
use Rattle.std.specs.Prelude.{if◌then◌else◌}
use Rattle.decode_base64.specs.Base64.{text_extent, lines_extent}
use Rattle.decode_base64.specs.Text.{letter_count}
use Rattle.decode_base64.specs.declared.TheConstants.{LETTERS_MOST}
use Rattle.decode_base64.proofs.text.text_from.Given as goal

-- the lines that are left go on behind those that are taken, as long as these have one length
abbrev pub invariant-loop-last : goal.invariant-loop-last
invariant-loop-last l = record {
  within : l.end ≤ length l.bytes;
  most : l.letters ≤ LETTERS_MOST;
  reach : l.end ≤ 3 * l.letters;
  letters : l.letters ≡ letter_count (take l.end l.bytes);
  text : text_extent l.bytes
      ≡ l.end + (if l.last == l.width then lines_extent (suc (length l.bytes)) l.width (LETTERS_MOST - l.letters) (drop l.end l.bytes) else 0);
}

-- letters are taken, or the line is the last
abbrev pub decreases-loop-last : goal.decreases-loop-last
decreases-loop-last l = LETTERS_MOST - l.letters + (if l.last == l.width then 1 else 0)
