use Rattle.std.proofs.Common.{◌≡◌, ◌≤◌, take}
use Rattle.std.specs.List.{count_by}
use Rattle.morsel_file_lines.specs.Lines.{is_feed}
use Rattle.morsel_file_lines.proofs.files.feeds_in.Given as goal

-- the feeds so far are counted
abbrev pub invariant-loop-byte : goal.invariant-loop-byte
invariant-loop-byte l = record {
  counted : l.feeds ≡ count_by is_feed (take l.byte-index l.bytes);
  fits : l.feeds ≤ l.byte-index;
}
