use Rattle.std.proofs.Common.{◌≡◌, drop}
use Rattle.std.specs.List.{list_all}
use Rattle.pm_tools_ask.specs.Line.{is_bare_byte}
use Rattle.pm_tools_ask.proofs.keys.is_bare.Given as goal

abbrev pub invariant-loop-byte : goal.invariant-loop-byte
invariant-loop-byte l =
    list_all is_bare_byte (drop l.byte-index l.part) ≡ list_all is_bare_byte l.part
