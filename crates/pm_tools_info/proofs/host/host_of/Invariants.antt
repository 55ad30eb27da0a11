use Rattle.std.proofs.Common.{◌≡◌, drop, length}
use Rattle.std.specs.Str.Lines.{lines}
use Rattle.pm_tools_info.specs.Host.{host_in, host_of}
use Rattle.pm_tools_info.proofs.host.host_of.Given as goal

abbrev pub invariant-loop-line : goal.invariant-loop-line
invariant-loop-line l = host_in (drop (length l.yielded) (lines l.text)) ≡ host_of l.text
