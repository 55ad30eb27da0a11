use Rattle.std.proofs.Common.{sym, ◌∙◌}
use Rattle.pm_tools_ask.specs.Line.{keys_of}
use Rattle.pm_tools_ask.proofs.Scans.{key_read, shorter_left, with_keys-none}
use Rattle.pm_tools_ask.proofs.keys.read_keys.Goals as goal

pub loop-rest-init : goal.loop-rest-init
unfolding keys_of
loop-rest-init c = rw c.new-keys.ensures.items (with_keys-none _)

pub loop-rest-smaller : goal.loop-rest-smaller
loop-rest-smaller c = shorter_left c.loop-rest.rest c.first_part.result.1 c.in-Some.parts c.in-Some.is c.first_part.ensures.shorter

pub loop-rest-preserved : goal.loop-rest-preserved
loop-rest-preserved c =
    sym (key_read c.loop-rest.keys.items c.push.new.self.items c.loop-rest.rest c.in-Some.parts c.first_part.result.1 c.first_part.result.0.now c.in-Some-2.key c.in-Some.is c.first_part.ensures.parts (sym c.in_ok-read_key.ensures ∙ c.in-Some-2.is) c.in_ok-push-in-Some-2.ensures.items)
    ∙ c.loop-rest.invariant
