use Rattle.json_fields.proofs.Entries.{IsReadSoFar}
use Rattle.json_fields.proofs.maps.read_members.Given as goal

abbrev pub invariant-loop-key : goal.invariant-loop-key
invariant-loop-key g l = IsReadSoFar g.T.ReadJson.reads l.fields.entries l.key-iterator l.found
