use Rattle.std.proofs.Common.{◌≡◌, ◌++◌, map}
use Rattle.live_page.proofs.page_text.append.Given as goal

abbrev pub invariant-loop-id : goal.invariant-loop-id
invariant-loop-id l = l.ids.items ≡ l.fn.ids.items ++ map (λ id. id.now) l.yielded
