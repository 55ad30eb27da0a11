use Rattle.std.proofs.Common.{◌≡◌, ◌∙◌, [], ◌∷◌, List, ℕ, Ok, Err, ap, drop, length, map, suc, sym}
use Rattle.std.proofs.lemmas.Iterator.Consumers.{YieldsList-at, YieldsList-end, YieldsList-so_far, YieldsList-turn}
use Rattle.std.proofs.lemmas.Iterator.Splits.{YieldsList-from_lines}
use Rattle.std.proofs.lemmas.List.{map-append}
use Rattle.std.proofs.lemmas.Result.{err_from_is_err_and}
use Rattle.std.specs.Str.Lines.{lines}
use Rattle.base_text.specs.Progress.{with_lines}
use Rattle.pm_cargo_fetch.proofs.Lines.{TakesLines-whole}
use Rattle.pm_tools.specs.Lines.{lines_from}
use Rattle.pm_tools.specs.Outputs.{BuildState, take_output_line, take_message}
use Rattle.pm_tools.specs.Packages.{lent_packages}
use Rattle.base_values.specs.Outcome.{take_each}
use Rattle.pm_tools.proofs.LineLemmas.{lines_begun, lines_came, lines_cut, lines_stopped}
use Rattle.pm_tools.proofs.ReadingLemmas.{refuses_same, split_at, take_each-more, take_each-none, take_each-stopped}
use Rattle.pm_tools.proofs.outputs.OutputsBuilder.take_lines.Goals as goal

pub loop-line-init : goal.loop-line-init
loop-line-init g c = record {
  read = take_each-none (take_output_line (lent_packages c.args.packages.now.packages)) c.args.self.now;
  came = lines_begun (lent_packages c.args.packages.now.packages) c.args.self.now (g.P.Progress.lines c.args.progress.now);
}

pub loop-line-preserved : goal.loop-line-preserved
loop-line-preserved g c =
    let packages = lent_packages c.args.packages.now.packages in
    let step = take_output_line packages in
    let before : BuildState = c.args.self.now in
    let so_far : List (List ℕ) = map (λ line. line.now) c.loop-line.yielded in
    let next : step c.loop-line.self c.in-Some.line.now ≡ Ok c.take_message.new.self =
    ap (take_message packages c.loop-line.self) (sym c.in_ok-message.ensures.exact) ∙ c.in_ok-take_message.ensures.leaves in
    record {
      read = ap (take_each step before) (map-append (λ line. line.now) c.loop-line.yielded (c.in-Some.line ∷ []))
          ∙ take_each-more step before c.loop-line.self c.take_message.new.self so_far c.in-Some.line.now c.loop-line.invariant.read next;
      came = lines_came packages before c.loop-line.self so_far c.in-Some.line.now c.in_ok-message.message (g.P.Progress.lines c.args.progress.now) (g.P.Progress.lines c.loop-line.progress)
          (g.P.Progress.lines c.take_message.new.progress) c.loop-line.invariant.read c.in_ok-message.ensures.exact c.loop-line.invariant.came (c.in_ok-take_message.ensures.lines.all (λ e. cc))
          ∙ ap (λ (ls : List (List ℕ)). with_lines (lines_from packages (Ok before) ls) (g.P.Progress.lines c.args.progress.now))
          (sym (map-append (λ line. line.now) c.loop-line.yielded (c.in-Some.line ∷ [])));
    }

-- no memory for the next message
pub returns-in_err-message-clause-lines : goal.returns-in_err-message-clause-lines
returns-in_err-message-clause-lines g c =
    let packages = lent_packages c.args.packages.now.packages in
    let all : List (List ℕ) = lines c.args.out.now in
    let road = YieldsList-at c.into_iter-line-iterator.ensures.into_iter_gives (YieldsList-from_lines c.args.out.now c.lines-line-items.ensures.rest) in
    let so_far = YieldsList-so_far road c.loop-line.yielded _ c.loop-line.yielded_by in
    let turn = YieldsList-turn road c.loop-line.yielded _ c.loop-line.yielded_by _ _ c.in-Some.line c.in-Some.is c.next.ensures.steps in
    let before : List (List ℕ) = map (λ line. line.now) c.loop-line.yielded in
    let n = length c.loop-line.yielded in
    let p = err_from_is_err_and c.from_residual.result c.from_residual.ensures.1 in
    lines_cut packages c.args.self.now c.loop-line.self all before (c.in-Some.line.now ∷ drop (suc n) all) (g.P.Progress.lines c.args.progress.now) (g.P.Progress.lines c.loop-line.progress)
    c.loop-line.invariant.read (split_at all before c.in-Some.line.now n so_far turn.0 turn.1) c.loop-line.invariant.came (p.1 ∙ ap Err p.2)

pub returns-in_err-take_message-clause-leaves : goal.returns-in_err-take_message-clause-leaves
returns-in_err-take_message-clause-leaves g c =
    let step = take_output_line (lent_packages c.args.packages.now.packages) in
    let road = YieldsList-at c.into_iter-line-iterator.ensures.into_iter_gives (YieldsList-from_lines c.args.out.now c.lines-line-items.ensures.rest) in
    let so_far = YieldsList-so_far road c.loop-line.yielded _ c.loop-line.yielded_by in
    let turn = YieldsList-turn road c.loop-line.yielded _ c.loop-line.yielded_by _ _ c.in-Some.line c.in-Some.is c.next.ensures.steps in
    let p = err_from_is_err_and c.from_residual-in_err-take_message.result c.from_residual-in_err-take_message.ensures.1 in
    rw (p.1, p.2) (take_each-stopped step _ c.args.self.now c.loop-line.self (lines c.args.out.now) (map (λ line. line.now) c.loop-line.yielded) c.in-Some.line.now (length c.loop-line.yielded)
    so_far turn.0 turn.1 c.loop-line.invariant.read
    (refuses_same _ _ _ (ap (take_message (lent_packages c.args.packages.now.packages) c.loop-line.self) c.in_ok-message.ensures.exact) c.in_err-take_message.ensures.leaves))

pub returns-in_err-take_message-clause-lines : goal.returns-in_err-take_message-clause-lines
returns-in_err-take_message-clause-lines g c =
    let packages = lent_packages c.args.packages.now.packages in
    let all : List (List ℕ) = lines c.args.out.now in
    let road = YieldsList-at c.into_iter-line-iterator.ensures.into_iter_gives (YieldsList-from_lines c.args.out.now c.lines-line-items.ensures.rest) in
    let so_far = YieldsList-so_far road c.loop-line.yielded _ c.loop-line.yielded_by in
    let turn = YieldsList-turn road c.loop-line.yielded _ c.loop-line.yielded_by _ _ c.in-Some.line c.in-Some.is c.next.ensures.steps in
    let before : List (List ℕ) = map (λ line. line.now) c.loop-line.yielded in
    let n = length c.loop-line.yielded in
    let p = err_from_is_err_and c.from_residual-in_err-take_message.result c.from_residual-in_err-take_message.ensures.1 in
    rw (p.1, p.2) (lines_stopped packages _ c.args.self.now c.loop-line.self all before (drop (suc n) all) c.in-Some.line.now c.in_ok-message.message
    (g.P.Progress.lines c.args.progress.now) (g.P.Progress.lines c.loop-line.progress) (g.P.Progress.lines c.take_message.new.progress)
    c.loop-line.invariant.read c.in_ok-message.ensures.exact (split_at all before c.in-Some.line.now n so_far turn.0 turn.1) c.loop-line.invariant.came
    (refuses_same _ _ _ (ap (take_message packages c.loop-line.self) c.in_ok-message.ensures.exact) c.in_err-take_message.ensures.leaves) c.in_err-take_message.ensures.lines)

pub returns-clause-leaves : goal.returns-clause-leaves
returns-clause-leaves g c =
    let step = take_output_line (lent_packages c.args.packages.now.packages) in
    let road = YieldsList-at c.into_iter-line-iterator.ensures.into_iter_gives (YieldsList-from_lines c.args.out.now c.lines-line-items.ensures.rest) in
    let done = YieldsList-end road c.loop-line.yielded _ c.loop-line.yielded_by _ _ c.in-None.is c.next.ensures.steps in
    sym (ap (take_each step c.args.self.now) done.0) ∙ c.loop-line.invariant.read

pub returns-clause-lines : goal.returns-clause-lines
returns-clause-lines g c =
    let packages = lent_packages c.args.packages.now.packages in
    let road = YieldsList-at c.into_iter-line-iterator.ensures.into_iter_gives (YieldsList-from_lines c.args.out.now c.lines-line-items.ensures.rest) in
    let done = YieldsList-end road c.loop-line.yielded _ c.loop-line.yielded_by _ _ c.in-None.is c.next.ensures.steps in
    TakesLines-whole (g.P.Progress.lines c.args.progress.now) (g.P.Progress.lines c.loop-line.progress) (lines_from packages (Ok c.args.self.now) (lines c.args.out.now))
    (c.loop-line.invariant.came ∙ ap (λ (ls : List (List ℕ)). with_lines (lines_from packages (Ok c.args.self.now) ls) (g.P.Progress.lines c.args.progress.now)) done.0)
